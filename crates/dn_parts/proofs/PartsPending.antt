use Rattle.std.proofs.Common.{ℕ, ◌≤◌, ◌≡◌, inl, inr, Bool, true, false, nat_le, nat_eq, cond, List, [], ◌∷◌, map, Contains, refl, sym, ◌∙◌, ap, subst, arith}
use Rattle.std.specs.List.{filter}
use Rattle.std.proofs.lemmas.Bool.Decides.{nat_tests}
use Rattle.std.proofs.lemmas.List.Elements.{Contains-append_left, Contains-append_right, Contains-append_cases}
use Rattle.dn_record.specs.declared.records.Record.{Record}
use Rattle.dn_record.specs.declared.records.Record.TheVariants.{Put, Delete, Share, Unshare, Loose, LooseDelete, Pad}
use Rattle.dn_model.specs.declared.logs.Placed.{Placed}
use Rattle.dn_model.specs.Held.{is_authority}
use Rattle.dn_pending.specs.declared.entries.Entry.{Entry}
use Rattle.dn_owners.specs.declared.plain.Pending.{Pending}
use Rattle.dn_owners.specs.Counting.{pending_of, pending_in, pending_from}
use Rattle.dn_owners.proofs.Logs.{nil_has, head_has, tail_has, cons_cases}
use Rattle.dn_learnt.specs.Learning.{pending_by}

-- Which records of a log are pending.

-- ---- entries and pending records
pub entry_has : (es : List Entry) (e : Entry) → Contains es e → Contains (map pending_by es) (pending_by e)
entry_has [] e c = absurd (nil_has e c)
entry_has (x ∷ xs) e c = elim (cons_cases x xs e c) [
  | inl same ↦ (let P : Entry → Type 0 = λ y. Contains (map pending_by (x ∷ xs)) (pending_by y) in subst P same (head_has (pending_by x) (map pending_by xs)))
  | inr d ↦ tail_has (pending_by x) (map pending_by xs) (pending_by e) (entry_has xs e d)
]

same_entry : (e : Entry) (k at : ℕ) → e.key ≡ k → e.at ≡ at → e ≡ record { key = k; at = at }
same_entry e k at u v = λ i. record { key = u i; at = v i }

pub has_entry : (es : List Entry) (k at : ℕ) → Contains (map pending_by es) (record { key = k; offset = at }) → Contains es (record { key = k; at = at })
has_entry [] k at c = absurd (nil_has _ c)
has_entry (x ∷ xs) k at c = elim (cons_cases (pending_by x) (map pending_by xs) (record { key = k; offset = at }) c) [
  | inl same ↦ (
      let e : x ≡ record { key = k; at = at } = same_entry x k at (ap (λ (q : Pending). q.key) same) (ap (λ (q : Pending). q.offset) same) in
      let P : Entry → Type 0 = λ y. Contains (x ∷ xs) y in subst P e (head_has x xs))
  | inr d ↦ tail_has x xs (record { key = k; at = at }) (has_entry xs k at d)
]

-- ---- a filter's elements
filter_by : (f : Placed → Bool) (x : Placed) (xs : List Placed) (s : Placed) (b : Bool) → (Contains (filter f xs) s → Contains xs s) → Contains (cond b (x ∷ filter f xs) (filter f xs)) s → Contains (x ∷ xs) s
filter_by f x xs s true rest c = elim (cons_cases x (filter f xs) s c) [
  | inl e ↦ (let P : Placed → Type 0 = λ y. Contains (x ∷ xs) y in subst P e (head_has x xs))
  | inr d ↦ tail_has x xs s (rest d)
]
filter_by f x xs s false rest c = tail_has x xs s (rest c)

filter_has : (f : Placed → Bool) (xs : List Placed) (s : Placed) → Contains (filter f xs) s → Contains xs s
filter_has f [] s c = c
filter_has f (x ∷ xs) s c = filter_by f x xs s (f x) (filter_has f xs s) c

keeps_head : (x : Placed) (ys : List Placed) (b : Bool) → b ≡ true → Contains (cond b (x ∷ ys) ys) x
keeps_head x ys true e = head_has x ys
keeps_head x ys false e = absurd (cc e)

keeps_rest : (x : Placed) (ys : List Placed) (s : Placed) (b : Bool) → Contains ys s → Contains (cond b (x ∷ ys) ys) s
keeps_rest x ys s true c = tail_has x ys s c
keeps_rest x ys s false c = c

has_filter : (f : Placed → Bool) (xs : List Placed) (s : Placed) → Contains xs s → f s ≡ true → Contains (filter f xs) s
has_filter f [] s c e = c
has_filter f (x ∷ xs) s c e = elim (cons_cases x xs s c) [
  | inl same ↦ (let P : Placed → Type 0 = λ y. Contains (filter f (x ∷ xs)) y in subst P same (keeps_head x (filter f xs) (f x) (ap f same ∙ e)))
  | inr d ↦ keeps_rest x (filter f xs) s (f x) (has_filter f xs s d e)
]

-- ---- the pending record of a record
pub record IsOfRecord (at : ℕ) (r : Record) (q : Pending) : Type 0 where
  pub offset : q.offset ≡ at
  pub authority : is_authority q.key r ≡ true

one_of : (key at : ℕ) (r : Record) (q : Pending) → is_authority key r ≡ true → Contains (record { key = key; offset = at } ∷ []) q → IsOfRecord at r q
one_of key at r q a c = elim (cons_cases (record { key = key; offset = at }) [] q c) [
  | inl e ↦ (let P : Pending → Type 0 = λ y. IsOfRecord at r y in subst P e (record { offset = refl; authority = a }))
  | inr d ↦ absurd (nil_has q d)
]

itself : (k : ℕ) → nat_eq k k ≡ true
itself k = grind (arith, nat_tests)

of_has : (at : ℕ) (r : Record) (q : Pending) → Contains (pending_of at r) q → IsOfRecord at r q
of_has at (Put key value) q c = one_of key at (Put key value) q (itself key) c
of_has at (Delete key) q c = one_of key at (Delete key) q (itself key) c
of_has at (Share key cell opening) q c = one_of key at (Share key cell opening) q (itself key) c
of_has at (Unshare key named) q c = one_of key at (Unshare key named) q (itself key) c
of_has at (Loose key value) q c = absurd (nil_has q c)
of_has at (LooseDelete key) q c = absurd (nil_has q c)
of_has at (Pad words) q c = absurd (nil_has q c)

that_one : (key k at : ℕ) → nat_eq key k ≡ true → Contains {X = Pending} (record { key = key; offset = at } ∷ []) (record { key = k; offset = at })
that_one key k at e =
    let same : key ≡ k = grind (arith, nat_tests, e) in
    let P : ℕ → Type 0 = λ i. Contains {X = Pending} (record { key = key; offset = at } ∷ []) (record { key = i; offset = at }) in
    subst P same (head_has (record { key = key; offset = at }) [])

has_of : (at k : ℕ) (r : Record) → is_authority k r ≡ true → Contains (pending_of at r) (record { key = k; offset = at })
has_of at k (Put key value) e = that_one key k at e
has_of at k (Delete key) e = that_one key k at e
has_of at k (Share key cell opening) e = that_one key k at e
has_of at k (Unshare key named) e = that_one key k at e
has_of at k (Loose key value) e = absurd (cc e)
has_of at k (LooseDelete key) e = absurd (cc e)
has_of at k (Pad words) e = absurd (cc e)

-- ---- of a log
pub record IsPendingOf (log : List Placed) (q : Pending) : Type 0 where
  pub p : Placed
  pub has : Contains log p
  pub of : IsOfRecord p.offset p.entry q

in_has : (ps : List Placed) (q : Pending) → Contains (pending_in ps) q → IsPendingOf ps q
in_has [] q c = absurd (nil_has q c)
in_has (x ∷ xs) q c = elim (Contains-append_cases (pending_of x.offset x.entry) (pending_in xs) q c) [
  | inl d ↦ record { p = x; has = head_has x xs; of = of_has x.offset x.entry q d }
  | inr d ↦ (let y = in_has xs q d in record { p = y.p; has = tail_has x xs y.p y.has; of = y.of })
]

has_in : (ps : List Placed) (p : Placed) (k : ℕ) → Contains ps p → is_authority k p.entry ≡ true → Contains (pending_in ps) (record { key = k; offset = p.offset })
has_in [] p k c e = absurd (nil_has p c)
has_in (x ∷ xs) p k c e = elim (cons_cases x xs p c) [
  | inl same ↦ (
      let P : Placed → Type 0 = λ y. Contains (pending_of y.offset y.entry) (record { key = k; offset = p.offset }) in
      Contains-append_left (pending_of x.offset x.entry) (pending_in xs) (record { key = k; offset = p.offset }) (subst P (sym same) (has_of p.offset k p.entry e)))
  | inr d ↦ Contains-append_right (pending_of x.offset x.entry) (pending_in xs) (record { key = k; offset = p.offset }) (has_in xs p k d e)
]

pub pending_has : (from : ℕ) (log : List Placed) (q : Pending) → Contains (pending_from from log) q → IsPendingOf log q
pending_has from log q c =
    let f : Placed → Bool = λ p. nat_le from p.offset in
    let x = in_has (filter f log) q c in
    record { p = x.p; has = filter_has f log x.p x.has; of = x.of }

pub has_pending : (from : ℕ) (log : List Placed) (p : Placed) (k : ℕ) → from ≤ p.offset → Contains log p → is_authority k p.entry ≡ true → Contains (pending_from from log) (record { key = k; offset = p.offset })
has_pending from log p k le c e =
    let f : Placed → Bool = λ x. nat_le from x.offset in
    let past : nat_le from p.offset ≡ true = grind (arith, nat_tests, le) in
    has_in (filter f log) p k (has_filter f log p c past) e
