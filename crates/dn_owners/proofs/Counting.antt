use Rattle.std.proofs.Common.{ℕ, ◌+◌, ◌<◌, ◌≤◌, ◌≡◌, Bool, true, false, ◌&&◌, nat_le, nat_eq, max, List, [], ◌∷◌, ◌++◌, cond, if◌then◌else◌, Contains, Option, Some, None, refl, sym, ◌∙◌, ap, subst, arith, append-nil, length, take, get_or}
use Rattle.std.proofs.lemmas.Bool.Decides.{nat_tests}
use Rattle.std.proofs.lemmas.List.{take_more}
use Rattle.std.proofs.lemmas.List.Elements.{filter-append}
use Rattle.std.specs.List.{filter, last_or}
use Rattle.dn_record.specs.declared.records.Record.{Record}
use Rattle.dn_record.specs.declared.records.Record.TheVariants.{Put, Delete, Share, Unshare, Loose, LooseDelete, Pad}
use Rattle.dn_model.specs.Regions.{slot_of}
use Rattle.dn_model.specs.declared.logs.Placed.{Placed}
use Rattle.dn_model.specs.Held.{is_authority, entry_of, unmerged}
use Rattle.dn_store.specs.State.{StoreState}
use Rattle.dn_store.specs.Holding.{waiting, authority_in}
use Rattle.dn_owners.specs.declared.plain.Pending.{Pending}
use Rattle.dn_owners.specs.Counting.{pending_of, pending_in, pending_from, counts, last_counting}
use Rattle.dn_owners.specs.Known.{Learnt, Owners}
use Rattle.dn_owners.specs.Sound.{IsOrdered, Owns, Agrees, IsSound}
use Rattle.dn_owners.specs.Merging.{IsRecordOf}
use Rattle.dn_owners.proofs.Ats.{same_some, none_some}
use Rattle.dn_owners.proofs.Last.{is_one, IsFound, last_placed, placed_found, found_last, none_found, found_none, same_last}

-- ---- one more pending record
push_last : (o : Option Pending) (xs : List Pending) (x : Pending) → last_or o (xs ++ x ∷ []) ≡ Some x
push_last o [] x = refl
push_last o (y ∷ ys) x = push_last (Some y) ys x

push_by : (p : Pending) (found : List Pending) (b : Bool) → last_or None (found ++ cond b (p ∷ []) []) ≡ (if b then Some p else last_or None found)
push_by p found true = push_last None found p
push_by p found false = ap (λ xs. last_or None xs) (append-nil found)

pub counting_more : (k c : ℕ) (xs : List Pending) (i : ℕ) (p : Pending) → i < length xs → p ≡ get_or xs i p
    → last_counting k c (take (i + 1) xs) ≡ (if counts k c p then Some p else last_counting k c (take i xs))
counting_more k c xs i p lt e =
    ap (last_counting k c) (take_more xs i p lt ∙ ap (λ x. take i xs ++ x ∷ []) (sym e))
    ∙ ap (λ ys. last_or None ys) (filter-append (counts k c) (take i xs) (p ∷ []))
    ∙ push_by p (filter (counts k c) (take i xs)) (counts k c p)

-- ---- the pending records of a log that count are its records past both offsets
abbrev pub pending_at : ℕ → ℕ → Pending
pending_at k at = record { key = k; offset = at }

abbrev pub pending_as : ℕ → Option Placed → Option Pending
pending_as k None = None
pending_as k (Some p) = Some (pending_at k p.offset)

single : (k c key at : ℕ) → filter (counts k c) (pending_at key at ∷ []) ≡ (if nat_eq key k && nat_le c at then pending_at k at ∷ [] else [])
single k c key at = by_test (nat_eq key k) refl (nat_le c at) where
  by_test : (a : Bool) → nat_eq key k ≡ a → (b : Bool) → cond (a && b) (pending_at key at ∷ []) [] ≡ (if a && b then pending_at k at ∷ [] else [])
  by_test true e true = let same : key ≡ k = grind (arith, nat_tests) in ap (λ x. pending_at x at ∷ []) same
  by_test true e false = refl
  by_test false e b = refl

of_record : (k c at : ℕ) (r : Record) → filter (counts k c) (pending_of at r) ≡ (if is_authority k r && nat_le c at then pending_at k at ∷ [] else [])
of_record k c at (Put key value) = single k c key at
of_record k c at (Delete key) = single k c key at
of_record k c at (Share key cell opening) = single k c key at
of_record k c at (Unshare key named) = single k c key at
of_record k c at (Loose key value) = refl
of_record k c at (LooseDelete key) = refl
of_record k c at (Pad words) = refl

last_of : (k c d : ℕ) (o : Option Placed) (log : List Placed) → last_or (pending_as k o) (filter (counts k c) (pending_from d log)) ≡ pending_as k (last_or o (filter (is_one k (max c d)) log))
last_of k c d o [] = refl
last_of k c d o (p ∷ ps) = by_tests (λ x. last_of k c d x ps) (nat_le d p.offset) (is_one k (max c d) p) refl refl where
  later : List Placed
  later = filter (λ (q : Placed). nat_le d q.offset) ps

  ones : List Placed
  ones = filter (is_one k (max c d)) ps

  step : ((x : Option Placed) → last_or (pending_as k x) (filter (counts k c) (pending_in later)) ≡ pending_as k (last_or x ones)) → (u : Bool)
      → last_or (pending_as k o) ((if u then pending_at k p.offset ∷ [] else []) ++ filter (counts k c) (pending_in later)) ≡ pending_as k (last_or o (cond u (p ∷ ones) ones))
  step rest true = rest (Some p)
  step rest false = rest o

  by_tests : ((x : Option Placed) → last_or (pending_as k x) (filter (counts k c) (pending_in later)) ≡ pending_as k (last_or x ones)) → (t u : Bool) → nat_le d p.offset ≡ t → is_one k (max c d) p ≡ u
      → last_or (pending_as k o) (filter (counts k c) (pending_in (cond t (p ∷ later) later))) ≡ pending_as k (last_or o (cond u (p ∷ ones) ones))
  by_tests rest true u e f =
      let same : (is_authority k p.entry && nat_le c p.offset) ≡ u = both (is_authority k p.entry) u e f in
      ap (λ xs. last_or (pending_as k o) xs) (filter-append (counts k c) (pending_of p.offset p.entry) (pending_in later)
      ∙ ap (λ xs. xs ++ filter (counts k c) (pending_in later)) (of_record k c p.offset p.entry ∙ ap (λ b. if b then pending_at k p.offset ∷ [] else []) same))
      ∙ step rest u
    where
      both : (a u : Bool) → nat_le d p.offset ≡ true → (nat_le (max c d) p.offset && a) ≡ u → (a && nat_le c p.offset) ≡ u
      both true u e f = grind (arith, nat_tests)
      both false true e f = grind (arith, nat_tests)
      both false false e f = refl
  by_tests rest false true e f = absurd (grind (arith, nat_tests))
  by_tests rest false false e f = rest o

counting_is : (k c d : ℕ) (log : List Placed) → last_counting k c (pending_from d log) ≡ pending_as k (last_placed k (max c d) log)
counting_is k c d log = last_of k c d None log

-- ---- what a lane's pending records tell of a key that it owns
record IsKnown (o : Owners) (n k : ℕ) (c : Learnt) : Type 0 where
  sound : IsSound o
  owns : Owns (o.knows n).running (o.store.gates n) (o.store.deeds (slot_of k)) n
  learnt : (o.knows n).learnt (slot_of k) ≡ Some c
  now : c.epoch ≡ (o.store.deeds (slot_of k)).epoch

last_is : (o : Owners) (n k : ℕ) (c : Learnt) → IsKnown o n k c → last_counting k c.from (o.knows n).pending ≡ pending_as k (last_placed k (max c.from (o.knows n).dropped) (o.store.logs n))
last_is o n k c h = ap (last_counting k c.from) ((h.sound.pending n).keeps h.owns.is_running) ∙ counting_is k c.from (o.knows n).dropped (o.store.logs n)

some_by : (o : Owners) (n k : ℕ) (c : Learnt) (q : Pending) (x : Option Placed) → IsOrdered o.store.logs o.store.gates o.store.marks → IsKnown o n k c
    → last_placed k (max c.from (o.knows n).dropped) (o.store.logs n) ≡ x → pending_as k x ≡ Some q → IsRecordOf o n k q
some_by o n k c q None i h e f = absurd (none_some q f)
some_by o n k c q (Some p) i h e f =
    let a : ℕ = max c.from (o.knows n).dropped in
    let log : List Placed = o.store.logs n in
    let x : IsFound k a log p = placed_found k a log p e in
    let y : IsFound k c.from log p = record { has = x.has; from = omega (arith, x.from); authority = x.authority } in
    let r = found_last k c.from log p y in
    let same : r.0 ≡ p.entry = same_last k c.from a log r.0 p.entry (i.rise n) r.1 (ap entry_of e) in
    let P : Record → Type 0 = λ z. Agrees (authority_in o.store k) k z in
    record {
      of = p;
      has = x.has;
      at = ap (λ (z : Pending). z.offset) (same_some (pending_at k p.offset) q f);
      authority = x.authority;
      agrees = subst P same ((h.sound.told n).each k c r.0 h.owns h.learnt h.now r.1);
    }

pub counting_some : (o : Owners) (n k : ℕ) (c : Learnt) (q : Pending) → IsOrdered o.store.logs o.store.gates o.store.marks → IsSound o
    → Owns (o.knows n).running (o.store.gates n) (o.store.deeds (slot_of k)) n → (o.knows n).learnt (slot_of k) ≡ Some c → c.epoch ≡ (o.store.deeds (slot_of k)).epoch
    → last_counting k c.from (o.knows n).pending ≡ Some q → IsRecordOf o n k q
counting_some o n k c q i h w l e f =
    let x : IsKnown o n k c = record { sound = h; owns = w; learnt = l; now = e } in
    some_by o n k c q (last_placed k (max c.from (o.knows n).dropped) (o.store.logs n)) i x refl (sym (last_is o n k c x) ∙ f)

as_none : (k : ℕ) (x : Option Placed) → pending_as k x ≡ None → entry_of x ≡ None
as_none k None e = refl
as_none k (Some p) e = absurd (none_some (pending_at k p.offset) (sym e))

pub counting_none : (o : Owners) (n k : ℕ) (c : Learnt) → IsSound o
    → Owns (o.knows n).running (o.store.gates n) (o.store.deeds (slot_of k)) n → (o.knows n).learnt (slot_of k) ≡ Some c → c.epoch ≡ (o.store.deeds (slot_of k)).epoch
    → last_counting k c.from (o.knows n).pending ≡ None → (m : ℕ) → waiting o.store m k ≡ None
counting_none o n k c h w l e f m =
    let s : StoreState = o.store in
    let x : IsKnown o n k c = record { sound = h; owns = w; learnt = l; now = e } in
    let a : ℕ = max c.from (o.knows n).dropped in
    let none : unmerged k a (s.logs n) ≡ None = as_none k (last_placed k a (s.logs n)) (sym (last_is o n k c x) ∙ f) in
    found_none k (s.marks m) (s.logs m) (λ p q.
    let mine : m ≡ n = sym (h.one.each m k p q.has q.from q.authority) ∙ w.names in
    let P : ℕ → Type 0 = λ y. Contains (s.logs y) p in
    let has : Contains (s.logs n) p = subst P mine q.has in
    let from : s.marks n ≤ p.offset = omega (arith, q.from, ap s.marks mine) in
    let known = (h.counted n).each k p w has from q.authority in
    let same : known.of ≡ c = same_some known.of c (sym known.is ∙ l) in
    none_found k a (s.logs n) p none (record {
      has = has;
      from = omega (arith, known.before, ap (λ (y : Learnt). y.from) same, (h.pending n).low w.is_running, from);
      authority = q.authority;
    }))
