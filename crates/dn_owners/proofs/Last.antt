use Rattle.std.proofs.Common.{ℕ, ◌+◌, ◌≤◌, ◌≡◌, ◌⊎◌, inl, inr, Bool, true, false, ◌&&◌, nat_le, nat_eq, List, [], ◌∷◌, ◌++◌, cond, if◌then◌else◌, Contains, Option, Some, None, refl, sym, ◌∙◌, ap, subst, arith}
use Rattle.std.proofs.lemmas.Bool.{false≢true}
use Rattle.std.proofs.lemmas.Bool.Decides.{nat_tests}
use Rattle.std.proofs.lemmas.List.Elements.{filter-append}
use Rattle.std.specs.List.{filter, last_or}
use Rattle.dn_record.specs.declared.records.Record.{Record}
use Rattle.dn_model.specs.declared.logs.Placed.{Placed}
use Rattle.dn_model.specs.Held.{is_authority, entry_of, entry_at, unmerged}
use Rattle.dn_owners.specs.Sound.{Rise}
use Rattle.dn_owners.proofs.Ats.{same_some, none_some, none_or_some}
use Rattle.dn_owners.proofs.Logs.{nil_has, head_has, tail_has, cons_cases}

-- The last authority record of a key in a log, from an offset on.

abbrev pub is_one : ℕ → ℕ → Placed → Bool
is_one k a p = nat_le a p.offset && is_authority k p.entry

one_gives : (k a : ℕ) (p : Placed) → is_one k a p ≡ true → (a ≤ p.offset) × (is_authority k p.entry ≡ true)
one_gives k a p e = (grind (arith, nat_tests), grind (arith, nat_tests))

pub gives_one : (k a : ℕ) (p : Placed) → a ≤ p.offset → is_authority k p.entry ≡ true → is_one k a p ≡ true
gives_one k a p le e = grind (arith, nat_tests)

pub record IsFound (k a : ℕ) (log : List Placed) (p : Placed) : Type 0 where
  pub has : Contains log p
  pub from : a ≤ p.offset
  pub authority : is_authority k p.entry ≡ true

abbrev pub last_placed : ℕ → ℕ → List Placed → Option Placed
last_placed k a log = last_or None (filter (is_one k a) log)

-- ---- what is found is one of them
found_by : (k a : ℕ) (o : Option Placed) (log : List Placed) (q : Placed) → last_or o (filter (is_one k a) log) ≡ Some q → (o ≡ Some q) ⊎ IsFound k a log q
found_by k a o [] q e = inl e
found_by k a o (p ∷ ps) q e = by_test (found_by k a (Some p) ps q) (found_by k a o ps q) (is_one k a p) refl e where
  longer : IsFound k a ps q → IsFound k a (p ∷ ps) q
  longer c = record { has = tail_has p ps q c.has; from = c.from; authority = c.authority }

  first : (t : is_one k a p ≡ true) → p ≡ q → IsFound k a (p ∷ ps) q
  first t s =
      let c = one_gives k a p t in
      let P : Placed → Type 0 = λ x. IsFound k a (p ∷ ps) x in
      subst P s (record { has = head_has p ps; from = c.0; authority = c.1 })

  by_test : (last_or (Some p) (filter (is_one k a) ps) ≡ Some q → (Some p ≡ Some q) ⊎ IsFound k a ps q)
      → (last_or o (filter (is_one k a) ps) ≡ Some q → (o ≡ Some q) ⊎ IsFound k a ps q)
      → (b : Bool) → is_one k a p ≡ b → last_or o (cond b (p ∷ filter (is_one k a) ps) (filter (is_one k a) ps)) ≡ Some q
      → (o ≡ Some q) ⊎ IsFound k a (p ∷ ps) q
  by_test here rest true t f = elim (here f) [ inl g ↦ inr (first t (same_some p q g)) | inr c ↦ inr (longer c) ]
  by_test here rest false t f = elim (rest f) [ inl g ↦ inl g | inr c ↦ inr (longer c) ]

pub placed_found : (k a : ℕ) (log : List Placed) (q : Placed) → last_placed k a log ≡ Some q → IsFound k a log q
placed_found k a log q e = elim (found_by k a None log q e) [ inl f ↦ absurd (none_some q f) | inr c ↦ c ]

pub record IsLast (k a : ℕ) (log : List Placed) (r : Record) : Type 0 where
  pub of : Placed
  pub found : IsFound k a log of
  pub is : of.entry ≡ r

pub last_found : (k a : ℕ) (log : List Placed) (r : Record) → unmerged k a log ≡ Some r → IsLast k a log r
last_found k a log r e = by_placed (last_placed k a log) refl e where
  by_placed : (o : Option Placed) → last_placed k a log ≡ o → entry_of o ≡ Some r → IsLast k a log r
  by_placed None f g = absurd (none_some r g)
  by_placed (Some p) f g = record { of = p; found = placed_found k a log p f; is = same_some p.entry r g }

-- ---- where there is one, one is found
stays_some : (xs : List Placed) (p : Placed) → (r : Record) × (entry_of (last_or (Some p) xs) ≡ Some r)
stays_some [] p = (p.entry, refl)
stays_some (x ∷ xs) p = stays_some xs x

has_by : (k a : ℕ) (o : Option Placed) (log : List Placed) (p : Placed) → Contains log p → is_one k a p ≡ true → (r : Record) × (entry_of (last_or o (filter (is_one k a) log)) ≡ Some r)
has_by k a o [] p c e = absurd (nil_has p c)
has_by k a o (x ∷ xs) p c e = by_test (λ d. has_by k a o xs p d e) (is_one k a x) refl (cons_cases x xs p c) where
  by_test : (Contains xs p → (r : Record) × (entry_of (last_or o (filter (is_one k a) xs)) ≡ Some r)) → (b : Bool) → is_one k a x ≡ b → (x ≡ p) ⊎ Contains xs p
      → (r : Record) × (entry_of (last_or o (cond b (x ∷ filter (is_one k a) xs) (filter (is_one k a) xs))) ≡ Some r)
  by_test rest true t d = stays_some (filter (is_one k a) xs) x
  by_test rest false t (inl s) = absurd (false≢true (sym t ∙ ap (is_one k a) s ∙ e))
  by_test rest false t (inr d) = rest d

pub found_last : (k a : ℕ) (log : List Placed) (p : Placed) → IsFound k a log p → (r : Record) × (unmerged k a log ≡ Some r)
found_last k a log p c = has_by k a None log p c.has (gives_one k a p c.from c.authority)

pub none_found : (k a : ℕ) (log : List Placed) (p : Placed) → unmerged k a log ≡ None → IsFound k a log p → ⊥
none_found k a log p n c = let h = found_last k a log p c in absurd (none_some h.0 (sym n ∙ h.1))

pub found_none : (k a : ℕ) (log : List Placed) → ((p : Placed) → IsFound k a log p → ⊥) → unmerged k a log ≡ None
found_none k a log f = elim (none_or_some (unmerged k a log)) [
  | inl e ↦ e
  | inr s ↦ (let c = last_found k a log s.0 s.1 in absurd (f c.of c.found))
]

-- ---- from whatever offset on, where one is found it is the same
all_of : (k a b : ℕ) (log : List Placed) → Rise b log → a ≤ b → filter (is_one k a) log ≡ filter (is_one k 0) log
all_of k a b [] r le = refl
all_of k a b (p ∷ ps) r le =
    let low : a ≤ p.offset = omega (arith, r.0, le) in
    let rest = all_of k a (p.offset + 1) ps r.1 (omega (arith, low)) in
    let same : is_one k a p ≡ is_one k 0 p = grind (arith, nat_tests) in
    ap (λ b. cond b (p ∷ filter (is_one k a) ps) (filter (is_one k a) ps)) same ∙ ap (λ xs. cond (is_one k 0 p) (p ∷ xs) xs) rest

from_first : (k a b : ℕ) (o : Option Placed) (log : List Placed) (q : Placed) → Rise b log → last_placed k a log ≡ Some q → last_or o (filter (is_one k 0) log) ≡ Some q
from_first k a b o [] q s e = absurd (none_some q e)
from_first k a b o (p ∷ ps) q s e = by_test (λ x f. from_first k a (p.offset + 1) x ps q s.1 f) (is_one k a p) (is_one k 0 p) refl refl e where
  by_test : ((x : Option Placed) → last_or None (filter (is_one k a) ps) ≡ Some q → last_or x (filter (is_one k 0) ps) ≡ Some q) → (t u : Bool) → is_one k a p ≡ t → is_one k 0 p ≡ u
      → last_or None (cond t (p ∷ filter (is_one k a) ps) (filter (is_one k a) ps)) ≡ Some q → last_or o (cond u (p ∷ filter (is_one k 0) ps) (filter (is_one k 0) ps)) ≡ Some q
  by_test rest true true t u f = (let c = one_gives k a p t in
      ap (λ xs. last_or (Some p) xs) (sym (all_of k a (p.offset + 1) ps s.1 (omega (arith, c.0)))) ∙ f)
  by_test rest true false t u f = absurd (false≢true (let c = one_gives k a p t in sym u ∙ gives_one k 0 p (omega arith) c.1))
  by_test rest false true t u f = rest (Some p) f
  by_test rest false false t u f = rest o f

pub same_last : (k a b : ℕ) (log : List Placed) (r q : Record) → Rise 0 log → unmerged k a log ≡ Some r → unmerged k b log ≡ Some q → r ≡ q
same_last k a b log r q s e f = by_placed (last_placed k a log) (last_placed k b log) refl refl e f where
  by_placed : (x y : Option Placed) → last_placed k a log ≡ x → last_placed k b log ≡ y → entry_of x ≡ Some r → entry_of y ≡ Some q → r ≡ q
  by_placed None y u v g h = absurd (none_some r g)
  by_placed (Some x) None u v g h = absurd (none_some q h)
  by_placed (Some x) (Some y) u v g h =
      let one : x ≡ y = same_some x y (sym (from_first k a 0 None log x s u) ∙ from_first k b 0 None log y s v) in
      sym (same_some x.entry r g) ∙ ap (λ (p : Placed). p.entry) one ∙ same_some y.entry q h

-- ---- records behind a log
abbrev pub or_before : Option Record → Option Record → Option Record
or_before (Some r) o = Some r
or_before None o = o

last_append : (xs ys : List Placed) (o : Option Placed) → last_or o (xs ++ ys) ≡ last_or (last_or o xs) ys
last_append [] ys o = refl
last_append (x ∷ xs) ys o = last_append xs ys (Some x)

from_last : (o : Option Placed) (ys : List Placed) → entry_of (last_or o ys) ≡ or_before (entry_of (last_or None ys)) (entry_of o)
from_last o [] = refl
from_last o (y ∷ ys) = from_last (Some y) ys ∙ either (entry_of (last_or None ys)) ∙ sym (ap (λ x. or_before x (entry_of o)) (from_last (Some y) ys)) where
  either : (x : Option Record) → or_before x (entry_of (Some y)) ≡ or_before (or_before x (entry_of (Some y))) (entry_of o)
  either None = refl
  either (Some r) = refl

pub last_more : (k a b : ℕ) (log more : List Placed) → Rise b more → a ≤ b → unmerged k a (log ++ more) ≡ or_before (unmerged k 0 more) (unmerged k a log)
last_more k a b log more r le =
    ap (λ xs. entry_of (last_or None xs)) (filter-append (is_one k a) log more)
    ∙ ap entry_of (last_append (filter (is_one k a) log) (filter (is_one k a) more) None)
    ∙ from_last (last_or None (filter (is_one k a) log)) (filter (is_one k a) more)
    ∙ ap (λ xs. or_before (entry_of (last_or None xs)) (unmerged k a log)) (all_of k a b more r le)

-- ---- the record at an offset stays
entry_by : (o : ℕ) (p : Placed) (ps more : List Placed) (r : Record) (b : Bool) → (entry_at o ps ≡ Some r → entry_at o (ps ++ more) ≡ Some r)
    → (if b then Some p.entry else entry_at o ps) ≡ Some r → (if b then Some p.entry else entry_at o (ps ++ more)) ≡ Some r
entry_by o p ps more r true rest e = e
entry_by o p ps more r false rest e = rest e

pub entry_more : (o : ℕ) (log more : List Placed) (r : Record) → entry_at o log ≡ Some r → entry_at o (log ++ more) ≡ Some r
entry_more o [] more r e = absurd (none_some r e)
entry_more o (p ∷ ps) more r e = entry_by o p ps more r (nat_eq p.offset o) (entry_more o ps more r) e
