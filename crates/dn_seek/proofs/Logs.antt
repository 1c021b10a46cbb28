use Rattle.std.proofs.Common.{ℕ, ◌+◌, ◌<◌, ◌≤◌, ◌≡◌, inl, inr, Bool, true, false, List, [], ◌∷◌, Contains, Some, None, nat_eq, if◌then◌else◌, ◌∙◌, ap, arith}
use Rattle.std.proofs.lemmas.Bool.Decides.{nat_tests}
use Rattle.dn_record.specs.declared.records.Record.{Record}
use Rattle.dn_model.specs.declared.logs.Placed.{Placed}
use Rattle.dn_model.specs.Held.{entry_at, unmerged}
use Rattle.dn_owners.specs.Sound.{Rise}
use Rattle.dn_owners.proofs.Ats.{none_some, same_some}
use Rattle.dn_owners.proofs.Last.{found_none, none_found}
use Rattle.dn_owners.proofs.Logs.{nil_has, head_has, tail_has, cons_cases, rise_from}

-- Records of a log, by their offsets.

-- ---- a record of a log is the one at its offset
met_here : (o : ℕ) (x : Placed) (xs : List Placed) → x.offset ≡ o → entry_at o (x ∷ xs) ≡ Some x.entry
met_here o x xs e = ap (λ b. if b then Some x.entry else entry_at o xs) (let t : nat_eq x.offset o ≡ true = grind (arith, nat_tests) in t)

met_later : (o : ℕ) (x : Placed) (xs : List Placed) → x.offset < o → entry_at o (x ∷ xs) ≡ entry_at o xs
met_later o x xs lt = ap (λ b. if b then Some x.entry else entry_at o xs) (let t : nat_eq x.offset o ≡ false = grind (arith, nat_tests) in t)

pub has_entry : (a : ℕ) (log : List Placed) (x : Placed) → Rise a log → Contains log x → entry_at x.offset log ≡ Some x.entry
has_entry a [] x r c = absurd (nil_has x c)
has_entry a (y ∷ ys) x r c = elim (cons_cases y ys x c) [
  | inl e ↦ met_here x.offset y ys (ap (λ (z : Placed). z.offset) e) ∙ ap (λ (z : Placed). Some z.entry) e
  | inr d ↦ (
      let le : y.offset + 1 ≤ x.offset = rise_from (y.offset + 1) ys x r.1 d in
      met_later x.offset y ys (omega (arith, le)) ∙ has_entry (y.offset + 1) ys x r.1 d)
]

-- ---- and a record at an offset is one of the log
pub record IsOf (log : List Placed) (r : Record) : Type 0 where
  pub of : Placed
  pub has : Contains log of
  pub is : of.entry ≡ r

longer : (x : Placed) (xs : List Placed) (r : Record) → IsOf xs r → IsOf (x ∷ xs) r
longer x xs r h = record { of = h.of; has = tail_has x xs h.of h.has; is = h.is }

entry_by : (o : ℕ) (x : Placed) (xs : List Placed) (r : Record) (b : Bool) → (entry_at o xs ≡ Some r → IsOf xs r) → (if b then Some x.entry else entry_at o xs) ≡ Some r → IsOf (x ∷ xs) r
entry_by o x xs r true rest e = record { of = x; has = head_has x xs; is = same_some x.entry r e }
entry_by o x xs r false rest e = longer x xs r (rest e)

pub entry_of_log : (o : ℕ) (log : List Placed) (r : Record) → entry_at o log ≡ Some r → IsOf log r
entry_of_log o [] r e = absurd (none_some r e)
entry_of_log o (x ∷ xs) r e = entry_by o x xs r (nat_eq x.offset o) (entry_of_log o xs r) e

-- ---- where none waits, none waits behind a later mark
pub none_later : (k old new : ℕ) (log : List Placed) → old ≤ new → unmerged k old log ≡ None → unmerged k new log ≡ None
none_later k old new log le e = found_none k new log (λ x c. none_found k old log x e (record { has = c.has; from = omega (arith, le, c.from); authority = c.authority }))
