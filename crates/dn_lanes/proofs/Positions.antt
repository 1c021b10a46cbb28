use Rattle.std.proofs.Common.{ℕ, ◌+◌, ◌-◌, ◌^◌, ◌<◌, ◌≤◌, ◌≡◌, ◌||◌, Bool, true, false, nat_eq, nat_lt, if◌then◌else◌, Some, None, refl, sym, ◌∙◌, ap, subst, arith}
use Rattle.std.proofs.lemmas.Bool.Decides.{nat_tests}
use Rattle.std.specs.Cmp.{nat_cmp_is}
use Rattle.std.specs.Ordering.{nat_cmp, ordering_then}
use Rattle.std.specs.declared.cmp.Ordering.{Ordering}
use Rattle.std.specs.declared.cmp.Ordering.TheVariants.{Less, Equal}
use Rattle.dn_word.specs.Need.{greatest_of, quiet_of, raised_of}
use Rattle.dn_word.specs.declared.positions.Need.{Need}
use Rattle.dn_word.specs.declared.positions.Position.{Position}
use Rattle.dn_hist.specs.CallersOrder.{IsBefore}
use Rattle.dn_owners.proofs.Ats.{same_some, none_some}

-- What the rule of positions gives.

-- ---- which positions stand before which
first_less : (o rest : Ordering) → Less ≡ o → ordering_then o rest ≡ Less
first_less o rest e = ap (λ x. ordering_then x rest) (sym e)

then_less : (o rest : Ordering) → Equal ≡ o → Less ≡ rest → ordering_then o rest ≡ Less
then_less o rest e f = ap (λ x. ordering_then x rest) (sym e) ∙ sym f

before_stamp : (a b : Position) → a.stamp < b.stamp → IsBefore a b
before_stamp a b lt = first_less (nat_cmp a.stamp b.stamp) (ordering_then (nat_cmp a.rank b.rank) (nat_cmp a.session b.session)) (nat_cmp_is a.stamp b.stamp Less lt)

before_rank : (a b : Position) → a.stamp ≡ b.stamp → a.rank < b.rank → IsBefore a b
before_rank a b e lt = then_less (nat_cmp a.stamp b.stamp) (ordering_then (nat_cmp a.rank b.rank) (nat_cmp a.session b.session)) (nat_cmp_is a.stamp b.stamp Equal e)
    (sym (first_less (nat_cmp a.rank b.rank) (nat_cmp a.session b.session) (nat_cmp_is a.rank b.rank Less lt)))

-- ---- a quiet read keeps the stamp, which the floor isn't above, and takes a rank past 0
pub record IsQuietAt (need : Need) (stamp : ℕ) (to : Position) : Type 0 where
  pub stamp_is : to.stamp ≡ stamp
  pub floor : need.floor ≤ stamp
  pub behind : 0 < to.rank
  pub session : to.session ≡ need.session
  pub later : IsBefore need.last to

quiet_by : (need : Need) (stamp : ℕ) (to : Position) (low same last : Bool) → (nat_lt stamp need.floor || nat_lt stamp need.last.stamp) ≡ low → nat_eq stamp need.last.stamp ≡ same
    → (if low then None else (if same
    then (if last then None else Some (record { stamp = stamp; rank = need.last.rank + 1; session = need.session }))
    else Some (record { stamp = stamp; rank = 1; session = need.session }))) ≡ Some to → IsQuietAt need stamp to
quiet_by need stamp to true same last l s e = absurd (none_some to e)
quiet_by need stamp to false true true l s e = absurd (none_some to e)
quiet_by need stamp to false true false l s e =
    let found : Position = record { stamp = stamp; rank = need.last.rank + 1; session = need.session } in
    let equal : need.last.stamp ≡ stamp = grind (arith, nat_tests) in
    subst (IsQuietAt need stamp) (same_some found to e)
    (record { stamp_is = refl; floor = grind (arith, nat_tests); behind = omega arith; session = refl; later = before_rank need.last found equal (omega arith) })
quiet_by need stamp to false false last l s e =
    let found : Position = record { stamp = stamp; rank = 1; session = need.session } in
    let less : need.last.stamp < stamp = grind (arith, nat_tests) in
    subst (IsQuietAt need stamp) (same_some found to e)
    (record { stamp_is = refl; floor = grind (arith, nat_tests); behind = omega arith; session = refl; later = before_stamp need.last found less })

pub quiet_is : (need : Need) (stamp : ℕ) (to : Position) → quiet_of need stamp ≡ Some to → IsQuietAt need stamp to
quiet_is need stamp to e = quiet_by need stamp to (nat_lt stamp need.floor || nat_lt stamp need.last.stamp) (nat_eq stamp need.last.stamp) (nat_eq need.last.rank (2 ^ 32 - 1)) refl refl e

-- ---- a raise is past the gate's stamp, the floor and the session's last stamp
pub record IsRaisedAt (need : Need) (stamp : ℕ) (to : Position) : Type 0 where
  pub gate : stamp < to.stamp
  pub floor : need.floor < to.stamp
  pub low : greatest_of need stamp < 2 ^ 31 → to.stamp < 2 ^ 31
  pub first : to.rank ≡ 0
  pub session : to.session ≡ need.session
  pub later : IsBefore need.last to

raised_by : (need : Need) (stamp : ℕ) (to : Position) (worn : Bool) → nat_eq (greatest_of need stamp) (2 ^ 31 - 1) ≡ worn
    → (if worn then None else Some (record { stamp = greatest_of need stamp + 1; rank = 0; session = need.session })) ≡ Some to → IsRaisedAt need stamp to
raised_by need stamp to true w e = absurd (none_some to e)
raised_by need stamp to false w e =
    let found : Position = record { stamp = greatest_of need stamp + 1; rank = 0; session = need.session } in
    subst (IsRaisedAt need stamp) (same_some found to e)
    (record {
      gate = omega arith;
      floor = omega arith;
      low = λ lt. grind (arith, nat_tests);
      first = refl;
      session = refl;
      later = before_stamp need.last found (omega arith);
    })

pub raised_is : (need : Need) (stamp : ℕ) (to : Position) → raised_of need stamp ≡ Some to → IsRaisedAt need stamp to
raised_is need stamp to e = raised_by need stamp to (nat_eq (greatest_of need stamp) (2 ^ 31 - 1)) refl e
