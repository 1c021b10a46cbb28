use Rattle.std.proofs.Common.{ℕ, ◌+◌, ◌*◌, ◌/◌, ◌%◌, ◌^◌, ◌<◌, ◌≡◌, Bool, true, false, ◌&&◌, ◌==◌, refl, ap, arith}
use Rattle.std.proofs.lemmas.Bool.{false≢true}
use Rattle.std.proofs.lemmas.Bool.Decides.{nat_tests}
use Rattle.dn_word.specs.Deed.{deed_of, state_of}
use Rattle.dn_word.specs.declared.packed.deed.Deed.{Deed}
use Rattle.dn_word.specs.declared.packed.deed.DeedState.{DeedState}
use Rattle.dn_word.specs.declared.packed.deed.DeedState.TheVariants.{Nobody, Owned, Leaving, Released}
use Rattle.dn_owners.specs.Given.{IsStep}
use Rattle.dn_tend.specs.Tend.{given_up, is_leaving, asks_to_leave}

-- A deed that its lane gives up.

-- ---- it was asked to
leaving_by : (s : DeedState) → is_leaving s ≡ true → s ≡ Leaving
leaving_by Nobody e = absurd (false≢true e)
leaving_by Owned e = absurd (false≢true e)
leaving_by Leaving e = refl
leaving_by Released e = absurd (false≢true e)

both : (a b : Bool) → (a && b) ≡ true → (a ≡ true) × (b ≡ true)
both true b e = (refl, e)
both false b e = absurd (false≢true e)

pub record IsAsked (n : ℕ) (d : Deed) : Type 0 where
  pub state : d.state ≡ Leaving
  pub names : d.lane ≡ n

pub is_asked : (n deed : ℕ) → asks_to_leave n deed ≡ true → IsAsked n (deed_of deed)
is_asked n deed e =
    let two = both (is_leaving (deed_of deed).state) ((deed_of deed).lane == n) e in
    record { state = leaving_by (deed_of deed).state two.0; names = grind (arith, nat_tests, two.1) }

-- ---- and keeps all but its state
state_is : (e l f : ℕ) → e < 2 ^ 23 → l < 2 ^ 8 → f < 2 ^ 31 → (3 * 2 ^ 62 + e * 2 ^ 39 + l * 2 ^ 31 + f) / 2 ^ 62 ≡ 3
state_is e l f he hl hf = omega (arith, he, hl, hf)

epoch_is : (e l f : ℕ) → e < 2 ^ 23 → l < 2 ^ 8 → f < 2 ^ 31 → (3 * 2 ^ 62 + e * 2 ^ 39 + l * 2 ^ 31 + f) / 2 ^ 39 % 2 ^ 23 ≡ e
epoch_is e l f he hl hf = omega (arith, he, hl, hf)

lane_is : (e l f : ℕ) → e < 2 ^ 23 → l < 2 ^ 8 → f < 2 ^ 31 → (3 * 2 ^ 62 + e * 2 ^ 39 + l * 2 ^ 31 + f) / 2 ^ 31 % 2 ^ 8 ≡ l
lane_is e l f he hl hf = omega (arith, he, hl, hf)

floor_is : (e l f : ℕ) → e < 2 ^ 23 → l < 2 ^ 8 → f < 2 ^ 31 → (3 * 2 ^ 62 + e * 2 ^ 39 + l * 2 ^ 31 + f) % 2 ^ 31 ≡ f
floor_is e l f he hl hf = omega (arith, he, hl, hf)

epoch_below : (w : ℕ) → (deed_of w).epoch < 2 ^ 23
epoch_below w = omega arith

lane_below : (w : ℕ) → (deed_of w).lane < 2 ^ 8
lane_below w = omega arith

floor_below : (w : ℕ) → (deed_of w).floor < 2 ^ 31
floor_below w = omega arith

pub gives_up : (deed : ℕ) → (deed_of deed).state ≡ Leaving → IsStep (deed_of deed) (deed_of (given_up deed)) Leaving Released
gives_up deed was =
    let d : Deed = deed_of deed in
    record {
      was = was;
      is = ap state_of (state_is d.epoch d.lane d.floor (epoch_below deed) (lane_below deed) (floor_below deed));
      epoch = epoch_is d.epoch d.lane d.floor (epoch_below deed) (lane_below deed) (floor_below deed);
      lane = lane_is d.epoch d.lane d.floor (epoch_below deed) (lane_below deed) (floor_below deed);
      floor = floor_is d.epoch d.lane d.floor (epoch_below deed) (lane_below deed) (floor_below deed);
    }
