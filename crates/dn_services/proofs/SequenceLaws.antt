use Rattle.std.proofs.Common.{ℕ, ◌≡◌, ◌==◌, Bool, true, false, Some, length, nat_lt, refl, sym, subst, if◌then◌else◌}
use Rattle.dn_model.specs.Program.{Do, Goes, Runs}
use Rattle.dn_act.specs.declared.actions.Action.TheVariants.{Add}
use Rattle.dn_log.specs.Log.{plan_of}
use Rattle.dn_log.specs.declared.claims.Claim.TheVariants.{Reading, Taking}
use Rattle.dn_log.specs.declared.claims.ClaimTurn.TheVariants as by
use Rattle.dn_plan.specs.declared.phases.Room.TheVariants.{Found, Full}
use Rattle.dn_known.specs.State.{KnownState}
use Rattle.dn_services.specs.Room.{looked_for, turn_by, claimed_by}
use Rattle.dn_services.specs.declared.rooms.RoomTurn.{RoomTurn}
use Rattle.dn_services.specs.declared.rooms.RoomTurn.TheVariants as turn
use Rattle.dn_services.specs.Sequence.{Claiming, told, none_left, claim_program, turn_in, claim_next, claim_turn, Finds}

-- a claim of this lane that is to add
abbrev taking : KnownState → Claiming
taking k = record { claim = Taking k.log.pool (length k.log.segments); known = k }

abbrev reading : KnownState → Claiming
reading k = record { claim = Reading k.log.pool (length k.log.segments); known = k }

-- by whether what the add found is below the pool's number
after_add : (k : KnownState) (segment : ℕ) (b : Bool) → Runs claim_next claim_turn
    (if b then told Found (record k { log = record k.log { spare = Some segment } }) else none_left k segment)
    (turn_in (claimed_by k (if b then by.Got segment else by.Full segment (length k.log.segments)))
    (turn_by (Taking k.log.pool (length k.log.segments)) (if b then by.Got segment else by.Full segment (length k.log.segments))))
after_add k segment true = refl
after_add k segment false = refl

-- and what the load did
after_load : (k : KnownState) (counter : ℕ) (b : Bool) → Runs claim_next claim_turn
    (if b
    then Do (Add 1 1) (λ segment. if nat_lt segment k.log.pool then told Found (record k { log = record k.log { spare = Some segment } }) else none_left k segment)
    else none_left k counter)
    (turn_in (claimed_by k (if b then by.More else by.Full counter (length k.log.segments)))
    (turn_by (if b then Taking k.log.pool (length k.log.segments) else Reading k.log.pool (length k.log.segments))
    (if b then by.More else by.Full counter (length k.log.segments))))
after_load k counter true = (taking k, refl, refl, λ segment. after_add k segment (nat_lt segment k.log.pool))
after_load k counter false = refl

claims : (k : KnownState) → Runs claim_next claim_turn (claim_program k) (Goes (reading k))
claims k = (reading k, refl, refl, λ counter. after_load k counter (nat_lt counter k.log.pool))

-- where the lane has 256 segments, and where it may claim one
by_count : (k : KnownState) (b : Bool) → Runs claim_next claim_turn
    (if b then told (Full 0 256) k else claim_program k)
    (turn_in k (if b then turn.Told (Full 0 256) else turn.More (Reading k.log.pool (length k.log.segments))))
by_count k true = refl
by_count k false = claims k

by_need : (k : KnownState) (b : Bool) → Runs claim_next claim_turn
    (if b then (if length k.log.segments == 256 then told (Full 0 256) k else claim_program k) else told Found k)
    (turn_in k (if b
    then (if length k.log.segments == 256 then turn.Told (Full 0 256) else turn.More (Reading k.log.pool (length k.log.segments)))
    else turn.Told Found))
by_need k true = by_count k (length k.log.segments == 256)
by_need k false = refl

-- the finding of room runs its program
pub finds : (k : KnownState) (words : ℕ) (t : RoomTurn) → t ≡ looked_for k words → Finds k words t
finds k words t e = subst (Finds k words) (sym e) (record { runs = by_need k (plan_of k.log words).need_segment })
