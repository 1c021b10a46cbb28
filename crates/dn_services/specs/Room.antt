use Rattle.std.specs.Prelude.{ℕ, ◌≡◌, ◌<◌, ◌≤◌, ◌==◌, true, false, Some, None, length, if◌then◌else◌}
use Rattle.dn_log.specs.Log.{Log, plan_of}
use Rattle.dn_log.specs.declared.claims.Claim.{Claim}
use Rattle.dn_log.specs.declared.claims.Claim.TheVariants as claim
use Rattle.dn_log.specs.declared.claims.ClaimTurn.{ClaimTurn}
use Rattle.dn_log.specs.declared.claims.ClaimTurn.TheVariants as told
use Rattle.dn_plan.specs.declared.phases.Room.TheVariants.{Found, Full}
use Rattle.dn_known.specs.State.{KnownState}
use Rattle.dn_services.specs.declared.rooms.RoomTurn.{RoomTurn}
use Rattle.dn_services.specs.declared.rooms.RoomTurn.TheVariants as turn

-- A record has room where the lane's segments and its spare reach. Else the lane claims a segment, unless it has 256.
abbrev pub looked_for : KnownState → ℕ → RoomTurn
looked_for k words =
    if (plan_of k.log words).need_segment
    then (if length k.log.segments == 256
    then turn.Told (Full 0 256)
    else turn.More (claim.Reading k.log.pool (length k.log.segments)))
    else turn.Told Found

-- by what the claim came to
abbrev pub turn_by : Claim → ClaimTurn → RoomTurn
turn_by c told.More = turn.More c
turn_by c (told.Got segment) = turn.Told Found
turn_by c (told.Full counter segments) = turn.Told (Full counter segments)

-- a claimed segment is the lane's spare one
abbrev pub claimed_by : KnownState → ClaimTurn → KnownState
claimed_by k told.More = k
claimed_by k (told.Got segment) = record k { log = record k.log { spare = Some segment } }
claimed_by k (told.Full counter segments) = k

-- the numbers that a claim keeps
abbrev pub pool_in : Claim → ℕ
pool_in (claim.Reading pool segments) = pool
pool_in (claim.Taking pool segments) = pool

abbrev pub segments_in : Claim → ℕ
segments_in (claim.Reading pool segments) = segments
segments_in (claim.Taking pool segments) = segments

-- a claim for this log, which has no spare segment and room for one
pub record IsClaimFor (log : Log) (c : Claim) : Type 0 where
  pub pool : pool_in c ≡ log.pool
  pub segments : segments_in c ≡ length log.segments
  pub count : length log.segments < 256
  pub spare : log.spare ≡ None

-- what is known by a turn, of room for a record of so many words
abbrev pub FitsTurn : Log → ℕ → RoomTurn → Type 0
FitsTurn log words (turn.More c) = IsClaimFor log c
FitsTurn log words (turn.Told Found) = (plan_of log words).need_segment ≡ false
FitsTurn log words (turn.Told (Full counter segments)) = Unit {0}

-- how many actions a claim makes at most
abbrev pub actions_in : Claim → ℕ
actions_in (claim.Reading pool segments) = 2
actions_in (claim.Taking pool segments) = 1

abbrev pub actions_left : RoomTurn → ℕ
actions_left (turn.More c) = actions_in c
actions_left (turn.Told room) = 0

-- the record needs a segment, and the lane has all that it may have
pub record HasAll (k : KnownState) (words counter segments : ℕ) : Type 0 where
  pub needs : (plan_of k.log words).need_segment ≡ true
  pub all : length k.log.segments ≡ 256
  pub none_read : counter ≡ 0
  pub told : segments ≡ 256

-- the counter that was found is at least the number of the pool's segments
pub record IsPoolFull (k : KnownState) (word counter segments : ℕ) : Type 0 where
  pub full : k.log.pool ≤ word
  pub read : counter ≡ word
  pub told : segments ≡ length k.log.segments
