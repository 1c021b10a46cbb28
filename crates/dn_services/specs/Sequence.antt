use Rattle.std.specs.Prelude.{ℕ, ◌==◌, Some, length, nat_lt, if◌then◌else◌}
use Rattle.dn_word.specs.Regions.{segment_counter_at}
use Rattle.dn_act.specs.declared.actions.Action.{Action}
use Rattle.dn_model.specs.Program.{Program, Return, ◌>>=◌, load, add, Turn, Goes, Ends, Runs}
use Rattle.dn_log.specs.Log.{plan_of}
use Rattle.dn_log.specs.Claim.{next_of, turn_of, claim_after}
use Rattle.dn_log.specs.declared.claims.Claim.{Claim}
use Rattle.dn_plan.specs.declared.phases.Room.{Room}
use Rattle.dn_plan.specs.declared.phases.Room.TheVariants.{Found, Full}
use Rattle.dn_known.specs.State.{KnownState}
use Rattle.dn_services.specs.Room.{turn_by, claimed_by}
use Rattle.dn_services.specs.declared.rooms.RoomTurn.{RoomTurn}
use Rattle.dn_services.specs.declared.rooms.RoomTurn.TheVariants as turn

-- The finding of room, as a program to read.

-- what it comes to: what the plan is told, and what the lane knows then
pub record RoomEnd : Type 0 where
  pub room : Room
  pub known : KnownState

abbrev pub told : Room → KnownState → Program RoomEnd
told room k = Return (record { room = room; known = k })

-- a counter that isn't below the number of the pool's segments
abbrev pub none_left : KnownState → ℕ → Program RoomEnd
none_left k counter = told (Full counter (length k.log.segments)) k

-- The counter of claimed segments is loaded, and where it is below that number 1 is added. What the add finds is the
-- segment, if it is still below.
abbrev pub claim_program : KnownState → Program RoomEnd
claim_program k =
    load segment_counter_at >>= λ counter.
    if nat_lt counter k.log.pool
    then (add segment_counter_at 1 >>= λ segment.
    if nat_lt segment k.log.pool
    then told Found (record k { log = record k.log { spare = Some segment } })
    else none_left k segment)
    else none_left k counter

abbrev pub room_program : KnownState → ℕ → Program RoomEnd
room_program k words =
    if (plan_of k.log words).need_segment
    then (if length k.log.segments == 256 then told (Full 0 256) k else claim_program k)
    else told Found k

-- ---- that the service runs it
pub record Claiming : Type 0 where
  pub claim : Claim
  pub known : KnownState

abbrev pub turn_in : KnownState → RoomTurn → Turn Claiming RoomEnd
turn_in k (turn.More claim) = Goes (record { claim = claim; known = k })
turn_in k (turn.Told room) = Ends (record { room = room; known = k })

abbrev pub claim_next : Claiming → Action
claim_next c = next_of c.claim

abbrev pub claim_turn : Claiming → ℕ → Turn Claiming RoomEnd
claim_turn c word =
    turn_in (claimed_by c.known (turn_of c.claim word)) (turn_by (claim_after c.claim word) (turn_of c.claim word))

-- from this turn on, whatever words are found
pub record Finds (k : KnownState) (words : ℕ) (turn : RoomTurn) : Type 0 where
  pub runs : Runs claim_next claim_turn (room_program k words) (turn_in k turn)
