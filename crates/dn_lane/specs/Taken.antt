use Rattle.std.specs.Prelude.{ℕ, List, Option, Some, None, Bool, true, false}
use Rattle.dn_record.specs.Record.{spelling}
use Rattle.dn_locate.specs.Fetch.{Fetching}
use Rattle.dn_log.specs.Claim.{turn_of as claim_turn, claim_after}
use Rattle.dn_log.specs.declared.claims.Claim.{Claim}
use Rattle.dn_log.specs.declared.staging.Staged.{Staged}
use Rattle.dn_plan.specs.declared.phases.Way.{Way}
use Rattle.dn_plan.specs.declared.results.Effect.{Effect}
use Rattle.dn_tend.specs.declared.tasks.TendFound.TheVariants.{Nothing}
use Rattle.dn_ask.specs.Ask.{taken_in, key_in, wish_in, located_in, roomed_in, record_in, sealed_in}
use Rattle.dn_ask.specs.declared.asks.Act.{Act}
use Rattle.dn_ask.specs.declared.asks.Locate.{Locate}
use Rattle.dn_ask.specs.declared.asks.FindRoom.{FindRoom}
use Rattle.dn_ask.specs.declared.asks.Seal.{Seal as SealWait}
use Rattle.dn_ask.specs.declared.asks.Sealed.{Sealed}
use Rattle.dn_ask.specs.declared.asks.Sealed.TheVariants as sealed_as
use Rattle.dn_ask.specs.declared.asks.Here.{Here}
use Rattle.dn_ask.specs.declared.asks.End.{End as EndOf}
use Rattle.dn_ask.specs.declared.asks.Then.{Then}
use Rattle.dn_ask.specs.declared.asks.Then.TheVariants as thence
use Rattle.dn_ask.specs.declared.asks.After.{After}
use Rattle.dn_ask.specs.declared.asks.After.TheVariants as after
use Rattle.dn_ask.specs.declared.asks.Next.{Next}
use Rattle.dn_ask.specs.declared.asks.Next.TheVariants as next
use Rattle.dn_ask.specs.declared.asks.Step.{Step}
use Rattle.dn_find.specs.Find.{Locating, Sought, started, found_of}
use Rattle.dn_find.specs.declared.finds.Find.{Find}
use Rattle.dn_find.specs.declared.finds.Found.{Found}
use Rattle.dn_find.specs.declared.finds.Found.TheVariants as found
use Rattle.dn_known.specs.Counting.{pending_of}
use Rattle.dn_known.specs.Learnt.{learnt}
use Rattle.dn_known.specs.State.{KnownState}
use Rattle.dn_services.specs.Room.{looked_for, turn_by, claimed_by}
use Rattle.dn_services.specs.Sealing.{call_seal, task_seal, turn_of, known_after, waits_after}
use Rattle.dn_services.specs.Spelled.{call_words, call_spelling, task_record}
use Rattle.dn_services.specs.Staged.{staged_of}
use Rattle.dn_services.specs.declared.rooms.RoomTurn.{RoomTurn}
use Rattle.dn_services.specs.declared.rooms.RoomTurn.TheVariants as room
use Rattle.dn_services.specs.declared.seals.Seal.{Seal}
use Rattle.dn_services.specs.declared.seals.SealTurn.{SealTurn}
use Rattle.dn_services.specs.declared.seals.SealTurn.TheVariants as turn
use Rattle.dn_lane.specs.Asked.{brief_of, call_in, words_in}
use Rattle.dn_lane.specs.Found.{Kept, kept_in, value_in, said_in}
use Rattle.dn_lane.specs.declared.asked.Asked.{Asked}
use Rattle.dn_lane.specs.declared.base.Base.{Base}
use Rattle.dn_lane.specs.declared.modes.Going.{Going}
use Rattle.dn_lane.specs.declared.modes.Going.TheVariants.{On, End}
use Rattle.dn_lane.specs.declared.modes.Mode.{Mode}
use Rattle.dn_lane.specs.declared.modes.Mode.TheVariants as mode

-- How a lane carries out a plan. No definition here knows one phase of a plan from another, and only the record that is
-- sealed tells a call from a task.

-- how the plan goes on, and what the lane has then
pub record Entered : Type 0 where
  pub going : Going
  pub base : Base

-- and what was asked, with the value that was found
pub record Taken : Type 0 where
  pub going : Going
  pub base : Base
  pub asked : Asked

abbrev pub goes : Base → Mode → Entered
goes g mode = record { going = On mode; base = g }

abbrev pub ends : Base → EndOf → Entered
ends g end = record { going = End end; base = g }

-- ---- a record is sealed
abbrev pub sealing_by : Asked → Sealed → Seal
sealing_by a (sealed_as.Call sealing) = call_seal (call_in a) sealing
sealing_by a (sealed_as.Task key seal) = task_seal key seal

-- the words that wait to flow
abbrev pub waits_by : KnownState → Asked → Sealed → List Staged
waits_by k a (sealed_as.Call sealing) = staged_of k.log (call_words (call_in a)) (call_spelling (call_in a))
waits_by k a (sealed_as.Task key seal) = staged_of k.log 3 (spelling (task_record key seal))

-- ---- what the plan asks for
-- once there is room
abbrev pub entered_seal : Base → Asked → SealWait → Sealed → Entered
entered_seal g a wait sealed = goes (record g { staging = waits_by g.known a sealed }) (mode.Sealing wait (sealing_by a sealed))

abbrev pub entered_then : Base → Asked → Then → Entered
entered_then g a (thence.Act wait) = goes g (mode.Acting wait)
entered_then g a (thence.Seal wait) = entered_seal g a wait (record_in wait)
entered_then g a (thence.End end) = ends g end

-- room is there, or it isn't, or a segment is claimed
abbrev pub roomed_by : Base → Asked → FindRoom → RoomTurn → Entered
roomed_by g a wait (room.Told there) = entered_then g a (roomed_in there wait)
roomed_by g a wait (room.More claim) = goes g (mode.Claiming wait claim)

abbrev pub entered_room : Base → Asked → FindRoom → Entered
entered_room g a wait = roomed_by g a wait (looked_for g.known (words_in a))

-- once the key is located
abbrev pub entered_after : Base → Asked → After → Entered
entered_after g a (after.Room wait) = entered_room g a wait
entered_after g a (after.Then to) = entered_then g a to

-- the key is located: by its pending record where that counts, and else by the index
abbrev pub located : Base → Asked → Locate → Locating
located g a wait =
    let b = brief_of g.known.log.lane a in
    started g.fetch (key_in b wait) (wish_in b wait) (pending_of g.known (key_in b wait))

abbrev pub entered_find : Base → Locate → Locating → Entered
entered_find g wait l = goes (record g { fetch = l.fetch }) (mode.Finding wait l.find)

abbrev pub entered_next : Base → Asked → Next → Entered
entered_next g a (next.Locate wait) = entered_find g wait (located g a wait)
entered_next g a (next.After to) = entered_after g a to

-- the lane learns first
abbrev pub learnt_by : KnownState → Option Effect → KnownState
learnt_by k None = k
learnt_by k (Some effect) = learnt k effect

abbrev pub entered : Base → Asked → Step → Entered
entered g a step = entered_next (record g { known = learnt_by g.known step.effect }) a step.next

-- ---- what a word does in each mode
abbrev pub acted : Base → Asked → Act → ℕ → Entered
acted g a wait word = entered g a (taken_in (brief_of g.known.log.lane a) wait word)

-- what was located, and what was asked with the value that is held
pub record Arrived : Type 0 where
  pub here : Here
  pub asked : Asked

abbrev pub arrived : Way → Fetching → Kept → Arrived
arrived way f k = record { here = record { way = way; held = k.held; found = said_in f.words f.at }; asked = k.asked }

abbrev pub here_of : Asked → Fetching → Way → Bool → Arrived
here_of a f way true = arrived way f (kept_in a (value_in f.words))
here_of a f way false = record { here = record { way = way; held = false; found = Nothing }; asked = a }

abbrev pub by : Asked → Entered → Taken
by a e = record { going = e.going; base = e.base; asked = a }

abbrev pub arrived_at : Base → Locate → Arrived → Taken
arrived_at g wait r = by r.asked (entered_after g r.asked (located_in r.here wait))

abbrev pub sought_by : Base → Asked → Locate → Found → Taken
sought_by g a wait (found.More find) = by a (goes g (mode.Finding wait find))
sought_by g a wait (found.Here way there) = arrived_at g wait (here_of a g.fetch way there)

abbrev pub sought_to : Base → Asked → Locate → Sought → Taken
sought_to g a wait s = sought_by (record g { fetch = s.fetch }) a wait s.found

abbrev pub sought : Base → Asked → Locate → Find → ℕ → Taken
sought g a wait find word =
    let b = brief_of g.known.log.lane a in
    sought_to g a wait (found_of g.fetch (key_in b wait) (wish_in b wait) find word)

abbrev pub claimed : Base → Asked → FindRoom → Claim → ℕ → Entered
claimed g a wait claim word =
    roomed_by (record g { known = claimed_by g.known (claim_turn claim word) }) a wait (turn_by (claim_after claim word) (claim_turn claim word))

abbrev pub sealed_by : Base → Asked → SealWait → Seal → ℕ → SealTurn → Entered
sealed_by g a wait seal word turn.More = goes g (mode.Sealing wait seal)
sealed_by g a wait seal word (turn.Sealed place) = entered g a (sealed_in place word wait)
sealed_by g a wait seal word (turn.Shut place) = entered g a (sealed_in place word wait)

abbrev pub sealed : Base → Asked → SealWait → Seal → ℕ → Entered
sealed g a wait seal word =
    sealed_by (record g { known = known_after g.known seal word g.staging; staging = waits_after g.staging }) a wait seal word
    (turn_of g.known seal word g.staging)

abbrev pub taken_by : Base → Asked → Mode → ℕ → Taken
taken_by g a mode.Idle word = by a (goes g mode.Idle)
taken_by g a (mode.Acting wait) word = by a (acted g a wait word)
taken_by g a (mode.Finding wait find) word = sought g a wait find word
taken_by g a (mode.Claiming wait claim) word = by a (claimed g a wait claim word)
taken_by g a (mode.Sealing wait seal) word = by a (sealed g a wait seal word)
