use Rattle.std.specs.Prelude.{ℕ, ◌==◌, Some, None, if◌then◌else◌}
use Rattle.dn_word.specs.declared.packed.place.Ref.{Ref}
use Rattle.dn_act.specs.declared.actions.Action.{Action}
use Rattle.dn_plan.specs.Plan.{action_of, sealing_of, taken_of, located_of, roomed_of, sealed_of}
use Rattle.dn_plan.specs.declared.phases.Brief.{Brief}
use Rattle.dn_plan.specs.declared.phases.Kind.{Kind}
use Rattle.dn_plan.specs.declared.phases.Kind.TheVariants.{Get, Put, Delete}
use Rattle.dn_locate.specs.declared.fetches.Wish.{Wish}
use Rattle.dn_locate.specs.declared.fetches.Wish.TheVariants as wish
use Rattle.dn_plan.specs.declared.phases.Room.{Room}
use Rattle.dn_plan.specs.declared.phases.Room.TheVariants as room
use Rattle.dn_plan.specs.declared.results.Effect.TheVariants.{Bar}
use Rattle.dn_plan.specs.declared.results.Then.{Then as CallThen}
use Rattle.dn_plan.specs.declared.results.Then.TheVariants as cthen
use Rattle.dn_plan.specs.declared.results.After.{After as CallAfter}
use Rattle.dn_plan.specs.declared.results.After.TheVariants as cafter
use Rattle.dn_plan.specs.declared.results.Next.{Next as CallNext}
use Rattle.dn_plan.specs.declared.results.Next.TheVariants as cnext
use Rattle.dn_plan.specs.declared.results.Step.{Step as CallStep}
use Rattle.dn_tend.specs.Tend.{action_in as task_action, seal_in, taken_in as task_taken, located_in as task_located, roomed_in as task_roomed, sealed_in as task_sealed}
use Rattle.dn_tend.specs.declared.tasks.TaskAnswer.TheVariants.{Full, Fenced}
use Rattle.dn_tend.specs.declared.tasks.TendSeal.{TendSeal}
use Rattle.dn_tend.specs.declared.tasks.TendSeal.TheVariants as sealing
use Rattle.dn_tend.specs.declared.phases.TendLocate.{TendLocate}
use Rattle.dn_tend.specs.declared.phases.TendLocate.TheVariants as task_locate
use Rattle.dn_tend.specs.declared.phases.TendSealing.{TendSealing}
use Rattle.dn_tend.specs.declared.phases.TendSealing.TheVariants as task_seal
use Rattle.dn_tend.specs.declared.phases.TendThen.{TendThen}
use Rattle.dn_tend.specs.declared.phases.TendThen.TheVariants as tthen
use Rattle.dn_tend.specs.declared.phases.TendAfter.{TendAfter}
use Rattle.dn_tend.specs.declared.phases.TendAfter.TheVariants as tafter
use Rattle.dn_tend.specs.declared.phases.TendNext.{TendNext}
use Rattle.dn_tend.specs.declared.phases.TendNext.TheVariants as tnext
use Rattle.dn_tend.specs.declared.phases.TendTurn.{TendTurn}
use Rattle.dn_ask.specs.declared.asks.Act.{Act}
use Rattle.dn_ask.specs.declared.asks.Act.TheVariants as act
use Rattle.dn_ask.specs.declared.asks.Locate.{Locate}
use Rattle.dn_ask.specs.declared.asks.Locate.TheVariants as locate
use Rattle.dn_ask.specs.declared.asks.FindRoom.{FindRoom}
use Rattle.dn_ask.specs.declared.asks.FindRoom.TheVariants as find
use Rattle.dn_ask.specs.declared.asks.Seal.{Seal}
use Rattle.dn_ask.specs.declared.asks.Seal.TheVariants as seal
use Rattle.dn_ask.specs.declared.asks.End.{End}
use Rattle.dn_ask.specs.declared.asks.End.TheVariants as end
use Rattle.dn_ask.specs.declared.asks.Then.{Then}
use Rattle.dn_ask.specs.declared.asks.Then.TheVariants as thence
use Rattle.dn_ask.specs.declared.asks.After.{After}
use Rattle.dn_ask.specs.declared.asks.After.TheVariants as after
use Rattle.dn_ask.specs.declared.asks.Next.{Next}
use Rattle.dn_ask.specs.declared.asks.Next.TheVariants as next
use Rattle.dn_ask.specs.declared.asks.Step.{Step}
use Rattle.dn_ask.specs.declared.asks.Here.{Here}
use Rattle.dn_ask.specs.declared.asks.Sealed.{Sealed}
use Rattle.dn_ask.specs.declared.asks.Sealed.TheVariants as sealed

-- What a plan asks for, and how it goes on: as the plan of the call or task says.

-- ---- what the plan of a call asks for
abbrev pub call_then : CallThen → Then
call_then (cthen.Act phase) = thence.Act (act.Call phase)
call_then (cthen.Seal phase) = thence.Seal (seal.Call phase)
call_then (cthen.End ending) = thence.End (end.Call ending)

abbrev pub call_after : CallAfter → After
call_after (cafter.Room phase) = after.Room (find.Call phase)
call_after (cafter.Then to) = after.Then (call_then to)

abbrev pub call_next : CallNext → Next
call_next (cnext.Locate phase) = next.Locate (locate.Call phase)
call_next (cnext.After to) = next.After (call_after to)

abbrev pub call_step : CallStep → Step
call_step step = record { effect = step.effect; next = call_next step.next }

-- ---- and that of a task
abbrev pub task_then : TendThen → Then
task_then (tthen.Act phase) = thence.Act (act.Task phase)
task_then (tthen.Seal phase) = thence.Seal (seal.Task phase)
task_then (tthen.Done answer) = thence.End (end.Task answer)

abbrev pub task_after : TendAfter → After
task_after (tafter.Room phase) = after.Room (find.Task phase)
task_after (tafter.Then to) = after.Then (task_then to)

abbrev pub task_next : TendNext → Next
task_next (tnext.Locate phase) = next.Locate (locate.Task phase)
task_next (tnext.After to) = next.After (task_after to)

abbrev pub task_step : TendTurn → Step
task_step turn = record { effect = turn.effect; next = task_next turn.next }

-- ---- the forms of a step
abbrev pub ends : End → Next
ends ending = next.After (after.Then (thence.End ending))

abbrev pub goes : Next → Step
goes to = record { effect = None; next = to }

-- ---- the actions, and what comes after their words
abbrev pub action_in : Brief → Act → Action
action_in b (act.Call phase) = action_of b phase
action_in b (act.Task phase) = task_action b.lane phase

abbrev pub taken_in : Brief → Act → ℕ → Step
taken_in b (act.Call phase) word = call_step (taken_of b phase word)
taken_in b (act.Task phase) word = task_step (task_taken b.lane phase word)

-- ---- what is located
abbrev pub task_key : TendLocate → ℕ
task_key (task_locate.Share key look) = key
task_key (task_locate.Unshare key look) = key

abbrev pub key_in : Brief → Locate → ℕ
key_in b (locate.Call phase) = b.key
key_in b (locate.Task phase) = task_key phase

-- a get wants the value, a put or delete the kind of the record, a task its place
abbrev pub call_wish : Kind → Wish
call_wish Get = wish.Value
call_wish Put = wish.Kind
call_wish Delete = wish.Kind

abbrev pub wish_in : Brief → Locate → Wish
wish_in b (locate.Call phase) = call_wish b.kind
wish_in b (locate.Task phase) = wish.Place

-- ---- once the key is located
abbrev pub located_in : Here → Locate → After
located_in here (locate.Call phase) = call_after (located_of phase (record { way = here.way; held = here.held }))
located_in here (locate.Task phase) = task_after (task_located phase here.found)

-- ---- once room was looked for; a task without it ends
abbrev pub task_room : Room → Then → Then
task_room room.Found to = to
task_room (room.Full counter segments) to = thence.End (end.Task (Full counter segments))

abbrev pub roomed_in : Room → FindRoom → Then
roomed_in room (find.Call phase) = call_then (roomed_of phase room)
roomed_in room (find.Task phase) = task_room room (task_then (task_roomed phase))

-- ---- the seal
-- the gate word from which the exchange begins
abbrev pub task_gate : TendSeal → ℕ
task_gate (sealing.Share cell opening gate) = gate
task_gate (sealing.Unshare place stamp gate) = gate

-- the record
abbrev pub task_record_key : TendSealing → ℕ
task_record_key (task_seal.Share share cell) = share.key
task_record_key (task_seal.Unshare unshare place stamp gate) = unshare.key

abbrev pub record_in : Seal → Sealed
record_in (seal.Call phase) = sealed.Call (sealing_of phase)
record_in (seal.Task phase) = sealed.Task (task_record_key phase) (seal_in phase)

-- a task ends where the exchange found another gate, which is closed to its lane from then on
abbrev pub barred : ℕ → Step
barred word = record { effect = Some (Bar word); next = ends (end.Task (Fenced word)) }

abbrev pub after_task_seal : TendSealing → ℕ → ℕ → Step
after_task_seal phase gate word = if word == gate then goes (task_next (task_sealed phase)) else barred word

abbrev pub sealed_in : Ref → ℕ → Seal → Step
sealed_in place word (seal.Call phase) = call_step (sealed_of phase place word)
sealed_in place word (seal.Task phase) = after_task_seal phase (task_gate (seal_in phase)) word
