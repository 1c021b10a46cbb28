use Rattle.std.proofs.Common.{ℕ, ◌≡◌, Bool, true, false, refl, sym, subst}
use Rattle.dn_plan.specs.Plan.{roomed_of, sealed_of}
use Rattle.dn_plan.specs.declared.phases.RoomPhase.{RoomPhase}
use Rattle.dn_plan.specs.declared.results.Then.{Then as CallThen}
use Rattle.dn_plan.specs.declared.results.Then.TheVariants as cthen
use Rattle.dn_plan.specs.declared.results.After.{After as CallAfter}
use Rattle.dn_plan.specs.declared.results.After.TheVariants as cafter
use Rattle.dn_plan.specs.declared.results.Next.{Next as CallNext}
use Rattle.dn_plan.specs.declared.results.Next.TheVariants as cnext
use Rattle.dn_plan.specs.declared.results.Step.{Step as CallStep}
use Rattle.dn_plan.specs.declared.phases.SealPhase.{SealPhase}
use Rattle.dn_plan.specs.declared.phases.LocatePhase.{LocatePhase}
use Rattle.dn_ask.specs.Ask.{call_then, call_after, call_next, call_step}
use Rattle.dn_ask.specs.declared.asks.Act.TheVariants as act
use Rattle.dn_ask.specs.declared.asks.End.TheVariants as end
use Rattle.dn_ask.specs.declared.asks.FindRoom.TheVariants as room
use Rattle.dn_ask.specs.declared.asks.Locate.TheVariants as locate
use Rattle.dn_ask.specs.declared.asks.Seal.TheVariants as seal
use Rattle.dn_find.specs.declared.finds.Found.{Found}
use Rattle.dn_find.specs.declared.finds.Found.TheVariants as found
use Rattle.dn_services.specs.Room.{looked_for}
use Rattle.dn_services.specs.declared.rooms.RoomTurn.{RoomTurn}
use Rattle.dn_services.specs.declared.rooms.RoomTurn.TheVariants as turn
use Rattle.dn_services.specs.declared.seals.Seal.{Seal}
use Rattle.dn_services.specs.declared.seals.SealTurn.{SealTurn}
use Rattle.dn_services.specs.declared.seals.SealTurn.TheVariants as sealing
use Rattle.dn_lane.specs.Asked.{words_in}
use Rattle.dn_lane.specs.Taken.{entered_then, roomed_by, entered_after, entered_next, entered, learnt_by, sought_by, sealed_by, taken_by}
use Rattle.dn_lane.specs.declared.asked.Asked.{Asked}
use Rattle.dn_lane.specs.declared.asked.Asked.TheVariants as asked
use Rattle.dn_lane.specs.declared.base.Base.{Base}
use Rattle.dn_lane.specs.declared.modes.Going.{Going}
use Rattle.dn_lane.specs.declared.modes.Going.TheVariants.{On, End}
use Rattle.dn_lane.specs.declared.modes.Mode.{Mode}
use Rattle.dn_lane.specs.declared.modes.Mode.TheVariants as mode
use Rattle.dn_machine.proofs.Calls.{SameCall}
use Rattle.dn_outcomes.specs.Sound.{is_calling, IsPlanOf}

-- A call's plan stays one, and ends as one.

abbrev pub goes_calling : Going → Bool
goes_calling (On m) = is_calling m
goes_calling (End (end.Call ending)) = true
goes_calling (End (end.Task answer)) = false

then_calls : (g : Base) (a : Asked) (x : CallThen) → goes_calling (entered_then g a (call_then x)).going ≡ true
then_calls g a (cthen.Act phase) = refl
then_calls g a (cthen.Seal phase) = refl
then_calls g a (cthen.End ending) = refl

room_calls : (g : Base) (a : Asked) (phase : RoomPhase) (x : RoomTurn) → goes_calling (roomed_by g a (room.Call phase) x).going ≡ true
room_calls g a phase (turn.Told there) = then_calls g a (roomed_of phase there)
room_calls g a phase (turn.More claim) = refl

after_calls : (g : Base) (a : Asked) (x : CallAfter) → goes_calling (entered_after g a (call_after x)).going ≡ true
after_calls g a (cafter.Room phase) = room_calls g a phase (looked_for g.known (words_in a))
after_calls g a (cafter.Then to) = then_calls g a to

next_calls : (g : Base) (a : Asked) (x : CallNext) → goes_calling (entered_next g a (call_next x)).going ≡ true
next_calls g a (cnext.Locate phase) = refl
next_calls g a (cnext.After to) = after_calls g a to

step_calls : (g : Base) (a : Asked) (x : CallStep) → goes_calling (entered g a (call_step x)).going ≡ true
step_calls g a x = next_calls (record g { known = learnt_by g.known x.effect }) a x.next

sought_calls : (g : Base) (a : Asked) (phase : LocatePhase) (x : Found) → goes_calling (sought_by g a (locate.Call phase) x).going ≡ true
sought_calls g a phase (found.More find) = refl
sought_calls g a phase (found.Here way there) = after_calls g _ _

sealed_calls : (g : Base) (a : Asked) (phase : SealPhase) (s : Seal) (word : ℕ) (x : SealTurn) → goes_calling (sealed_by g a (seal.Call phase) s word x).going ≡ true
sealed_calls g a phase s word sealing.More = refl
sealed_calls g a phase s word (sealing.Sealed place) = step_calls g a (sealed_of phase place word)
sealed_calls g a phase s word (sealing.Shut place) = step_calls g a (sealed_of phase place word)

pub taken_calls : (g : Base) (a : Asked) (m : Mode) (word : ℕ) → is_calling m ≡ true → goes_calling (taken_by g a m word).going ≡ true
taken_calls g a mode.Idle word h = refl
taken_calls g a (mode.Acting (act.Call phase)) word h = step_calls g a _
taken_calls g a (mode.Acting (act.Task phase)) word h = absurd (cc h)
taken_calls g a (mode.Finding (locate.Call phase) find) word h = sought_calls _ a phase _
taken_calls g a (mode.Finding (locate.Task phase) find) word h = absurd (cc h)
taken_calls g a (mode.Claiming (room.Call phase) claim) word h = room_calls _ a phase _
taken_calls g a (mode.Claiming (room.Task phase) claim) word h = absurd (cc h)
taken_calls g a (mode.Sealing (seal.Call phase) s) word h = sealed_calls _ a phase s word _
taken_calls g a (mode.Sealing (seal.Task phase) s) word h = absurd (cc h)

-- ---- what the lane is asked, by how it goes on
abbrev pub IsPlanGoing : Asked → Going → Type 0
IsPlanGoing asked.Nothing going = Unit {0}
IsPlanGoing (asked.Call call view value) going = goes_calling going ≡ true
IsPlanGoing asked.Task going = Unit {0}

goes_so : (a b : Asked) (m : Mode) (going : Going) → SameCall a b → IsPlanOf a m → (is_calling m ≡ true → goes_calling going ≡ true) → IsPlanGoing b going
goes_so asked.Nothing b m going same h by = subst (λ x. IsPlanGoing x going) (sym same) tt
goes_so (asked.Call call view value) b m going same h by = subst (λ x. IsPlanGoing x going) (sym same.1) (by h)
goes_so asked.Task b m going same h by = subst (λ x. IsPlanGoing x going) (sym same) tt

pub taken_plan : (g : Base) (a : Asked) (m : Mode) (word : ℕ) → SameCall a (taken_by g a m word).asked → IsPlanOf a m → IsPlanGoing (taken_by g a m word).asked (taken_by g a m word).going
taken_plan g a m word same h = goes_so a (taken_by g a m word).asked m (taken_by g a m word).going same h (taken_calls g a m word)

pub on_plan : (b : Asked) (m : Mode) → IsPlanGoing b (On m) → IsPlanOf b m
on_plan asked.Nothing m h = tt
on_plan (asked.Call call view value) m h = h
on_plan asked.Task m h = tt
