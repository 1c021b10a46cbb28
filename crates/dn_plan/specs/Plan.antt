use Rattle.std.specs.Prelude.{ℕ, ◌-◌, ◌^◌, ◌==◌, ◌&&◌, Bool, true, false, Option, Some, None, if◌then◌else◌}
use Rattle.dn_word.specs.Deed.{deed_of}
use Rattle.dn_word.specs.Gate.{gate_of, gate_word}
use Rattle.dn_word.specs.Need.{quiet_of, raised_of}
use Rattle.dn_word.specs.declared.packed.deed.DeedState.{DeedState}
use Rattle.dn_word.specs.declared.packed.deed.DeedState.TheVariants.{Nobody, Owned, Leaving, Released}
use Rattle.dn_word.specs.declared.packed.place.Ref.{Ref}
use Rattle.dn_word.specs.declared.positions.Need.{Need}
use Rattle.dn_word.specs.declared.positions.Position.{Position}
use Rattle.dn_act.specs.declared.actions.Action.{Action}
use Rattle.dn_act.specs.declared.actions.Action.TheVariants.{Load, Cas}
use Rattle.dn_model.specs.Regions.{deed_at, slot_of, gate_at}
use Rattle.dn_plan.specs.declared.phases.Kind.{Kind}
use Rattle.dn_plan.specs.declared.phases.Kind.TheVariants as kind
use Rattle.dn_plan.specs.declared.phases.Brief.{Brief}
use Rattle.dn_plan.specs.declared.phases.Located.{Located}
use Rattle.dn_plan.specs.declared.phases.Room.{Room}
use Rattle.dn_plan.specs.declared.phases.Room.TheVariants as room
use Rattle.dn_plan.specs.declared.phases.Entry.TheVariants as entry
use Rattle.dn_plan.specs.declared.phases.Sealing.{Sealing}
use Rattle.dn_plan.specs.declared.phases.Raised.{Raised}
use Rattle.dn_plan.specs.declared.phases.ActPhase.{ActPhase}
use Rattle.dn_plan.specs.declared.phases.ActPhase.TheVariants as at
use Rattle.dn_plan.specs.declared.phases.LocatePhase.{LocatePhase}
use Rattle.dn_plan.specs.declared.phases.LocatePhase.TheVariants as locate
use Rattle.dn_plan.specs.declared.phases.RoomPhase.{RoomPhase}
use Rattle.dn_plan.specs.declared.phases.RoomPhase.TheVariants as find
use Rattle.dn_plan.specs.declared.phases.SealPhase.{SealPhase}
use Rattle.dn_plan.specs.declared.phases.SealPhase.TheVariants as seal
use Rattle.dn_plan.specs.declared.results.Ending.{Ending}
use Rattle.dn_plan.specs.declared.results.Ending.TheVariants.{Made, NotOwner, Fenced, Full, Worn}
use Rattle.dn_plan.specs.declared.results.Effect.{Effect}
use Rattle.dn_plan.specs.declared.results.Effect.TheVariants.{Epoch, Bar}
use Rattle.dn_plan.specs.declared.results.Then.{Then}
use Rattle.dn_plan.specs.declared.results.Then.TheVariants as thence
use Rattle.dn_plan.specs.declared.results.After.{After}
use Rattle.dn_plan.specs.declared.results.After.TheVariants as after
use Rattle.dn_plan.specs.declared.results.Next.{Next}
use Rattle.dn_plan.specs.declared.results.Next.TheVariants as next
use Rattle.dn_plan.specs.declared.results.Step.{Step}

-- What a call does in each phase, and what comes after it.

-- the gate word that seals a log of this length at this stamp
abbrev pub sealing_word : ℕ → ℕ → ℕ
sealing_word stamp len = gate_word (record { fenced = false; stamp = stamp; len = len })

-- a get that raises the stamp leaves the length as it loaded it
abbrev pub action_of : Brief → ActPhase → Action
action_of b at.Look = Load (deed_at (slot_of b.key))
action_of b (at.Gate look located) = Load (gate_at b.lane)
action_of b (at.Raise r) = Cas (gate_at b.lane) r.gate (sealing_word r.to.stamp (gate_of r.gate).len)

abbrev pub sealing_of : SealPhase → Sealing
sealing_of (seal.Write r) = record { entry = entry.Own; gate = r.gate; stamp = r.to.stamp }

-- ---- the forms of what comes next
abbrev pub acts : ActPhase → Next
acts phase = next.After (after.Then (thence.Act phase))

abbrev pub rooms : RoomPhase → Next
rooms phase = next.After (after.Room phase)

abbrev pub seals : SealPhase → Next
seals phase = next.After (after.Then (thence.Seal phase))

abbrev pub ends : Ending → Next
ends ending = next.After (after.Then (thence.End ending))

abbrev pub goes : Next → Step
goes to = record { effect = None; next = to }

abbrev pub learns : Effect → Next → Step
learns effect to = record { effect = Some effect; next = to }

-- ---- the look
-- a lane is owner by a deed that is Owned and names it
abbrev pub is_owned : DeedState → Bool
is_owned Nobody = false
is_owned Owned = true
is_owned Leaving = false
is_owned Released = false

abbrev pub is_owner : ℕ → ℕ → Bool
is_owner lane deed = is_owned (deed_of deed).state && ((deed_of deed).lane == lane)

abbrev pub looked : Brief → ℕ → Step
looked b deed =
    learns (Epoch (slot_of b.key) (deed_of deed).epoch)
    (if is_owner b.lane deed then next.Locate (locate.Owner deed) else ends (NotOwner deed))

-- ---- the gate
-- the floor is the look's, the last position the session's
abbrev pub need_of : Brief → ℕ → Need
need_of b look = record { floor = (deed_of look).floor; last = b.view.last; session = b.view.session }

abbrev pub raised_at : ℕ → Located → ℕ → Position → Raised
raised_at look located gate to = record { look = look; located = located; gate = gate; to = to }

abbrev pub raises : ℕ → Located → ℕ → Option Position → After
raises look located gate (Some to) = after.Then (thence.Act (at.Raise (raised_at look located gate to)))
raises look located gate None = after.Then (thence.End (Worn (2 ^ 31 - 1)))

-- a get is quiet where it may be, and else raises the stamp
abbrev pub reads : ℕ → Located → ℕ → Option Position → Option Position → After
reads look located gate (Some to) raised = after.Then (thence.End (Made to None located))
reads look located gate None raised = raises look located gate raised

-- a put or delete needs room at a raised stamp
abbrev pub writes : ℕ → Located → ℕ → Option Position → After
writes look located gate (Some to) = after.Room (find.Write (raised_at look located gate to))
writes look located gate None = after.Then (thence.End (Worn (2 ^ 31 - 1)))

abbrev pub opened : Brief → ℕ → Located → ℕ → Kind → After
opened b look located gate kind.Get =
    reads look located gate (quiet_of (need_of b look) (gate_of gate).stamp) (raised_of (need_of b look) (gate_of gate).stamp)
opened b look located gate kind.Put = writes look located gate (raised_of (need_of b look) (gate_of gate).stamp)
opened b look located gate kind.Delete = writes look located gate (raised_of (need_of b look) (gate_of gate).stamp)

-- the gate is closed to the lane, for this call and later ones
abbrev pub barred : ℕ → Step
barred gate = learns (Bar gate) (ends (Fenced gate))

abbrev pub gated : Brief → ℕ → Located → ℕ → Step
gated b look located gate = if (gate_of gate).fenced then barred gate else goes (next.After (opened b look located gate b.kind))

-- ---- an exchange of the gate, where it found this word
abbrev pub exchanged : ℕ → ℕ → Ending → Step
exchanged gate found ending = if found == gate then goes (ends ending) else barred found

-- ---- what comes after each wait
abbrev pub taken_of : Brief → ActPhase → ℕ → Step
taken_of b at.Look word = looked b word
taken_of b (at.Gate look located) word = gated b look located word
taken_of b (at.Raise r) word = exchanged r.gate word (Made r.to None r.located)

abbrev pub located_of : LocatePhase → Located → After
located_of (locate.Owner look) located = after.Then (thence.Act (at.Gate look located))

abbrev pub roomed_of : RoomPhase → Room → Then
roomed_of (find.Write r) room.Found = thence.Seal (seal.Write r)
roomed_of (find.Write r) (room.Full counter segments) = thence.End (Full counter segments)

abbrev pub sealed_of : SealPhase → Ref → ℕ → Step
sealed_of (seal.Write r) place word = exchanged r.gate word (Made r.to (Some place) r.located)
