use Rattle.std.specs.Prelude.{ℕ, ◌-◌, ◌^◌, ◌==◌, Option, Some, None, false, if◌then◌else◌}
use Rattle.dn_word.specs.Deed.{deed_of}
use Rattle.dn_word.specs.Gate.{gate_of, gate_word}
use Rattle.dn_word.specs.Need.{quiet_of, raised_of}
use Rattle.dn_word.specs.declared.positions.Position.{Position}
use Rattle.dn_act.specs.declared.actions.Action.TheVariants.{Load, Cas}
use Rattle.dn_model.specs.Regions.{deed_at, slot_of, gate_at}
use Rattle.dn_plan.specs.Plan.{is_owner, need_of}
use Rattle.dn_plan.specs.Program.{Plan, Return, Learn, Do, Locate, FindRoom, Seal}
use Rattle.dn_plan.specs.declared.phases.Kind.{Kind}
use Rattle.dn_plan.specs.declared.phases.Kind.TheVariants.{Get, Put, Delete}
use Rattle.dn_plan.specs.declared.phases.Brief.{Brief}
use Rattle.dn_plan.specs.declared.phases.Located.{Located}
use Rattle.dn_plan.specs.declared.phases.Room.{Room}
use Rattle.dn_plan.specs.declared.phases.Room.TheVariants as room
use Rattle.dn_plan.specs.declared.phases.Entry.TheVariants.{Own}
use Rattle.dn_plan.specs.declared.results.Ending.TheVariants.{Made, NotOwner, Fenced, Full, Worn}
use Rattle.dn_plan.specs.declared.results.Effect.TheVariants.{Epoch, Bar}

-- The call of a slot's owner, as a plan to read.

-- a gate that has the bit, or isn't the loaded one, closes the lane
abbrev pub shut : ℕ → Plan
shut gate = Learn (Bar gate) (Return (Fenced gate))

-- ---- a get: quiet, or the stamp is raised and the length of the loaded gate stays
abbrev pub raise : Brief → Located → ℕ → Option Position → Plan
raise b located gate None = Return (Worn (2 ^ 31 - 1))
raise b located gate (Some to) =
    Do (Cas (gate_at b.lane) gate (gate_word (record { fenced = false; stamp = to.stamp; len = (gate_of gate).len })))
    (λ found. if found == gate then Return (Made to None located) else shut found)

abbrev pub read : Brief → Located → ℕ → Option Position → Option Position → Plan
read b located gate (Some to) raised = Return (Made to None located)
read b located gate None raised = raise b located gate raised

-- ---- a put or delete: room, and its record sealed at a raised stamp
abbrev pub seal_at : Located → ℕ → Position → Plan
seal_at located gate to =
    Seal (record { entry = Own; gate = gate; stamp = to.stamp })
    (λ place found. if found == gate then Return (Made to (Some place) located) else shut found)

abbrev pub in_room : Located → ℕ → Position → Room → Plan
in_room located gate to room.Found = seal_at located gate to
in_room located gate to (room.Full counter segments) = Return (Full counter segments)

abbrev pub write : Located → ℕ → Option Position → Plan
write located gate None = Return (Worn (2 ^ 31 - 1))
write located gate (Some to) = FindRoom (λ room. in_room located gate to room)

-- ---- by the gate that was loaded
abbrev pub by_kind : Brief → ℕ → Located → ℕ → Kind → Plan
by_kind b look located gate Get =
    read b located gate (quiet_of (need_of b look) (gate_of gate).stamp) (raised_of (need_of b look) (gate_of gate).stamp)
by_kind b look located gate Put = write located gate (raised_of (need_of b look) (gate_of gate).stamp)
by_kind b look located gate Delete = write located gate (raised_of (need_of b look) (gate_of gate).stamp)

abbrev pub pass_gate : Brief → ℕ → Located → Plan
pass_gate b look located =
    Do (Load (gate_at b.lane)) (λ gate. if (gate_of gate).fenced then shut gate else by_kind b look located gate b.kind)

-- ---- the whole call
abbrev pub call_plan : Brief → Plan
call_plan b =
    Do (Load (deed_at (slot_of b.key)))
    (λ look. Learn (Epoch (slot_of b.key) (deed_of look).epoch)
    (if is_owner b.lane look then Locate (λ located. pass_gate b look located) else Return (NotOwner look)))
