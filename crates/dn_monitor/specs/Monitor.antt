use Rattle.std.specs.Prelude.{ℕ, ◌+◌, ◌-◌, ◌^◌, ◌<◌, ◌≤◌, ◌==◌, ◌&&◌, Bool, true, false, List, Option, Some, None, nat_lt, slice_index, if◌then◌else◌}
use Rattle.dn_word.specs.Gate.{gate_of}
use Rattle.dn_word.specs.Deed.{deed_of}
use Rattle.dn_word.specs.Format.{format_word}
use Rattle.dn_word.specs.declared.packed.gate.Gate.{Gate}
use Rattle.dn_word.specs.declared.packed.deed.DeedState.{DeedState}
use Rattle.dn_word.specs.declared.packed.deed.DeedState.TheVariants.{Nobody, Owned, Leaving, Released}
use Rattle.dn_act.specs.declared.actions.Action.{Action}
use Rattle.dn_act.specs.declared.actions.Action.TheVariants.{Load, Store, Cas, Or}
use Rattle.dn_word.specs.Regions.{format_at}
use Rattle.dn_model.specs.Regions.{gate_at, mark_at, deed_at}
use Rattle.dn_monitor.specs.Grant.{granted_word, leaving_word}
use Rattle.dn_monitor.specs.declared.orders.Order.{Order}
use Rattle.dn_monitor.specs.declared.orders.Order.TheVariants as order
use Rattle.dn_monitor.specs.declared.orders.MonitorAnswer.{MonitorAnswer}
use Rattle.dn_monitor.specs.declared.orders.MonitorAnswer.TheVariants.{Formatted, Looked, Granted, Barred, Taken, Held, Waiting, NotFenced, Worn}
use Rattle.dn_monitor.specs.declared.orders.MonitorTurn.{MonitorTurn}
use Rattle.dn_monitor.specs.declared.orders.MonitorTurn.TheVariants.{More, Answered}
use Rattle.dn_monitor.specs.declared.places.Errand.{Errand}
use Rattle.dn_monitor.specs.declared.places.Errand.TheVariants.{Move, Takeover}
use Rattle.dn_monitor.specs.declared.places.MonitorPlace.{MonitorPlace}
use Rattle.dn_monitor.specs.declared.places.MonitorPlace.TheVariants as at
use Rattle.dn_monitor.specs.declared.steps.MonitorStep.{MonitorStep}

-- a monitor: where it is in its order, and the lane that a takeover gives each slot to, 0 being nobody
pub record Monitoring : Type 0 where
  pub heirs : List ℕ
  pub place : MonitorPlace

-- slots count from 0 to 63, lanes from 1 to 63
abbrev pub is_lane : ℕ → Bool
is_lane n = nat_lt 0 n && nat_lt n 64

abbrev pub IsOrder : Order → Type 0
IsOrder (order.Format segments) = Unit {0}
IsOrder (order.Look slot) = slot < 64
IsOrder (order.Move slot to) = (slot < 64) × (0 < to) × (to < 64)
IsOrder (order.Fence lane) = (0 < lane) × (lane < 64)
IsOrder (order.Takeover lane) = (0 < lane) × (lane < 64)

-- where an order begins
abbrev pub first_place : Order → MonitorPlace
first_place (order.Format segments) = at.Format segments
first_place (order.Look slot) = at.Look slot
first_place (order.Move slot to) = at.Deed (Move slot to)
first_place (order.Fence lane) = at.Fence lane
first_place (order.Takeover lane) = at.Deed (Takeover lane 0 0)

abbrev pub begun : Order → List ℕ → Monitoring
begun o heirs = record { heirs = heirs; place = first_place o }

-- the slot that the monitor is at, and the lane that is granted it
abbrev pub slot_in : Errand → ℕ
slot_in (Move slot to) = slot
slot_in (Takeover lane slot n) = slot

abbrev pub heir_of : List ℕ → Errand → ℕ
heir_of heirs (Move slot to) = to
heir_of heirs (Takeover lane slot n) = slice_index heirs slot

-- ---- the actions
abbrev pub next_in : List ℕ → MonitorPlace → Option Action
next_in heirs at.Done = None
next_in heirs (at.Format segments) = Some (Store format_at (format_word (record { segments = segments; number = 1 })))
next_in heirs (at.Look slot) = Some (Load (deed_at slot))
next_in heirs (at.Fence lane) = Some (Or (gate_at lane) (2 ^ 63))
next_in heirs (at.Deed errand) = Some (Load (deed_at (slot_in errand)))
next_in heirs (at.Leave slot to deed) = Some (Cas (deed_at slot) deed (leaving_word deed))
next_in heirs (at.Gate errand deed) = Some (Load (gate_at (deed_of deed).lane))
next_in heirs (at.Mark errand deed gate) = Some (Load (mark_at (deed_of deed).lane))
next_in heirs (at.Grant errand deed gate) =
    Some (Cas (deed_at (slot_in errand)) deed (granted_word deed gate (heir_of heirs errand)))

abbrev pub monitor_next : Monitoring → Option Action
monitor_next m = next_in m.heirs m.place

-- ---- the steps
-- the order goes on at a place, without an answer or with one; or it ends with its last answer
abbrev pub on : MonitorPlace → MonitorStep
on place = record { place = place; turn = More }

abbrev pub told : MonitorPlace → MonitorAnswer → MonitorStep
told place answer = record { place = place; turn = Answered answer }

abbrev pub ended : MonitorAnswer → MonitorStep
ended answer = told at.Done answer

-- the deed may be granted, unless its epoch is the last one
abbrev pub granting : Errand → ℕ → Option Gate → MonitorStep
granting errand deed gate =
    if (deed_of deed).epoch == 2 ^ 23 - 1 then ended (Worn (deed_of deed).epoch) else on (at.Grant errand deed gate)

-- a lane leaves or has left; a deed that names no lane is treated as nobody's
abbrev pub yielding : Errand → ℕ → MonitorStep
yielding errand deed = if is_lane (deed_of deed).lane then on (at.Gate errand deed) else granting errand deed None

-- after the deed of a slot that is moved
abbrev pub by_state : ℕ → ℕ → ℕ → DeedState → MonitorStep
by_state slot to deed Nobody = granting (Move slot to) deed None
by_state slot to deed Owned = if (deed_of deed).lane == to then ended (Granted deed) else on (at.Leave slot to deed)
by_state slot to deed Leaving = yielding (Move slot to) deed
by_state slot to deed Released = yielding (Move slot to) deed

-- a takeover is past a slot, and has taken n
abbrev pub passed : ℕ → ℕ → ℕ → MonitorStep
passed lane slot n = if slot == 63 then ended (Taken n) else on (at.Deed (Takeover lane (slot + 1) n))

abbrev pub after_deed : Errand → ℕ → MonitorStep
after_deed (Move slot to) deed = by_state slot to deed (deed_of deed).state
after_deed (Takeover lane slot n) deed =
    if (deed_of deed).lane == lane then on (at.Gate (Takeover lane slot n) deed) else passed lane slot n

-- after the gate of a lane that leaves, or that was fenced or has left
abbrev pub by_gate : ℕ → ℕ → ℕ → Gate → DeedState → MonitorStep
by_gate slot to deed gate Nobody = on (at.Mark (Move slot to) deed gate)
by_gate slot to deed gate Owned = on (at.Mark (Move slot to) deed gate)
by_gate slot to deed gate Leaving =
    if gate.fenced then on (at.Mark (Move slot to) deed gate) else told (at.Deed (Move slot to)) (Held deed)
by_gate slot to deed gate Released = on (at.Mark (Move slot to) deed gate)

abbrev pub after_gate : Errand → ℕ → ℕ → MonitorStep
after_gate (Move slot to) deed word = by_gate slot to deed (gate_of word) (deed_of deed).state
after_gate (Takeover lane slot n) deed word =
    if (gate_of word).fenced then on (at.Mark (Takeover lane slot n) deed (gate_of word)) else ended (NotFenced word)

-- after the mark, which is to be at least the gate's length
abbrev pub after_mark : Errand → ℕ → Gate → ℕ → MonitorStep
after_mark errand deed gate mark =
    if nat_lt mark gate.len
    then told (at.Mark errand deed gate) (Waiting mark gate.len)
    else granting errand deed (Some gate)

-- after the exchange that grants, where it was done
abbrev pub won : Errand → ℕ → Option Gate → MonitorStep
won (Move slot to) deed gate = ended (Granted (granted_word deed gate to))
won (Takeover lane slot n) deed gate = passed lane slot (n + 1)

-- one that found another word begins the slot again
abbrev pub after_grant : Errand → ℕ → Option Gate → ℕ → MonitorStep
after_grant errand deed gate found = if found == deed then won errand deed gate else on (at.Deed errand)

abbrev pub step_in : ℕ → MonitorPlace → MonitorStep
step_in word at.Done = on at.Done
step_in word (at.Format segments) = ended (Formatted word)
step_in word (at.Look slot) = ended (Looked word)
step_in word (at.Fence lane) = ended (Barred word)
step_in word (at.Deed errand) = after_deed errand word
step_in word (at.Leave slot to deed) = on (at.Deed (Move slot to))
step_in word (at.Gate errand deed) = after_gate errand deed word
step_in word (at.Mark errand deed gate) = after_mark errand deed gate word
step_in word (at.Grant errand deed gate) = after_grant errand deed gate word

-- what a monitor answers when it takes a word, and where it is then
abbrev pub monitor_turn : Monitoring → ℕ → MonitorTurn
monitor_turn m word = (step_in word m.place).turn

abbrev pub monitor_after : Monitoring → ℕ → Monitoring
monitor_after m word = record { heirs = m.heirs; place = (step_in word m.place).place }

-- the last answer of an order
abbrev pub is_last : MonitorTurn → Bool
is_last More = false
is_last (Answered (Formatted old)) = true
is_last (Answered (Looked deed)) = true
is_last (Answered (Granted deed)) = true
is_last (Answered (Barred old)) = true
is_last (Answered (Taken slots)) = true
is_last (Answered (Held deed)) = false
is_last (Answered (Waiting mark need)) = false
is_last (Answered (NotFenced gate)) = true
is_last (Answered (Worn epoch)) = true

-- ---- what a monitor knows at a place
abbrev pub IsErrand : Errand → Type 0
IsErrand (Move slot to) = (slot < 64) × (0 < to) × (to < 64)
IsErrand (Takeover lane slot n) = (slot < 64) × (0 < lane) × (lane < 64) × (n ≤ slot)

-- the deed names a lane
abbrev pub NamesLane : ℕ → Type 0
NamesLane deed = (0 < (deed_of deed).lane) × ((deed_of deed).lane < 64)

abbrev pub IsGate : Gate → Type 0
IsGate gate = (gate.stamp < 2 ^ 31) × (gate.len < 2 ^ 24)

abbrev pub MayGate : Option Gate → Type 0
MayGate None = Unit {0}
MayGate (Some gate) = IsGate gate

abbrev pub IsPlace : MonitorPlace → Type 0
IsPlace at.Done = Unit {0}
IsPlace (at.Format segments) = segments < 2 ^ 32
IsPlace (at.Look slot) = slot < 64
IsPlace (at.Fence lane) = (0 < lane) × (lane < 64)
IsPlace (at.Deed errand) = IsErrand errand
IsPlace (at.Leave slot to deed) = IsErrand (Move slot to)
IsPlace (at.Gate errand deed) = IsErrand errand × NamesLane deed
IsPlace (at.Mark errand deed gate) = IsErrand errand × NamesLane deed × IsGate gate
IsPlace (at.Grant errand deed gate) = IsErrand errand × ((deed_of deed).epoch + 1 < 2 ^ 23) × MayGate gate
