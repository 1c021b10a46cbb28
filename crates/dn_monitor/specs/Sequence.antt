use Rattle.std.specs.Prelude.{◌≡◌, ℕ, ◌+◌, ◌-◌, ◌^◌, ◌==◌, List, Option, Some, None, nat_lt, slice_index, if◌then◌else◌}
use Rattle.dn_word.specs.Gate.{gate_of}
use Rattle.dn_word.specs.Deed.{deed_of}
use Rattle.dn_word.specs.Format.{format_word}
use Rattle.dn_word.specs.declared.packed.gate.Gate.{Gate}
use Rattle.dn_word.specs.declared.packed.deed.DeedState.{DeedState}
use Rattle.dn_word.specs.declared.packed.deed.DeedState.TheVariants.{Nobody, Owned, Leaving, Released}
use Rattle.dn_act.specs.declared.actions.Action.{Action}
use Rattle.dn_act.specs.declared.actions.Action.TheVariants.{Load}
use Rattle.dn_model.specs.Regions.{gate_at, mark_at, deed_at}
use Rattle.dn_model.specs.Program.{Program, Return, ◌>>=◌, load, store, cas, or, Turn, Goes, Ends, Runs}
use Rattle.dn_monitor.specs.Grant.{granted_word, leaving_word}
use Rattle.dn_monitor.specs.Monitor.{Monitoring, is_lane, slot_in, heir_of, monitor_next, monitor_turn, monitor_after}
use Rattle.dn_monitor.specs.declared.orders.Order.{Order}
use Rattle.dn_monitor.specs.declared.orders.Order.TheVariants as order
use Rattle.dn_monitor.specs.declared.orders.MonitorAnswer.{MonitorAnswer}
use Rattle.dn_monitor.specs.declared.orders.MonitorAnswer.TheVariants.{Formatted, Looked, Granted, Barred, Taken, Held, Waiting, NotFenced, Worn}
use Rattle.dn_monitor.specs.declared.orders.MonitorTurn.{MonitorTurn}
use Rattle.dn_monitor.specs.declared.orders.MonitorTurn.TheVariants.{More, Answered}
use Rattle.dn_monitor.specs.declared.places.Errand.{Errand}
use Rattle.dn_monitor.specs.declared.places.Errand.TheVariants.{Move, Takeover}
use Rattle.dn_monitor.specs.declared.places.MonitorPlace.{MonitorPlace}
use Rattle.dn_monitor.specs.declared.places.MonitorPlace.TheVariants as at

-- An order as programs. One that may wait, or whose exchange may find another word, has a program a round.

-- where a round begins: at a slot; or where the mark was behind, at its load, with the deed and the gate that were
-- loaded
pub data Round : Type 0 where
  Begin : Errand → Round
  Await : Errand → ℕ → Gate → Round

-- how a round ends: with the order's last answer; with another answer and a further round; with a further round alone
pub data RoundEnd : Type 0 where
  Over : MonitorAnswer → RoundEnd
  Tells : MonitorAnswer → Round → RoundEnd
  Again : Round → RoundEnd

-- ---- a grant
-- the slot is granted: that is a move's end; a takeover goes on with the next slot
abbrev pub next_slot : ℕ → ℕ → ℕ → RoundEnd
next_slot lane slot n = if slot == 63 then Over (Taken n) else Again (Begin (Takeover lane (slot + 1) n))

abbrev pub after_grant : Errand → ℕ → RoundEnd
after_grant (Move slot to) new = Over (Granted new)
after_grant (Takeover lane slot n) new = next_slot lane slot (n + 1)

-- the exchange for this deed
abbrev pub exchange : Errand → ℕ → ℕ → Program RoundEnd
exchange errand deed new =
    cas (deed_at (slot_in errand)) deed new >>= λ found.
    if found == deed then Return (after_grant errand new) else Return (Again (Begin errand))

-- a deed of the last epoch isn't granted
abbrev pub grant : ℕ → Errand → ℕ → Option Gate → Program RoundEnd
grant heir errand deed gate =
    if (deed_of deed).epoch == 2 ^ 23 - 1
    then Return (Over (Worn (deed_of deed).epoch))
    else exchange errand deed (granted_word deed gate heir)

-- it follows a mark that is not below the length of the log
abbrev pub await : ℕ → Errand → ℕ → Gate → Program RoundEnd
await heir errand deed gate =
    load (mark_at (deed_of deed).lane) >>= λ mark.
    if nat_lt mark gate.len
    then Return (Tells (Waiting mark gate.len) (Await errand deed gate))
    else grant heir errand deed (Some gate)

-- ---- a slot that is moved
-- a lane that leaves has the slot until it has given it up or is fenced
abbrev pub leave : ℕ → ℕ → ℕ → Program RoundEnd
leave slot to deed =
    load (gate_at (deed_of deed).lane) >>= λ gate.
    if (gate_of gate).fenced
    then await to (Move slot to) deed (gate_of gate)
    else Return (Tells (Held deed) (Begin (Move slot to)))

-- one that has given it up seals nothing more for it
abbrev pub left : ℕ → ℕ → ℕ → Program RoundEnd
left slot to deed = load (gate_at (deed_of deed).lane) >>= λ gate. await to (Move slot to) deed (gate_of gate)

-- another lane that owns it is asked to leave
abbrev pub ask : ℕ → ℕ → ℕ → Program RoundEnd
ask slot to deed = cas (deed_at slot) deed (leaving_word deed) >>= λ found. Return (Again (Begin (Move slot to)))

-- where a lane that leaves or has left isn't from 1 to 63, there is none to wait for
abbrev pub yield : ℕ → ℕ → ℕ → Program RoundEnd → Program RoundEnd
yield slot to deed behind = if is_lane (deed_of deed).lane then behind else grant to (Move slot to) deed None

-- by the deed's state
abbrev pub by_state : ℕ → ℕ → ℕ → DeedState → Program RoundEnd
by_state slot to deed Nobody = grant to (Move slot to) deed None
by_state slot to deed Owned = if (deed_of deed).lane == to then Return (Over (Granted deed)) else ask slot to deed
by_state slot to deed Leaving = yield slot to deed (leave slot to deed)
by_state slot to deed Released = yield slot to deed (left slot to deed)

abbrev pub move : ℕ → ℕ → Program RoundEnd
move slot to = load (deed_at slot) >>= λ deed. by_state slot to deed (deed_of deed).state

-- ---- a slot of a takeover
-- a deed that names the lane is granted, once the lane is fenced
abbrev pub take : ℕ → ℕ → ℕ → ℕ → ℕ → Program RoundEnd
take heir lane slot n deed =
    load (gate_at lane) >>= λ gate.
    if (gate_of gate).fenced
    then await heir (Takeover lane slot n) deed (gate_of gate)
    else Return (Over (NotFenced gate))

abbrev pub takeover : ℕ → ℕ → ℕ → ℕ → Program RoundEnd
takeover heir lane slot n =
    load (deed_at slot) >>= λ deed.
    if (deed_of deed).lane == lane then take heir lane slot n deed else Return (next_slot lane slot n)

-- ---- the orders
-- a round, by the lanes that a takeover gives the slots to
abbrev pub round : List ℕ → Round → Program RoundEnd
round heirs (Begin (Move slot to)) = move slot to
round heirs (Begin (Takeover lane slot n)) = takeover (slice_index heirs slot) lane slot n
round heirs (Await errand deed gate) = await (heir_of heirs errand) errand deed gate

-- an order, up to the end of its first round
abbrev pub sequence : List ℕ → Order → Program RoundEnd
sequence heirs (order.Format segments) =
    store 0 (format_word (record { segments = segments; number = 1 })) >>= λ old. Return (Over (Formatted old))
sequence heirs (order.Look slot) = load (deed_at slot) >>= λ deed. Return (Over (Looked deed))
sequence heirs (order.Move slot to) = round heirs (Begin (Move slot to))
sequence heirs (order.Fence lane) = or (gate_at lane) (2 ^ 63) >>= λ old. Return (Over (Barred old))
sequence heirs (order.Takeover lane) = round heirs (Begin (Takeover lane 0 0))

-- ---- the monitor as a machine
-- where a round begins
abbrev pub place_of : Round → MonitorPlace
place_of (Begin errand) = at.Deed errand
place_of (Await errand deed gate) = at.Mark errand deed gate

-- a turn: the round goes on, or has ended; one that goes on without an answer ends at the load of a deed alone
abbrev pub turn_at : MonitorTurn → Monitoring → MonitorPlace → Turn Monitoring RoundEnd
turn_at More m (at.Deed errand) = Ends (Again (Begin errand))
turn_at (Answered answer) m (at.Deed errand) = Ends (Tells answer (Begin errand))
turn_at (Answered answer) m (at.Mark errand deed gate) = Ends (Tells answer (Await errand deed gate))
turn_at (Answered answer) m at.Done = Ends (Over answer)
turn_at turn m place = Goes m

abbrev pub monitor_taken : Monitoring → ℕ → Turn Monitoring RoundEnd
monitor_taken m word = turn_at (monitor_turn m word) (monitor_after m word) (monitor_after m word).place

-- the next action of a monitor that has one
abbrev pub action_in : Option Action → Action
action_in None = Load 0
action_in (Some action) = action

abbrev pub next_of : Monitoring → Action
next_of m = action_in (monitor_next m)

-- from here the monitor runs this program to its end
pub record CarriesOut (m : Monitoring) (program : Program RoundEnd) : Type 0 where
  pub runs : Runs next_of monitor_taken program (Goes m)

-- where the monitor is at the beginning of a round, it runs that round
abbrev pub CarriesOutRounds : Monitoring → Type 0
CarriesOutRounds m = (r : Round) → m.place ≡ place_of r → CarriesOut m (round m.heirs r)
