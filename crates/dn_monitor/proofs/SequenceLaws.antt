use Rattle.std.proofs.Common.{◌≡◌, ℕ, ◌+◌, ◌-◌, ◌^◌, ◌==◌, List, Option, Some, None, Bool, true, false, if◌then◌else◌, nat_lt, slice_index, refl, sym, ap, subst}
use Rattle.std.proofs.lemmas.Bool.{eqb-true}
use Rattle.dn_word.specs.Gate.{gate_of}
use Rattle.dn_word.specs.Deed.{deed_of, deed_word}
use Rattle.dn_word.specs.declared.packed.gate.Gate.{Gate}
use Rattle.dn_word.specs.declared.packed.deed.DeedState.{DeedState}
use Rattle.dn_word.specs.declared.packed.deed.DeedState.TheVariants.{Nobody, Owned, Leaving, Released}
use Rattle.dn_act.specs.declared.actions.Action.TheVariants.{Load}
use Rattle.dn_model.specs.Regions.{gate_at}
use Rattle.dn_model.specs.Program.{Program, Return, Turn, Goes, Runs}
use Rattle.dn_monitor.specs.Grant.{granted}
use Rattle.dn_monitor.specs.Monitor.{Monitoring, is_lane, heir_of, first_place, on, told, ended, granting, passed, won, by_gate, by_state as state_step}
use Rattle.dn_monitor.specs.Sequence.{Round, Begin, Await, RoundEnd, Over, Tells, Again, next_slot, after_grant, exchange, grant, await, leave, left, ask, by_state, move, take, takeover, round, sequence, place_of, turn_at, next_of, monitor_taken, CarriesOut, CarriesOutRounds}
use Rattle.dn_monitor.specs.declared.orders.Order.{Order}
use Rattle.dn_monitor.specs.declared.orders.Order.TheVariants as order
use Rattle.dn_monitor.specs.declared.orders.MonitorAnswer.TheVariants.{Granted, Taken, Held, Waiting, NotFenced, Worn}
use Rattle.dn_monitor.specs.declared.places.Errand.{Errand}
use Rattle.dn_monitor.specs.declared.places.Errand.TheVariants.{Move, Takeover}
use Rattle.dn_monitor.specs.declared.places.MonitorPlace.{MonitorPlace}
use Rattle.dn_monitor.specs.declared.places.MonitorPlace.TheVariants as at
use Rattle.dn_monitor.specs.declared.steps.MonitorStep.{MonitorStep}

abbrev Ran : Program RoundEnd → Turn Monitoring RoundEnd → Type 0
Ran program turn = Runs next_of monitor_taken program turn

-- a monitor at a place
abbrev monitoring : List ℕ → MonitorPlace → Monitoring
monitoring heirs place = record { heirs = heirs; place = place }

-- the turn that a step is
abbrev stepped : List ℕ → MonitorStep → Turn Monitoring RoundEnd
stepped heirs step = turn_at step.turn (monitoring heirs step.place) step.place

-- ---- a grant
passed_by : (heirs : List ℕ) (lane slot n : ℕ) (last : Bool)
    → Ran (Return (if last then Over (Taken n) else Again (Begin (Takeover lane (slot + 1) n))))
    (stepped heirs (if last then ended (Taken n) else on (at.Deed (Takeover lane (slot + 1) n))))
passed_by heirs lane slot n true = refl
passed_by heirs lane slot n false = refl

passed_run : (heirs : List ℕ) (lane slot n : ℕ) → Ran (Return (next_slot lane slot n)) (stepped heirs (passed lane slot n))
passed_run heirs lane slot n = passed_by heirs lane slot n (slot == 63)

won_run : (heirs : List ℕ) (errand : Errand) (deed : ℕ) (gate : Option Gate)
    → Ran (Return (after_grant errand (deed_word (granted (deed_of deed) gate (heir_of heirs errand))))) (stepped heirs (won errand deed gate))
won_run heirs (Move slot to) deed gate = refl
won_run heirs (Takeover lane slot n) deed gate = passed_run heirs lane slot (n + 1)

exchange_by : (heirs : List ℕ) (errand : Errand) (deed : ℕ) (gate : Option Gate) (same : Bool)
    → Ran (if same then Return (after_grant errand (deed_word (granted (deed_of deed) gate (heir_of heirs errand)))) else Return (Again (Begin errand)))
    (stepped heirs (if same then won errand deed gate else on (at.Deed errand)))
exchange_by heirs errand deed gate true = won_run heirs errand deed gate
exchange_by heirs errand deed gate false = refl

exchange_run : (heirs : List ℕ) (errand : Errand) (deed : ℕ) (gate : Option Gate)
    → Ran (exchange errand deed (deed_word (granted (deed_of deed) gate (heir_of heirs errand)))) (Goes (monitoring heirs (at.Grant errand deed gate)))
exchange_run heirs errand deed gate =
    (monitoring heirs (at.Grant errand deed gate), refl, refl, λ found. exchange_by heirs errand deed gate (found == deed))

grant_by : (heirs : List ℕ) (errand : Errand) (deed : ℕ) (gate : Option Gate) (last : Bool)
    → Ran (if last then Return (Over (Worn (deed_of deed).epoch)) else exchange errand deed (deed_word (granted (deed_of deed) gate (heir_of heirs errand))))
    (stepped heirs (if last then ended (Worn (deed_of deed).epoch) else on (at.Grant errand deed gate)))
grant_by heirs errand deed gate true = refl
grant_by heirs errand deed gate false = exchange_run heirs errand deed gate

grant_run : (heirs : List ℕ) (errand : Errand) (deed : ℕ) (gate : Option Gate)
    → Ran (grant (heir_of heirs errand) errand deed gate) (stepped heirs (granting errand deed gate))
grant_run heirs errand deed gate = grant_by heirs errand deed gate ((deed_of deed).epoch == 2 ^ 23 - 1)

-- ---- the wait for the mark
await_by : (heirs : List ℕ) (errand : Errand) (deed : ℕ) (gate : Gate) (mark : ℕ) (below : Bool)
    → Ran (if below then Return (Tells (Waiting mark gate.len) (Await errand deed gate)) else grant (heir_of heirs errand) errand deed (Some gate))
    (stepped heirs (if below then told (at.Mark errand deed gate) (Waiting mark gate.len) else granting errand deed (Some gate)))
await_by heirs errand deed gate mark true = refl
await_by heirs errand deed gate mark false = grant_run heirs errand deed (Some gate)

await_run : (heirs : List ℕ) (errand : Errand) (deed : ℕ) (gate : Gate)
    → Ran (await (heir_of heirs errand) errand deed gate) (Goes (monitoring heirs (at.Mark errand deed gate)))
await_run heirs errand deed gate =
    (monitoring heirs (at.Mark errand deed gate), refl, refl, λ mark. await_by heirs errand deed gate mark (nat_lt mark gate.len))

-- ---- a slot that is moved
held_by : (heirs : List ℕ) (slot to deed : ℕ) (gate : Gate) (fenced : Bool)
    → Ran (if fenced then await to (Move slot to) deed gate else Return (Tells (Held deed) (Begin (Move slot to))))
    (stepped heirs (if fenced then on (at.Mark (Move slot to) deed gate) else told (at.Deed (Move slot to)) (Held deed)))
held_by heirs slot to deed gate true = await_run heirs (Move slot to) deed gate
held_by heirs slot to deed gate false = refl

leave_run : (heirs : List ℕ) (slot to deed : ℕ) → (deed_of deed).state ≡ Leaving
    → Ran (leave slot to deed) (Goes (monitoring heirs (at.Gate (Move slot to) deed)))
leave_run heirs slot to deed e = (
  monitoring heirs (at.Gate (Move slot to) deed),
  refl,
  refl,
  λ word.
      let P : DeedState → Type 0 = λ s.
      Ran (if (gate_of word).fenced then await to (Move slot to) deed (gate_of word) else Return (Tells (Held deed) (Begin (Move slot to))))
      (stepped heirs (by_gate slot to deed (gate_of word) s)) in
      subst P (sym e) (held_by heirs slot to deed (gate_of word) (gate_of word).fenced),
)

left_run : (heirs : List ℕ) (slot to deed : ℕ) → (deed_of deed).state ≡ Released
    → Ran (left slot to deed) (Goes (monitoring heirs (at.Gate (Move slot to) deed)))
left_run heirs slot to deed e = (
  monitoring heirs (at.Gate (Move slot to) deed),
  refl,
  refl,
  λ word.
      let P : DeedState → Type 0 = λ s. Ran (await to (Move slot to) deed (gate_of word)) (stepped heirs (by_gate slot to deed (gate_of word) s)) in
      subst P (sym e) (await_run heirs (Move slot to) deed (gate_of word)),
)

-- a lane that leaves or has left, by whether it is one
yield_by : (heirs : List ℕ) (slot to deed : ℕ) (program : Program RoundEnd) (named : Bool) → Ran program (Goes (monitoring heirs (at.Gate (Move slot to) deed)))
    → Ran (if named then program else grant to (Move slot to) deed None)
    (stepped heirs (if named then on (at.Gate (Move slot to) deed) else granting (Move slot to) deed None))
yield_by heirs slot to deed program true h = h
yield_by heirs slot to deed program false h = grant_run heirs (Move slot to) deed None

ask_run : (heirs : List ℕ) (slot to deed : ℕ) → Ran (ask slot to deed) (Goes (monitoring heirs (at.Leave slot to deed)))
ask_run heirs slot to deed = (monitoring heirs (at.Leave slot to deed), refl, refl, λ found. refl)

owned_by : (heirs : List ℕ) (slot to deed : ℕ) (target : Bool)
    → Ran (if target then Return (Over (Granted deed)) else ask slot to deed) (stepped heirs (if target then ended (Granted deed) else on (at.Leave slot to deed)))
owned_by heirs slot to deed true = refl
owned_by heirs slot to deed false = ask_run heirs slot to deed

state_run : (heirs : List ℕ) (slot to deed : ℕ) (s : DeedState) → (deed_of deed).state ≡ s
    → Ran (by_state slot to deed s) (stepped heirs (state_step slot to deed s))
state_run heirs slot to deed Nobody e = grant_run heirs (Move slot to) deed None
state_run heirs slot to deed Owned e = owned_by heirs slot to deed ((deed_of deed).lane == to)
state_run heirs slot to deed Leaving e = yield_by heirs slot to deed (leave slot to deed) (is_lane (deed_of deed).lane) (leave_run heirs slot to deed e)
state_run heirs slot to deed Released e = yield_by heirs slot to deed (left slot to deed) (is_lane (deed_of deed).lane) (left_run heirs slot to deed e)

move_run : (heirs : List ℕ) (slot to : ℕ) → Ran (move slot to) (Goes (monitoring heirs (at.Deed (Move slot to))))
move_run heirs slot to =
    (monitoring heirs (at.Deed (Move slot to)), refl, refl, λ deed. state_run heirs slot to deed (deed_of deed).state refl)

-- ---- a slot of a takeover
fenced_by : (heirs : List ℕ) (lane slot n deed word : ℕ) (fenced : Bool)
    → Ran (if fenced then await (slice_index heirs slot) (Takeover lane slot n) deed (gate_of word) else Return (Over (NotFenced word)))
    (stepped heirs (if fenced then on (at.Mark (Takeover lane slot n) deed (gate_of word)) else ended (NotFenced word)))
fenced_by heirs lane slot n deed word true = await_run heirs (Takeover lane slot n) deed (gate_of word)
fenced_by heirs lane slot n deed word false = refl

take_run : (heirs : List ℕ) (lane slot n deed : ℕ) → (deed_of deed).lane ≡ lane
    → Ran (take (slice_index heirs slot) lane slot n deed) (Goes (monitoring heirs (at.Gate (Takeover lane slot n) deed)))
take_run heirs lane slot n deed e = (
  monitoring heirs (at.Gate (Takeover lane slot n) deed),
  refl,
  ap (λ l. Load (gate_at l)) e,
  λ word. fenced_by heirs lane slot n deed word (gate_of word).fenced,
)

named_by : (heirs : List ℕ) (lane slot n deed : ℕ) (named : Bool) → ((deed_of deed).lane == lane) ≡ named
    → Ran (if named then take (slice_index heirs slot) lane slot n deed else Return (next_slot lane slot n))
    (stepped heirs (if named then on (at.Gate (Takeover lane slot n) deed) else passed lane slot n))
named_by heirs lane slot n deed true e = take_run heirs lane slot n deed (eqb-true (deed_of deed).lane lane e)
named_by heirs lane slot n deed false e = passed_run heirs lane slot n

takeover_run : (heirs : List ℕ) (lane slot n : ℕ)
    → Ran (takeover (slice_index heirs slot) lane slot n) (Goes (monitoring heirs (at.Deed (Takeover lane slot n))))
takeover_run heirs lane slot n =
    (monitoring heirs (at.Deed (Takeover lane slot n)), refl, refl, λ deed. named_by heirs lane slot n deed ((deed_of deed).lane == lane) refl)

-- ---- the orders
round_run : (heirs : List ℕ) (r : Round) → Ran (round heirs r) (Goes (monitoring heirs (place_of r)))
round_run heirs (Begin (Move slot to)) = move_run heirs slot to
round_run heirs (Begin (Takeover lane slot n)) = takeover_run heirs lane slot n
round_run heirs (Await errand deed gate) = await_run heirs errand deed gate

-- a monitor at the beginning of a round runs it
pub rounds_run : (m : Monitoring) → CarriesOutRounds m
rounds_run m r e =
    let P : MonitorPlace → Type 0 = λ place. Ran (round m.heirs r) (Goes (monitoring m.heirs place)) in
    record { runs = subst P (sym e) (round_run m.heirs r) }

order_run : (heirs : List ℕ) (o : Order) → Ran (sequence heirs o) (Goes (monitoring heirs (first_place o)))
order_run heirs (order.Format segments) = (monitoring heirs (at.Format segments), refl, refl, λ old. refl)
order_run heirs (order.Look slot) = (monitoring heirs (at.Look slot), refl, refl, λ deed. refl)
order_run heirs (order.Move slot to) = move_run heirs slot to
order_run heirs (order.Fence lane) = (monitoring heirs (at.Fence lane), refl, refl, λ old. refl)
order_run heirs (order.Takeover lane) = takeover_run heirs lane 0 0

-- at its beginning a monitor runs its order
pub sequence_run : (heirs : List ℕ) (o : Order) → CarriesOut (record { heirs = heirs; place = first_place o }) (sequence heirs o)
sequence_run heirs o = record { runs = order_run heirs o }
