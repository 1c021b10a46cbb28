use Rattle.std.specs.Prelude.{ℕ, ◌-◌, Bool, true, false, List, Option, Some, None, not, length, slice_get}
use Rattle.dn_hist.specs.declared.receipts.Receipt.{Receipt}
use Rattle.dn_callers.specs.Callers.{Standing}
use Rattle.dn_outcomes.specs.State.{World, Done}
use Rattle.dn_outcomes.specs.Told.{is_made_by}
use Rattle.dn_outcomes.specs.declared.events.Event.{Event}
use Rattle.dn_outcomes.specs.declared.events.Event.TheVariants.{Refresh}
use Rattle.dn_outcomes.specs.declared.outcomes.Outcome.{Outcome}
use Rattle.dn_outcomes.specs.declared.outcomes.Outcome.TheVariants.{Acted, Answered, GivenUp}
use Rattle.dn_waiting.specs.State.{call_of}
use Rattle.dn_waiting.specs.declared.calls.OpenCall.{OpenCall}
use Rattle.dn_waiting.specs.declared.calls.Place.{Place}
use Rattle.dn_waiting.specs.declared.calls.Place.TheVariants.{Loading}

-- What is kept of an event: its outcome; the receipt that came to stand by it, if one did; and whether it refused an attempt of
-- a call.
pub record Happening : Type 0 where
  pub event : Event
  pub outcome : Outcome
  pub receipt : Option Receipt
  pub refused : Bool

-- ---- the receipt is the last that stands, where a call was made
abbrev pub makes_call : Outcome → Bool
makes_call (Answered s number answer given) = is_made_by answer
makes_call other = false

abbrev pub receipt_of : Option Standing → Option Receipt
receipt_of None = None
receipt_of (Some x) = Some x.receipt

abbrev pub receipt_if : Bool → List Standing → Option Receipt
receipt_if false receipts = None
receipt_if true receipts = receipt_of (slice_get receipts (length receipts - 1))

-- ---- the deed of a session's call is to be loaded
abbrev pub is_loading : Place → Bool
is_loading (Loading named) = true
is_loading other = false

abbrev pub loads_of : Option OpenCall → Bool
loads_of None = false
loads_of (Some c) = is_loading c.place

abbrev pub loads : World → ℕ → Bool
loads w s = loads_of (call_of w.waiting s)

-- ---- An attempt is refused by an answer that isn't Made, or by a load that leaves its call without a lane to go to: the call is
-- given up, or its deed is to be loaded again.
abbrev pub refuses_load : World → Event → Bool
refuses_load w (Refresh s) = loads w s
refuses_load w other = false

abbrev pub refuses : World → Event → Outcome → Bool
refuses w e Acted = refuses_load w e
refuses w e (Answered s number answer given) = not (is_made_by answer)
refuses w e (GivenUp s number) = true
refuses w e other = false

abbrev pub happening : Event → Done → Happening
happening e d = record {
  event = e;
  outcome = d.outcome;
  receipt = receipt_if (makes_call d.outcome) d.world.machine.callers.receipts;
  refused = refuses d.world e d.outcome;
}
