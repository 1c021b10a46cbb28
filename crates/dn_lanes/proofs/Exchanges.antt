use Rattle.std.proofs.Common.{ℕ, ◌^◌, ◌+◌, ◌==◌, ◌<◌, ◌≤◌, ◌≡◌, ◌≢◌, max, Bool, true, false, List, [], Option, Some, None, refl, sym, ◌∙◌, ap, subst, arith}
use Rattle.std.proofs.lemmas.Bool.Decides.{nat_tests}
use Rattle.dn_word.specs.Deed.{deed_of}
use Rattle.dn_word.specs.Gate.{gate_of}
use Rattle.dn_word.specs.Need.{greatest_of}
use Rattle.dn_word.specs.declared.packed.gate.Gate.{Gate}
use Rattle.dn_word.specs.declared.packed.place.Ref.{Ref}
use Rattle.dn_word.specs.declared.positions.Need.{Need}
use Rattle.dn_word.specs.declared.positions.Position.{Position}
use Rattle.dn_act.specs.Words.{word_at}
use Rattle.dn_act.specs.Action.{Performs}
use Rattle.dn_act.specs.declared.actions.Action.TheVariants.{Cas}
use Rattle.dn_hist.specs.declared.receipts.Receipt.{Receipt}
use Rattle.dn_model.specs.Regions.{gate_at, slot_of, IsLane}
use Rattle.dn_owners.specs.Known.{Look}
use Rattle.dn_owners.specs.Sound.{IsHeld}
use Rattle.dn_plan.specs.Plan.{need_of, sealing_word}
use Rattle.dn_plan.specs.declared.phases.Located.{Located}
use Rattle.dn_plan.specs.declared.phases.Raised.{Raised}
use Rattle.dn_plan.specs.declared.results.Ending.TheVariants as ending
use Rattle.dn_ask.specs.declared.asks.End.TheVariants as end
use Rattle.dn_lane.specs.Asked.{brief_of, call_in, view_in}
use Rattle.dn_lane.specs.Ends.{receipt_of, turn_by}
use Rattle.dn_lane.specs.State.{LaneState}
use Rattle.dn_lane.specs.declared.asked.Asked.{Asked}
use Rattle.dn_lane.specs.declared.asked.Asked.TheVariants as asked
use Rattle.dn_lane.specs.declared.base.Base.{Base}
use Rattle.dn_lane.specs.declared.modes.Going.TheVariants.{End}
use Rattle.dn_beside.specs.Pool.{Pool, store_in, IsWhole}
use Rattle.dn_beside.specs.Step.{IsStepBy, IsQuiet, by_lane}
use Rattle.dn_beside.proofs.Still.{learning_step}
use Rattle.dn_learnt.specs.Learning.{Learns}
use Rattle.dn_learnt.specs.Heeding.{look_by}
use Rattle.dn_reach.specs.Exchange.{IsExchanged}
use Rattle.dn_reach.specs.OwnLog.{HoldsLog}
use Rattle.dn_lanes.specs.Calls.{IsCalled, key_in, HasRaised}
use Rattle.dn_lanes.specs.Stepped.{receipt_by, IsOfCall, claims_in, ComesTo}
use Rattle.dn_lanes.proofs.Positions.{IsRaisedAt, raised_is}
use Rattle.dn_lanes.proofs.Ends.{HasDone, ends_so}

-- The exchange of a gate by a call that stands at a raised stamp.

-- ---- tests
pub agree : (m n : ℕ) → (m == n) ≡ true → m ≡ n
agree m n e = grind (arith, nat_tests, e)

pub differ : (m n : ℕ) → (m == n) ≡ false → m ≢ n
differ m n e s = grind (arith, nat_tests, e, s)

-- ---- no word changes
pub still_step : (p : Pool) (n : ℕ) → IsWhole p → IsStepBy (by_lane n) p p
still_step p n h = learning_step (by_lane n) p p.owners refl h (λ k. omega arith) (λ m d. refl) (λ f. refl)

pub still_quiet : (p : Pool) → IsQuiet p p
still_quiet p = record { held = λ k v pos h. h; promised = λ k. refl }

pub still_done : (p : Pool) (n : ℕ) (now : List ℕ) (g : Base) → IsWhole p → now ≡ p.words → HoldsLog p n g.known.log → Learns p n g.known → g.fetch.segments ≡ (store_in p).pool → HasDone p n now g p
still_done p n now g h same log learns fetch = record { words = sym same; by = still_step p n h; log = log; learns = learns; fetch = fetch }

-- ---- the gate is closed to the lane, or another one than it loaded
abbrev pub barred_by : Base → ℕ → Base
barred_by g word = record g { known = record g.known { barred = Some word } }

pub barred_done : (p q : Pool) (n : ℕ) (now : List ℕ) (g : Base) (word : ℕ) → HasDone p n now g q → HasDone p n now (barred_by g word) q
barred_done p q n now g word h = record {
  words = h.words;
  by = h.by;
  log = h.log;
  learns = record { running = h.learns.running; epochs = h.learns.epochs; counts = h.learns.counts; met = h.learns.met; pending = h.learns.pending };
  fetch = h.fetch;
}

pub fenced_untold : (a : Asked) (word : ℕ) → receipt_by (turn_by a (end.Call (ending.Fenced word))) ≡ None
fenced_untold asked.Nothing word = refl
fenced_untold (asked.Call call view value) word = refl
fenced_untold asked.Task word = refl

pub fenced_so : (p q : Pool) (n : ℕ) (l : LaneState) (now : List ℕ) (g : Base) (a : Asked) (word : ℕ) → HasDone p n now g q → IsQuiet p q → g.staging ≡ [] → (store_in q).segment_count ≤ (store_in p).segment_count + claims_in l.mode
    → ComesTo p n l now (record { going = End (end.Call (ending.Fenced word)); base = barred_by g word; asked = a })
fenced_so p q n l now g a word h quiet empty count =
    ends_so p q n l now (barred_by g word) a (end.Call (ending.Fenced word)) (barred_done p q n now g word h) quiet empty (fenced_untold a word) count

-- ---- the position at which the call stands
pub raised_at : (seen : Option Look) (n : ℕ) (a : Asked) (r : Raised) → HasRaised seen n a r → IsRaisedAt (need_of (brief_of n a) r.look) (gate_of r.gate).stamp r.to
raised_at seen n a r h = raised_is (need_of (brief_of n a) r.look) (gate_of r.gate).stamp r.to h.rule

last_low : (a : Asked) → IsCalled a → (view_in a).last.stamp < 2 ^ 31
last_low asked.Nothing h = absurd h
last_low (asked.Call call view value) h = h.1
last_low asked.Task h = absurd h

greatest_low : (look stamp last : ℕ) (need : Need) → need.floor ≡ (deed_of look).floor → need.last.stamp < 2 ^ 31 → greatest_of need (gate_of stamp).stamp < 2 ^ 31
greatest_low look stamp last need e lt = omega (arith, e, lt)

pub raised_low : (seen : Option Look) (n : ℕ) (a : Asked) (r : Raised) → HasRaised seen n a r → r.to.stamp < 2 ^ 31
raised_low seen n a r h = (raised_at seen n a r h).low (greatest_low r.look r.gate 0 (need_of (brief_of n a) r.look) refl (last_low a h.look.called))

-- ---- the exchange finds the gate that the call loaded
pub exchanges : (p : Pool) (n : ℕ) (a : Asked) (r : Raised) (len word : ℕ) (now : List ℕ) → HasRaised (p.owners.knows n).look n a r → word ≡ r.gate
    → Performs (Cas (gate_at n) r.gate (sealing_word r.to.stamp len)) word p.words now → IsExchanged p n r.gate r.to.stamp len now
exchanges p n a r len word now h e f = record {
  unfenced = h.clear;
  rises = omega (arith, (raised_at (p.owners.knows n).look n a r h).gate);
  low = raised_low (p.owners.knows n).look n a r h;
  performs = subst (λ w. Performs (Cas (gate_at n) r.gate (sealing_word r.to.stamp len)) w p.words now) e f;
}

-- which says what stands in the pool
pub gate_is : (p : Pool) (n old : ℕ) → IsWhole p → IsLane n → word_at p.words (gate_at n) ≡ old → gate_of old ≡ (store_in p).gates n
gate_is p n old h l e = ap gate_of (sym e) ∙ h.represents.table.gates n l.below

pub gate_clear : (p : Pool) (n : ℕ) (a : Asked) (r : Raised) → IsWhole p → IsLane n → HasRaised (p.owners.knows n).look n a r → word_at p.words (gate_at n) ≡ r.gate → ((store_in p).gates n).fenced ≡ false
gate_clear p n a r h l raised e = ap (λ (g : Gate). g.fenced) (sym (gate_is p n r.gate h l e)) ∙ raised.clear

-- so all that was promised of the key is behind the call
below_both : (promised floor stamp to : ℕ) → promised ≤ max floor stamp → floor < to → stamp < to → promised < to
below_both promised floor stamp to le f s = omega (arith, le, f, s)

pub raised_past : (p : Pool) (n : ℕ) (a : Asked) (r : Raised) → IsWhole p → IsLane n → HasRaised (p.owners.knows n).look n a r → word_at p.words (gate_at n) ≡ r.gate → p.owners.promised (key_in a) < r.to.stamp
raised_past p n a r h l raised e =
    let look : Look = look_by (slot_of (key_in a)) r.look in
    let held : IsHeld ((store_in p).deeds look.slot) n look = (h.sound.looks n).held look raised.look.looked (gate_clear p n a r h l raised e) in
    let at : IsRaisedAt (need_of (brief_of n a) r.look) (gate_of r.gate).stamp r.to = raised_at (p.owners.knows n).look n a r raised in
    below_both (p.owners.promised (key_in a)) ((store_in p).deeds look.slot).floor ((store_in p).gates ((store_in p).deeds look.slot).lane).stamp r.to.stamp
    (h.sound.stamps.each (key_in a)) (omega (arith, held.floor, at.floor))
    (omega (arith, ap (λ m. ((store_in p).gates m).stamp) held.names, ap (λ (g : Gate). g.stamp) (gate_is p n r.gate h l e), at.gate))

-- ---- the receipt of a call that is made
abbrev pub value_in : Asked → List ℕ
value_in asked.Nothing = []
value_in (asked.Call call view value) = value
value_in asked.Task = []

abbrev pub receipt_for : Asked → Position → Option Ref → Bool → Receipt
receipt_for a to place held = receipt_of (call_in a) (view_in a) (value_in a) to place held

pub made_told : (a : Asked) (to : Position) (place : Option Ref) (located : Located) → IsCalled a → receipt_by (turn_by a (end.Call (ending.Made to place located))) ≡ Some (receipt_for a to place located.held)
made_told asked.Nothing to place located h = absurd h
made_told (asked.Call call view value) to place located h = refl
made_told asked.Task to place located h = absurd h

pub made_of : (seen : Option Look) (n : ℕ) (l : LaneState) (r : Raised) (place : Option Ref) → HasRaised seen n l.asked r → IsOfCall l (receipt_for l.asked r.to place r.located.held)
made_of seen n l r place h = record { call = refl; number = refl; session = (raised_at seen n l.asked r h).session; later = (raised_at seen n l.asked r h).later }
