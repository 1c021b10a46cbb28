use Rattle.std.proofs.Common.{ℕ, ◌==◌, ◌<◌, ◌≡◌, inl, Bool, true, false, List, [], ◌∷◌, Contains, Some, if◌then◌else◌, refl, sym, ◌∙◌, ap, subst, arith}
use Rattle.std.proofs.lemmas.Bool.{false≢true}
use Rattle.std.proofs.lemmas.List.Elements.{Contains-append_right}
use Rattle.dn_word.specs.declared.packed.gate.Gate.{Gate}
use Rattle.dn_word.specs.declared.packed.place.Ref.{Ref}
use Rattle.dn_word.specs.declared.positions.Position.{Position}
use Rattle.dn_act.specs.Words.{word_at}
use Rattle.dn_act.specs.Action.{Performs}
use Rattle.dn_act.specs.declared.actions.Action.TheVariants.{Cas}
use Rattle.dn_record.specs.Record.{length_in_words, value_of}
use Rattle.dn_record.specs.declared.records.Record.{Record}
use Rattle.dn_hist.specs.Calls.{key_of}
use Rattle.dn_hist.specs.declared.calls.Call.{Call}
use Rattle.dn_hist.specs.declared.calls.Call.TheVariants.{Get, Put, Delete}
use Rattle.dn_hist.specs.declared.receipts.SessionView.{SessionView}
use Rattle.dn_log.specs.declared.plans.Plan.{Plan}
use Rattle.dn_log.specs.declared.staging.Staged.{Staged}
use Rattle.dn_model.specs.declared.logs.Placed.{Placed}
use Rattle.dn_model.specs.Held.{Says, record_at}
use Rattle.dn_model.specs.Regions.{gate_at, slot_of, IsLane}
use Rattle.dn_store.specs.Holding.{holds}
use Rattle.dn_known.specs.Sealed.{sealed_by as known_sealed}
use Rattle.dn_owners.specs.declared.plain.Pending.{Pending}
use Rattle.dn_owners.specs.Known.{Knows as OwnersKnow}
use Rattle.dn_owners.proofs.Logs.{ordered, head_has}
use Rattle.dn_pending.specs.declared.entries.Entry.{Entry}
use Rattle.dn_plan.specs.Fit.{IsWrite}
use Rattle.dn_plan.specs.Plan.{sealing_word, goes, ends, barred}
use Rattle.dn_plan.specs.declared.phases.Raised.{Raised}
use Rattle.dn_plan.specs.declared.phases.SealPhase.TheVariants as sealing
use Rattle.dn_plan.specs.declared.results.Ending.TheVariants as ending
use Rattle.dn_ask.specs.Ask.{call_step}
use Rattle.dn_ask.specs.declared.asks.End.TheVariants as end
use Rattle.dn_ask.specs.declared.asks.Seal.TheVariants as seal
use Rattle.dn_services.specs.Sealing.{next_of as seal_next}
use Rattle.dn_services.specs.Spelled.{call_words}
use Rattle.dn_services.specs.declared.seals.Seal.{Seal}
use Rattle.dn_services.specs.declared.seals.SealTurn.TheVariants as turn
use Rattle.dn_lane.specs.Asked.{brief_of, kind_of, call_in}
use Rattle.dn_lane.specs.Ends.{receipt_of}
use Rattle.dn_lane.specs.State.{LaneState}
use Rattle.dn_lane.specs.Taken.{by, entered, sealed_by, taken_by}
use Rattle.dn_lane.specs.declared.asked.Asked.{Asked}
use Rattle.dn_lane.specs.declared.asked.Asked.TheVariants as asked
use Rattle.dn_lane.specs.declared.base.Base.{Base}
use Rattle.dn_lane.specs.declared.modes.Mode.TheVariants as mode
use Rattle.dn_beside.specs.Pool.{Pool, store_in, IsWhole}
use Rattle.dn_learnt.specs.Learning.{Heeds, Learns}
use Rattle.dn_learnt.specs.Heeding.{look_by}
use Rattle.dn_learnt.proofs.Asks.{entry_has}
use Rattle.dn_learnt.proofs.Lessons.{heeds_more}
use Rattle.dn_reach.specs.Exchange.{IsExchanged}
use Rattle.dn_reach.specs.OwnLog.{IsLaneOf}
use Rattle.dn_reach.specs.Placing.{plan_for, placed_by, pads_of}
use Rattle.dn_reach.specs.Sealing.{MaySeal}
use Rattle.dn_reach.specs.Steps.{after_seal}
use Rattle.dn_reach.proofs.Gates.{missed}
use Rattle.dn_reach.proofs.Seals.{seal_step, seal_log, seal_key, seal_others, seal_gate, seal_logs, seal_knows}
use Rattle.dn_receipts.specs.Joined.{IsEffect}
use Rattle.dn_receipts.specs.Sealing.{record_of}
use Rattle.dn_lanes.specs.Calls.{key_in, HasRaised}
use Rattle.dn_lanes.specs.Lane.{IsLaneAt}
use Rattle.dn_lanes.specs.Stepped.{ComesTo}
use Rattle.dn_lanes.proofs.Called.{is_call, call_record, call_plain, call_key}
use Rattle.dn_lanes.proofs.Ends.{HasDone, IsMaking, goes_so, made_so}
use Rattle.dn_lanes.proofs.Rooms.{call_count}
use Rattle.dn_lanes.proofs.Exchanges.{agree, differ, still_quiet, still_done, fenced_so, raised_at, exchanges, gate_clear, raised_past, receipt_for, made_told, made_of}
use Rattle.dn_lanes.proofs.Flowing.{HasFlowed, flows}

-- A put or delete is sealed: its words flow, and then the lane's gate is exchanged.

abbrev pub sealing_lane : Base → Asked → Raised → Seal → LaneState
sealing_lane g a r s = record { base = g; asked = a; mode = mode.Sealing (seal.Call (sealing.Write r)) s }

-- ---- what is sealed
abbrev seal_for : Asked → Raised → Seal
seal_for a r = record { key = key_in a; words = length_in_words (record_of (call_in a)); gate = r.gate; stamp = r.to.stamp }

abbrev plan_at : Base → Asked → Plan
plan_at g a = plan_for g.known.log (record_of (call_in a))

abbrev place_at : Base → Asked → Ref
place_at g a = record { lane = g.known.log.lane; offset = (plan_at g a).at }

-- what the lane has then
abbrev sealed_base : Base → Asked → Base
sealed_base g a = record g { known = known_sealed g.known (plan_at g a) (Some (key_in a)); staging = [] }

-- ---- what a put or delete leaves
pub record IsSealedAt (p q : Pool) (call : Call) (to : Position) (place : Ref) : Type 0 where
  pub held : holds (store_in q) (key_of call) ≡ Says (value_of (record_of call))
  pub sealed : record_at (store_in q).logs (Some place) ≡ Some (record_of call)
  pub past : p.owners.promised (key_of call) < to.stamp
  pub first : to.rank ≡ 0

written_of : (p q : Pool) (call : Call) (view : SessionView) (value : List ℕ) (to : Position) (place : Ref) (held : Bool) → IsWrite (kind_of call) → IsSealedAt p q call to place
    → IsEffect p q (receipt_of call view value to (Some place) held) call
written_of p q (Get key) view value to place held is h = absurd is
written_of p q (Put key bytes) view value to place held is h = (record { held = h.held; sealed = h.sealed; past = h.past; first = h.first }, refl)
written_of p q (Delete key) view value to place held is h = (record { held = h.held; sealed = h.sealed; past = h.past; first = h.first }, refl)

written_by : (p q : Pool) (a : Asked) (to : Position) (place : Ref) (held : Bool) → IsWrite (brief_of 0 a).kind → IsSealedAt p q (call_in a) to place → IsEffect p q (receipt_for a to (Some place) held) (call_in a)
written_by p q asked.Nothing to place held is h = absurd is
written_by p q (asked.Call call view value) to place held is h = written_of p q call view value to place held is h
written_by p q asked.Task to place held is h = absurd is

-- ---- the exchange is done
pub record IsSealedBy (p : Pool) (g : Base) (a : Asked) (r : Raised) (word : ℕ) (now : List ℕ) : Type 0 where
  pub whole : IsWhole p
  pub lane : IsLane g.known.log.lane
  pub raised : HasRaised (p.owners.knows g.known.log.lane).look g.known.log.lane a r
  pub write : IsWrite (brief_of 0 a).kind
  pub found : word_at p.words (gate_at g.known.log.lane) ≡ r.gate
  pub of : IsLaneOf p g.known.log.lane g.known.log
  pub learns : Learns p g.known.log.lane g.known
  pub may : MaySeal p g.known.log.lane g.known.log (key_in a) (record_of (call_in a))
  pub exchanged : IsExchanged p g.known.log.lane r.gate r.to.stamp (plan_at g a).len now

abbrev after : Pool → Base → Asked → Raised → List ℕ → Pool
after p g a r now = after_seal p g.known.log.lane g.known.log (record_of (call_in a)) r.to.stamp now

-- its record stands in the log
seal_placed : (p : Pool) (g : Base) (a : Asked) (r : Raised) (word : ℕ) (now : List ℕ) → IsSealedBy p g a r word now → record_at (store_in (after p g a r now)).logs (Some (place_at g a)) ≡ Some (record_of (call_in a))
seal_placed p g a r word now h =
    let n : ℕ = g.known.log.lane in
    let q : Pool = after p g a r now in
    let of : Record = record_of (call_in a) in
    let plan : Plan = plan_at g a in
    let here : Placed = record { offset = plan.at; entry = of } in
    let whole : IsWhole q = (seal_step p n g.known.log (key_in a) of r.gate r.to.stamp now h.of h.may h.exchanged).whole in
    let new : Contains (placed_by plan of) here = Contains-append_right (pads_of plan.pad) (here ∷ []) here (head_has here []) in
    let all : Contains ((store_in q).logs n) here =
    subst (λ (xs : List Placed). Contains xs here) (sym (seal_logs p n g.known.log of r.to.stamp now)) (Contains-append_right ((store_in p).logs n) (placed_by plan of) here new) in
    entry_has 0 ((store_in q).logs n) here ((ordered q.words q.chains q.owners.store whole.represents).rise n) all

seal_learns : (p : Pool) (g : Base) (a : Asked) (r : Raised) (word : ℕ) (now : List ℕ) → IsSealedBy p g a r word now → Learns (after p g a r now) g.known.log.lane (sealed_base g a).known
seal_learns p g a r word now h =
    let n : ℕ = g.known.log.lane in
    let one : Entry = record { key = key_in a; at = (plan_at g a).at } in
    let more : Pending = record { key = key_in a; offset = (plan_at g a).at } in
    subst (λ (v : OwnersKnow). Heeds v (store_in p).deeds n (sealed_base g a).known) (sym (seal_knows p n g.known.log (key_in a) (record_of (call_in a)) r.to.stamp now h.may))
    (heeds_more (p.owners.knows n) (store_in p).deeds n g.known (sealed_base g a).known (more ∷ []) (one ∷ []) refl refl refl refl h.learns)

seal_making : (p : Pool) (g : Base) (a : Asked) (r : Raised) (word : ℕ) (now : List ℕ) → IsSealedBy p g a r word now
    → IsMaking p (after p g a r now) g.known.log.lane (receipt_for a r.to (Some (place_at g a)) r.located.held) (look_by (slot_of (key_in a)) r.look)
seal_making p g a r word now h =
    let n : ℕ = g.known.log.lane in
    let q : Pool = after p g a r now in
    let of : Record = record_of (call_in a) in
    let past : p.owners.promised (key_in a) < r.to.stamp = raised_past p n a r h.whole h.lane h.raised h.found in
    let stamp : ((store_in q).gates n).stamp ≡ r.to.stamp = ap (λ (x : Gate). x.stamp) (seal_gate p n g.known.log of r.to.stamp now) in
    record {
      looks = ap (λ (v : OwnersKnow). v.look) (seal_knows p n g.known.log (key_in a) of r.to.stamp now h.may) ∙ h.raised.look.looked;
      slot = refl;
      clear = ap (λ (x : Gate). x.fenced) (seal_gate p n g.known.log of r.to.stamp now);
      most = omega (arith, stamp);
      least = omega (arith, past);
      held = λ k v pos d e. seal_others p n g.known.log (key_in a) of r.gate r.to.stamp now k v h.of h.may h.exchanged d e;
      promised = λ k. refl;
      effect = written_by p q a r.to (place_at g a) r.located.held h.write (record {
        held = seal_key p n g.known.log (key_in a) of r.gate r.to.stamp now h.of h.may h.exchanged;
        sealed = seal_placed p g a r word now h;
        past = past;
        first = (raised_at (p.owners.knows n).look n a r h.raised).first;
      });
    }

seal_done : (p : Pool) (g : Base) (a : Asked) (r : Raised) (word : ℕ) (now : List ℕ) → IsSealedBy p g a r word now → g.fetch.segments ≡ (store_in p).pool → HasDone p g.known.log.lane now (sealed_base g a) (after p g a r now)
seal_done p g a r word now h fetch =
    let n : ℕ = g.known.log.lane in
    let of : Record = record_of (call_in a) in
    record {
      words = refl;
      by = seal_step p n g.known.log (key_in a) of r.gate r.to.stamp now h.of h.may h.exchanged;
      log = seal_log p n g.known.log (key_in a) of r.gate r.to.stamp now h.of h.may h.exchanged;
      learns = seal_learns p g a r word now h;
      fetch = fetch;
    }

-- ---- what the lane knows before it
pub record IsFlowedAt (p : Pool) (g : Base) (a : Asked) (r : Raised) : Type 0 where
  pub whole : IsWhole p
  pub lane : IsLane g.known.log.lane
  pub is : IsLaneAt g.known.log.lane (sealing_lane (record g { staging = [] }) a r (seal_for a r)) p

sealed_so : (p : Pool) (g : Base) (a : Asked) (r : Raised) (word : ℕ) (now : List ℕ) → IsFlowedAt p g a r → word ≡ r.gate
    → Performs (Cas (gate_at g.known.log.lane) r.gate (sealing_word r.to.stamp (plan_at g a).len)) word p.words now → IsSealedBy p g a r word now
sealed_so p g a r word now h e f =
    let n : ℕ = g.known.log.lane in
    let call : Call = call_in a in
    let raised : HasRaised (p.owners.knows n).look n a r = h.is.at.raised in
    let found : word_at p.words (gate_at n) ≡ r.gate = sym f.answer ∙ e in
    record {
      whole = h.whole;
      lane = h.lane;
      raised = raised;
      write = h.is.at.write;
      found = found;
      of = record { whole = h.whole; lane = h.lane; own = h.is.log };
      learns = h.is.learns;
      may = record {
        may = record {
          spelled = call_record call (is_call a raised.look.called);
          plain = call_plain call;
          key = call_key call;
          room = h.is.at.room;
          look = look_by (slot_of (key_in a)) r.look;
          looked = raised.look.looked;
          slot = refl;
        };
        flowed = (h.is.knows (gate_clear p n a r h.whole h.lane raised found)).1;
      };
      exchanged = exchanges p n a r (plan_at g a).len word now raised e f;
    }

-- ---- either way
true_by : (p : Pool) (g : Base) (a : Asked) (r : Raised) (word : ℕ) (now : List ℕ) (b : Bool) → (word == r.gate) ≡ b → (word == r.gate) ≡ true → IsFlowedAt p g a r
    → Performs (Cas (gate_at g.known.log.lane) r.gate (sealing_word r.to.stamp (plan_at g a).len)) word p.words now
    → ComesTo p g.known.log.lane (sealing_lane (record g { staging = [] }) a r (seal_for a r)) now
    (by a (entered (sealed_base g a) a (call_step (if b then goes (ends (ending.Made r.to (Some (place_at g a)) r.located)) else barred word))))
true_by p g a r word now true e t h f =
    let n : ℕ = g.known.log.lane in
    let l : LaneState = sealing_lane (record g { staging = [] }) a r (seal_for a r) in
    let s : IsSealedBy p g a r word now = sealed_so p g a r word now h (agree word r.gate t) f in
    made_so p (after p g a r now) n l now (sealed_base g a) a (end.Call (ending.Made r.to (Some (place_at g a)) r.located)) (receipt_for a r.to (Some (place_at g a)) r.located.held)
    (look_by (slot_of (key_in a)) r.look) (seal_done p g a r word now s h.is.fetch) refl (made_told a r.to (Some (place_at g a)) r.located s.raised.look.called)
    (made_of (p.owners.knows n).look n l r (Some (place_at g a)) s.raised) (seal_making p g a r word now s) (omega arith)
true_by p g a r word now false e t h f = absurd (false≢true (sym e ∙ t))

false_by : (p : Pool) (g : Base) (a : Asked) (r : Raised) (word : ℕ) (now : List ℕ) (b : Bool) → (word == r.gate) ≡ b → (word == r.gate) ≡ false → IsFlowedAt p g a r
    → Performs (Cas (gate_at g.known.log.lane) r.gate (sealing_word r.to.stamp (plan_at g a).len)) word p.words now
    → ComesTo p g.known.log.lane (sealing_lane (record g { staging = [] }) a r (seal_for a r)) now
    (by a (entered (record g { staging = [] }) a (call_step (if b then goes (ends (ending.Made r.to (Some (place_at g a)) r.located)) else barred word))))
false_by p g a r word now true e t h f = absurd (false≢true (sym t ∙ e))
false_by p g a r word now false e t h f =
    let n : ℕ = g.known.log.lane in
    let same : now ≡ p.words = missed p.words now (gate_at n) r.gate (sealing_word r.to.stamp (plan_at g a).len) word f (differ word r.gate t) in
    fenced_so p p n (sealing_lane (record g { staging = [] }) a r (seal_for a r)) now (record g { staging = [] }) a word
    (still_done p n now (record g { staging = [] }) h.whole same h.is.log h.is.learns h.is.fetch) (still_quiet p) refl (omega arith)

exchanged_by : (p : Pool) (g : Base) (a : Asked) (r : Raised) (word : ℕ) (now : List ℕ) (b : Bool) → (word == r.gate) ≡ b → IsFlowedAt p g a r
    → Performs (Cas (gate_at g.known.log.lane) r.gate (sealing_word r.to.stamp (plan_at g a).len)) word p.words now
    → ComesTo p g.known.log.lane (sealing_lane (record g { staging = [] }) a r (seal_for a r)) now
    (by a (sealed_by (record g { known = if b then known_sealed g.known (plan_at g a) (Some (key_in a)) else g.known; staging = [] }) a (seal.Call (sealing.Write r)) (seal_for a r) word
    (if b then turn.Sealed (place_at g a) else turn.Shut (place_at g a))))
exchanged_by p g a r word now true e h f = true_by p g a r word now (word == r.gate) refl e h f
exchanged_by p g a r word now false e h f = false_by p g a r word now (word == r.gate) refl e h f

-- ---- the phase
abbrev Comes : Pool → Base → Asked → Raised → ℕ → List ℕ → Seal → Type 0
Comes p g a r word now s = IsLaneAt g.known.log.lane (sealing_lane g a r s) p → Performs (seal_next g.known s g.staging) word p.words now
    → ComesTo p g.known.log.lane (sealing_lane g a r s) now (taken_by g a (mode.Sealing (seal.Call (sealing.Write r)) s) word)

seals_empty : (p : Pool) (g : Base) (a : Asked) (r : Raised) (word : ℕ) (now : List ℕ) → IsWhole p → IsLane g.known.log.lane → Comes p (record g { staging = [] }) a r word now (seal_for a r)
seals_empty p g a r word now h lane is f = exchanged_by p g a r word now (word == r.gate) refl (record { whole = h; lane = lane; is = is }) f

seal_is : (a : Asked) (r : Raised) (s : Seal) → IsWrite (brief_of 0 a).kind → s ≡ record { key = key_in a; words = call_words (call_in a); gate = r.gate; stamp = r.to.stamp } → s ≡ seal_for a r
seal_is a r s write e = e ∙ ap (λ m. (let t : Seal = record { key = key_in a; words = m; gate = r.gate; stamp = r.to.stamp } in t)) (call_count (call_in a) write)

seals_on : (p : Pool) (g : Base) (a : Asked) (r : Raised) (s : Seal) (w : Staged) (ws : List Staged) (word : ℕ) (now : List ℕ) → IsWhole p → IsLane g.known.log.lane → Comes p (record g { staging = w ∷ ws }) a r word now s
seals_on p g a r s w ws word now h lane is f =
    let n : ℕ = g.known.log.lane in
    let d : HasFlowed p n now (record g { staging = ws }) a (mode.Sealing (seal.Call (sealing.Write r)) s) = flows p (record g { staging = w ∷ ws }) a r s 0 w word now h lane is refl f in
    goes_so p d.q n (sealing_lane (record g { staging = w ∷ ws }) a r s) now (record g { staging = ws }) a (mode.Sealing (seal.Call (sealing.Write r)) s) d.done d.quiet d.lane.at d.lane.knows
    (inl (omega (arith, d.count)))

seals_by : (p : Pool) (g : Base) (a : Asked) (r : Raised) (s : Seal) (ws : List Staged) (word : ℕ) (now : List ℕ) → IsWhole p → IsLane g.known.log.lane → Comes p (record g { staging = ws }) a r word now s
seals_by p g a r s [] word now h lane is f =
    subst (Comes p (record g { staging = [] }) a r word now) (sym (seal_is a r s is.at.write is.at.is)) (seals_empty p g a r word now h lane) is f
seals_by p g a r s (w ∷ ws) word now h lane is f = seals_on p g a r s w ws word now h lane is f

pub seals : (p : Pool) (g : Base) (a : Asked) (r : Raised) (s : Seal) (word : ℕ) (now : List ℕ) → let n = g.known.log.lane in IsWhole p → IsLane n → IsLaneAt n (sealing_lane g a r s) p
    → Performs (seal_next g.known s g.staging) word p.words now → ComesTo p n (sealing_lane g a r s) now (taken_by g a (mode.Sealing (seal.Call (sealing.Write r)) s) word)
seals p g a r s word now h lane is f = seals_by p g a r s g.staging word now h lane is f
