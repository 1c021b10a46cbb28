use Rattle.std.proofs.Common.{ℕ, ◌==◌, ◌<◌, ◌≡◌, inl, Bool, true, false, List, Option, None, if◌then◌else◌, refl, sym, ◌∙◌, ap, arith}
use Rattle.dn_word.specs.Gate.{gate_of}
use Rattle.dn_word.specs.declared.packed.gate.Gate.{Gate}
use Rattle.dn_act.specs.Words.{word_at}
use Rattle.dn_act.specs.Action.{Performs}
use Rattle.dn_act.specs.declared.actions.Action.TheVariants.{Cas}
use Rattle.dn_record.specs.Record.{value_of}
use Rattle.dn_hist.specs.Calls.{key_of, found_of}
use Rattle.dn_hist.specs.declared.calls.Call.{Call}
use Rattle.dn_hist.specs.declared.calls.Call.TheVariants.{Get, Put, Delete}
use Rattle.dn_hist.specs.declared.calls.Reply.{Reply}
use Rattle.dn_hist.specs.declared.receipts.SessionView.{SessionView}
use Rattle.dn_model.specs.Held.{Found, Says}
use Rattle.dn_model.specs.Regions.{gate_at, slot_of, IsLane}
use Rattle.dn_store.specs.Holding.{holds}
use Rattle.dn_plan.specs.Fit.{IsRead}
use Rattle.dn_plan.specs.Plan.{sealing_word, goes, ends, barred}
use Rattle.dn_plan.specs.declared.phases.ActPhase.TheVariants as phase
use Rattle.dn_plan.specs.declared.phases.Raised.{Raised}
use Rattle.dn_plan.specs.declared.results.Ending.TheVariants as ending
use Rattle.dn_ask.specs.Ask.{action_in, call_step}
use Rattle.dn_ask.specs.declared.asks.Act.TheVariants as act
use Rattle.dn_ask.specs.declared.asks.End.TheVariants as end
use Rattle.dn_lane.specs.Asked.{brief_of, kind_of, call_in}
use Rattle.dn_lane.specs.Ends.{receipt_of, reply_in}
use Rattle.dn_lane.specs.State.{LaneState}
use Rattle.dn_lane.specs.Taken.{by, entered, taken_by}
use Rattle.dn_lane.specs.declared.asked.Asked.{Asked}
use Rattle.dn_lane.specs.declared.asked.Asked.TheVariants as asked
use Rattle.dn_lane.specs.declared.base.Base.{Base}
use Rattle.dn_lane.specs.declared.modes.Mode.TheVariants as mode
use Rattle.dn_beside.specs.Pool.{Pool, store_in, IsWhole}
use Rattle.dn_beside.specs.Step.{IsQuiet}
use Rattle.dn_learnt.specs.Heeding.{look_by}
use Rattle.dn_reach.specs.Exchange.{IsExchanged}
use Rattle.dn_reach.specs.Steps.{after_raise}
use Rattle.dn_reach.proofs.Gates.{missed, raise_step, raise_quiet, raise_log, raise_gate}
use Rattle.dn_seek.proofs.Seeks.{agreed_held}
use Rattle.dn_receipts.specs.Joined.{IsEffect}
use Rattle.dn_lanes.specs.Calls.{key_in, HasRaised}
use Rattle.dn_lanes.specs.Phases.{IsReply, IsReplyTo, KnowsReply}
use Rattle.dn_lanes.specs.Lane.{IsLaneAt}
use Rattle.dn_lanes.specs.Stepped.{ComesTo}
use Rattle.dn_lanes.proofs.Called.{positive}
use Rattle.dn_lanes.proofs.Ends.{HasDone, IsMaking, made_so}
use Rattle.dn_lanes.proofs.Exchanges.{agree, differ, still_quiet, still_done, fenced_so, exchanges, gate_clear, raised_past, receipt_for, made_told, made_of}

-- A get raises the stamp of its lane's gate.

-- ---- its reply is what is held
same_said : (a b : Option (List ℕ)) → (let x : Found (Option (List ℕ)) = Says a in x) ≡ Says b → a ≡ b
same_said a b e = cc

replied : (p : Pool) (key : ℕ) (reply : Reply) (v : Option (List ℕ)) → IsReply p key reply → holds (store_in p) key ≡ Says v → reply ≡ found_of v
replied p key reply v h e = h.says ∙ ap found_of (same_said (value_of h.of) v (sym (agreed_held (store_in p) key h.of h.of_key h.plain h.agrees) ∙ e))

-- ---- the read
pub record IsReading (p q : Pool) (key stamp : ℕ) : Type 0 where
  pub quiet : IsQuiet p q
  pub positive : 0 < key
  pub past : p.owners.promised key < stamp

read_of : (p q : Pool) (call : Call) (view : SessionView) (value : List ℕ) (r : Raised) → IsRead (kind_of call) → IsReplyTo p call value r.located.held → IsReading p q (key_of call) r.to.stamp
    → IsEffect p q (receipt_of call view value r.to None r.located.held) call
read_of p q (Get key) view value r is reply h = record { held = λ v e. h.quiet.held key v h.positive e; right = λ v e. replied p key (reply_in (Get key) value r.located.held) v reply e; behind = inl h.past }
read_of p q (Put key room) view value r is reply h = absurd is
read_of p q (Delete key) view value r is reply h = absurd is

pub read_by : (p q : Pool) (n : ℕ) (a : Asked) (r : Raised) → HasRaised (p.owners.knows n).look n a r → IsRead (brief_of n a).kind → KnowsReply p a r.located.held → IsReading p q (key_in a) r.to.stamp
    → IsEffect p q (receipt_for a r.to None r.located.held) (call_in a)
read_by p q n asked.Nothing r h is reply g = absurd h.look.called
read_by p q n (asked.Call call view value) r h is reply g = read_of p q call view value r is reply g
read_by p q n asked.Task r h is reply g = absurd h.look.called

-- ---- the exchange is done
abbrev pub lane_at : Base → Asked → Raised → LaneState
lane_at g a r = record { base = g; asked = a; mode = mode.Acting (act.Call (phase.Raise r)) }

raise_making : (p : Pool) (n : ℕ) (g : Base) (a : Asked) (r : Raised) (now : List ℕ) → IsWhole p → IsLane n → IsLaneAt n (lane_at g a r) p → word_at p.words (gate_at n) ≡ r.gate
    → IsMaking p (after_raise p n r.gate r.to.stamp now) n (receipt_for a r.to None r.located.held) (look_by (slot_of (key_in a)) r.look)
raise_making p n g a r now h lane is found =
    let q : Pool = after_raise p n r.gate r.to.stamp now in
    let raised : HasRaised (p.owners.knows n).look n a r = is.at.1.0 in
    let past : p.owners.promised (key_in a) < r.to.stamp = raised_past p n a r h lane raised found in
    let quiet : IsQuiet p q = raise_quiet p n r.gate r.to.stamp now in
    record {
      looks = raised.look.looked;
      slot = refl;
      clear = ap (λ (x : Gate). x.fenced) (raise_gate p n r.gate r.to.stamp now);
      most = omega (arith, ap (λ (x : Gate). x.stamp) (raise_gate p n r.gate r.to.stamp now));
      least = omega (arith, past);
      held = λ k v pos d e. quiet.held k v pos e;
      promised = λ k. refl;
      effect = read_by p q n a r raised is.at.1.1 (is.knows (gate_clear p n a r h lane raised found)).1 (record { quiet = quiet; positive = positive a raised.look.called; past = past });
    }

raised_by : (p : Pool) (g : Base) (a : Asked) (r : Raised) (word : ℕ) (now : List ℕ) (b : Bool) → let n = g.known.log.lane in (word == r.gate) ≡ b → IsWhole p → IsLane n → IsLaneAt n (lane_at g a r) p
    → Performs (Cas (gate_at n) r.gate (sealing_word r.to.stamp (gate_of r.gate).len)) word p.words now
    → ComesTo p n (lane_at g a r) now (by a (entered g a (call_step (if b then goes (ends (ending.Made r.to None r.located)) else barred word))))
raised_by p g a r word now true e h lane is f =
    let n : ℕ = g.known.log.lane in
    let q : Pool = after_raise p n r.gate r.to.stamp now in
    let raised : HasRaised (p.owners.knows n).look n a r = is.at.1.0 in
    let found : word_at p.words (gate_at n) ≡ r.gate = sym f.answer ∙ agree word r.gate e in
    let x : IsExchanged p n r.gate r.to.stamp (gate_of r.gate).len now = exchanges p n a r (gate_of r.gate).len word now raised (agree word r.gate e) f in
    let d : HasDone p n now g q = record {
      words = refl;
      by = raise_step p n r.gate r.to.stamp now h lane x;
      log = raise_log p n g.known.log r.gate r.to.stamp now (record { whole = h; lane = lane; own = is.log }) x;
      learns = is.learns;
      fetch = is.fetch;
    } in
    made_so p q n (lane_at g a r) now g a (end.Call (ending.Made r.to None r.located)) (receipt_for a r.to None r.located.held) (look_by (slot_of (key_in a)) r.look) d is.at.0
    (made_told a r.to None r.located raised.look.called) (made_of (p.owners.knows n).look n (lane_at g a r) r None raised) (raise_making p n g a r now h lane is found) (omega arith)
raised_by p g a r word now false e h lane is f =
    let n : ℕ = g.known.log.lane in
    let same : now ≡ p.words = missed p.words now (gate_at n) r.gate (sealing_word r.to.stamp (gate_of r.gate).len) word f (differ word r.gate e) in
    fenced_so p p n (lane_at g a r) now g a word (still_done p n now g h same is.log is.learns is.fetch) (still_quiet p) is.at.0 (omega arith)

pub raises : (p : Pool) (g : Base) (a : Asked) (r : Raised) (word : ℕ) (now : List ℕ) → let n = g.known.log.lane in IsWhole p → IsLane n → IsLaneAt n (lane_at g a r) p
    → Performs (action_in (brief_of n a) (act.Call (phase.Raise r))) word p.words now → ComesTo p n (lane_at g a r) now (taken_by g a (mode.Acting (act.Call (phase.Raise r))) word)
raises p g a r word now h lane is f = raised_by p g a r word now (word == r.gate) refl h lane is f
