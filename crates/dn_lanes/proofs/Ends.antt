use Rattle.std.proofs.Common.{ℕ, ◌+◌, ◌*◌, ◌<◌, ◌≤◌, ◌≡◌, ◌≢◌, inl, max, false, List, [], Option, Some, None, refl, sym, ◌∙◌, ap, subst, arith}
use Rattle.dn_act.specs.Words.{word_at}
use Rattle.dn_hist.specs.Calls.{key_of}
use Rattle.dn_hist.specs.declared.calls.Call.{Call}
use Rattle.dn_hist.specs.declared.calls.Call.TheVariants.{Get, Put, Delete}
use Rattle.dn_hist.specs.declared.receipts.Receipt.{Receipt}
use Rattle.dn_model.specs.Held.{Says, record_at}
use Rattle.dn_model.specs.Regions.{gate_at, slot_of, directory}
use Rattle.dn_store.specs.State.{StoreState, with_at}
use Rattle.dn_store.specs.Holding.{holds}
use Rattle.dn_store.proofs.At.{at_same, at_other, at_by}
use Rattle.dn_owners.specs.Known.{Look, Owners}
use Rattle.dn_owners.specs.Sound.{IsSound}
use Rattle.dn_owners.specs.Events.{Promise, happens}
use Rattle.dn_owners.specs.Given.{At_gate}
use Rattle.dn_owners.proofs.Ats.{same_some, none_some}
use Rattle.dn_owners.proofs.Logs.{ordered}
use Rattle.dn_owners.proofs.Tables.{kept}
use Rattle.dn_ask.specs.declared.asks.End.{End as EndOf}
use Rattle.dn_lane.specs.Ends.{turn_by}
use Rattle.dn_lane.specs.State.{LaneState}
use Rattle.dn_lane.specs.declared.asked.Asked.{Asked}
use Rattle.dn_lane.specs.declared.asked.Asked.TheVariants as asked
use Rattle.dn_lane.specs.declared.base.Base.{Base}
use Rattle.dn_lane.specs.declared.modes.Going.TheVariants.{On, End}
use Rattle.dn_lane.specs.declared.modes.Mode.{Mode}
use Rattle.dn_lane.specs.declared.modes.Mode.TheVariants as mode
use Rattle.dn_beside.specs.Pool.{Pool, store_in, IsWhole}
use Rattle.dn_beside.specs.Lanes.{LeavesOwn}
use Rattle.dn_beside.specs.Step.{IsStepBy, IsQuiet, by_lane}
use Rattle.dn_beside.proofs.Still.{own_still, learning_step}
use Rattle.dn_beside.proofs.Chained.{step_then, quiet_then}
use Rattle.dn_learnt.specs.Learning.{Learns}
use Rattle.dn_learnt.specs.Heeding.{IsLesson, IsTaught}
use Rattle.dn_learnt.proofs.Lessons.{ends}
use Rattle.dn_reach.specs.OwnLog.{HoldsLog}
use Rattle.dn_reach.proofs.Lasts.{log_lasts}
use Rattle.dn_receipts.specs.Joined.{IsWritten, IsEffect, IsJoined, Joins}
use Rattle.dn_lanes.specs.Phases.{IsAt, Knows}
use Rattle.dn_lanes.specs.Lane.{IsLaneAt}
use Rattle.dn_lanes.specs.Stepped.{receipt_by, IsOfCall, claims_in, IsCounting, ComesTo}

-- How an action of a lane ends, once the pool after it is known.

-- ---- the pool after the action, and what the lane has then
pub record HasDone (p : Pool) (n : ℕ) (now : List ℕ) (g : Base) (q : Pool) : Type 0 where
  pub words : q.words ≡ now
  pub by : IsStepBy (by_lane n) p q
  pub log : HoldsLog q n g.known.log
  pub learns : Learns q n g.known
  pub fetch : g.fetch.segments ≡ (store_in q).pool

-- ---- its own words where it only learns
pub own_lesson : (n : ℕ) (p q : Pool) → IsLesson n p q → LeavesOwn n p q
own_lesson n p q h = record {
  pool = ap (λ (s : StoreState). s.pool) h.store;
  len = ap (λ (s : StoreState). (s.gates n).len) h.store;
  gate = λ f. ap (λ ws. word_at ws (gate_at n)) h.words;
  directory = λ i lt. ap (λ ws. directory ws n i) h.words;
  holders = λ g own. ap (λ (s : StoreState). s.holders g) h.store ∙ own;
  segments = λ g i lt own. ap (λ ws. word_at ws (98304 + (g * 1024 + i))) h.words;
}

pub done_lesson : (p q r : Pool) (n : ℕ) (now : List ℕ) (g : Base) → HasDone p n now g q → IsLesson n q r → Learns r n g.known → HasDone p n now g r
done_lesson p q r n now g h s learns = record {
  words = s.words ∙ h.words;
  by = step_then (by_lane n) p q r h.by s.by;
  log = log_lasts q r n g.known.log (own_lesson n q r s) h.log;
  learns = learns;
  fetch = h.fetch ∙ sym (ap (λ (t : StoreState). t.pool) s.store);
}

-- ---- its call or task ends, without a receipt
pub record IsIdle (n : ℕ) (g : Base) (q : Pool) : Type 0 where
  pub r : Pool
  pub lesson : IsLesson n q r
  pub learns : Learns r n g.known
  pub lane : IsLaneAt n (record { base = g; asked = asked.Nothing; mode = mode.Idle }) r

pub idle : (p q : Pool) (n : ℕ) (now : List ℕ) (g : Base) → HasDone p n now g q → g.staging ≡ [] → IsIdle n g q
idle p q n now g h empty =
    let t : IsTaught q n g.known = ends q n g.known h.by.whole h.learns in
    let d : HasDone p n now g t.q = done_lesson p q t.q n now g h t.lesson t.learns in
    record {
      r = t.q;
      lesson = t.lesson;
      learns = t.learns;
      lane = record { log = d.log; learns = t.learns; fetch = d.fetch; at = (empty, t.ended, refl); knows = λ clear. tt };
    }

pub ends_so : (p q : Pool) (n : ℕ) (l : LaneState) (now : List ℕ) (g : Base) (a : Asked) (e : EndOf) → HasDone p n now g q → IsQuiet p q → g.staging ≡ [] → receipt_by (turn_by a e) ≡ None
    → (store_in q).segment_count ≤ (store_in p).segment_count + claims_in l.mode → ComesTo p n l now (record { going = End e; base = g; asked = a })
ends_so p q n l now g a e h quiet empty none count =
    let i : IsIdle n g q = idle p q n now g h empty in
    let d : HasDone p n now g i.r = done_lesson p q i.r n now g h i.lesson i.learns in
    record {
      q = i.r;
      words = d.words;
      by = d.by;
      lane = i.lane;
      joins = subst (λ o. Joins p i.r o) (sym none) (quiet_then p q i.r quiet i.lesson.quiet);
      its = λ r f. absurd (none_some r (sym none ∙ f));
      counts = inl (omega (arith, count, ap (λ (s : StoreState). s.segment_count) i.lesson.store));
    }

-- ---- it goes on
pub goes_so : (p q : Pool) (n : ℕ) (l : LaneState) (now : List ℕ) (g : Base) (a : Asked) (m : Mode) → HasDone p n now g q → IsQuiet p q → IsAt (q.owners.knows n).look n g a m
    → (((store_in q).gates n).fenced ≡ false → Knows q n g a m) → IsCounting p q l (record { base = g; asked = a; mode = m }) → ComesTo p n l now (record { going = On m; base = g; asked = a })
goes_so p q n l now g a m h quiet at knows counts = record {
  q = q;
  words = h.words;
  by = h.by;
  lane = record { log = h.log; learns = h.learns; fetch = h.fetch; at = at; knows = knows };
  joins = quiet;
  its = λ r f. absurd (none_some r f);
  counts = counts;
}

-- ---- it is made: the receipt's stamp is promised
pub record IsMaking (p q : Pool) (n : ℕ) (r : Receipt) (look : Look) : Type 0 where
  pub looks : (q.owners.knows n).look ≡ Some look
  pub slot : slot_of (key_of r.call) ≡ look.slot
  pub clear : ((store_in q).gates n).fenced ≡ false
  pub most : r.position.stamp ≤ max look.floor ((store_in q).gates n).stamp
  pub least : p.owners.promised (key_of r.call) ≤ r.position.stamp
  pub held : (k : ℕ) (v : Option (List ℕ)) → 0 < k → k ≢ key_of r.call → holds (store_in p) k ≡ Says v → holds (store_in q) k ≡ Says v
  pub promised : (k : ℕ) → q.owners.promised k ≡ p.owners.promised k
  pub effect : IsEffect p q r r.call

abbrev pub promised_by : Pool → ℕ → Receipt → Pool
promised_by q n r = record q { owners = happens q.owners (Promise n (key_of r.call) r.position.stamp) }

promise_step : (p q : Pool) (n : ℕ) (r : Receipt) (look : Look) → IsWhole q → IsMaking p q n r look → IsStepBy (by_lane n) q (promised_by q n r)
promise_step p q n r look h m =
    let e : Owners = happens q.owners (Promise n (key_of r.call) r.position.stamp) in
    let sound : IsSound e = kept q.owners (Promise n (key_of r.call) r.position.stamp) (ordered q.words q.chains q.owners.store h.represents) h.sound
    (At_gate look m.looks m.slot m.clear m.most) in
    learning_step (by_lane n) q e refl (record { represents = h.represents; sound = sound; deeds = h.deeds; plain = h.plain })
    (λ k. more k) (λ m d. refl) (λ f. refl)
  where
    more : (k : ℕ) → q.owners.promised k ≤ with_at q.owners.promised (key_of r.call) (max (q.owners.promised (key_of r.call)) r.position.stamp) k
    more k = at_by (λ x. q.owners.promised k ≤ x) q.owners.promised (key_of r.call) (max (q.owners.promised (key_of r.call)) r.position.stamp) k
        (λ e. omega (arith, ap q.owners.promised e)) (λ d. omega arith)

effect_stays : (p q : Pool) (n : ℕ) (r : Receipt) (call : Call) → IsEffect p q r call → IsEffect p (promised_by q n r) r call
effect_stays p q n r (Get key) h = record { held = h.held; right = h.right; behind = h.behind }
effect_stays p q n r (Put key value) h = (record { held = h.0.held; sealed = h.0.sealed; past = h.0.past; first = h.0.first }, h.1)
effect_stays p q n r (Delete key) h = (record { held = h.0.held; sealed = h.0.sealed; past = h.0.past; first = h.0.first }, h.1)

pub made_joins : (p q : Pool) (n : ℕ) (r : Receipt) (look : Look) → IsMaking p q n r look → IsJoined p (promised_by q n r) r
made_joins p q n r look m = record {
  elsewhere = record {
    held = λ k v pos d. m.held k v pos d;
    promised = λ k d. at_other q.owners.promised (key_of r.call) (max (q.owners.promised (key_of r.call)) r.position.stamp) k d ∙ m.promised k;
  };
  least = m.least;
  promised = at_same q.owners.promised (key_of r.call) (max (q.owners.promised (key_of r.call)) r.position.stamp) (key_of r.call) refl
      ∙ omega (arith, m.least, m.promised (key_of r.call));
  effect = effect_stays p q n r r.call m.effect;
}

written_lesson : (p q s : Pool) (n : ℕ) (r : Receipt) (key : ℕ) (value : Option (List ℕ)) → IsLesson n q s → IsWritten p q r key value → IsWritten p s r key value
written_lesson p q s n r key value e h = record {
  held = ap (λ (t : StoreState). holds t key) e.store ∙ h.held;
  sealed = ap (λ (t : StoreState). record_at t.logs r.at) e.store ∙ h.sealed;
  past = h.past;
  first = h.first;
}

effect_lesson : (p q s : Pool) (n : ℕ) (r : Receipt) (call : Call) → IsLesson n q s → IsEffect p q r call → IsEffect p s r call
effect_lesson p q s n r (Get key) e h = record { held = λ v f. ap (λ (t : StoreState). holds t key) e.store ∙ h.held v f; right = h.right; behind = h.behind }
effect_lesson p q s n r (Put key value) e h = (written_lesson p q s n r key (Some value) e h.0, h.1)
effect_lesson p q s n r (Delete key) e h = (written_lesson p q s n r key None e h.0, h.1)

joined_lesson : (p q s : Pool) (n : ℕ) (r : Receipt) → IsLesson n q s → IsJoined p q r → IsJoined p s r
joined_lesson p q s n r e j = record {
  elsewhere = record {
    held = λ k v pos d h. ap (λ (t : StoreState). holds t k) e.store ∙ j.elsewhere.held k v pos d h;
    promised = λ k d. ap (λ (f : ℕ → ℕ). f k) e.promised ∙ j.elsewhere.promised k d;
  };
  least = j.least;
  promised = ap (λ (f : ℕ → ℕ). f (key_of r.call)) e.promised ∙ j.promised;
  effect = effect_lesson p q s n r r.call e j.effect;
}

pub made_so : (p q : Pool) (n : ℕ) (l : LaneState) (now : List ℕ) (g : Base) (a : Asked) (e : EndOf) (r : Receipt) (look : Look) → HasDone p n now g q → g.staging ≡ []
    → receipt_by (turn_by a e) ≡ Some r → IsOfCall l r → IsMaking p q n r look → (store_in q).segment_count ≤ (store_in p).segment_count + claims_in l.mode
    → ComesTo p n l now (record { going = End e; base = g; asked = a })
made_so p q n l now g a e r look h empty is its m count =
    let s : Pool = promised_by q n r in
    let by : IsStepBy (by_lane n) q s = promise_step p q n r look h.by.whole m in
    let d : HasDone p n now g s = record {
      words = h.words;
      by = step_then (by_lane n) p q s h.by by;
      log = log_lasts q s n g.known.log (own_still n q s.owners refl) h.log;
      learns = record { running = h.learns.running; epochs = h.learns.epochs; counts = h.learns.counts; met = h.learns.met; pending = h.learns.pending };
      fetch = h.fetch;
    } in
    let i : IsIdle n g s = idle p s n now g d empty in
    let f : HasDone p n now g i.r = done_lesson p s i.r n now g d i.lesson i.learns in
    record {
      q = i.r;
      words = f.words;
      by = f.by;
      lane = i.lane;
      joins = subst (λ o. Joins p i.r o) (sym is) (joined_lesson p s i.r n r i.lesson (made_joins p q n r look m));
      its = λ x y. subst (IsOfCall l) (same_some r x (sym is ∙ y)) its;
      counts = inl (omega (arith, count, ap (λ (t : StoreState). t.segment_count) i.lesson.store));
    }
