use Rattle.std.proofs.Common.{ℕ, ◌+◌, ◌<◌, ◌≤◌, ◌≡◌, inl, inr, ◌^◌, List, Option, Some, None, refl, sym, ◌∙◌, ap, subst, arith}
use Rattle.dn_hist.specs.Calls.{key_of}
use Rattle.dn_hist.specs.declared.calls.Call.{Call}
use Rattle.dn_hist.specs.declared.calls.Call.TheVariants.{Get, Put, Delete}
use Rattle.dn_hist.specs.declared.receipts.Receipt.{Receipt}
use Rattle.dn_hist.specs.declared.receipts.SessionView.{SessionView}
use Rattle.dn_model.specs.Held.{record_at}
use Rattle.dn_model.specs.Regions.{IsLane}
use Rattle.dn_store.specs.State.{StoreState}
use Rattle.dn_store.specs.Holding.{holds}
use Rattle.dn_owners.specs.Known.{Look}
use Rattle.dn_tend.specs.declared.tasks.Task.{Task}
use Rattle.dn_tend.specs.declared.tasks.Task.TheVariants as task
use Rattle.dn_ask.specs.declared.asks.Act.TheVariants as act
use Rattle.dn_lane.specs.State.{LaneState, fresh, reserved, begun, begun_task, first_of}
use Rattle.dn_lane.specs.Taken.{Taken}
use Rattle.dn_lane.specs.Turns.{turned, left}
use Rattle.dn_lane.specs.declared.asked.Asked.TheVariants as asked
use Rattle.dn_lane.specs.declared.modes.Mode.TheVariants as mode
use Rattle.dn_beside.specs.Pool.{Pool, store_in, IsWhole}
use Rattle.dn_beside.specs.Step.{by_lane}
use Rattle.dn_beside.proofs.Chained.{step_then}
use Rattle.dn_learnt.specs.Learning.{Learns}
use Rattle.dn_learnt.specs.Heeding.{IsTaught, IsStopped}
use Rattle.dn_learnt.proofs.Lessons.{begins, stops}
use Rattle.dn_reach.specs.OwnLog.{HoldsLog, empty_log}
use Rattle.dn_reach.proofs.Lasts.{log_begins, log_lasts}
use Rattle.dn_receipts.specs.Joined.{IsWritten, IsEffect, Joins}
use Rattle.dn_lanes.specs.Calls.{IsCall}
use Rattle.dn_lanes.specs.Phases.{IsAt, LooksAtNothing, IsActing}
use Rattle.dn_lanes.specs.Lane.{IsLaneAt}
use Rattle.dn_lanes.specs.Stepped.{receipt_by, claims_in, IsCounting, ComesTo}
use Rattle.dn_lanes.specs.Unmade.{IsUnmade}
use Rattle.dn_lanes.specs.Begun.{IsOwnTask, IsMade, IsStoppedAt}
use Rattle.dn_lanes.proofs.Ends.{own_lesson}

-- A lane begins a call or task, begins itself, and is stopped.

-- ---- where nothing is under way
pub record IsAtRest (n : ℕ) (l : LaneState) (p : Pool) : Type 0 where
  pub lane : IsLaneAt n l p
  pub idle : l.mode ≡ mode.Idle

rests : (n : ℕ) (l : LaneState) (p : Pool) → IsAtRest n l p → IsAt (p.owners.knows n).look n l.base l.asked mode.Idle
rests n l p h = subst (IsAt (p.owners.knows n).look n l.base l.asked) h.idle h.lane.at

-- the room that is reserved for pending records is nobody's to know
reserved_learns : (n : ℕ) (l : LaneState) (p : Pool) → Learns p n l.base.known → Learns p n (reserved l.base).known
reserved_learns n l p h = record { running = h.running; epochs = h.epochs; counts = h.counts; met = h.met; pending = h.pending }

reserved_log : (n : ℕ) (l : LaneState) (p : Pool) → IsLaneAt n l p → HoldsLog p n (reserved l.base).known.log
reserved_log n l p h = h.log

-- ---- a call begins
pub call_begins : (n : ℕ) (l : LaneState) (view : SessionView) (call : Call) (p : Pool) → IsAtRest n l p → IsCall call → view.last.stamp < 2 ^ 31 → IsLaneAt n (begun l view call) p
call_begins n l view call p h is low =
    let r = rests n l p h in
    record {
      log = h.lane.log;
      learns = reserved_learns n l p h.lane.learns;
      fetch = h.lane.fetch;
      at = (r.0, ((is, low), r.1));
      knows = λ clear. tt;
    }

-- ---- a task begins
first_acts : (n : ℕ) (seen : Option Look) (t : Task) → IsOwnTask t → LooksAtNothing seen → IsActing seen n asked.Task (act.Task (first_of t))
first_acts n seen (task.Release slot) is none = (is, none)
first_acts n seen task.Trim is none = none
first_acts n seen (task.Share key) is none = absurd is
first_acts n seen (task.Unshare key) is none = absurd is

pub task_begins : (n : ℕ) (l : LaneState) (t : Task) (p : Pool) → IsAtRest n l p → IsOwnTask t → IsLaneAt n (begun_task l t) p
task_begins n l t p h is =
    let r = rests n l p h in
    record {
      log = h.lane.log;
      learns = reserved_learns n l p h.lane.learns;
      fetch = h.lane.fetch;
      at = (r.0, first_acts n (p.owners.knows n).look t is r.1);
      knows = λ clear. tt;
    }

-- ---- a lane begins
pub lane_begins : (p : Pool) (n segments : ℕ) → IsWhole p → IsLane n → IsUnmade p n → segments ≡ (store_in p).pool → segments ≤ 8192 → IsMade p n (fresh n segments)
lane_begins p n segments h lane un same few =
    let t : IsTaught p n (fresh n segments).base.known = begins p n (fresh n segments).base.known h un.log refl refl refl in
    let log : HoldsLog p n (empty_log n segments) = subst (λ x. HoldsLog p n (empty_log n x)) (sym same) (log_begins p n lane (omega (arith, same, few)) un.len un.directory) in
    record {
      q = t.q;
      lesson = t.lesson;
      lane = record {
        log = log_lasts p t.q n (empty_log n segments) (own_lesson n p t.q t.lesson) log;
        learns = t.learns;
        fetch = same ∙ sym (ap (λ (s : StoreState). s.pool) t.lesson.store);
        at = (refl, t.ended, refl);
        knows = λ clear. tt;
      };
    }

-- ---- what joins is told by the store and by what was promised
pub record IsSame (q s : Pool) : Type 0 where
  pub store : s.owners.store ≡ q.owners.store
  pub promised : s.owners.promised ≡ q.owners.promised

written_same : (p q s : Pool) (r : Receipt) (key : ℕ) (value : Option (List ℕ)) → IsSame q s → IsWritten p q r key value → IsWritten p s r key value
written_same p q s r key value e h = record {
  held = ap (λ (t : StoreState). holds t key) e.store ∙ h.held;
  sealed = ap (λ (t : StoreState). record_at t.logs r.at) e.store ∙ h.sealed;
  past = h.past;
  first = h.first;
}

effect_same : (p q s : Pool) (r : Receipt) (call : Call) → IsSame q s → IsEffect p q r call → IsEffect p s r call
effect_same p q s r (Get key) e h = record { held = λ v f. ap (λ (t : StoreState). holds t key) e.store ∙ h.held v f; right = h.right; behind = h.behind }
effect_same p q s r (Put key value) e h = (written_same p q s r key (Some value) e h.0, h.1)
effect_same p q s r (Delete key) e h = (written_same p q s r key None e h.0, h.1)

pub joins_same : (p q s : Pool) (o : Option Receipt) → IsSame q s → Joins p q o → Joins p s o
joins_same p q s None e h = record {
  held = λ k v pos was. ap (λ (t : StoreState). holds t k) e.store ∙ h.held k v pos was;
  promised = λ k. ap (λ (f : ℕ → ℕ). f k) e.promised ∙ h.promised k;
}
joins_same p q s (Some r) e h = record {
  elsewhere = record {
    held = λ k v pos d was. ap (λ (t : StoreState). holds t k) e.store ∙ h.elsewhere.held k v pos d was;
    promised = λ k d. ap (λ (f : ℕ → ℕ). f k) e.promised ∙ h.elsewhere.promised k d;
  };
  least = h.least;
  promised = ap (λ (f : ℕ → ℕ). f (key_of r.call)) e.promised ∙ h.promised;
  effect = effect_same p q s r r.call e h.effect;
}

-- ---- a lane is stopped at an action that was done
counted_least : (p q : Pool) (l m : LaneState) → IsCounting p q l m → (store_in q).segment_count ≤ (store_in p).segment_count + claims_in l.mode
counted_least p q l m (inl le) = omega (arith, le)
counted_least p q l m (inr new) = omega (arith, new.1)

pub stopped_after : (p : Pool) (n : ℕ) (l : LaneState) (now : List ℕ) (t : Taken) → ComesTo p n l now t → IsStoppedAt p n l now t
stopped_after p n l now t c =
    let s : IsStopped c.q n = stops c.q n c.by.whole in
    record {
      q = s.q;
      words = s.lesson.words ∙ c.words;
      by = step_then (by_lane n) p c.q s.q c.by s.lesson.by;
      nothing = s.nothing;
      joins = joins_same p c.q s.q (receipt_by (turned t)) (record { store = s.lesson.store; promised = s.lesson.promised }) c.joins;
      its = c.its;
      count = omega (arith, ap (λ (x : StoreState). x.segment_count) s.lesson.store, counted_least p c.q l (left t) c.counts);
    }
