use Rattle.std.proofs.Common.{ℕ, ◌≡◌, ◌≢◌, Option, Some, None, refl, sym, ◌∙◌, subst, arith}
use Rattle.dn_hist.specs.Calls.{key_of}
use Rattle.dn_hist.specs.declared.calls.Call.{Call}
use Rattle.dn_hist.specs.declared.calls.Call.TheVariants.{Get, Put, Delete}
use Rattle.dn_hist.specs.declared.receipts.SessionView.{SessionView}
use Rattle.dn_model.specs.Regions.{IsLane}
use Rattle.dn_owners.proofs.Ats.{same_some}
use Rattle.dn_tend.specs.declared.tasks.Task.{Task}
use Rattle.dn_lane.specs.State.{LaneState, begun, begun_task}
use Rattle.dn_beside.specs.Pool.{Pool, IsWhole}
use Rattle.dn_beside.specs.Step.{IsStepBy, by_lane}
use Rattle.dn_beside.proofs.Still.{learning_step}
use Rattle.dn_lanes.specs.Begun.{IsOwnTask}
use Rattle.dn_lanes.specs.Calls.{IsCall}
use Rattle.dn_lanes.specs.Lane.{IsLaneAt}
use Rattle.dn_lanes.proofs.Begins.{call_begins, task_begins}
use Rattle.dn_lane.specs.declared.modes.Mode.TheVariants.{Idle}
use Rattle.dn_machine.specs.State.{Machine}
use Rattle.dn_machine.specs.Events.{Asks, Tends, with_lane, of_lane, happens}
use Rattle.dn_machine.specs.Given.{IsOfSession, HasNoCall, IsFree, MayAsk}
use Rattle.dn_machine.specs.Sound.{claims, IsCallOf, IsMachineAt}
use Rattle.dn_machine.specs.Kept.{IsKept}
use Rattle.dn_machine.proofs.Lanes.{lane_changes, claims_change}
use Rattle.dn_machine.proofs.LaneActs.{lane_of}
use Rattle.dn_machine.proofs.Rest.{stays, same_grows}

-- A lane begins a call or a task.

-- ---- where a lane runs, and else nothing happens
pub at_lane : (p : Pool) (m : Machine) (n : ℕ) (change : LaneState → Machine) → IsMachineAt p m → ((l : LaneState) → m.lanes n ≡ Some l → IsKept p (change l)) → IsKept p (of_lane m (m.lanes n) change)
at_lane p m n change h each = by (m.lanes n) refl where
  by : (o : Option LaneState) → m.lanes n ≡ o → IsKept p (of_lane m o change)
  by None e = stays p m h
  by (Some l) e = each l e

-- no word is stored
pub nothing_by : (n : ℕ) (p : Pool) → IsWhole p → IsStepBy (by_lane n) p p
nothing_by n p h = learning_step (by_lane n) p p.owners refl h (λ k. omega arith) (λ k d. refl) (λ f. refl)

-- ---- it begins this
record IsBeginning (p : Pool) (m : Machine) (n : ℕ) (was l : LaneState) : Type 0 where
  pub at_p : IsMachineAt p m
  pub was_there : m.lanes n ≡ Some was
  pub number : IsLane n
  pub lane : IsLaneAt n l p
  pub call : IsCallOf m.callers l.asked
  pub alone : (s : ℕ) → IsOfSession s l.asked → HasNoCall m s
  pub claims : claims (Some l) ≡ 0

begins_so : (p : Pool) (m : Machine) (n : ℕ) (was l : LaneState) → IsBeginning p m n was l → IsKept p (with_lane m n (Some l))
begins_so p m n was l h = record {
  q = p;
  at = lane_changes p p m m.words n was (Some l) m.callers h.at_p.words (record {
    at_p = h.at_p;
    was_there = h.was_there;
    by = nothing_by n p h.at_p.whole;
    lane = λ x e. subst (λ (y : LaneState). IsLaneAt n y p) (same_some l x e) h.lane;
    call = λ x e. subst (λ (y : LaneState). IsCallOf m.callers y.asked) (same_some l x e) h.call;
    alone = λ s x e i k y d g o.
        let made = h.at_p.actors.made k y g in
        h.alone s (subst (λ (z : LaneState). IsOfSession s z.asked) (sym (same_some l x e)) i) k y (h.at_p.actors.numbers k made.0 made.1) g o;
    others = λ k x f d. h.at_p.actors.calls k x f;
    receipts = h.at_p.receipts;
    callers = h.at_p.callers;
    counts = omega (arith, h.at_p.room.segments, claims_change m.lanes n was (Some l) h.number h.was_there, h.claims);
  });
  grows = same_grows p;
}

-- ---- a call
idle_now : (m : Machine) (n : ℕ) (l : LaneState) → IsFree m n → m.lanes n ≡ Some l → l.mode ≡ Idle
idle_now m n l f is = subst (λ (x : LaneState). x.mode ≡ Idle) (same_some f.lane l (sym f.runs ∙ is)) f.idle

call_key : (call : Call) → IsCall call → key_of call ≢ 0
call_key (Get key) h = h
call_key (Put key value) h = h.0
call_key (Delete key) h = h

pub asks : (p : Pool) (m : Machine) (n : ℕ) (view : SessionView) (call : Call) → IsMachineAt p m → MayAsk m n view call → IsKept p (happens m (Asks n view call))
asks p m n view call h may = at_lane p m n (λ l. with_lane m n (Some (begun l view call))) h (λ l is. begins_so p m n l (begun l view call) (record {
  at_p = h;
  was_there = is;
  number = lane_of p m n l h is;
  lane = call_begins n l view call p (record { lane = h.know.lanes n l is; idle = idle_now m n l may.free is }) may.fits may.last;
  call = (may.good, call_key call may.fits);
  alone = λ s e. subst (HasNoCall m) e may.alone;
  claims = refl;
}))

-- ---- a task
pub tends : (p : Pool) (m : Machine) (n : ℕ) (task : Task) → IsMachineAt p m → IsFree m n × IsOwnTask task → IsKept p (happens m (Tends n task))
tends p m n task h may = at_lane p m n (λ l. with_lane m n (Some (begun_task l task))) h (λ l is. begins_so p m n l (begun_task l task) (record {
  at_p = h;
  was_there = is;
  number = lane_of p m n l h is;
  lane = task_begins n l task p (record { lane = h.know.lanes n l is; idle = idle_now m n l may.0 is }) may.1;
  call = tt;
  alone = λ s e. absurd e;
  claims = refl;
}))
