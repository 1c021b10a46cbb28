use Rattle.std.proofs.Common.{ℕ, ◌+◌, ◌-◌, ◌^◌, ◌<◌, ◌≡◌, List, Option, Some, None, refl, sym, subst, arith}
use Rattle.dn_act.specs.Action.{words_after}
use Rattle.dn_act.specs.declared.actions.Action.{Action}
use Rattle.dn_log.specs.Staged.{flow_of}
use Rattle.dn_model.specs.Regions.{IsLane}
use Rattle.dn_store.specs.State.{with_at}
use Rattle.dn_owners.proofs.Ats.{same_some}
use Rattle.dn_lane.specs.Next.{next_of}
use Rattle.dn_lane.specs.State.{LaneState}
use Rattle.dn_lane.specs.Taken.{Taken, taken_by}
use Rattle.dn_lane.specs.Turns.{flowed_of}
use Rattle.dn_beside.specs.Pool.{Pool, store_in}
use Rattle.dn_lanes.specs.Lane.{IsLaneAt}
use Rattle.dn_lanes.specs.Stepped.{LaneStepped, FlowStepped}
use Rattle.dn_lanes.proofs.Steps.{lane_steps, lane_flows}
use Rattle.dn_receipts.proofs.Joining.{none_joins}
use Rattle.dn_callers.specs.Callers.{receipts_of}
use Rattle.dn_machine.specs.State.{Machine}
use Rattle.dn_machine.specs.Events.{Lane, Acts, Flows, found, of_lane, lane_does, lane_flows as flowing_lane, happens}
use Rattle.dn_machine.specs.Given.{IsOfSession}
use Rattle.dn_machine.specs.Kept.{IsKept}
use Rattle.dn_machine.specs.Sound.{claims, claiming, IsCallOf, HaveRoom, IsMachineAt}
use Rattle.dn_machine.proofs.Calls.{taken_same}
use Rattle.dn_machine.proofs.Rest.{performs, stays}
use Rattle.dn_machine.proofs.Lanes.{IsLaneChange, lane_changes, keeps_alone, claims_change, IsAction, acted_so}

-- The next action of a lane, and a staged word that flows out of turn.

-- ---- what it comes to
pub few_segments : (p : Pool) (m : Machine) → HaveRoom p m → (store_in p).segment_count < 2 ^ 64 - 1
few_segments p m h = omega (arith, h.segments, h.pool)

pub lane_of : (p : Pool) (m : Machine) (n : ℕ) (l : LaneState) → IsMachineAt p m → m.lanes n ≡ Some l → IsLane n
lane_of p m n l h is = (let made = h.actors.made n l is in h.actors.numbers n made.0 made.1)

pub lane_comes : (p : Pool) (m : Machine) (n : ℕ) (l : LaneState) (action : Action) → IsMachineAt p m → m.lanes n ≡ Some l → next_of l ≡ Some action
    → LaneStepped p n l (found m action) (words_after action m.words)
lane_comes p m n l action h is e =
    lane_steps p n l action (found m action) (words_after action m.words) h.whole (lane_of p m n l h is) (few_segments p m h.room) (h.know.lanes n l is) e (performs p m action h.words)

-- ---- its next action
by_next : (p : Pool) (m : Machine) (n : ℕ) (l : LaneState) (o : Option Action) → IsMachineAt p m → m.lanes n ≡ Some l → next_of l ≡ o → IsKept p (lane_does m n l o)
by_next p m n l None h is e = stays p m h
by_next p m n l (Some action) h is e =
    let c : LaneStepped p n l (found m action) (words_after action m.words) = lane_comes p m n l action h is e in
    let t : Taken = taken_by l.base l.asked l.mode (found m action) in
    let a : IsAction p m n l (words_after action m.words) t = record { at_p = h; there = is; comes = c; same = taken_same l.base l.asked l.mode (found m action) } in
    record { q = c.q; at = acted_so p m n l (words_after action m.words) t a; grows = c.by.grows }

by_lane_acts : (p : Pool) (m : Machine) (n : ℕ) (o : Option LaneState) → IsMachineAt p m → m.lanes n ≡ o → IsKept p (of_lane m o (λ l. lane_does m n l (next_of l)))
by_lane_acts p m n None h is = stays p m h
by_lane_acts p m n (Some l) h is = by_next p m n l (next_of l) h is refl

pub lane_acts_kept : (p : Pool) (m : Machine) (n : ℕ) → IsMachineAt p m → IsKept p (happens m (Acts (Lane n)))
lane_acts_kept p m n h = by_lane_acts p m n (m.lanes n) h refl

-- ---- a flow
flow_change : (p : Pool) (m : Machine) (n : ℕ) (l : LaneState) (index : ℕ) (now : List ℕ) → IsMachineAt p m → m.lanes n ≡ Some l → (s : FlowStepped p n l index now)
    → IsLaneChange p s.q m n l (Some (flowed_of l index)) m.callers
flow_change p m n l index now h is s =
    let sum : claiming (with_at m.lanes n (Some (flowed_of l index))) + claims (Some l) ≡ claiming m.lanes + claims (Some (flowed_of l index)) =
    claims_change m.lanes n l (Some (flowed_of l index)) (lane_of p m n l h is) is in
    record {
      at_p = h;
      was_there = is;
      by = s.by;
      lane = λ x e. subst (λ (y : LaneState). IsLaneAt n y s.q) (same_some (flowed_of l index) x e) s.lane;
      call = λ x e. subst (λ (y : LaneState). IsCallOf m.callers y.asked) (same_some (flowed_of l index) x e) (h.actors.calls n l is);
      alone = keeps_alone p m n l (Some (flowed_of l index)) h is (λ i x e o. subst (λ (y : LaneState). IsOfSession i y.asked) (sym (same_some (flowed_of l index) x e)) o);
      others = λ k x e d. h.actors.calls k x e;
      receipts = none_joins p s.q (receipts_of m.callers.receipts) h.receipts s.by.grows s.quiet;
      callers = h.callers;
      counts = omega (arith, sum, s.count, h.room.segments);
    }

by_flow : (p : Pool) (m : Machine) (n : ℕ) (l : LaneState) (index : ℕ) (o : Option Action) → IsMachineAt p m → m.lanes n ≡ Some l → flow_of l.base.staging index ≡ o → IsKept p (flowing_lane m n l index o)
by_flow p m n l index None h is e = stays p m h
by_flow p m n l index (Some action) h is e =
    let now : List ℕ = words_after action m.words in
    let s : FlowStepped p n l index now = lane_flows p n l index action (found m action) now h.whole (lane_of p m n l h is) (h.know.lanes n l is) e (performs p m action h.words) in
    record { q = s.q; at = lane_changes p s.q m now n l (Some (flowed_of l index)) m.callers s.words (flow_change p m n l index now h is s); grows = s.by.grows }

by_lane_flows : (p : Pool) (m : Machine) (n index : ℕ) (o : Option LaneState) → IsMachineAt p m → m.lanes n ≡ o → IsKept p (of_lane m o (λ l. flowing_lane m n l index (flow_of l.base.staging index)))
by_lane_flows p m n index None h is = stays p m h
by_lane_flows p m n index (Some l) h is = by_flow p m n l index (flow_of l.base.staging index) h is refl

pub lane_flows_kept : (p : Pool) (m : Machine) (n index : ℕ) → IsMachineAt p m → IsKept p (happens m (Flows n index))
lane_flows_kept p m n index h = by_lane_flows p m n index (m.lanes n) h refl
