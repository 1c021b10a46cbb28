use Rattle.std.proofs.Common.{ℕ, ◌<◌, ◌≤◌, ◌≡◌, List, [], slice_get, Option, Some, None, refl, sym, ◌∙◌, ap, subst, arith}
use Rattle.std.specs.List.{remove}
use Rattle.std.specs.Option.{option_map}
use Rattle.dn_act.specs.Words.{word_at}
use Rattle.dn_act.specs.Action.{Performs}
use Rattle.dn_act.specs.declared.actions.Action.{Action}
use Rattle.dn_act.specs.declared.actions.Action.TheVariants.{Store}
use Rattle.dn_act.proofs.Words.{word_at-set_other}
use Rattle.dn_log.specs.Staged.{store_of, flow_of}
use Rattle.dn_log.specs.declared.staging.Staged.{Staged}
use Rattle.dn_hist.specs.declared.calls.Call.{Call}
use Rattle.dn_record.specs.Grammar.{IsRecord}
use Rattle.dn_record.specs.declared.records.Record.{Record}
use Rattle.dn_model.specs.Regions.{gate_at, IsLane}
use Rattle.dn_owners.proofs.Ats.{same_some, none_some}
use Rattle.dn_plan.specs.declared.phases.Raised.{Raised}
use Rattle.dn_plan.specs.declared.phases.RoomPhase.TheVariants as rooming
use Rattle.dn_plan.specs.declared.phases.SealPhase.TheVariants as sealing
use Rattle.dn_ask.specs.declared.asks.FindRoom.TheVariants as room
use Rattle.dn_ask.specs.declared.asks.Seal.TheVariants as seal
use Rattle.dn_services.specs.declared.seals.Seal.{Seal}
use Rattle.dn_lane.specs.Asked.{call_in}
use Rattle.dn_lane.specs.declared.asked.Asked.{Asked}
use Rattle.dn_lane.specs.declared.base.Base.{Base}
use Rattle.dn_lane.specs.declared.modes.Mode.{Mode}
use Rattle.dn_lane.specs.declared.modes.Mode.TheVariants as mode
use Rattle.dn_beside.specs.Pool.{Pool, store_in, IsWhole}
use Rattle.dn_beside.specs.Step.{IsQuiet}
use Rattle.dn_reach.specs.OwnLog.{IsLaneOf}
use Rattle.dn_reach.specs.Placing.{staged_for}
use Rattle.dn_reach.specs.Staging.{MayStage, MayStageAll}
use Rattle.dn_reach.specs.Steps.{after_flow}
use Rattle.dn_reach.proofs.Within.{may_past}
use Rattle.dn_reach.proofs.Stages.{staged_may, staged_go_apart}
use Rattle.dn_reach.proofs.Flows.{flow_step, flow_quiet, flow_log, flow_flowing, get_has, removed_has}
use Rattle.dn_receipts.specs.Sealing.{record_of}
use Rattle.dn_lanes.specs.Calls.{key_in}
use Rattle.dn_lanes.specs.Lane.{IsLaneAt}
use Rattle.dn_lanes.proofs.Called.{is_call, call_record, call_key}
use Rattle.dn_lanes.proofs.Ends.{HasDone}

-- A staged word of a lane flows, in its turn or out of it.

-- ---- it is no gate
gate_kept : (words now : List ℕ) (n word : ℕ) (x : Staged) → n < 64 → 1024 ≤ x.at → Performs (Store x.at x.word) word words now → word_at now (gate_at n) ≡ word_at words (gate_at n)
gate_kept words now n word x lt le f = ap (λ ws. word_at ws (gate_at n)) f.change ∙ word_at-set_other words x.at (gate_at n) x.word (λ e. absurd (omega (arith, e, lt, le)))

-- ---- while the lane seals its record: it has one word less on its way
pub record HasFlowed (p : Pool) (n : ℕ) (now : List ℕ) (g : Base) (a : Asked) (m : Mode) : Type 0 where
  pub q : Pool
  pub done : HasDone p n now g q
  pub quiet : IsQuiet p q
  pub lane : IsLaneAt n (record { base = g; asked = a; mode = m }) q
  pub count : (store_in q).segment_count ≡ (store_in p).segment_count

pub flows : (p : Pool) (g : Base) (a : Asked) (r : Raised) (s : Seal) (i : ℕ) (x : Staged) (word : ℕ) (now : List ℕ) → let n = g.known.log.lane in IsWhole p → IsLane n
    → IsLaneAt n (record { base = g; asked = a; mode = mode.Sealing (seal.Call (sealing.Write r)) s }) p → slice_get g.staging i ≡ Some x → Performs (Store x.at x.word) word p.words now
    → HasFlowed p n now (record g { staging = remove g.staging i }) a (mode.Sealing (seal.Call (sealing.Write r)) s)
flows p g a r s i x word now h lane is at f =
    let n : ℕ = g.known.log.lane in
    let of : Record = record_of (call_in a) in
    let of_lane : IsLaneOf p n g.known.log = record { whole = h; lane = lane; own = is.log } in
    let may : MayStage g.known.log x = is.at.stages x (get_has g.staging i x at) in
    let stages : MayStageAll g.known.log (remove g.staging i) = λ y c. is.at.stages y (removed_has g.staging i x y at c) in
    let call : Call = call_in a in
    let is_record : IsRecord of = call_record call (is_call a is.at.raised.look.called) in
    record {
      q = after_flow p now;
      done = record {
        words = refl;
        by = flow_step p n g.known.log x word now of_lane may f;
        log = flow_log p n g.known.log x word now of_lane may f;
        learns = is.learns;
        fetch = is.fetch;
      };
      quiet = flow_quiet p now;
      lane = record {
        log = flow_log p n g.known.log x word now of_lane may f;
        learns = is.learns;
        fetch = is.fetch;
        at = record { raised = is.at.raised; write = is.at.write; is = is.at.is; room = is.at.room; stages = stages };
        knows = λ clear. (
          gate_kept p.words now n word x lane.below (may_past g.known.log x may) f ∙ (is.knows clear).0,
          flow_flowing p n g.known.log g.staging (staged_for g.known.log of) i x word now of_lane (staged_may g.known.log of is_record is.at.room)
              (staged_go_apart g.known.log of (key_in a) is.log.fit is.log.apart is_record (call_key call) is.at.room) (is.knows clear).1 at f,
        );
      };
      count = refl;
    }

-- ---- a flow out of turn, in any phase: while nothing is sealed no word is staged
pub record IsFlowOf (staged : List Staged) (i : ℕ) (action : Action) : Type 0 where
  pub x : Staged
  pub at : slice_get staged i ≡ Some x
  pub is : Store x.at x.word ≡ action

flow_by : (staged : List Staged) (i : ℕ) (action : Action) (o : Option Staged) → slice_get staged i ≡ o → option_map store_of o ≡ Some action → IsFlowOf staged i action
flow_by staged i action None e f = absurd (none_some action f)
flow_by staged i action (Some x) e f = record { x = x; at = e; is = same_some (Store x.at x.word) action f }

pub flow_is : (staged : List Staged) (i : ℕ) (action : Action) → flow_of staged i ≡ Some action → IsFlowOf staged i action
flow_is staged i action e = flow_by staged i action (slice_get staged i) refl e

no_flow : (staged : List Staged) (i : ℕ) (action : Action) → staged ≡ [] → flow_of staged i ≡ Some action → ⊥
no_flow staged i action empty e = none_some action (sym (ap (λ xs. flow_of xs i) empty ∙ nothing i) ∙ e) where
  nothing : (i : ℕ) → flow_of [] i ≡ None
  nothing i = refl

pub flowed : (p : Pool) (g : Base) (a : Asked) (m : Mode) (i : ℕ) (action : Action) (word : ℕ) (now : List ℕ) → let n = g.known.log.lane in IsWhole p → IsLane n
    → IsLaneAt n (record { base = g; asked = a; mode = m }) p → flow_of g.staging i ≡ Some action → Performs action word p.words now → HasFlowed p n now (record g { staging = remove g.staging i }) a m
flowed p g a mode.Idle i action word now h lane is e f = absurd (no_flow g.staging i action is.at.0 e)
flowed p g a (mode.Acting wait) i action word now h lane is e f = absurd (no_flow g.staging i action is.at.0 e)
flowed p g a (mode.Finding wait find) i action word now h lane is e f = absurd (no_flow g.staging i action is.at.0 e)
flowed p g a (mode.Claiming (room.Call (rooming.Write r)) claim) i action word now h lane is e f = absurd (no_flow g.staging i action is.at.0 e)
flowed p g a (mode.Claiming (room.Task phase) claim) i action word now h lane is e f = absurd is.at
flowed p g a (mode.Sealing (seal.Call (sealing.Write r)) s) i action word now h lane is e f =
    let x : IsFlowOf g.staging i action = flow_is g.staging i action e in
    flows p g a r s i x.x word now h lane is x.at (subst (λ t. Performs t word p.words now) (sym x.is) f)
flowed p g a (mode.Sealing (seal.Task phase) s) i action word now h lane is e f = absurd is.at
