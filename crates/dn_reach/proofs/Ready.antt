use Rattle.std.proofs.Common.{ℕ, ◌≡◌, List, [], ◌∷◌, slice_set, refl, ◌∙◌, ap}
use Rattle.dn_act.specs.Words.{word_at}
use Rattle.dn_act.specs.Action.{Performs}
use Rattle.dn_act.specs.declared.actions.Action.TheVariants.{Store}
use Rattle.dn_log.specs.Log.{Log}
use Rattle.dn_log.specs.declared.staging.Staged.{Staged}
use Rattle.dn_record.specs.declared.records.Record.{Record}
use Rattle.dn_services.specs.Staged.{GoApart}
use Rattle.dn_owners.specs.Known.{Knows}
use Rattle.dn_beside.specs.Pool.{Pool}
use Rattle.dn_beside.specs.Lanes.{LeavesLane}
use Rattle.dn_reach.specs.OwnLog.{IsLaneOf}
use Rattle.dn_reach.specs.Staging.{MayStage, MayStageAll, AreFlowing}
use Rattle.dn_reach.specs.Placing.{staged_for}
use Rattle.dn_reach.specs.Sealing.{MayWrite, MaySeal}
use Rattle.dn_reach.specs.Steps.{after_flow}
use Rattle.dn_reach.proofs.Lasts.{all_staged}
use Rattle.dn_reach.proofs.Stages.{staged_may, staged_go_apart}
use Rattle.dn_reach.proofs.Flows.{flow_step, flow_log, flow_flowing, head_is}

-- All staged words flow, the oldest first.

record IsFlowed (p : Pool) (n : ℕ) (log : Log) (all : List Staged) : Type 0 where
  now : List ℕ
  of : IsLaneOf (after_flow p now) n log
  flowing : AreFlowing now [] all

flow_all : (p : Pool) (n : ℕ) (log : Log) (all xs : List Staged) → IsLaneOf p n log → MayStageAll log all → GoApart all → AreFlowing p.words xs all → IsFlowed p n log all
flow_all p n log all [] h may apart f = record { now = p.words; of = h; flowing = f }
flow_all p n log all (x ∷ xs) h may apart f =
    let now : List ℕ = slice_set p.words x.at x.word in
    let done : Performs (Store x.at x.word) (word_at p.words x.at) p.words now = record { answer = refl; change = refl } in
    let kind : MayStage log x = may x (f.known x (head_is x xs x refl)) in
    let next : IsLaneOf (after_flow p now) n log = record {
      whole = (flow_step p n log x (word_at p.words x.at) now h kind done).whole;
      lane = h.lane;
      own = flow_log p n log x (word_at p.words x.at) now h kind done;
    } in
    let rest = flow_all (after_flow p now) n log all xs next may apart (flow_flowing p n log (x ∷ xs) all 0 x (word_at p.words x.at) now h may apart f refl done) in
    record { now = rest.now; of = rest.of; flowing = rest.flowing }

-- what the lane knows of its owners lasts
pub may_lasts : (p q : Pool) (n : ℕ) (log : Log) (k : ℕ) (r : Record) → q.owners.knows n ≡ p.owners.knows n → MayWrite p n log k r → MayWrite q n log k r
may_lasts p q n log k r e m = record {
  spelled = m.spelled;
  plain = m.plain;
  key = m.key;
  room = m.room;
  look = m.look;
  looked = ap (λ (v : Knows). v.look) e ∙ m.looked;
  slot = m.slot;
}

pub may_write_lasts : (p q : Pool) (n : ℕ) (log : Log) (k : ℕ) (r : Record) → LeavesLane n p q → MayWrite p n log k r → MayWrite q n log k r
may_write_lasts p q n log k r l m = may_lasts p q n log k r l.knows m

pub ready : (p : Pool) (n : ℕ) (log : Log) (k : ℕ) (r : Record) → IsLaneOf p n log → MayWrite p n log k r → (now : List ℕ) × IsLaneOf (after_flow p now) n log × MaySeal (after_flow p now) n log k r
ready p n log k r h f =
    let all : List Staged = staged_for log r in
    let z = flow_all p n log all all h (staged_may log r f.spelled f.room) (staged_go_apart log r k h.own.fit h.own.apart f.spelled f.key f.room) (all_staged p.words all) in
    (z.now, z.of, record { may = may_lasts p (after_flow p z.now) n log k r refl f; flowed = z.flowing })
