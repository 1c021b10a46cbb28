use Rattle.std.proofs.Common.{ℕ, ◌≡◌, List, [], Contains, Option, Some, sym, ◌∙◌, ap, subst}
use Rattle.dn_word.specs.declared.packed.gate.Gate.{Gate}
use Rattle.dn_model.specs.Regions.{gate, IsLane}
use Rattle.dn_plan.specs.declared.phases.RoomPhase.TheVariants as rooming
use Rattle.dn_plan.specs.declared.phases.SealPhase.TheVariants as sealing
use Rattle.dn_ask.specs.declared.asks.FindRoom.TheVariants as room
use Rattle.dn_ask.specs.declared.asks.Seal.TheVariants as seal
use Rattle.dn_log.specs.declared.staging.Staged.{Staged}
use Rattle.dn_store.specs.Cut.{IsCut}
use Rattle.dn_owners.specs.Known.{Look}
use Rattle.dn_owners.proofs.Logs.{nil_has}
use Rattle.dn_beside.specs.Pool.{Pool, store_in}
use Rattle.dn_reach.specs.Staging.{MayStageAll}
use Rattle.dn_lane.specs.State.{LaneState}
use Rattle.dn_lane.specs.declared.asked.Asked.{Asked}
use Rattle.dn_lane.specs.declared.base.Base.{Base}
use Rattle.dn_lane.specs.declared.modes.Mode.{Mode}
use Rattle.dn_lane.specs.declared.modes.Mode.TheVariants as mode
use Rattle.dn_lanes.specs.Lane.{IsLaneAt}
use Rattle.dn_lanes.specs.Phases.{IsAt}
use Rattle.dn_machine.specs.State.{Machine}
use Rattle.dn_machine.specs.Sound.{IsMachineAt, IsSound}
use Rattle.dn_parts.specs.Logs.{HasLog, KnowsLog, HaveLogs}
use Rattle.dn_parts.proofs.PartsRead.{by_words, lane_of}

-- Logs, as a reader of the words finds them.

none_staged : (g : Base) → g.staging ≡ [] → MayStageAll g.known.log g.staging
none_staged g e x c = let P : List Staged → Type 0 = λ xs. Contains xs x in absurd (nil_has x (subst P e c))

-- what a lane has staged, at each of its phases
may_stage : (seen : Option Look) (n : ℕ) (g : Base) (a : Asked) (w : Mode) → IsAt seen n g a w → MayStageAll g.known.log g.staging
may_stage seen n g a mode.Idle h = none_staged g h.0
may_stage seen n g a (mode.Acting wait) h = none_staged g h.0
may_stage seen n g a (mode.Finding wait find) h = none_staged g h.0
may_stage seen n g a (mode.Claiming (room.Call (rooming.Write r)) claim) h = none_staged g h.0
may_stage seen n g a (mode.Claiming (room.Task phase) claim) h = absurd h
may_stage seen n g a (mode.Sealing (seal.Call (sealing.Write r)) s) h = h.stages
may_stage seen n g a (mode.Sealing (seal.Task phase) s) h = absurd h

log_of : (p : Pool) (m : Machine) (n : ℕ) → IsMachineAt p m → IsLane n → HasLog p.words n
log_of p m n h l =
    let P : ℕ → Type 0 = λ i. IsCut ((store_in p).logs n) i in
    record {
      log = (store_in p).logs n;
      is = h.whole.represents.reads.logs_are n l;
      merged = subst P (sym (h.whole.represents.table.marks n l.below)) (h.whole.represents.merged n);
      plain = λ x c. h.whole.plain n x c;
    }

len_is : (p : Pool) (m : Machine) (n : ℕ) → IsMachineAt p m → IsLane n → (gate p.words n).len ≡ ((store_in p).gates n).len
len_is p m n h l = ap (λ (g : Gate). g.len) (h.whole.represents.table.gates n l.below)

knows_log : (p : Pool) (m : Machine) (n : ℕ) (l : LaneState) → IsMachineAt p m → m.lanes n ≡ Some l → KnowsLog p.words n l
knows_log p m n l h is =
    let at : IsLaneAt n l p = h.know.lanes n l is in
    record {
      lane = at.log.lane;
      len = sym at.log.len ∙ sym (len_is p m n h (lane_of p m n l h is));
      segments = at.log.directory;
      staged = may_stage (p.owners.knows n).look n l.base l.asked l.mode at.at;
    }

logs_at : (p : Pool) (m : Machine) → IsMachineAt p m → HaveLogs (record m { words = p.words })
logs_at p m h = record {
  logs = λ n l. log_of p m n h l;
  known = λ n l is. knows_log p m n l h is;
  unmade = λ n l none. len_is p m n h l ∙ (h.know.unmade n l none).len;
}

pub have_logs : (segments : ℕ) (m : Machine) → IsSound segments m → HaveLogs m
have_logs segments m h = by_words HaveLogs h.p m h.at.words (logs_at h.p m h.at)
