use Rattle.std.proofs.Common.{ℕ, ◌≡◌, false, Bool, List, Option, refl, sym, ◌∙◌, subst}
use Rattle.dn_hist.specs.Calls.{key_of}
use Rattle.dn_hist.specs.declared.calls.Call.{Call}
use Rattle.dn_hist.specs.declared.calls.Call.TheVariants.{Get, Put, Delete}
use Rattle.dn_hist.specs.declared.calls.Reply.{Reply}
use Rattle.dn_model.specs.Regions.{slot_of, IsLane}
use Rattle.dn_plan.specs.declared.phases.ActPhase.{ActPhase}
use Rattle.dn_plan.specs.declared.phases.ActPhase.TheVariants as phase
use Rattle.dn_plan.specs.declared.phases.LocatePhase.TheVariants.{Owner}
use Rattle.dn_plan.specs.declared.phases.Raised.{Raised}
use Rattle.dn_plan.specs.declared.phases.RoomPhase.TheVariants as rooming
use Rattle.dn_plan.specs.declared.phases.SealPhase.TheVariants as sealing
use Rattle.dn_ask.specs.Ask.{wish_in}
use Rattle.dn_ask.specs.declared.asks.Act.{Act}
use Rattle.dn_ask.specs.declared.asks.Act.TheVariants as act
use Rattle.dn_ask.specs.declared.asks.FindRoom.TheVariants as room
use Rattle.dn_ask.specs.declared.asks.Locate.TheVariants as locate
use Rattle.dn_ask.specs.declared.asks.Seal.TheVariants as seal
use Rattle.dn_lane.specs.Asked.{brief_of, call_in}
use Rattle.dn_lane.specs.State.{LaneState}
use Rattle.dn_lane.specs.declared.asked.Asked.{Asked}
use Rattle.dn_lane.specs.declared.asked.Asked.TheVariants as asked
use Rattle.dn_lane.specs.declared.base.Base.{Base}
use Rattle.dn_lane.specs.declared.modes.Mode.{Mode}
use Rattle.dn_lane.specs.declared.modes.Mode.TheVariants as mode
use Rattle.dn_owners.specs.Known.{Look}
use Rattle.dn_beside.specs.Pool.{Pool, store_in, IsWhole}
use Rattle.dn_beside.specs.Grown.{Grows}
use Rattle.dn_beside.specs.Lanes.{LeavesKey, LeavesLane}
use Rattle.dn_learnt.specs.Heeding.{look_by}
use Rattle.dn_learnt.proofs.Lessons.{learns_last}
use Rattle.dn_reach.specs.OwnLog.{HoldsLog}
use Rattle.dn_reach.specs.Placing.{staged_for}
use Rattle.dn_reach.proofs.Lasts.{log_lasts, flowing_lasts}
use Rattle.dn_reach.proofs.Stages.{staged_may}
use Rattle.dn_seek.proofs.Seeks.{looked_lasts}
use Rattle.dn_receipts.specs.Sealing.{record_of}
use Rattle.dn_lanes.specs.Calls.{key_in, HasLook}
use Rattle.dn_lanes.specs.Phases.{IsCalling, IsActing, IsAt, IsReply, IsReplyTo, KnowsReply, KnowsGate, KnowsCalling, KnowsActing, Knows}
use Rattle.dn_lanes.specs.Lane.{IsLaneAt}
use Rattle.dn_lanes.proofs.Called.{is_call, positive, call_record}

-- What a lane knows lasts under the steps of others.

pub record AreOthers (n : ℕ) (p q : Pool) : Type 0 where
  pub before : IsWhole p
  pub after : IsWhole q
  pub lane : IsLane n
  pub grows : Grows p q
  pub leaves : LeavesLane n p q

abbrev pub seen_by : ℕ → Pool → Option Look
seen_by n p = (p.owners.knows n).look

call_lasts : (n : ℕ) (p q : Pool) (call : Call) (value : List ℕ) (held : Bool) → LeavesKey n (key_of call) p q → IsReplyTo p call value held → IsReplyTo q call value held
call_lasts n p q (Get key) value held k h = record { of = h.of; agrees = k.located h.of h.agrees; of_key = h.of_key; plain = h.plain; says = h.says }
call_lasts n p q (Put key value) room held k h = tt
call_lasts n p q (Delete key) room held k h = tt

pub told_lasts : (n : ℕ) (p q : Pool) (a : Asked) (held : Bool) → LeavesKey n (key_in a) p q → KnowsReply p a held → KnowsReply q a held
told_lasts n p q asked.Nothing held k h = tt
told_lasts n p q (asked.Call call view value) held k h = call_lasts n p q call value held k h
told_lasts n p q asked.Task held k h = tt

-- the key is of the slot at which the lane has looked
key_kept : (n : ℕ) (p q : Pool) (a : Asked) (deed : ℕ) → AreOthers n p q → HasLook (seen_by n p) a deed → ((store_in q).gates n).fenced ≡ false → LeavesKey n (key_in a) p q
key_kept n p q a deed o look clear = o.leaves.keys (key_in a) (look_by (slot_of (key_in a)) deed) (positive a look.called) look.looked refl clear

-- ---- its gate
gate_lasts : (n : ℕ) (p q : Pool) (r : Raised) → AreOthers n p q → ((store_in q).gates n).fenced ≡ false → KnowsGate p n r → KnowsGate q n r
gate_lasts n p q r o clear h = o.leaves.own.gate clear ∙ h

-- ---- phase by phase
calling_lasts : (n : ℕ) (p q : Pool) (a : Asked) (place : ActPhase) → AreOthers n p q → ((store_in q).gates n).fenced ≡ false → IsCalling (seen_by n p) n a place → KnowsCalling p n a place → KnowsCalling q n a place
calling_lasts n p q a phase.Look o clear at h = tt
calling_lasts n p q a (phase.Gate look located) o clear at h = told_lasts n p q a located.held (key_kept n p q a look o at clear) h
calling_lasts n p q a (phase.Raise r) o clear at h = (gate_lasts n p q r o clear h.0, told_lasts n p q a r.located.held (key_kept n p q a r.look o at.0.look clear) h.1)

acting_lasts : (n : ℕ) (p q : Pool) (a : Asked) (wait : Act) → AreOthers n p q → ((store_in q).gates n).fenced ≡ false → IsActing (seen_by n p) n a wait → KnowsActing p n a wait → KnowsActing q n a wait
acting_lasts n p q a (act.Call place) o clear at h = calling_lasts n p q a place o clear at h
acting_lasts n p q a (act.Task place) o clear at h = tt

knows_lasts : (n : ℕ) (p q : Pool) (g : Base) (a : Asked) (m : Mode) → AreOthers n p q → ((store_in q).gates n).fenced ≡ false → HoldsLog p n g.known.log → IsAt (seen_by n p) n g a m → Knows p n g a m → Knows q n g a m
knows_lasts n p q g a mode.Idle o clear log at h = tt
knows_lasts n p q g a (mode.Acting wait) o clear log at h = acting_lasts n p q a wait o clear at.1 h
knows_lasts n p q g a (mode.Finding (locate.Call (Owner look)) find) o clear log at h =
    looked_lasts p q n (key_in a) (wish_in (brief_of n a) (locate.Call (Owner look))) g.fetch find (look_by (slot_of (key_in a)) look) o.before o.after o.grows o.leaves (positive a at.1.0.called) at.1.0.looked refl clear h
knows_lasts n p q g a (mode.Finding (locate.Task place) find) o clear log at h = absurd at.1
knows_lasts n p q g a (mode.Claiming (room.Call (rooming.Write r)) claim) o clear log at h = gate_lasts n p q r o clear h
knows_lasts n p q g a (mode.Claiming (room.Task place) claim) o clear log at h = tt
knows_lasts n p q g a (mode.Sealing (seal.Call (sealing.Write r)) s) o clear log at h = (
  gate_lasts n p q r o clear h.0,
  flowing_lasts p q n g.known.log g.staging (staged_for g.known.log (record_of (call_in a))) o.leaves.own log
      (staged_may g.known.log (record_of (call_in a)) (call_record (call_in a) (is_call a at.raised.look.called)) at.room) h.1,
)
knows_lasts n p q g a (mode.Sealing (seal.Task place) s) o clear log at h = tt

pub lane_lasts : (n : ℕ) (l : LaneState) (p q : Pool) → AreOthers n p q → IsLaneAt n l p → IsLaneAt n l q
lane_lasts n l p q o h = record {
  log = log_lasts p q n l.base.known.log o.leaves.own h.log;
  learns = learns_last p q n l.base.known o.grows o.leaves h.learns;
  fetch = h.fetch ∙ sym o.grows.pool;
  at = subst (λ v. IsAt v.look n l.base l.asked l.mode) (sym o.leaves.knows) h.at;
  knows = λ clear. knows_lasts n p q l.base l.asked l.mode o clear h.log h.at (h.knows ((o.grows.later.gates n).clear clear));
}
