use Rattle.std.proofs.Common.{ℕ, ◌-◌, ◌^◌, ◌<◌, ◌≡◌, List, Some, sym, subst}
use Rattle.dn_act.specs.Action.{Performs}
use Rattle.dn_act.specs.declared.actions.Action.{Action}
use Rattle.dn_model.specs.Regions.{IsLane}
use Rattle.dn_owners.proofs.Ats.{same_some, none_some}
use Rattle.dn_plan.specs.declared.phases.ActPhase.TheVariants as phase
use Rattle.dn_plan.specs.declared.phases.LocatePhase.TheVariants.{Owner}
use Rattle.dn_plan.specs.declared.phases.RoomPhase.TheVariants as rooming
use Rattle.dn_plan.specs.declared.phases.SealPhase.TheVariants as sealing
use Rattle.dn_ask.specs.declared.asks.Act.TheVariants as act
use Rattle.dn_ask.specs.declared.asks.FindRoom.TheVariants as room
use Rattle.dn_ask.specs.declared.asks.Locate.TheVariants as locate
use Rattle.dn_ask.specs.declared.asks.Seal.TheVariants as seal
use Rattle.dn_log.specs.Staged.{flow_of}
use Rattle.dn_lane.specs.Next.{next_in, next_of}
use Rattle.dn_lane.specs.State.{LaneState}
use Rattle.dn_lane.specs.Taken.{taken_by}
use Rattle.dn_lane.specs.declared.asked.Asked.{Asked}
use Rattle.dn_lane.specs.declared.base.Base.{Base}
use Rattle.dn_lane.specs.declared.modes.Mode.{Mode}
use Rattle.dn_lane.specs.declared.modes.Mode.TheVariants as mode
use Rattle.dn_beside.specs.Pool.{Pool, store_in, IsWhole}
use Rattle.dn_lanes.specs.Lane.{IsLaneAt}
use Rattle.std.specs.List.{remove}
use Rattle.dn_lanes.specs.Stepped.{ComesTo, LaneStepped, FlowStepped}
use Rattle.dn_lanes.proofs.Looks.{looks}
use Rattle.dn_lanes.proofs.Finds.{finds}
use Rattle.dn_lanes.proofs.Opens.{opens}
use Rattle.dn_lanes.proofs.Raises.{raises}
use Rattle.dn_lanes.proofs.Claims.{claims}
use Rattle.dn_lanes.proofs.Seals.{seals}
use Rattle.dn_lanes.proofs.Tasks.{task_taken}
use Rattle.dn_lanes.proofs.Flowing.{HasFlowed, flowed}

-- An action of a lane, whatever its phase.

-- what is asked of the pool and of the lane
pub record IsReadyTo (p : Pool) (n : ℕ) (g : Base) (a : Asked) (m : Mode) : Type 0 where
  pub whole : IsWhole p
  pub lane : IsLane n
  pub few : (store_in p).segment_count < 2 ^ 64 - 1
  pub at : IsLaneAt n (record { base = g; asked = a; mode = m }) p

did : (x action : Action) (word : ℕ) (words now : List ℕ) → Some x ≡ Some action → Performs action word words now → Performs x word words now
did x action word words now e f = subst (λ (y : Action). Performs y word words now) (sym (same_some x action e)) f

by_mode : (p : Pool) (g : Base) (a : Asked) (m : Mode) (action : Action) (word : ℕ) (now : List ℕ) → IsReadyTo p g.known.log.lane g a m → next_in g a m ≡ Some action
    → Performs action word p.words now → ComesTo p g.known.log.lane (record { base = g; asked = a; mode = m }) now (taken_by g a m word)
by_mode p g a mode.Idle action word now h e f = absurd (none_some action e)
by_mode p g a (mode.Acting (act.Call phase.Look)) action word now h e f = looks p g a word now h.whole h.lane h.at (did _ action word p.words now e f)
by_mode p g a (mode.Acting (act.Call (phase.Gate look located))) action word now h e f = opens p g a look located word now h.whole h.lane h.at (did _ action word p.words now e f)
by_mode p g a (mode.Acting (act.Call (phase.Raise r))) action word now h e f = raises p g a r word now h.whole h.lane h.at (did _ action word p.words now e f)
by_mode p g a (mode.Acting (act.Task place)) action word now h e f =
    task_taken p g a place word now (record { whole = h.whole; lane = h.lane; at = h.at }) (did _ action word p.words now e f)
by_mode p g a (mode.Finding (locate.Call (Owner look)) find) action word now h e f = finds p g a look find word now h.whole h.lane h.at (did _ action word p.words now e f)
by_mode p g a (mode.Finding (locate.Task place) find) action word now h e f = absurd h.at.at.1
by_mode p g a (mode.Claiming (room.Call (rooming.Write r)) claim) action word now h e f = claims p g a r claim word now h.whole h.lane h.few h.at (did _ action word p.words now e f)
by_mode p g a (mode.Claiming (room.Task place) claim) action word now h e f = absurd h.at.at
by_mode p g a (mode.Sealing (seal.Call (sealing.Write r)) s) action word now h e f = seals p g a r s word now h.whole h.lane h.at (did _ action word p.words now e f)
by_mode p g a (mode.Sealing (seal.Task place) s) action word now h e f = absurd h.at.at

pub lane_steps : (p : Pool) (n : ℕ) (l : LaneState) (action : Action) (word : ℕ) (now : List ℕ) → IsWhole p → IsLane n → (store_in p).segment_count < 2 ^ 64 - 1 → IsLaneAt n l p
    → next_of l ≡ Some action → Performs action word p.words now → LaneStepped p n l word now
lane_steps p n l action word now whole lane few at e f =
    let P : ℕ → Type 0 = λ k. IsReadyTo p k l.base l.asked l.mode → ComesTo p k l now (taken_by l.base l.asked l.mode word) in
    let own : P l.base.known.log.lane = λ h. by_mode p l.base l.asked l.mode action word now h e f in
    subst P at.log.lane own (record { whole = whole; lane = lane; few = few; at = at })

pub lane_flows : (p : Pool) (n : ℕ) (l : LaneState) (index : ℕ) (action : Action) (word : ℕ) (now : List ℕ) → IsWhole p → IsLane n → IsLaneAt n l p
    → flow_of l.base.staging index ≡ Some action → Performs action word p.words now → FlowStepped p n l index now
lane_flows p n l index action word now whole lane at e f =
    let P : ℕ → Type 0 = λ k. IsLane k → IsLaneAt k l p → FlowStepped p k l index now in
    let own : P l.base.known.log.lane = λ i h.
    let r : HasFlowed p l.base.known.log.lane now (record l.base { staging = remove l.base.staging index }) l.asked l.mode =
    flowed p l.base l.asked l.mode index action word now whole i (record { log = h.log; learns = h.learns; fetch = h.fetch; at = h.at; knows = h.knows }) e f in
    record { q = r.q; words = r.done.words; by = r.done.by; quiet = r.quiet; lane = r.lane; count = r.count } in
    subst P at.log.lane own lane at
