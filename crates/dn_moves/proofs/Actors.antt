use Rattle.std.proofs.Common.{ℕ, ◌≡◌, ◌<◌, List, Some, refl, sym, ap, subst, arith}
use Rattle.dn_word.specs.declared.packed.deed.Deed.{Deed}
use Rattle.dn_act.specs.Action.{words_after}
use Rattle.dn_act.specs.declared.actions.Action.{Action}
use Rattle.dn_log.specs.Staged.{flow_of}
use Rattle.dn_model.specs.Regions.{deed}
use Rattle.dn_store.specs.State.{StoreState}
use Rattle.dn_store.specs.Changes.{deeded}
use Rattle.dn_store.proofs.At.{at_by}
use Rattle.dn_merge.specs.Merge.{Merging, merge_next}
use Rattle.dn_monitor.specs.Monitor.{Monitoring, monitor_next}
use Rattle.dn_owners.specs.Known.{Owners}
use Rattle.dn_beside.specs.Pool.{Pool, store_in, IsWhole}
use Rattle.dn_turns.specs.Steps.{MergerStepped}
use Rattle.dn_turns.proofs.Steps.{merger_steps}
use Rattle.dn_lane.specs.Next.{next_of}
use Rattle.dn_lane.specs.State.{LaneState}
use Rattle.dn_lanes.specs.Stepped.{LaneStepped, FlowStepped}
use Rattle.dn_lanes.proofs.Steps.{lane_flows}
use Rattle.dn_orders.specs.Changing.{OrderChange, Same, Asks, Grants, Adopts, Fences}
use Rattle.dn_orders.proofs.Steps.{step}
use Rattle.dn_machine.specs.State.{Machine}
use Rattle.dn_machine.specs.Events.{found}
use Rattle.dn_machine.specs.Sound.{IsSound}
use Rattle.dn_machine.proofs.LaneActs.{lane_of, lane_comes}
use Rattle.dn_machine.proofs.Rest.{performs}
use Rattle.dn_moves.specs.Changes.{GivesUp, Moves, Same as Stays, Asks as AsksSo, Grants as GrantsSo}
use Rattle.dn_moves.proofs.Monitors.{deed_is}

-- What the action of each actor does to deeds, in words.

-- what is so of the deeds of two pools is so of the deeds in their words
over : (R : Deed → Deed → Type 0) (p q : Pool) (words now : List ℕ) (t : ℕ) → IsWhole p → IsWhole q → p.words ≡ words → q.words ≡ now → t < 64 → R ((store_in p).deeds t) ((store_in q).deeds t) → R (deed words t) (deed now t)
over R p q words now t h k e f lt r = subst (λ d. R d (deed now t)) (sym (deed_is p words t h e lt)) (subst (λ d. R ((store_in p).deeds t) d) (sym (deed_is q now t k f lt)) r)

pub lane_gives : (segments : ℕ) (m : Machine) (n : ℕ) (l : LaneState) (action : Action) (t : ℕ) → IsSound segments m → m.lanes n ≡ Some l → next_of l ≡ Some action → t < 64 → GivesUp (deed m.words t) (deed (words_after action m.words) t)
lane_gives segments m n l action t h is e lt =
    let c : LaneStepped h.p n l (found m action) (words_after action m.words) = lane_comes h.p m n l action h.at is e in
    over GivesUp h.p c.q m.words (words_after action m.words) t h.at.whole c.by.whole h.at.words c.words lt ((c.by.order refl).deeds t lt)

pub flow_gives : (segments : ℕ) (m : Machine) (n index : ℕ) (l : LaneState) (action : Action) (t : ℕ) → IsSound segments m → m.lanes n ≡ Some l → flow_of l.base.staging index ≡ Some action → t < 64
    → GivesUp (deed m.words t) (deed (words_after action m.words) t)
flow_gives segments m n index l action t h is e lt =
    let now : List ℕ = words_after action m.words in
    let s : FlowStepped h.p n l index now = lane_flows h.p n l index action (found m action) now h.at.whole (lane_of h.p m n l h.at is) (h.at.know.lanes n l is) e (performs h.p m action h.at.words) in
    over GivesUp h.p s.q m.words now t h.at.whole s.by.whole h.at.words s.words lt ((s.by.order refl).deeds t lt)

pub merger_leaves : (segments : ℕ) (m : Machine) (n : ℕ) (x : Merging) (t : ℕ) → IsSound segments m → m.mergers n ≡ Some x → t < 64 → deed (words_after (merge_next x) m.words) t ≡ deed m.words t
merger_leaves segments m n x t h is lt =
    let now : List ℕ = words_after (merge_next x) m.words in
    let s : MergerStepped n x h.p (found m (merge_next x)) now = merger_steps n x h.p (found m (merge_next x)) now
    (record { whole = h.at.whole; lane = h.at.actors.numbers n x is; few = omega (arith, h.at.room.buckets) }) (h.at.know.mergers n x is) (performs h.p m (merge_next x) h.at.words) in
    over (λ old new. new ≡ old) h.p s.left.q m.words now t h.at.whole s.left.step.whole h.at.words s.left.words lt (ap (λ (o : Owners). o.store.deeds t) s.left.owners)

-- ---- the monitor
at_slot : (p q : Pool) (t u : ℕ) (d : Deed) → store_in q ≡ deeded (store_in p) u d → Moves ((store_in p).deeds u) d → Moves ((store_in p).deeds t) ((store_in q).deeds t)
at_slot p q t u d e moves =
    let old : Deed = (store_in p).deeds t in
    let P : ℕ → Type 0 = λ i. Moves ((store_in p).deeds i) d in
    subst (λ (s : StoreState). Moves old (s.deeds t)) (sym e) (at_by (λ x. Moves old x) (store_in p).deeds u d t (λ same. subst P (sym same) moves) (λ ne. Stays refl))

order_moves : (p q : Pool) (t : ℕ) → OrderChange p q → Moves ((store_in p).deeds t) ((store_in q).deeds t)
order_moves p q t (Same e) = Stays (ap (λ (s : StoreState). s.deeds t) e)
order_moves p q t (Asks u d below is e) = at_slot p q t u d e (AsksSo is)
order_moves p q t (Grants w d below g e) = at_slot p q t w.slot d e (GrantsSo g.new.epoch)
order_moves p q t (Adopts u d g e) = at_slot p q t u d e (GrantsSo g.new.epoch)
order_moves p q t (Fences n lane e) = Stays (ap (λ (s : StoreState). s.deeds t) e)

pub monitor_moves : (segments : ℕ) (m : Machine) (x : Monitoring) (action : Action) (t : ℕ) → IsSound segments m → m.monitor ≡ Some x → monitor_next x ≡ Some action → t < 64
    → Moves (deed m.words t) (deed (words_after action m.words) t)
monitor_moves segments m x action t h is e lt =
    let now : List ℕ = words_after action m.words in
    let s = step h.p x action (found m action) now h.at.whole (h.at.know.monitor x is) e (performs h.p m action h.at.words) in
    over Moves h.p s.0 m.words now t h.at.whole s.1.step.whole h.at.words s.1.words lt (order_moves h.p s.0 t s.1.change)
