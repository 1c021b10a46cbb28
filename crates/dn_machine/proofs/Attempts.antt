use Rattle.std.proofs.Common.{ℕ, ◌≡◌, ◌≢◌, Some, None, sym, ◌∙◌, ap, subst}
use Rattle.dn_act.specs.Action.{words_after}
use Rattle.dn_act.specs.declared.actions.Action.{Action}
use Rattle.dn_hist.specs.Calls.{Bytes, key_of, reply_of, map_after}
use Rattle.dn_hist.specs.declared.receipts.Receipt.{Receipt}
use Rattle.dn_model.specs.PoolMap.{HoldsMap}
use Rattle.dn_lane.specs.Asked.{call_in}
use Rattle.dn_lane.specs.Next.{next_of}
use Rattle.dn_lane.specs.State.{LaneState}
use Rattle.dn_lane.specs.Taken.{Taken, taken_by}
use Rattle.dn_lane.specs.Turns.{turn_of}
use Rattle.dn_lanes.specs.Stepped.{receipt_by, LaneStepped}
use Rattle.dn_receipts.specs.Joined.{Joins}
use Rattle.dn_receipts.proofs.Plain.{none_keeps, its_reply, its_change}
use Rattle.dn_machine.specs.State.{Machine}
use Rattle.dn_machine.specs.Events.{found}
use Rattle.dn_machine.specs.Sound.{IsSound}
use Rattle.dn_machine.proofs.Calls.{taken_same, IsAnswer, answer_of}
use Rattle.dn_machine.proofs.LaneActs.{lane_comes}

-- What an action of a lane does to the map that the words hold.

pub record IsActing (segments : ℕ) (m : Machine) (n : ℕ) (l : LaneState) (action : Action) : Type 0 where
  pub sound : IsSound segments m
  pub there : m.lanes n ≡ Some l
  pub next : next_of l ≡ Some action

comes : (segments : ℕ) (m : Machine) (n : ℕ) (l : LaneState) (action : Action) (a : IsActing segments m n l action) → LaneStepped a.sound.p n l (found m action) (words_after action m.words)
comes segments m n l action a = lane_comes a.sound.p m n l action a.sound.at a.there a.next

held_before : (segments : ℕ) (m : Machine) (h : IsSound segments m) (map : Bytes) → HoldsMap m.words map → HoldsMap h.p.words map
held_before segments m h map x = subst (λ ws. HoldsMap ws map) (sym h.at.words) x

-- ---- no receipt joins
pub unmade_keeps : (segments : ℕ) (m : Machine) (n : ℕ) (l : LaneState) (action : Action) (map : Bytes) → IsActing segments m n l action
    → receipt_by (turn_of l (found m action)) ≡ None → HoldsMap m.words map → HoldsMap (words_after action m.words) map
unmade_keeps segments m n l action map a none x =
    let s : LaneStepped a.sound.p n l (found m action) (words_after action m.words) = comes segments m n l action a in
    subst (λ ws. HoldsMap ws map) s.words
    (none_keeps a.sound.p s.q map a.sound.at.whole s.by.whole (subst (λ o. Joins a.sound.p s.q o) none s.joins) (held_before segments m a.sound map x))

-- ---- one joins
keyed : (segments : ℕ) (m : Machine) (n : ℕ) (l : LaneState) (action : Action) (r : Receipt) (a : IsActing segments m n l action) → receipt_by (turn_of l (found m action)) ≡ Some r → key_of r.call ≢ 0
keyed segments m n l action r a is z =
    let t : Taken = taken_by l.base l.asked l.mode (found m action) in
    let s : LaneStepped a.sound.p n l (found m action) (words_after action m.words) = comes segments m n l action a in
    let x : IsAnswer m.callers l.asked = answer_of m.callers l.asked t r (taken_same l.base l.asked l.mode (found m action)) (a.sound.at.actors.calls n l a.there) is in
    x.key (sym (ap key_of ((s.its r is).call ∙ ap call_in x.is)) ∙ z)

pub made_reply : (segments : ℕ) (m : Machine) (n : ℕ) (l : LaneState) (action : Action) (r : Receipt) (map : Bytes) → IsActing segments m n l action
    → receipt_by (turn_of l (found m action)) ≡ Some r → HoldsMap m.words map → r.reply ≡ reply_of r.call map
made_reply segments m n l action r map a is x =
    let s : LaneStepped a.sound.p n l (found m action) (words_after action m.words) = comes segments m n l action a in
    its_reply a.sound.p s.q r map a.sound.at.whole (subst (λ o. Joins a.sound.p s.q o) is s.joins) (keyed segments m n l action r a is) (held_before segments m a.sound map x)

pub made_map : (segments : ℕ) (m : Machine) (n : ℕ) (l : LaneState) (action : Action) (r : Receipt) (map : Bytes) → IsActing segments m n l action
    → receipt_by (turn_of l (found m action)) ≡ Some r → HoldsMap m.words map → HoldsMap (words_after action m.words) (map_after r.call map)
made_map segments m n l action r map a is x =
    let s : LaneStepped a.sound.p n l (found m action) (words_after action m.words) = comes segments m n l action a in
    subst (λ ws. HoldsMap ws (map_after r.call map)) s.words
    (its_change a.sound.p s.q r map a.sound.at.whole s.by.whole (subst (λ o. Joins a.sound.p s.q o) is s.joins) (keyed segments m n l action r a is) (held_before segments m a.sound map x))
