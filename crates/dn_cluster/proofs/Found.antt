use Rattle.std.proofs.Common.{ℕ, ◌^◌, ◌<◌, ◌≤◌, ◌≡◌, true, List, Contains, Option, Some, None, length, slice_get, refl, sym, ◌∙◌, ap, subst, arith}
use Rattle.std.proofs.lemmas.List.Elements.{Contains-push}
use Rattle.std.proofs.lemmas.Option.{none-some, same_Some}
use Rattle.dn_word.specs.declared.positions.Position.{Position}
use Rattle.dn_word.specs.Deed.{deed_of}
use Rattle.dn_word.specs.Gate.{gate_of}
use Rattle.dn_act.specs.Action.{at_of, words_after, Performs}
use Rattle.dn_act.specs.Words.{word_at, pool_size}
use Rattle.dn_act.specs.declared.actions.Action.{Action}
use Rattle.dn_act.specs.declared.actions.Action.TheVariants.{Load}
use Rattle.dn_hist.specs.Calls.{key_of}
use Rattle.dn_hist.specs.declared.receipts.Receipt.{Receipt}
use Rattle.dn_model.specs.Regions.{gate, deed, slot_of, deed_at, gate_at, IsLane}
use Rattle.dn_merge.specs.Merge.{Merging, merge_next, Meets}
use Rattle.dn_plan.specs.Plan.{is_owner}
use Rattle.dn_lane.specs.Asked.{call_in, view_in}
use Rattle.dn_lane.specs.CallCauses.{CallCause}
use Rattle.dn_lane.specs.declared.answers.Answer.TheVariants.{NotOwner}
use Rattle.dn_lane.specs.Next.{next_of}
use Rattle.dn_lane.specs.State.{LaneState}
use Rattle.dn_lane.specs.Taken.{Taken, taken_by}
use Rattle.dn_lane.specs.Turns.{turn_of}
use Rattle.dn_lane.specs.declared.answers.Turn.{Turn}
use Rattle.dn_lane.specs.declared.asked.Asked.{Asked}
use Rattle.dn_owners.specs.Sound.{bound_by}
use Rattle.dn_turns.specs.Knows.{IsMergerAt}
use Rattle.dn_turns.proofs.Fits.{fits}
use Rattle.dn_lanes.specs.Stepped.{receipt_by, LaneStepped}
use Rattle.dn_callers.specs.Callers.{Standing}
use Rattle.dn_callers.specs.Sessions.{IsSession}
use Rattle.dn_machine.specs.State.{Machine}
use Rattle.dn_machine.specs.Events.{Lane, Acts, found, answered, lane_does, of_lane}
use Rattle.dn_machine.specs.Sound.{IsSound}
use Rattle.dn_machine.proofs.Calls.{taken_same, IsAnswer, answer_of}
use Rattle.dn_machine.proofs.Kept.{sound}
use Rattle.dn_machine.proofs.LaneActs.{lane_comes}
use Rattle.dn_machine.proofs.Rest.{performs}
use Rattle.dn_parts.proofs.PartsStamps.{are_bound}
use Rattle.dn_cluster.specs.State.{ClusterState}
use Rattle.dn_cluster.specs.Machine.{machine_of}
use Rattle.dn_cluster.specs.Acting.{IsNoOwner}
use Rattle.dn_cluster.specs.Asks.{RunsAt, TakesAt}
use Rattle.dn_cluster.specs.declared.actors.Acted.{Acted}
use Rattle.dn_cluster.specs.declared.actors.Acted.TheVariants as acted
use Rattle.dn_cluster.specs.Changed.{position_in}
use Rattle.dn_cluster.specs.Inside.{IsNode, IsCluster}
use Rattle.dn_cluster.specs.declared.nodes.Node.{Node}
use Rattle.dn_cluster.specs.Does.{CanBeSound}
use Rattle.dn_cluster.proofs.Places.{runs_is, HasNode, merger_is}
use Rattle.dn_cluster.proofs.Within.{merger_within}

-- What a sound machine says of an action, and of the word that it finds.

pub sized : (words : List ℕ) (c : ClusterState) → CanBeSound words c → pool_size c.segments ≤ length words
sized words c h = omega (arith, ap length (sym h.sound.at.words), h.sound.at.whole.represents.table.size, h.sound.pool)

-- ---- lanes
floor_low : (word : ℕ) → (deed_of word).floor < 2 ^ 31
floor_low word = omega arith

stamp_low : (word : ℕ) → (gate_of word).stamp < 2 ^ 31
stamp_low word = omega arith

bound_low : (words : List ℕ) (k : ℕ) → bound_by (deed words) (gate words) k < 2 ^ 31
bound_low words k =
    let t : ℕ = slot_of k in
    omega (arith, floor_low (word_at words (deed_at t)), stamp_low (word_at words (gate_at (deed words t).lane)))

-- the machine after the lane's action
acted_sound : (segments : ℕ) (m : Machine) (n : ℕ) (l : LaneState) (action : Action) → IsSound segments m → m.lanes n ≡ Some l → next_of l ≡ Some action
    → IsSound segments (lane_does m n l (Some action))
acted_sound segments m n l action h there next =
    subst (λ (x : Machine). IsSound segments x)
    (ap (λ (o : Option LaneState). of_lane m o (λ y. lane_does m n y (next_of y))) there ∙ ap (λ (o : Option Action). lane_does m n l o) next)
    (sound segments m (Acts (Lane n)) h tt)

made_stamp : (segments : ℕ) (m : Machine) (n : ℕ) (l : LaneState) (action : Action) (r : Receipt) → IsSound segments m → m.lanes n ≡ Some l → next_of l ≡ Some action
    → receipt_by (turn_of l (found m action)) ≡ Some r → r.position.stamp < 2 ^ 31
made_stamp segments m n l action r h there next is =
    let k : Machine = lane_does m n l (Some action) in
    let x : Standing = record { receipt = r; answered = true } in
    let has : Contains k.callers.receipts x = subst (λ (o : Option Receipt). Contains (answered m.callers o).receipts x) (sym is) (Contains-push m.callers.receipts x) in
    omega (arith, (are_bound segments k (acted_sound segments m n l action h there next)).each x has, bound_low k.words (key_of r.call))

made_session : (segments : ℕ) (m : Machine) (n : ℕ) (l : LaneState) (action : Action) (r : Receipt) → IsSound segments m → m.lanes n ≡ Some l → next_of l ≡ Some action
    → receipt_by (turn_of l (found m action)) ≡ Some r → IsSession r.position.session
made_session segments m n l action r h there next is =
    let t : Taken = taken_by l.base l.asked l.mode (found m action) in
    let s : LaneStepped h.p n l (found m action) (words_after action m.words) = lane_comes h.p m n l action h.at there next in
    let a : IsAnswer m.callers l.asked = answer_of m.callers l.asked t r (taken_same l.base l.asked l.mode (found m action)) (h.at.actors.calls n l there) is in
    subst IsSession (sym ((s.its r is).session ∙ ap (λ (x : Asked). (view_in x).session) a.is)) a.under_way.session

-- what is so of each receipt is so of the position at which a call is made
by_receipt : (o : Option Receipt) (to : Position) → position_in o ≡ Some to → (P : Position → Type 0) → ((r : Receipt) → o ≡ Some r → P r.position) → P to
by_receipt None to e P each = absurd (none-some to e)
by_receipt (Some r) to e P each = subst P (same_Some r.position to e) (each r refl)

pub takes : (words : List ℕ) (c : ClusterState) (n at : ℕ) (action : Action) → CanBeSound words c → (r : RunsAt c n at) → next_of r.node.lane ≡ Some action → TakesAt c at (word_at words (at_of action))
takes words c n at action h r next =
    let m : Machine = machine_of words c h.told h.receipts in
    let o : Option Receipt = receipt_by (turn_of r.node.lane (word_at words (at_of action))) in record {
      node = r.node;
      is = r.is;
      session = λ to e. by_receipt o to e (λ x. IsSession x.session) (λ x is. made_session c.segments m n r.node.lane action x h.sound (runs_is c n at r) next is);
      stamp = λ to e. by_receipt o to e (λ x. x.stamp < 2 ^ 31) (λ x is. made_stamp c.segments m n r.node.lane action x h.sound (runs_is c n at r) next is);
    }

-- whose call was made
pub made_of : (words : List ℕ) (c : ClusterState) (n at word : ℕ) (action : Action) (turn : Turn) → CanBeSound words c → (r : RunsAt c n at) → next_of r.node.lane ≡ Some action
    → turn ≡ turn_of r.node.lane word → word ≡ word_at words (at_of action) → (q : Receipt) → receipt_by turn ≡ Some q → IsSession q.position.session
made_of words c n at word action turn h r next is found q e =
    made_session c.segments (machine_of words c h.told h.receipts) n r.node.lane action q h.sound (runs_is c n at r) next
    (ap receipt_by (sym (is ∙ ap (turn_of r.node.lane) found)) ∙ e)

-- its action is on a word of the pool
pub lane_within : (words : List ℕ) (b c : ClusterState) (at : ℕ) (x : Node) (action : Action) → CanBeSound words c → b ≡ c → IsCluster b → slice_get c.nodes at ≡ Some x → at_of action < pool_size x.lane.base.known.log.pool → at_of action < length words
lane_within words b c at x action h is all e low =
    let own : IsNode b.segments at x = all.nodes at x (ap (λ (y : ClusterState). slice_get y.nodes at) is ∙ e) in
    omega (arith, low, own.pool, sized words c h, ap (λ (y : ClusterState). y.segments) is)

-- a lane that answers not owner has looked
load_of : (a b : Action) → Some a ≡ Some b → at_of a ≡ at_of b
load_of a b e = ap at_of (same_Some a b e)

pub no_owner : (words : List ℕ) (n word : ℕ) (action : Action) (l : LaneState) (look : ℕ) (cell : Option ℕ) → next_of l ≡ Some action → word ≡ word_at words (at_of action) → l.base.known.log.lane ≡ n
    → CallCause l word (NotOwner look cell) → IsNoOwner words n l look
no_owner words n word action l look cell next found number h =
    let at : ℕ = deed_at (slot_of (key_of (call_in l.asked))) in
    let there : at_of action ≡ at = load_of action (Load at) (sym next ∙ h.0) in record {
      loads = h.0;
      found = h.1 ∙ found ∙ ap (word_at words) there;
      other = ap (λ (k : ℕ). is_owner k look) (sym number) ∙ ap (is_owner l.base.known.log.lane) h.1 ∙ h.2;
    }

abbrev pub turn_in : Acted → Option Turn
turn_in acted.Nothing = None
turn_in (acted.Lane turn) = Some turn
turn_in (acted.Merger turn) = None
turn_in (acted.Monitor turn) = None
turn_in (acted.Session word) = None
turn_in acted.Fault = None

-- ---- mergers
pub record MergerFinds (words : List ℕ) (x : Merging) : Type 0 where
  pub within : at_of (merge_next x) < length words
  pub meets : Meets (word_at words (at_of (merge_next x))) x.place

pub merger_finds : (words : List ℕ) (c : ClusterState) (n at : ℕ) → CanBeSound words c → (g : HasNode c n at) → MergerFinds words g.node.merger
merger_finds words c n at h g =
    let m : Machine = machine_of words c h.told h.receipts in
    let x : Merging = g.node.merger in
    let is : m.mergers n ≡ Some x = merger_is c n at g in
    let lane : IsLane n = h.sound.at.actors.numbers n x is in
    let knows : IsMergerAt n x h.sound.p = h.sound.at.know.mergers n x is in
    let does : Performs (merge_next x) (word_at words (at_of (merge_next x))) h.sound.p.words (words_after (merge_next x) words) = performs h.sound.p m (merge_next x) h.sound.at.words in
    record {
      within = let P : List ℕ → Type 0 = λ ws. at_of (merge_next x) < length ws in subst P h.sound.at.words (merger_within n x h.sound.p h.sound.at.whole lane knows);
      meets = fits n x h.sound.p (word_at words (at_of (merge_next x))) (words_after (merge_next x) words) h.sound.at.whole lane h.sound.at.room.pool knows does;
    }
