use Rattle.std.proofs.Common.{ℕ, ◌-◌, ◌≡◌, List, [], ◌++◌, Option, Some, None, length, refl, sym, ◌∙◌, ap, subst, append-nil}
use Rattle.std.proofs.lemmas.Option.{slice_get_within}
use Rattle.dn_word.specs.declared.positions.Position.{Position}
use Rattle.dn_act.specs.Action.{at_of, words_after, Performs}
use Rattle.dn_act.specs.Words.{word_at}
use Rattle.dn_act.specs.declared.actions.Action.{Action}
use Rattle.dn_hist.specs.declared.receipts.Receipt.{Receipt}
use Rattle.dn_store.specs.State.{with_at}
use Rattle.dn_merge.specs.Merge.{Merging}
use Rattle.dn_route.specs.CallersOrder.{Told}
use Rattle.dn_route.specs.SessionState.{SessionState, heard}
use Rattle.dn_lane.specs.Next.{next_of}
use Rattle.dn_lane.specs.State.{LaneState}
use Rattle.dn_lane.specs.Turns.{turn_of, left_of}
use Rattle.dn_lane.specs.declared.answers.Turn.{Turn}
use Rattle.dn_lanes.specs.Stepped.{receipt_by}
use Rattle.dn_callers.specs.Callers.{Standing}
use Rattle.dn_callers.specs.Sessions.{IsSession}
use Rattle.dn_machine.specs.State.{Machine}
use Rattle.dn_machine.specs.Events.{Lane, Event, Acts, found, acted, answered, with_lane, lane_does, of_lane, happens}
use Rattle.dn_machine.specs.Given.{IsGiven}
use Rattle.dn_machine.specs.Sound.{IsSound}
use Rattle.dn_machine.proofs.Kept.{sound}
use Rattle.dn_cluster.specs.State.{ClusterState, numbered}
use Rattle.dn_cluster.specs.Machine.{machine_of, lane_in, merger_in, session_in, closed_in, load_in}
use Rattle.dn_cluster.specs.Acting.{standing_of}
use Rattle.dn_cluster.specs.Asks.{RunsAt}
use Rattle.dn_cluster.specs.Changed.{with_node, with_client, hears, heard_by, heard_at, position_in, made_at, answered_in}
use Rattle.dn_cluster.specs.Does.{IsEvent, Happens}
use Rattle.dn_cluster.specs.declared.nodes.Node.{Node}
use Rattle.dn_cluster.specs.declared.clients.Client.{Client}
use Rattle.dn_cluster.proofs.Numbers.{view_set, view_still}
use Rattle.dn_cluster.proofs.Places.{running_is, runs_is, HasNode, HasClient, client_is, of_session}
use Rattle.dn_cluster.proofs.Same.{same_machine}

-- The events at which an actor acts.

-- ---- an event of the machine, and its soundness
pub is_event : (words : List ℕ) (c : ClusterState) (now : List ℕ) (d : ClusterState) (joined : List Standing) (e : Event) (told : List Told) (receipts : List Standing)
    → IsSound c.segments (machine_of words c told receipts) → IsGiven c.segments (machine_of words c told receipts) e → d.segments ≡ c.segments
    → machine_of now d told (receipts ++ joined) ≡ happens (machine_of words c told receipts) e → IsEvent words c now d joined e told receipts
is_event words c now d joined e told receipts h given s is = record {
  happens_so = is;
  sound =
      let P : Machine → Type 0 = λ m. IsSound d.segments m in
      let Q : ℕ → Type 0 = λ k. IsSound k (happens (machine_of words c told receipts) e) in
      subst P (sym is) (subst Q (sym s) (sound c.segments (machine_of words c told receipts) e h given));
}

-- where nothing happens
pub nothing_happens : (words : List ℕ) (c : ClusterState) (e : Event) → ((told : List Told) (receipts : List Standing) → IsGiven c.segments (machine_of words c told receipts) e)
    → ((told : List Told) (receipts : List Standing) → happens (machine_of words c told receipts) e ≡ machine_of words c told receipts)
    → Happens words c words c [] e
nothing_happens words c e given still = record {
  is = λ told receipts h. is_event words c words c [] e told receipts h (given told receipts) refl
      (ap (λ (rs : List Standing). machine_of words c told rs) (append-nil receipts) ∙ sym (still told receipts));
}

-- ---- one lane is another, or none: its merger goes on
pub node_parts : (words now : List ℕ) (c : ClusterState) (n at : ℕ) (h : HasNode c n at) (v : Node) (o : Option LaneState) (told : List Told) (receipts more : List Standing) → lane_in (Some v) ≡ o → v.merger ≡ h.node.merger → more ≡ receipts
    → machine_of now (with_node c at v) told more ≡ with_lane (record (machine_of words c told receipts) { words = now }) n o
node_parts words now c n at h v o told receipts more lane merger same = same_machine _ _ (record {
  words = refl;
  lanes = λ k. view_set (λ _ x. lane_in x) c.nodes at n v h.number (slice_get_within c.nodes at h.node h.is) k
      ∙ ap (λ (l : Option LaneState). with_at (λ m. lane_in (numbered c.nodes m)) n l k) lane;
  mergers = λ k. view_still (λ _ x. merger_in x) c.nodes at n h.node v h.number h.is (ap (λ (x : Merging). Some x) merger) k;
  monitor = refl;
  sessions = λ s. refl;
  closed = λ s. refl;
  told = refl;
  receipts = same;
  loads = λ s. refl;
})

abbrev pub node_of : (c : ClusterState) (n at : ℕ) → RunsAt c n at → HasNode c n at
node_of c n at r = record { number = r.number; node = r.node; is = r.is }

-- ---- a session has heard of a position
pub heard_is : (c : ClusterState) (s at : ℕ) (position : Position) (h : HasClient c s at) → heard_at c s position ≡ with_client c (s - 1) (hears h.client position)
heard_is c s at position h = ap (λ (o : Option Client). heard_by c s position o) (client_is c s at h)

-- ---- an action of a lane
-- the machine after it, at which this receipt joins
abbrev pub lane_done : Machine → ℕ → LaneState → Action → Option Receipt → Machine
lane_done m n l action o = record (with_lane (acted m action) n (Some (left_of l (found m action)))) { callers = answered m.callers o }

does_so : (m : Machine) (n : ℕ) (l : LaneState) (action : Action) → m.lanes n ≡ Some l → next_of l ≡ Some action
    → happens m (Acts (Lane n)) ≡ lane_done m n l action (receipt_by (turn_of l (found m action)))
does_so m n l action there next =
    ap (λ (o : Option LaneState). of_lane m o (λ y. lane_does m n y (next_of y))) there ∙ ap (λ (o : Option Action). lane_does m n l o) next

-- who acts, where, and what is asked of the words
pub record IsLaneAct (words : List ℕ) (c : ClusterState) (n at : ℕ) (action : Action) : Type 0 where
  pub runs : RunsAt c n at
  pub next : next_of runs.node.lane ≡ Some action
  pub all : length c.clients ≡ 1000

abbrev pub left_node : Node → ℕ → Node
left_node x word = record x { lane = left_of x.lane word }

joins_none : (words : List ℕ) (c : ClusterState) (n at : ℕ) (action : Action) (h : IsLaneAct words c n at action) (told : List Told) (receipts : List Standing)
    → machine_of (words_after action words) (with_node c at (left_node h.runs.node (word_at words (at_of action)))) told (receipts ++ [])
    ≡ lane_done (machine_of words c told receipts) n h.runs.node.lane action None
joins_none words c n at action h told receipts =
    node_parts words (words_after action words) c n at (node_of c n at h.runs) (left_node h.runs.node (word_at words (at_of action))) _ told receipts (receipts ++ [])
    (running_is (left_node h.runs.node (word_at words (at_of action))) h.runs.runs) refl (append-nil receipts)

joins_one : (words : List ℕ) (c : ClusterState) (n at : ℕ) (action : Action) (h : IsLaneAct words c n at action) (r : Receipt) → IsSession r.position.session → (told : List Told) (receipts : List Standing)
    → machine_of (words_after action words) (answered_in (with_node c at (left_node h.runs.node (word_at words (at_of action)))) (Some r.position)) told (receipts ++ standing_of (Some r))
    ≡ lane_done (machine_of words c told receipts) n h.runs.node.lane action (Some r)
joins_one words c n at action h r session told receipts = ap shown heard_so ∙ same_machine _ _ (record {
  words = refl;
  lanes = λ k. view_set (λ _ x. lane_in x) c.nodes at n v h.runs.number (slice_get_within c.nodes at h.runs.node h.runs.is) k
      ∙ ap (λ (l : Option LaneState). with_at (λ m. lane_in (numbered c.nodes m)) n l k) (running_is v h.runs.runs);
  mergers = λ k. view_still (λ _ x. merger_in x) c.nodes at n h.runs.node v h.runs.number h.runs.is refl k;
  monitor = refl;
  sessions = λ k. view_set session_in c.clients (s - 1) s y g.number (slice_get_within c.clients (s - 1) g.client g.is) k
      ∙ ap (λ (x : SessionState). with_at (λ m. session_in m (numbered c.clients m)) s (heard x r.position) k) (sym (ap (session_in s) (client_is c s (s - 1) g)));
  closed = λ k. view_still (λ _ x. closed_in x) c.clients (s - 1) s g.client y g.number g.is refl k;
  told = refl;
  receipts = refl;
  loads = λ k. view_still (λ _ x. load_in x) c.clients (s - 1) s g.client y g.number g.is refl k;
}) where
  s : ℕ
  s = r.position.session

  g : HasClient c s (s - 1)
  g = of_session c s h.all session

  v : Node
  v = left_node h.runs.node (word_at words (at_of action))

  y : Client
  y = hears g.client r.position

  d : ClusterState
  d = with_node c at v

  shown : ClusterState → Machine
  shown x = machine_of (words_after action words) x told (receipts ++ standing_of (Some r))

  heard_so : heard_at d s r.position ≡ with_client d (s - 1) y
  heard_so = heard_is d s (s - 1) r.position (record { number = g.number; client = g.client; is = g.is })

joins_so : (words : List ℕ) (c : ClusterState) (n at : ℕ) (action : Action) (h : IsLaneAct words c n at action) (o : Option Receipt) → ((r : Receipt) → o ≡ Some r → IsSession r.position.session) → (told : List Told) (receipts : List Standing)
    → machine_of (words_after action words) (answered_in (with_node c at (left_node h.runs.node (word_at words (at_of action)))) (position_in o)) told (receipts ++ standing_of o)
    ≡ lane_done (machine_of words c told receipts) n h.runs.node.lane action o
joins_so words c n at action h None session told receipts = joins_none words c n at action h told receipts
joins_so words c n at action h (Some r) session told receipts = joins_one words c n at action h r (session r refl) told receipts

-- what the cluster is after it
pub record IsLaneDone (words now : List ℕ) (c d : ClusterState) (at word : ℕ) (x : Node) (action : Action) (turn : Turn) : Type 0 where
  pub does : Performs action word words now
  pub turn_is : turn ≡ turn_of x.lane word
  pub after : d ≡ answered_in (with_node c at (left_node x word)) (made_at turn)

acts_at : (words now : List ℕ) (c d : ClusterState) (n at word : ℕ) (action : Action) (turn : Turn) (h : IsLaneAct words c n at action) → IsLaneDone words now c d at word h.runs.node action turn
    → ((r : Receipt) → receipt_by turn ≡ Some r → IsSession r.position.session) → d.segments ≡ c.segments → (told : List Told) (receipts : List Standing) → IsSound c.segments (machine_of words c told receipts)
    → IsEvent words c now d (standing_of (receipt_by turn)) (Acts (Lane n)) told receipts
acts_at words now c d n at word action turn h e session segments told receipts s =
    is_event words c now d (standing_of (receipt_by turn)) (Acts (Lane n)) told receipts s tt segments (shown ∙ sym done) where
      m : Machine
      m = machine_of words c told receipts

      l : LaneState
      l = h.runs.node.lane

      w : ℕ
      w = word_at words (at_of action)

      P : ℕ → Turn → ClusterState
      P v t = answered_in (with_node c at (left_node h.runs.node v)) (made_at t)

      turn_so : turn ≡ turn_of l w
      turn_so = e.turn_is ∙ ap (turn_of l) e.does.answer

      after_so : d ≡ P w turn
      after_so = e.after ∙ ap (λ (v : ℕ). P v turn) e.does.answer

      shown : machine_of now d told (receipts ++ standing_of (receipt_by turn)) ≡ lane_done m n l action (receipt_by turn)
      shown = ap (λ (ws : List ℕ). machine_of ws d told (receipts ++ standing_of (receipt_by turn))) e.does.change
          ∙ ap (λ (x : ClusterState). machine_of (words_after action words) x told (receipts ++ standing_of (receipt_by turn))) after_so
          ∙ joins_so words c n at action h (receipt_by turn) session told receipts

      done : happens m (Acts (Lane n)) ≡ lane_done m n l action (receipt_by turn)
      done = does_so m n l action (runs_is c n at h.runs) h.next ∙ ap (λ (t : Turn). lane_done m n l action (receipt_by t)) (sym turn_so)

pub lane_acts : (words now : List ℕ) (c d : ClusterState) (n at word : ℕ) (action : Action) (turn : Turn) (h : IsLaneAct words c n at action) → IsLaneDone words now c d at word h.runs.node action turn
    → ((r : Receipt) → receipt_by turn ≡ Some r → IsSession r.position.session) → d.segments ≡ c.segments → Happens words c now d (standing_of (receipt_by turn)) (Acts (Lane n))
lane_acts words now c d n at word action turn h e session segments = record { is = acts_at words now c d n at word action turn h e session segments }

-- it has none
pub lane_rests : (words : List ℕ) (c : ClusterState) (n : ℕ) → lane_in (numbered c.nodes n) ≡ None → Happens words c words c [] (Acts (Lane n))
lane_rests words c n none = nothing_happens words c (Acts (Lane n)) (λ told receipts. tt)
    (λ told receipts. let m : Machine = machine_of words c told receipts in ap (λ (o : Option LaneState). of_lane m o (λ y. lane_does m n y (next_of y))) none)

pub lane_idles : (words : List ℕ) (c : ClusterState) (n at : ℕ) (r : RunsAt c n at) → next_of r.node.lane ≡ None → Happens words c words c [] (Acts (Lane n))
lane_idles words c n at r none = nothing_happens words c (Acts (Lane n)) (λ told receipts. tt)
    (λ told receipts. let m : Machine = machine_of words c told receipts in
    ap (λ (o : Option LaneState). of_lane m o (λ y. lane_does m n y (next_of y))) (runs_is c n at r) ∙ ap (λ (o : Option Action). lane_does m n r.node.lane o) none)
