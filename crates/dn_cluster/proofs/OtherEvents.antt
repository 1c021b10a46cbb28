use Rattle.std.proofs.Common.{ℕ, ◌≡◌, inl, inr, Bool, true, false, List, [], ◌++◌, Option, Some, None, refl, sym, ◌∙◌, ap, append-nil}
use Rattle.std.proofs.lemmas.List.{set-get_or}
use Rattle.std.proofs.lemmas.Option.{slice_get_within}
use Rattle.dn_word.specs.Regions.{deed_at}
use Rattle.dn_act.specs.Action.{at_of, words_after, Performs, MayPerform}
use Rattle.dn_act.specs.Words.{word_at}
use Rattle.dn_act.specs.declared.actions.Action.{Action}
use Rattle.dn_act.specs.declared.actions.Action.TheVariants.{Load}
use Rattle.dn_log.specs.Staged.{flow_of}
use Rattle.dn_store.specs.State.{with_at}
use Rattle.dn_merge.specs.Merge.{Merging, started, merge_next, merge_after}
use Rattle.dn_monitor.specs.Monitor.{Monitoring, monitor_next}
use Rattle.dn_route.specs.CallersOrder.{Told}
use Rattle.dn_route.specs.SessionState.{SessionState, refreshed}
use Rattle.dn_lane.specs.Next.{next_of}
use Rattle.dn_lane.specs.State.{LaneState}
use Rattle.dn_lane.specs.Turns.{flowed_of}
use Rattle.dn_callers.specs.Callers.{Standing}
use Rattle.dn_machine.specs.State.{Machine}
use Rattle.dn_machine.specs.Events.{Lane, Merger, Monitor, Session, Event, Acts, Flows, Fails, FlowFails, found, acted, acted_if, with_lane, lane_flows, lane_fails, flow_fails, of_lane, of_merger, with_merger, monitor_does, monitor_fails, of_monitor, ordered, loaded, happens}
use Rattle.dn_cluster.specs.State.{ClusterState, numbered}
use Rattle.dn_cluster.specs.Machine.{machine_of, lane_in, merger_in, session_in, closed_in, load_in}
use Rattle.dn_cluster.specs.Asks.{RunsAt}
use Rattle.dn_cluster.specs.Changed.{with_node, with_client}
use Rattle.dn_machine.specs.Sound.{IsSound}
use Rattle.dn_cluster.specs.Does.{IsEvent, Happens, FailsAs}
use Rattle.dn_cluster.specs.declared.nodes.Node.{Node}
use Rattle.dn_cluster.specs.declared.clients.Client.{Client}
use Rattle.dn_cluster.proofs.Numbers.{view_set, view_still}
use Rattle.dn_cluster.proofs.Places.{running_is, runs_is, HasNode, merger_is, HasClient, client_is}
use Rattle.dn_cluster.proofs.Same.{same_machine}
use Rattle.dn_cluster.proofs.Events.{is_event, nothing_happens, node_parts, node_of}

-- The events at which a staged word flows, or a merger, the monitor or a session acts.

-- ---- a staged word that flows out of turn
abbrev pub flowed_node : Node → ℕ → Node
flowed_node x index = record x { lane = flowed_of x.lane index }

lane_flows_at : (words now : List ℕ) (c d : ClusterState) (n at index word : ℕ) (action : Action) (r : RunsAt c n at) → flow_of r.node.lane.base.staging index ≡ Some action → Performs action word words now
    → d ≡ with_node c at (flowed_node r.node index) → d.segments ≡ c.segments → (told : List Told) (receipts : List Standing) → IsSound c.segments (machine_of words c told receipts)
    → IsEvent words c now d [] (Flows n index) told receipts
lane_flows_at words now c d n at index word action r flow does after segments told receipts s =
    let m : Machine = machine_of words c told receipts in
    let l : LaneState = r.node.lane in
    let done : happens m (Flows n index) ≡ with_lane (acted m action) n (Some (flowed_of l index)) =
    ap (λ (o : Option LaneState). of_lane m o (λ y. lane_flows m n y index (flow_of y.base.staging index))) (runs_is c n at r)
    ∙ ap (λ (o : Option Action). lane_flows m n l index o) flow in
    is_event words c now d [] (Flows n index) told receipts s tt segments
    (ap (λ (ws : List ℕ). machine_of ws d told (receipts ++ [])) does.change
    ∙ ap (λ (x : ClusterState). machine_of (words_after action words) x told (receipts ++ [])) after
    ∙ node_parts words (words_after action words) c n at (node_of c n at r) (flowed_node r.node index) (Some (flowed_of l index)) told receipts (receipts ++ [])
    (running_is (flowed_node r.node index) r.runs) refl (append-nil receipts)
    ∙ sym done)

pub lane_flows_so : (words now : List ℕ) (c d : ClusterState) (n at index word : ℕ) (action : Action) (r : RunsAt c n at) → flow_of r.node.lane.base.staging index ≡ Some action → Performs action word words now
    → d ≡ with_node c at (flowed_node r.node index) → d.segments ≡ c.segments → Happens words c now d [] (Flows n index)
lane_flows_so words now c d n at index word action r flow does after segments = record { is = lane_flows_at words now c d n at index word action r flow does after segments }

pub flow_rests : (words : List ℕ) (c : ClusterState) (n index : ℕ) → lane_in (numbered c.nodes n) ≡ None → Happens words c words c [] (Flows n index)
flow_rests words c n index none = nothing_happens words c (Flows n index) (λ told receipts. tt)
    (λ told receipts. let m : Machine = machine_of words c told receipts in
    ap (λ (o : Option LaneState). of_lane m o (λ y. lane_flows m n y index (flow_of y.base.staging index))) none)

pub flow_idles : (words : List ℕ) (c : ClusterState) (n at index : ℕ) (r : RunsAt c n at) → flow_of r.node.lane.base.staging index ≡ None → Happens words c words c [] (Flows n index)
flow_idles words c n at index r none = nothing_happens words c (Flows n index) (λ told receipts. tt)
    (λ told receipts. let m : Machine = machine_of words c told receipts in
    ap (λ (o : Option LaneState). of_lane m o (λ y. lane_flows m n y index (flow_of y.base.staging index))) (runs_is c n at r)
    ∙ ap (λ (o : Option Action). lane_flows m n r.node.lane index o) none)

-- ---- a merger
abbrev pub merged_node : Node → ℕ → Node
merged_node x word = record x { merger = merge_after x.merger word }

pub merger_parts : (words now : List ℕ) (c : ClusterState) (n at : ℕ) (h : HasNode c n at) (x : Merging) (told : List Told) (receipts more : List Standing) → more ≡ receipts
    → machine_of now (with_node c at (record h.node { merger = x })) told more ≡ with_merger (record (machine_of words c told receipts) { words = now }) n (Some x)
merger_parts words now c n at h x told receipts more same = same_machine _ _ (record {
  words = refl;
  lanes = λ k. view_still (λ _ y. lane_in y) c.nodes at n h.node (record h.node { merger = x }) h.number h.is refl k;
  mergers = λ k. view_set (λ _ y. merger_in y) c.nodes at n (record h.node { merger = x }) h.number (slice_get_within c.nodes at h.node h.is) k;
  monitor = refl;
  sessions = λ s. refl;
  closed = λ s. refl;
  told = refl;
  receipts = same;
  loads = λ s. refl;
})

merger_acts_at : (words now : List ℕ) (c d : ClusterState) (n at word : ℕ) (h : HasNode c n at) → Performs (merge_next h.node.merger) word words now
    → d ≡ with_node c at (merged_node h.node word) → d.segments ≡ c.segments → (told : List Told) (receipts : List Standing) → IsSound c.segments (machine_of words c told receipts)
    → IsEvent words c now d [] (Acts (Merger n)) told receipts
merger_acts_at words now c d n at word h does after segments told receipts s =
    let m : Machine = machine_of words c told receipts in
    let x : Merging = h.node.merger in
    let w : ℕ = word_at words (at_of (merge_next x)) in
    let done : happens m (Acts (Merger n)) ≡ with_merger (acted m (merge_next x)) n (Some (merge_after x w)) =
    ap (λ (o : Option Merging). of_merger m o (λ y. with_merger (acted m (merge_next y)) n (Some (merge_after y (found m (merge_next y)))))) (merger_is c n at h) in
    is_event words c now d [] (Acts (Merger n)) told receipts s tt segments
    (ap (λ (ws : List ℕ). machine_of ws d told (receipts ++ [])) does.change
    ∙ ap (λ (y : ClusterState). machine_of (words_after (merge_next x) words) y told (receipts ++ [])) (after ∙ ap (λ (v : ℕ). with_node c at (merged_node h.node v)) does.answer)
    ∙ merger_parts words (words_after (merge_next x) words) c n at h (merge_after x w) told receipts (receipts ++ []) (append-nil receipts)
    ∙ sym done)

pub merger_acts_so : (words now : List ℕ) (c d : ClusterState) (n at word : ℕ) (h : HasNode c n at) → Performs (merge_next h.node.merger) word words now
    → d ≡ with_node c at (merged_node h.node word) → d.segments ≡ c.segments → Happens words c now d [] (Acts (Merger n))
merger_acts_so words now c d n at word h does after segments = record { is = merger_acts_at words now c d n at word h does after segments }

pub merger_rests : (words : List ℕ) (c : ClusterState) (n : ℕ) → merger_in (numbered c.nodes n) ≡ None → Happens words c words c [] (Acts (Merger n))
merger_rests words c n none = nothing_happens words c (Acts (Merger n)) (λ told receipts. tt)
    (λ told receipts. let m : Machine = machine_of words c told receipts in
    ap (λ (o : Option Merging). of_merger m o (λ y. with_merger (acted m (merge_next y)) n (Some (merge_after y (found m (merge_next y)))))) none)

-- ---- the monitor
monitor_acts_at : (words now : List ℕ) (c d : ClusterState) (x : Monitoring) (word : ℕ) (action : Action) → c.monitor ≡ Some x → monitor_next x ≡ Some action → Performs action word words now
    → d ≡ record c { monitor = ordered x word } → d.segments ≡ c.segments → (told : List Told) (receipts : List Standing) → IsSound c.segments (machine_of words c told receipts)
    → IsEvent words c now d [] (Acts Monitor) told receipts
monitor_acts_at words now c d x word action is next does after segments told receipts s =
    let m : Machine = machine_of words c told receipts in
    let w : ℕ = word_at words (at_of action) in
    let done : happens m (Acts Monitor) ≡ record (acted m action) { monitor = ordered x w } =
    ap (λ (o : Option Monitoring). of_monitor m o (λ y. monitor_does m y (monitor_next y))) is ∙ ap (λ (o : Option Action). monitor_does m x o) next in
    is_event words c now d [] (Acts Monitor) told receipts s tt segments
    (ap (λ (ws : List ℕ). machine_of ws d told (receipts ++ [])) does.change
    ∙ ap (λ (y : ClusterState). machine_of (words_after action words) y told (receipts ++ [])) (after ∙ ap (λ (v : ℕ). let y : ClusterState = record c { monitor = ordered x v } in y) does.answer)
    ∙ ap (λ (rs : List Standing). let y : Machine = record (acted (machine_of words c told rs) action) { monitor = ordered x w } in y) (append-nil receipts)
    ∙ sym done)

pub monitor_acts_so : (words now : List ℕ) (c d : ClusterState) (x : Monitoring) (word : ℕ) (action : Action) → c.monitor ≡ Some x → monitor_next x ≡ Some action → Performs action word words now
    → d ≡ record c { monitor = ordered x word } → d.segments ≡ c.segments → Happens words c now d [] (Acts Monitor)
monitor_acts_so words now c d x word action is next does after segments = record { is = monitor_acts_at words now c d x word action is next does after segments }

pub monitor_rests : (words : List ℕ) (c : ClusterState) → c.monitor ≡ None → Happens words c words c [] (Acts Monitor)
monitor_rests words c none = nothing_happens words c (Acts Monitor) (λ told receipts. tt)
    (λ told receipts. let m : Machine = machine_of words c told receipts in ap (λ (o : Option Monitoring). of_monitor m o (λ y. monitor_does m y (monitor_next y))) none)

-- ---- a session that loads a deed
abbrev pub routed_client : Client → ℕ → ℕ → Client
routed_client x slot word = record x { session = refreshed x.session slot word; load = None }

session_acts_at : (words now : List ℕ) (c d : ClusterState) (s at slot word : ℕ) (h : HasClient c s at) → h.client.load ≡ Some slot → Performs (Load (deed_at slot)) word words now
    → d ≡ with_client c at (routed_client h.client slot word) → d.segments ≡ c.segments → (told : List Told) (receipts : List Standing) → IsSound c.segments (machine_of words c told receipts)
    → IsEvent words c now d [] (Acts (Session s)) told receipts
session_acts_at words now c d s at slot word h load does after segments told receipts sd =
    is_event words c now d [] (Acts (Session s)) told receipts sd tt segments
    (ap (λ (ws : List ℕ). machine_of ws d told (receipts ++ [])) (does.change ∙ set-get_or words (deed_at slot) 0)
    ∙ ap (λ (y : ClusterState). machine_of words y told (receipts ++ [])) (after ∙ ap (λ (v : ℕ). with_client c at (routed_client h.client slot v)) does.answer)
    ∙ parts ∙ sym done) where
      m : Machine
      m = machine_of words c told receipts

      w : ℕ
      w = word_at words (deed_at slot)

      y : Client
      y = routed_client h.client slot w

      load_is : m.loads s ≡ Some slot
      load_is = ap load_in (client_is c s at h) ∙ load

      done : happens m (Acts (Session s)) ≡ loaded m s (Some slot)
      done = ap (λ (o : Option ℕ). loaded m s o) load_is

      parts : machine_of words (with_client c at y) told (receipts ++ []) ≡ loaded m s (Some slot)
      parts = same_machine _ _ (record {
        words = refl;
        lanes = λ k. refl;
        mergers = λ k. refl;
        monitor = refl;
        sessions = λ k. view_set session_in c.clients at s y h.number (slice_get_within c.clients at h.client h.is) k
            ∙ ap (λ (x : SessionState). with_at (λ j. session_in j (numbered c.clients j)) s (refreshed x slot w) k) (sym (ap (session_in s) (client_is c s at h)));
        closed = λ k. view_still (λ _ x. closed_in x) c.clients at s h.client y h.number h.is refl k;
        told = refl;
        receipts = append-nil receipts;
        loads = λ k. view_set (λ _ x. load_in x) c.clients at s y h.number (slice_get_within c.clients at h.client h.is) k;
      })

pub session_acts_so : (words now : List ℕ) (c d : ClusterState) (s at slot word : ℕ) (h : HasClient c s at) → h.client.load ≡ Some slot → Performs (Load (deed_at slot)) word words now
    → d ≡ with_client c at (routed_client h.client slot word) → d.segments ≡ c.segments → Happens words c now d [] (Acts (Session s))
session_acts_so words now c d s at slot word h load does after segments = record { is = session_acts_at words now c d s at slot word h load does after segments }

pub session_rests : (words : List ℕ) (c : ClusterState) (s : ℕ) → load_in (numbered c.clients s) ≡ None → Happens words c words c [] (Acts (Session s))
session_rests words c s none = nothing_happens words c (Acts (Session s)) (λ told receipts. tt)
    (λ told receipts. let m : Machine = machine_of words c told receipts in ap (λ (o : Option ℕ). loaded m s o) none)

-- ---- an access that failed, and its action was done or not done
by_done : (words now : List ℕ) (c : ClusterState) (e : Bool → Event) (action : Action) → MayPerform action words now
    → ((told : List Told) (receipts : List Standing) → (happens (machine_of words c told receipts) (e false)).words ≡ words)
    → ((told : List Told) (receipts : List Standing) → (happens (machine_of words c told receipts) (e true)).words ≡ words_after action words) → FailsAs words c now e
by_done words now c e action (inl was) left did = record { done = false; so = λ told receipts. was ∙ sym (left told receipts) }
by_done words now c e action (inr was) left did = record { done = true; so = λ told receipts. was ∙ sym (did told receipts) }

pub lane_fails_so : (words now : List ℕ) (c : ClusterState) (n at : ℕ) (action : Action) (r : RunsAt c n at) → next_of r.node.lane ≡ Some action → MayPerform action words now → FailsAs words c now (Fails (Lane n))
lane_fails_so words now c n at action r next h = by_done words now c (Fails (Lane n)) action h (words_of false) (words_of true) where
  words_of : (done : Bool) (told : List Told) (receipts : List Standing) → (happens (machine_of words c told receipts) (Fails (Lane n) done)).words ≡ (acted_if (machine_of words c told receipts) action done).words
  words_of done told receipts = let m : Machine = machine_of words c told receipts in
      ap (λ (x : Machine). x.words) (ap (λ (o : Option LaneState). of_lane m o (λ y. lane_fails m n y done (next_of y))) (runs_is c n at r) ∙ ap (λ (o : Option Action). lane_fails m n r.node.lane done o) next)

pub flow_fails_so : (words now : List ℕ) (c : ClusterState) (n at index : ℕ) (action : Action) (r : RunsAt c n at) → flow_of r.node.lane.base.staging index ≡ Some action → MayPerform action words now → FailsAs words c now (FlowFails n index)
flow_fails_so words now c n at index action r next h = by_done words now c (FlowFails n index) action h (words_of false) (words_of true) where
  words_of : (done : Bool) (told : List Told) (receipts : List Standing) → (happens (machine_of words c told receipts) (FlowFails n index done)).words ≡ (acted_if (machine_of words c told receipts) action done).words
  words_of done told receipts = let m : Machine = machine_of words c told receipts in
      ap (λ (x : Machine). x.words) (ap (λ (o : Option LaneState). of_lane m o (λ y. flow_fails m n y done (flow_of y.base.staging index))) (runs_is c n at r) ∙ ap (λ (o : Option Action). flow_fails m n r.node.lane done o) next)

pub merger_fails_so : (words now : List ℕ) (c : ClusterState) (n at : ℕ) (g : HasNode c n at) → MayPerform (merge_next g.node.merger) words now → FailsAs words c now (Fails (Merger n))
merger_fails_so words now c n at g h = by_done words now c (Fails (Merger n)) (merge_next g.node.merger) h (words_of false) (words_of true) where
  words_of : (done : Bool) (told : List Told) (receipts : List Standing) → (happens (machine_of words c told receipts) (Fails (Merger n) done)).words ≡ (acted_if (machine_of words c told receipts) (merge_next g.node.merger) done).words
  words_of done told receipts = let m : Machine = machine_of words c told receipts in
      ap (λ (o : Option Merging). (of_merger m o (λ y. with_merger (acted_if m (merge_next y) done) n (Some (started n)))).words) (merger_is c n at g)

pub monitor_fails_so : (words now : List ℕ) (c : ClusterState) (x : Monitoring) (action : Action) → c.monitor ≡ Some x → monitor_next x ≡ Some action → MayPerform action words now → FailsAs words c now (Fails Monitor)
monitor_fails_so words now c x action is next h = by_done words now c (Fails Monitor) action h (words_of false) (words_of true) where
  words_of : (done : Bool) (told : List Told) (receipts : List Standing) → (happens (machine_of words c told receipts) (Fails Monitor done)).words ≡ (acted_if (machine_of words c told receipts) action done).words
  words_of done told receipts = let m : Machine = machine_of words c told receipts in
      ap (λ (y : Machine). y.words) (ap (λ (o : Option Monitoring). of_monitor m o (λ y. monitor_fails m done (monitor_next y))) is ∙ ap (λ (o : Option Action). monitor_fails m done o) next)

pub session_fails_so : (words now : List ℕ) (c : ClusterState) (s slot : ℕ) → MayPerform (Load (deed_at slot)) words now → FailsAs words c now (Fails (Session s))
session_fails_so words now c s slot h = by_done words now c (Fails (Session s)) (Load (deed_at slot)) h (λ told receipts. refl) (λ told receipts. sym (set-get_or words (deed_at slot) 0))
