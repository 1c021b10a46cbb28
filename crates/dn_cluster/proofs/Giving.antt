use Rattle.std.proofs.Common.{ℕ, zero, suc, ◌+◌, ◌-◌, ◌<◌, ◌≤◌, ◌≡◌, inl, inr, true, false, List, [], ◌∷◌, ◌++◌, Option, Some, None, length, refl, sym, ◌∙◌, ap, subst, arith}
use Rattle.std.proofs.lemmas.Option.{slice_get_within, slice_get_past}
use Rattle.std.proofs.lemmas.Bool.{cases_lt}
use Rattle.dn_word.specs.declared.positions.Position.{Position}
use Rattle.dn_hist.specs.declared.calls.Call.{Call}
use Rattle.dn_hist.specs.declared.receipts.SessionView.{SessionView}
use Rattle.dn_store.specs.State.{with_at}
use Rattle.dn_tend.specs.declared.tasks.Task.{Task}
use Rattle.dn_merge.specs.Merge.{Merging, started}
use Rattle.dn_route.specs.CallersOrder.{Told, told_now}
use Rattle.dn_route.specs.SessionState.{SessionState, opened, numbered as counted, heard}
use Rattle.dn_lane.specs.Asked.{view_in}
use Rattle.dn_lane.specs.State.{LaneState, fresh, begun, begun_task, halted}
use Rattle.dn_lane.specs.declared.asked.Asked.{Asked}
use Rattle.dn_lane.specs.declared.asked.Asked.TheVariants as asked
use Rattle.dn_callers.specs.Callers.{Standing}
use Rattle.dn_callers.specs.Changes.{closed_at}
use Rattle.dn_callers.specs.Sessions.{IsSession}
use Rattle.dn_machine.specs.State.{Machine, resting}
use Rattle.dn_machine.specs.Events.{Event, Tells, Asks, Tends, Loads, Adds, Numbers, Hints, Stops, Closes, Renews, of_lane, of_merger, with_lane, with_merger, lane_stops, closed_for, happens}
use Rattle.dn_cluster.specs.State.{ClusterState, numbered}
use Rattle.dn_cluster.specs.Machine.{machine_of, lane_in, merger_in, session_in, closed_in, load_in}
use Rattle.dn_cluster.specs.Asks.{RunsAt, AreFresh, fresh_client}
use Rattle.dn_cluster.specs.Changed.{with_node, with_client, heard_at}
use Rattle.dn_cluster.specs.Does.{Rests, Does, IsTold}
use Rattle.dn_cluster.specs.Inside.{IsCaller}
use Rattle.dn_cluster.specs.declared.nodes.Node.{Node}
use Rattle.dn_cluster.specs.declared.clients.Client.{Client}
use Rattle.dn_cluster.proofs.Numbers.{numbered_is, view_set, view_still, view_push}
use Rattle.dn_cluster.proofs.Places.{running_is, stopped_is, runs_is, HasNode, merger_is, HasClient, client_is, of_session}
use Rattle.dn_cluster.proofs.Same.{same_machine}
use Rattle.dn_cluster.proofs.Events.{node_parts, node_of, heard_is}
use Rattle.dn_cluster.proofs.OtherEvents.{merger_parts}

-- What the calls do that touch no word.

-- the same said of an equal cluster
pub from : (b c d : ClusterState) (e : Event) → b ≡ c → Does b d e → Does c d e
from b c d e is h = subst (λ (x : ClusterState). Does x d e) is h

-- ---- a lane is given a call or a task
abbrev pub lane_node : Node → LaneState → Node
lane_node x l = record x { lane = l }

pub lane_given : (c : ClusterState) (n at : ℕ) (r : RunsAt c n at) (l : LaneState) (words : List ℕ) (told : List Told) (receipts : List Standing)
    → machine_of words (with_node c at (lane_node r.node l)) told receipts ≡ with_lane (machine_of words c told receipts) n (Some l)
lane_given c n at r l words told receipts =
    node_parts words words c n at (node_of c n at r) (lane_node r.node l) (Some l) told receipts receipts (running_is (lane_node r.node l) r.runs) refl refl

asks_at : (c d : ClusterState) (n at : ℕ) (r : RunsAt c n at) (view : SessionView) (call : Call) → d ≡ with_node c at (lane_node r.node (begun r.node.lane view call)) → (words : List ℕ) (told : List Told) (receipts : List Standing)
    → machine_of words d told receipts ≡ happens (machine_of words c told receipts) (Asks n view call)
asks_at c d n at r view call after words told receipts =
    let m : Machine = machine_of words c told receipts in
    ap (λ (x : ClusterState). machine_of words x told receipts) after ∙ lane_given c n at r (begun r.node.lane view call) words told receipts
    ∙ sym (ap (λ (o : Option LaneState). of_lane m o (λ l. with_lane m n (Some (begun l view call)))) (runs_is c n at r))

pub asks_so : (c d : ClusterState) (n at : ℕ) (r : RunsAt c n at) (view : SessionView) (call : Call) → d ≡ with_node c at (lane_node r.node (begun r.node.lane view call)) → Does c d (Asks n view call)
asks_so c d n at r view call after = record { is = asks_at c d n at r view call after }

tends_at : (c d : ClusterState) (n at : ℕ) (r : RunsAt c n at) (task : Task) → d ≡ with_node c at (lane_node r.node (begun_task r.node.lane task)) → (words : List ℕ) (told : List Told) (receipts : List Standing)
    → machine_of words d told receipts ≡ happens (machine_of words c told receipts) (Tends n task)
tends_at c d n at r task after words told receipts =
    let m : Machine = machine_of words c told receipts in
    ap (λ (x : ClusterState). machine_of words x told receipts) after ∙ lane_given c n at r (begun_task r.node.lane task) words told receipts
    ∙ sym (ap (λ (o : Option LaneState). of_lane m o (λ l. with_lane m n (Some (begun_task l task)))) (runs_is c n at r))

pub tends_so : (c d : ClusterState) (n at : ℕ) (r : RunsAt c n at) (task : Task) → d ≡ with_node c at (lane_node r.node (begun_task r.node.lane task)) → Does c d (Tends n task)
tends_so c d n at r task after = record { is = tends_at c d n at r task after }

-- ---- a lane is added
adds_at : (c d : ClusterState) (n : ℕ) → length c.nodes + 1 ≡ n → d ≡ record c { nodes = c.nodes ++ (record { lane = fresh n c.segments; stopped = false; merger = started n }) ∷ [] } → (words : List ℕ) (told : List Told) (receipts : List Standing)
    → machine_of words d told receipts ≡ happens (machine_of words c told receipts) (Adds n c.segments)
adds_at c d n e after words told receipts = ap (λ (x : ClusterState). machine_of words x told receipts) after ∙ same_machine _ _ (record {
  words = refl;
  lanes = λ k. view_push (λ _ x. lane_in x) c.nodes n v e k;
  mergers = λ k. view_push (λ _ x. merger_in x) c.nodes n v e k;
  monitor = refl;
  sessions = λ s. refl;
  closed = λ s. refl;
  told = refl;
  receipts = refl;
  loads = λ s. refl;
}) where
  v : Node
  v = record { lane = fresh n c.segments; stopped = false; merger = started n }

pub adds_so : (c d : ClusterState) (n : ℕ) → length c.nodes + 1 ≡ n → d ≡ record c { nodes = c.nodes ++ (record { lane = fresh n c.segments; stopped = false; merger = started n }) ∷ [] } → Does c d (Adds n c.segments)
adds_so c d n e after = record { is = adds_at c d n e after }

pub adds_with : (c d : ClusterState) (n segments : ℕ) → c.segments ≡ segments → Does c d (Adds n c.segments) → Does c d (Adds n segments)
adds_with c d n segments is h = subst (λ (k : ℕ). Does c d (Adds n k)) is h

-- ---- a merger is renewed
renews_at : (c d : ClusterState) (n at : ℕ) (h : HasNode c n at) → d ≡ with_node c at (record h.node { merger = started n }) → (words : List ℕ) (told : List Told) (receipts : List Standing)
    → machine_of words d told receipts ≡ happens (machine_of words c told receipts) (Renews n)
renews_at c d n at h after words told receipts =
    let m : Machine = machine_of words c told receipts in
    ap (λ (x : ClusterState). machine_of words x told receipts) after ∙ merger_parts words words c n at h (started n) told receipts receipts refl
    ∙ sym (ap (λ (o : Option Merging). of_merger m o (λ x. with_merger m n (Some (started n)))) (merger_is c n at h))

pub renews_so : (c d : ClusterState) (n at : ℕ) (h : HasNode c n at) → d ≡ with_node c at (record h.node { merger = started n }) → Does c d (Renews n)
renews_so c d n at h after = record { is = renews_at c d n at h after }

-- ---- sessions

-- a session knows more
pub session_now : (c : ClusterState) (s at : ℕ) (h : HasClient c s at) (x : SessionState) (words : List ℕ) (more : List Told) (receipts : List Standing)
    → machine_of words (with_client c at (record h.client { session = x })) more receipts
    ≡ (let m : Machine = machine_of words c more receipts in record m { callers = record m.callers { sessions = with_at m.callers.sessions s x } })
session_now c s at h x words more receipts = same_machine _ _ (record {
  words = refl;
  lanes = λ k. refl;
  mergers = λ k. refl;
  monitor = refl;
  sessions = λ k. view_set session_in c.clients at s (record h.client { session = x }) h.number (slice_get_within c.clients at h.client h.is) k;
  closed = λ k. view_still (λ _ y. closed_in y) c.clients at s h.client (record h.client { session = x }) h.number h.is refl k;
  told = refl;
  receipts = refl;
  loads = λ k. view_still (λ _ y. load_in y) c.clients at s h.client (record h.client { session = x }) h.number h.is refl k;
})

session_is : (c : ClusterState) (s at : ℕ) (h : HasClient c s at) → session_in s (numbered c.clients s) ≡ h.client.session
session_is c s at h = ap (session_in s) (client_is c s at h)

abbrev pub with_callers : Machine → (ℕ → SessionState) → Machine
with_callers m sessions = record m { callers = record m.callers { sessions = sessions } }

numbers_at : (c d : ClusterState) (s at : ℕ) (h : HasClient c s at) → d ≡ with_client c at (record h.client { session = counted h.client.session }) → (words : List ℕ) (told : List Told) (receipts : List Standing)
    → machine_of words d told receipts ≡ happens (machine_of words c told receipts) (Numbers s)
numbers_at c d s at h after words told receipts =
    let m : Machine = machine_of words c told receipts in
    ap (λ (x : ClusterState). machine_of words x told receipts) after ∙ session_now c s at h (counted h.client.session) words told receipts
    ∙ ap (λ (x : SessionState). with_callers m (with_at m.callers.sessions s (counted x))) (sym (session_is c s at h))

pub numbers_so : (c d : ClusterState) (s at : ℕ) (h : HasClient c s at) → d ≡ with_client c at (record h.client { session = counted h.client.session }) → Does c d (Numbers s)
numbers_so c d s at h after = record { is = numbers_at c d s at h after }

hints_at : (c d : ClusterState) (s at : ℕ) (h : HasClient c s at) (pairs : List (ℕ × ℕ)) → d ≡ with_client c at (record h.client { session = record h.client.session { hints = pairs } }) → (words : List ℕ) (told : List Told) (receipts : List Standing)
    → machine_of words d told receipts ≡ happens (machine_of words c told receipts) (Hints s pairs)
hints_at c d s at h pairs after words told receipts =
    let m : Machine = machine_of words c told receipts in
    ap (λ (x : ClusterState). machine_of words x told receipts) after ∙ session_now c s at h (record h.client.session { hints = pairs }) words told receipts
    ∙ ap (λ (x : SessionState). with_callers m (with_at m.callers.sessions s (record x { hints = pairs }))) (sym (session_is c s at h))

pub hints_so : (c d : ClusterState) (s at : ℕ) (h : HasClient c s at) (pairs : List (ℕ × ℕ)) → d ≡ with_client c at (record h.client { session = record h.client.session { hints = pairs } }) → Does c d (Hints s pairs)
hints_so c d s at h pairs after = record { is = hints_at c d s at h pairs after }

told_at : (c d : ClusterState) (s : ℕ) (position : Position) → length c.clients ≡ 1000 → IsSession s → d ≡ heard_at c s position → (words : List ℕ) (told : List Told) (receipts : List Standing)
    → machine_of words d (told ++ told_now (session_in s (numbered c.clients s)) position ∷ []) receipts ≡ happens (machine_of words c told receipts) (Tells s position)
told_at c d s position all is after words told receipts =
    let h : HasClient c s (s - 1) = of_session c s all is in
    let more : List Told = told ++ told_now (session_in s (numbered c.clients s)) position ∷ [] in
    let m : Machine = machine_of words c more receipts in
    ap (λ (x : ClusterState). machine_of words x more receipts) (after ∙ heard_is c s (s - 1) position h) ∙ session_now c s (s - 1) h (heard h.client.session position) words more receipts
    ∙ ap (λ (x : SessionState). with_callers m (with_at m.callers.sessions s (heard x position))) (sym (session_is c s (s - 1) h))

pub told_so : (c d : ClusterState) (s : ℕ) (position : Position) → length c.clients ≡ 1000 → IsSession s → d ≡ heard_at c s position → IsTold c d s position
told_so c d s position all is after = record { is = told_at c d s position all is after }

-- a session is closed
closing : (c : ClusterState) (s at : ℕ) (h : HasClient c s at) (words : List ℕ) (told : List Told) (receipts : List Standing)
    → machine_of words (with_client c at (record h.client { closed = true })) told receipts ≡ happens (machine_of words c told receipts) (Closes s)
closing c s at h words told receipts = same_machine _ _ (record {
  words = refl;
  lanes = λ k. refl;
  mergers = λ k. refl;
  monitor = refl;
  sessions = λ k. view_still session_in c.clients at s h.client (record h.client { closed = true }) h.number h.is refl k;
  closed = λ k. view_set (λ _ y. closed_in y) c.clients at s (record h.client { closed = true }) h.number (slice_get_within c.clients at h.client h.is) k;
  told = refl;
  receipts = refl;
  loads = λ k. view_still (λ _ y. load_in y) c.clients at s h.client (record h.client { closed = true }) h.number h.is refl k;
})

closes_at : (c d : ClusterState) (s at : ℕ) (h : HasClient c s at) → d ≡ with_client c at (record h.client { closed = true }) → (words : List ℕ) (told : List Told) (receipts : List Standing)
    → machine_of words d told receipts ≡ happens (machine_of words c told receipts) (Closes s)
closes_at c d s at h after words told receipts = ap (λ (x : ClusterState). machine_of words x told receipts) after ∙ closing c s at h words told receipts

pub closes_so : (c d : ClusterState) (s at : ℕ) (h : HasClient c s at) → d ≡ with_client c at (record h.client { closed = true }) → Does c d (Closes s)
closes_so c d s at h after = record { is = closes_at c d s at h after }

loads_at : (c d : ClusterState) (s at slot : ℕ) (h : HasClient c s at) → d ≡ with_client c at (record h.client { load = Some slot }) → (words : List ℕ) (told : List Told) (receipts : List Standing)
    → machine_of words d told receipts ≡ happens (machine_of words c told receipts) (Loads s slot)
loads_at c d s at slot h after words told receipts = ap (λ (x : ClusterState). machine_of words x told receipts) after ∙ same_machine _ _ (record {
  words = refl;
  lanes = λ k. refl;
  mergers = λ k. refl;
  monitor = refl;
  sessions = λ k. view_still session_in c.clients at s h.client (record h.client { load = Some slot }) h.number h.is refl k;
  closed = λ k. view_still (λ _ y. closed_in y) c.clients at s h.client (record h.client { load = Some slot }) h.number h.is refl k;
  told = refl;
  receipts = refl;
  loads = λ k. view_set (λ _ y. load_in y) c.clients at s (record h.client { load = Some slot }) h.number (slice_get_within c.clients at h.client h.is) k;
})

pub loads_so : (c d : ClusterState) (s at slot : ℕ) (h : HasClient c s at) → d ≡ with_client c at (record h.client { load = Some slot }) → Does c d (Loads s slot)
loads_so c d s at slot h after = record { is = loads_at c d s at slot h after }

-- ---- a lane is stopped
abbrev pub stopped_node : Node → Node
stopped_node x = record x { lane = halted x.lane; stopped = true }

-- a lane that is stopped stays so
stopped_stays_at : (c : ClusterState) (n : ℕ) → lane_in (numbered c.nodes n) ≡ None → (words : List ℕ) (told : List Told) (receipts : List Standing)
    → machine_of words c told receipts ≡ happens (machine_of words c told receipts) (Stops n)
stopped_stays_at c n none words told receipts =
    let m : Machine = machine_of words c told receipts in sym (ap (λ (o : Option LaneState). of_lane m o (λ l. lane_stops m n l None)) none)

stops_by : (c : ClusterState) (n at : ℕ) (r : RunsAt c n at) (words : List ℕ) (told : List Told) (receipts : List Standing)
    → machine_of words (with_node c at (stopped_node r.node)) told receipts ≡ with_lane (machine_of words c told receipts) n None
stops_by c n at r words told receipts = node_parts words words c n at (node_of c n at r) (stopped_node r.node) None told receipts receipts (stopped_is (stopped_node r.node) refl) refl refl

-- the machine after it, by what the lane was asked
abbrev pub stopped_machine : Machine → ℕ → Asked → Machine
stopped_machine m n a = record (with_lane m n None) { callers = closed_for m.callers a }

stopping : (c : ClusterState) (n at : ℕ) (r : RunsAt c n at) (a : Asked) → r.node.lane.asked ≡ a → (words : List ℕ) (told : List Told) (receipts : List Standing)
    → happens (machine_of words c told receipts) (Stops n) ≡ stopped_machine (machine_of words c told receipts) n a
stopping c n at r a is words told receipts =
    let m : Machine = machine_of words c told receipts in
    ap (λ (o : Option LaneState). of_lane m o (λ l. lane_stops m n l None)) (runs_is c n at r) ∙ ap (λ (x : Asked). stopped_machine m n x) is

-- it had no call
stops_alone_at : (c d : ClusterState) (n at : ℕ) (r : RunsAt c n at) (a : Asked) → r.node.lane.asked ≡ a → IsCaller a → (1 ≤ (view_in a).session → 1000 < (view_in a).session)
    → d ≡ with_node c at (stopped_node r.node) → (words : List ℕ) (told : List Told) (receipts : List Standing)
    → machine_of words d told receipts ≡ happens (machine_of words c told receipts) (Stops n)
stops_alone_at c d n at r asked.Nothing is caller few after words told receipts =
    ap (λ (x : ClusterState). machine_of words x told receipts) after ∙ stops_by c n at r words told receipts ∙ sym (stopping c n at r asked.Nothing is words told receipts)
stops_alone_at c d n at r (asked.Call call view room) is caller few after words told receipts = absurd (omega (arith, caller.most, few caller.least))
stops_alone_at c d n at r asked.Task is caller few after words told receipts =
    ap (λ (x : ClusterState). machine_of words x told receipts) after ∙ stops_by c n at r words told receipts ∙ sym (stopping c n at r asked.Task is words told receipts)

pub stops_alone : (c d : ClusterState) (n at : ℕ) (r : RunsAt c n at) (a : Asked) → r.node.lane.asked ≡ a → IsCaller a → (1 ≤ (view_in a).session → 1000 < (view_in a).session)
    → d ≡ with_node c at (stopped_node r.node) → Does c d (Stops n)
stops_alone c d n at r a is caller few after = record { is = stops_alone_at c d n at r a is caller few after }

-- it had one, whose session is closed
abbrev pub closed_client : Client → Client
closed_client x = record x { closed = true }

stops_call_at : (c d : ClusterState) (n at s j : ℕ) (r : RunsAt c n at) (h : HasClient c s j) (a : Asked) → r.node.lane.asked ≡ a → (view_in a).session ≡ s
    → d ≡ with_client (with_node c at (stopped_node r.node)) j (closed_client h.client) → (words : List ℕ) (told : List Told) (receipts : List Standing)
    → machine_of words d told receipts ≡ happens (machine_of words c told receipts) (Stops n)
stops_call_at c d n at s j r h asked.Nothing is of after words told receipts = absurd (omega (arith, of, h.number))
stops_call_at c d n at s j r h asked.Task is of after words told receipts = absurd (omega (arith, of, h.number))
stops_call_at c d n at s j r h (asked.Call call view room) is of after words told receipts =
    ap (λ (x : ClusterState). machine_of words x told receipts) after ∙ parts ∙ ap closed_one (sym of) ∙ sym (stopping c n at r (asked.Call call view room) is words told receipts) where
      m : Machine
      m = machine_of words c told receipts

      v : Node
      v = stopped_node r.node

      closed_one : ℕ → Machine
      closed_one k = record (with_lane m n None) { callers = closed_at m.callers k }

      parts : machine_of words (with_client (with_node c at v) j (closed_client h.client)) told receipts ≡ closed_one s
      parts = same_machine _ _ (record {
        words = refl;
        lanes = λ k. view_set (λ _ x. lane_in x) c.nodes at n v r.number (slice_get_within c.nodes at r.node r.is) k
            ∙ ap (λ (l : Option LaneState). with_at (λ i. lane_in (numbered c.nodes i)) n l k) (stopped_is v refl);
        mergers = λ k. view_still (λ _ x. merger_in x) c.nodes at n r.node v r.number r.is refl k;
        monitor = refl;
        sessions = λ k. view_still session_in c.clients j s h.client (closed_client h.client) h.number h.is refl k;
        closed = λ k. view_set (λ _ x. closed_in x) c.clients j s (closed_client h.client) h.number (slice_get_within c.clients j h.client h.is) k;
        told = refl;
        receipts = refl;
        loads = λ k. view_still (λ _ x. load_in x) c.clients j s h.client (closed_client h.client) h.number h.is refl k;
      })

pub stops_call : (c d : ClusterState) (n at s j : ℕ) (r : RunsAt c n at) (h : HasClient c s j) (a : Asked) → r.node.lane.asked ≡ a → (view_in a).session ≡ s
    → d ≡ with_client (with_node c at (stopped_node r.node)) j (closed_client h.client) → Does c d (Stops n)
stops_call c d n at s j r h a is of after = record { is = stops_call_at c d n at s j r h a is of after }

-- ---- before anything was given
abbrev pub starting : ℕ → List Client → ClusterState
starting segments clients = record { segments = segments; nodes = []; monitor = None; clients = clients }

fresh_session : (clients : List Client) (s : ℕ) → AreFresh 1000 clients → (session_in s (numbered clients s) ≡ opened s) × (closed_in (numbered clients s) ≡ false) × (load_in (numbered clients s) ≡ None)
fresh_session clients zero h = (refl, refl, refl)
fresh_session clients (suc k) h = elim (cases_lt k 1000) [
  | inl le ↦
      let e : numbered clients (suc k) ≡ Some (fresh_client (k + 1)) = numbered_is clients k (suc k) (omega arith) ∙ h.each k le in
      (ap (session_in (suc k)) e ∙ ap opened (let g : k + 1 ≡ suc k = omega arith in g), ap closed_in e, ap load_in e)
  | inr gt ↦
      let e : numbered clients (suc k) ≡ None = numbered_is clients k (suc k) (omega arith) ∙ slice_get_past clients k (omega (arith, h.all, gt)) in
      (ap (session_in (suc k)) e, ap closed_in e, ap load_in e)
]

no_node : (n : ℕ) → numbered {A = Node} [] n ≡ None
no_node zero = refl
no_node (suc n) = numbered_is {A = Node} [] n (suc n) (omega arith)

rests_at : (segments : ℕ) (clients : List Client) → AreFresh 1000 clients → (words : List ℕ) → machine_of words (starting segments clients) [] [] ≡ resting words
rests_at segments clients h words = same_machine _ _ (record {
  words = refl;
  lanes = λ k. ap lane_in (no_node k);
  mergers = λ k. ap merger_in (no_node k);
  monitor = refl;
  sessions = λ s. (fresh_session clients s h).0;
  closed = λ s. (fresh_session clients s h).1;
  told = refl;
  receipts = refl;
  loads = λ s. (fresh_session clients s h).2;
})
