use Rattle.std.proofs.Common.{ℕ, zero, suc, ◌+◌, ◌-◌, ◌<◌, ◌≤◌, ◌≡◌, inl, inr, Bool, true, false, List, Option, Some, None, length, slice_get, get_or, if◌then◌else◌, refl, sym, ◌∙◌, ap, subst, arith}
use Rattle.std.proofs.lemmas.Option.{none-some, same_Some, slice_get_cases, slice_get_read, slice_get_within, slice_get_past}
use Rattle.dn_lane.specs.State.{LaneState}
use Rattle.dn_callers.specs.Sessions.{IsSession}
use Rattle.dn_cluster.specs.State.{ClusterState, numbered}
use Rattle.dn_cluster.specs.Machine.{lane_in, merger_in, Runs, IsMade}
use Rattle.dn_cluster.specs.Asks.{RunsAt}
use Rattle.dn_cluster.specs.Inside.{IsCluster}
use Rattle.dn_cluster.specs.declared.nodes.Node.{Node}
use Rattle.dn_cluster.specs.declared.clients.Client.{Client}
use Rattle.dn_cluster.proofs.Numbers.{numbered_is, numbered_some}

-- Where lanes and sessions stand.

-- ---- lanes
pub running_is : (x : Node) → x.stopped ≡ false → lane_in (Some x) ≡ Some x.lane
running_is x e = ap (λ (b : Bool). let o : Option LaneState = if b then None else Some x.lane in o) e

pub stopped_is : (x : Node) → x.stopped ≡ true → lane_in (Some x) ≡ None
stopped_is x e = ap (λ (b : Bool). let o : Option LaneState = if b then None else Some x.lane in o) e

pub runs_is : (c : ClusterState) (n at : ℕ) (r : RunsAt c n at) → lane_in (numbered c.nodes n) ≡ Some r.node.lane
runs_is c n at r = ap lane_in (numbered_is c.nodes at n r.number ∙ r.is) ∙ running_is r.node r.runs

-- a node stands there
pub record HasNode (c : ClusterState) (n at : ℕ) : Type 0 where
  pub number : at + 1 ≡ n
  pub node : Node
  pub is : slice_get c.nodes at ≡ Some node

pub node_is : (c : ClusterState) (n at : ℕ) (h : HasNode c n at) → numbered c.nodes n ≡ Some h.node
node_is c n at h = numbered_is c.nodes at n h.number ∙ h.is

pub merger_is : (c : ClusterState) (n at : ℕ) (h : HasNode c n at) → merger_in (numbered c.nodes n) ≡ Some h.node.merger
merger_is c n at h = ap merger_in (node_is c n at h)

pub has_node : (c : ClusterState) (n at : ℕ) → at + 1 ≡ n → at < length c.nodes → HasNode c n at
has_node c n at e lt = elim (slice_get_cases c.nodes at).1 [
  | inl g ↦ record { number = e; node = g.0; is = g.2 }
  | inr g ↦ absurd (omega (arith, lt, g.0))
]

-- one that runs was made
pub made_by : (c : ClusterState) (n : ℕ) → Runs c n → IsMade c n
made_by c n r = by_node (numbered c.nodes n) refl r.1 where
  by_node : (o : Option Node) → numbered c.nodes n ≡ o → lane_in o ≡ Some r.0 → IsMade c n
  by_node None e f = absurd (none-some r.0 f)
  by_node (Some x) e f = let p = numbered_some c.nodes n x e in (p.0, omega (arith, p.0, slice_get_within c.nodes (n - 1) x p.1))

-- a lane that stands there runs, where the lane with that number does
pub unstopped : (x : Node) (l : LaneState) (b : Bool) → x.stopped ≡ b → lane_in (Some x) ≡ Some l → x.stopped ≡ false
unstopped x l true e f = absurd (none-some l (sym (stopped_is x e) ∙ f))
unstopped x l false e f = e

-- what was read of a list there
abbrev pub read_node : (c : ClusterState) (n at : ℕ) (x : Node) → at + 1 ≡ n → n ≤ length c.nodes → x ≡ get_or c.nodes at x → HasNode c n at
read_node c n at x e le is = record { number = e; node = x; is = slice_get_read c.nodes (length c.nodes) at x refl (omega (arith, e, le)) is }

abbrev pub read_running : (c : ClusterState) (n at : ℕ) (h : HasNode c n at) → Runs c n → RunsAt c n at
read_running c n at h r = record {
  number = h.number;
  node = h.node;
  is = h.is;
  runs = unstopped h.node r.0 h.node.stopped refl (sym (ap lane_in (node_is c n at h)) ∙ r.1);
}

-- ---- sessions
pub record HasClient (c : ClusterState) (s at : ℕ) : Type 0 where
  pub number : at + 1 ≡ s
  pub client : Client
  pub is : slice_get c.clients at ≡ Some client

pub client_is : (c : ClusterState) (s at : ℕ) (h : HasClient c s at) → numbered c.clients s ≡ Some h.client
client_is c s at h = numbered_is c.clients at s h.number ∙ h.is

pub has_client : (c : ClusterState) (s at : ℕ) → at + 1 ≡ s → at < length c.clients → HasClient c s at
has_client c s at e lt = elim (slice_get_cases c.clients at).1 [
  | inl g ↦ record { number = e; client = g.0; is = g.2 }
  | inr g ↦ absurd (omega (arith, lt, g.0))
]

pub of_session : (c : ClusterState) (s : ℕ) → length c.clients ≡ 1000 → IsSession s → HasClient c s (s - 1)
of_session c s all h = has_client c s (s - 1) (omega (arith, h.least)) (omega (arith, all, h.least, h.most))

abbrev pub read_client : (c : ClusterState) (s : ℕ) (x : Client) → IsCluster c → IsSession s → x ≡ get_or c.clients (s - 1) x → HasClient c s (s - 1)
read_client c s x h i is = record {
  number = omega (arith, i.least);
  client = x;
  is = slice_get_read c.clients 1000 (s - 1) x (sym h.sessions) (omega (arith, i.least, i.most)) is;
}

-- ---- of a list that was read there, of an equal cluster
pub seen_node : (b c : ClusterState) (at : ℕ) (x : Node) → b ≡ c → at < length b.nodes → x ≡ get_or b.nodes at x → slice_get c.nodes at ≡ Some x
seen_node b c at x is lt e = ap (λ (y : ClusterState). slice_get y.nodes at) (sym is) ∙ slice_get_read b.nodes (length b.nodes) at x refl lt e

pub seen_running : (b c : ClusterState) (n at : ℕ) (r : RunsAt c n at) (x : Node) → b ≡ c → x ≡ get_or b.nodes at x → slice_get c.nodes at ≡ Some x
seen_running b c n at r x is e = seen_node b c at x is (subst (λ (y : ClusterState). at < length y.nodes) (sym is) (slice_get_within c.nodes at r.node r.is)) e

abbrev pub now_running : (b c : ClusterState) (n at : ℕ) (r : RunsAt c n at) (x : Node) → b ≡ c → x ≡ get_or b.nodes at x → RunsAt c n at
now_running b c n at r x is e = record {
  number = r.number;
  node = x;
  is = seen_running b c n at r x is e;
  runs = subst (λ (y : Node). y.stopped ≡ false) (same_Some r.node x (sym r.is ∙ seen_running b c n at r x is e)) r.runs;
}

abbrev pub now_node : (b c : ClusterState) (n at : ℕ) (x : Node) → b ≡ c → at + 1 ≡ n → at < length b.nodes → x ≡ get_or b.nodes at x → HasNode c n at
now_node b c n at x is number lt e = record { number = number; node = x; is = seen_node b c at x is lt e }

pub seen_client : (b c : ClusterState) (at : ℕ) (x : Client) → b ≡ c → at < length b.clients → x ≡ get_or b.clients at x → slice_get c.clients at ≡ Some x
seen_client b c at x is lt e = ap (λ (y : ClusterState). slice_get y.clients at) (sym is) ∙ slice_get_read b.clients (length b.clients) at x refl lt e

abbrev pub now_client : (b c : ClusterState) (s at : ℕ) (x : Client) → b ≡ c → at + 1 ≡ s → at < length b.clients → x ≡ get_or b.clients at x → HasClient c s at
now_client b c s at x is number lt e = record { number = number; client = x; is = seen_client b c at x is lt e }

-- where no number leads anywhere
pub no_place : {A : Type 0} (xs : List A) (n : ℕ) → (1 ≤ n → length xs < n) → numbered xs n ≡ None
no_place xs zero h = refl
no_place xs (suc k) h = numbered_is xs k (suc k) (omega arith) ∙ slice_get_past xs k (omega (arith, h (omega arith)))
