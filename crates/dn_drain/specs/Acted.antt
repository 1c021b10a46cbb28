use Rattle.std.specs.Prelude.{◌≡◌, ◌≢◌, ℕ, List, replicate}
use Rattle.dn_route.specs.CallersOrder.{Told}
use Rattle.dn_callers.specs.Callers.{Standing}
use Rattle.dn_machine.specs.Events.{Event, Merger, Acts}
use Rattle.dn_machine.specs.Runs.{after}
use Rattle.dn_machine.specs.Sound.{IsSound}
use Rattle.dn_cluster.specs.State.{ClusterState, numbered}
use Rattle.dn_cluster.specs.Machine.{machine_of, lane_in, merger_in, closed_in, load_in, session_at}

-- Lane n's merger acts, and nobody else.

abbrev pub actions : ℕ → ℕ → List Event
actions n k = replicate k (Acts (Merger n))

-- It has made k actions, over whatever receipts and told positions the machine was sound before: with the same ones it is
-- sound after them.
pub record IsActed (words : List ℕ) (c : ClusterState) (now : List ℕ) (d : ClusterState) (n k : ℕ) (told : List Told) (receipts : List Standing) : Type 0 where
  pub so : machine_of now d told receipts ≡ after (machine_of words c told receipts) (actions n k)
  pub sound : IsSound d.segments (machine_of now d told receipts)

pub record HasActed (words : List ℕ) (c : ClusterState) (now : List ℕ) (d : ClusterState) (n k : ℕ) : Type 0 where
  pub is : (told : List Told) (receipts : List Standing) → IsSound c.segments (machine_of words c told receipts)
      → IsActed words c now d n k told receipts

-- All of a cluster but its mergers: the lanes that run, the monitor's order and the sessions.
pub record LeavesActors (c d : ClusterState) : Type 0 where
  pub lanes : (k : ℕ) → lane_in (numbered d.nodes k) ≡ lane_in (numbered c.nodes k)
  pub monitor : d.monitor ≡ c.monitor
  pub sessions : (s : ℕ) → session_at d s ≡ session_at c s
  pub closed : (s : ℕ) → closed_in (numbered d.clients s) ≡ closed_in (numbered c.clients s)
  pub loads : (s : ℕ) → load_in (numbered d.clients s) ≡ load_in (numbered c.clients s)

-- All but the merger of lane n.
pub record LeavesOthers (n : ℕ) (c d : ClusterState) : Type 0 where
  pub actors : LeavesActors c d
  pub mergers : (k : ℕ) → k ≢ n → merger_in (numbered d.nodes k) ≡ merger_in (numbered c.nodes k)
