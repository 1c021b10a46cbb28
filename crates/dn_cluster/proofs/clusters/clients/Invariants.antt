use Rattle.std.proofs.Common.{◌≡◌, ◌+◌, ◌≤◌, length}
use Rattle.dn_cluster.specs.Asks.{AreFresh}
use Rattle.dn_cluster.proofs.clusters.clients.Given as goal

abbrev pub invariant-loop-number : goal.invariant-loop-number
invariant-loop-number l = (length l.clients.items + 1 ≡ l.number) × AreFresh (length l.clients.items) l.clients.items × (1000 ≤ l.clients.cap)
