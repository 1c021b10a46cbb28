use Rattle.std.proofs.Common.{length, ◌∙◌, ap}
use Rattle.dn_cluster.specs.State.{ClusterState, numbered}
use Rattle.dn_cluster.proofs.Takes.{heard_segments, heard_lanes}
use Rattle.dn_cluster.proofs.Giving.{told_so}
use Rattle.dn_cluster.proofs.clusters.Cluster.tell.Goals as goal

pub returns-clause-told : goal.returns-clause-told
returns-clause-told c = told_so c.args.self.now c.hear.new.self c.args.session c.args.position c.hear.ensures.sessions c.requires.session c.hear.ensures.after

pub returns-clause-segments : goal.returns-clause-segments
returns-clause-segments c = ap (λ (x : ClusterState). x.segments) c.hear.ensures.after ∙ heard_segments c.args.self.now c.args.session c.args.position (numbered c.args.self.now.clients c.args.session)

pub returns-clause-lanes : goal.returns-clause-lanes
returns-clause-lanes c = ap (λ (x : ClusterState). length x.nodes) c.hear.ensures.after ∙ heard_lanes c.args.self.now c.args.session c.args.position (numbered c.args.self.now.clients c.args.session)
