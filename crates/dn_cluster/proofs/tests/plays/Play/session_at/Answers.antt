use Rattle.dn_cluster.proofs.tests.plays.Play.session_at.Goals as goal

pub lane-requires : goal.lane-requires
lane-requires c = (c.runs.ensures c.if-runs.true).0
