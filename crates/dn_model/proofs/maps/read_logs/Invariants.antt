use Rattle.dn_model.specs.Told.{AreLogs}
use Rattle.dn_model.proofs.maps.read_logs.Given as goal

-- the logs of the lanes so far
abbrev pub invariant-loop-lane : goal.invariant-loop-lane
invariant-loop-lane l = AreLogs l.words l.lane l.logs.items
