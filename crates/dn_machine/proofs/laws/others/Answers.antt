use Rattle.dn_machine.proofs.Quiet.{merger_map, monitor_map}
use Rattle.dn_machine.proofs.laws.others.Goals as goal

pub returns-clause-mergers : goal.returns-clause-mergers
returns-clause-mergers c = merger_map

pub returns-clause-monitor : goal.returns-clause-monitor
returns-clause-monitor c = monitor_map
