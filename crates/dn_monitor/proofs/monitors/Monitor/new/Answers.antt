use Rattle.std.proofs.Common.{sym, subst}
use Rattle.dn_monitor.specs.Sequence.{sequence, CarriesOut}
use Rattle.dn_monitor.specs.declared.places.MonitorPlace.{MonitorPlace}
use Rattle.dn_monitor.proofs.SequenceLaws.{sequence_run}
use Rattle.dn_monitor.proofs.monitors.Monitor.new.Goals as goal

pub returns-clause-sequence : goal.returns-clause-sequence
returns-clause-sequence c =
    let P : MonitorPlace → Type 0 = λ place. CarriesOut (record { heirs = c.heirs.result; place = place }) (sequence c.heirs.result c.args.order) in
    subst P (sym c.begin.ensures) (sequence_run c.heirs.result c.args.order)
