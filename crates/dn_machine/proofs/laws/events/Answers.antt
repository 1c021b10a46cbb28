use Rattle.dn_machine.proofs.Kept.{sound, runs}
use Rattle.dn_machine.proofs.Growing.{grows}
use Rattle.dn_machine.proofs.laws.events.Goals as goal

pub returns-clause-sound : goal.returns-clause-sound
returns-clause-sound c = sound

pub returns-clause-runs : goal.returns-clause-runs
returns-clause-runs c = runs

pub returns-clause-grows : goal.returns-clause-grows
returns-clause-grows c = grows
