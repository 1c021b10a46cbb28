use Rattle.dn_run.proofs.Going.{goes, uncalled}
use Rattle.dn_run.proofs.laws.runs.Goals as goal

pub returns-clause-events : goal.returns-clause-events
returns-clause-events c = λ w lines n h u fit. (goes w lines n h (uncalled w u) fit).of

pub returns-clause-sound : goal.returns-clause-sound
returns-clause-sound c = λ w lines n h u fit. (goes w lines n h (uncalled w u) fit).sound
