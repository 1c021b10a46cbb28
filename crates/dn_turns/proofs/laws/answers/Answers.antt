use Rattle.dn_turns.proofs.Fits.{fits, idle, full}
use Rattle.dn_turns.proofs.laws.answers.Goals as goal

pub returns-clause-fits : goal.returns-clause-fits
returns-clause-fits c = fits

pub returns-clause-idle : goal.returns-clause-idle
returns-clause-idle c = idle

pub returns-clause-full : goal.returns-clause-full
returns-clause-full c = full
