use Rattle.dn_owners.proofs.Runs.{unmerged_wrong, forgetful_wrong, early_wrong, same_epoch_wrong}
use Rattle.dn_owners.proofs.laws.wrong_runs.Goals as goal

pub returns-clause-unmerged : goal.returns-clause-unmerged
returns-clause-unmerged c = unmerged_wrong

pub returns-clause-forgetful : goal.returns-clause-forgetful
returns-clause-forgetful c = forgetful_wrong

pub returns-clause-early : goal.returns-clause-early
returns-clause-early c = early_wrong

pub returns-clause-same_epoch : goal.returns-clause-same_epoch
returns-clause-same_epoch c = same_epoch_wrong
