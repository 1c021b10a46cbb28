use Rattle.dn_owners.proofs.Runs.{run_sound, moving_given, moving_sound, moving_owner, moving_held}
use Rattle.dn_owners.proofs.laws.run.Goals as goal

pub returns-clause-given : goal.returns-clause-given
returns-clause-given c = moving_given

pub returns-clause-sound : goal.returns-clause-sound
returns-clause-sound c = moving_sound

pub returns-clause-owner : goal.returns-clause-owner
returns-clause-owner c = moving_owner

pub returns-clause-held : goal.returns-clause-held
returns-clause-held c = moving_held

pub returns-clause-runs : goal.returns-clause-runs
returns-clause-runs c = λ o es h r. run_sound o es r h
