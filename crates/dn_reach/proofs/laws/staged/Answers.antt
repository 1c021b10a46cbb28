use Rattle.dn_reach.proofs.Stages.{staged_may, staged_go_apart}
use Rattle.dn_reach.proofs.Lasts.{all_staged}
use Rattle.dn_reach.proofs.laws.staged.Goals as goal

pub returns-clause-may : goal.returns-clause-may
returns-clause-may c = staged_may

pub returns-clause-apart : goal.returns-clause-apart
returns-clause-apart c = staged_go_apart

pub returns-clause-waiting : goal.returns-clause-waiting
returns-clause-waiting c = all_staged
