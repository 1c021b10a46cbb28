use Rattle.dn_moves.proofs.Events.{changes}
use Rattle.dn_moves.proofs.laws.changes.Goals as goal

pub returns : goal.returns
returns c = changes
