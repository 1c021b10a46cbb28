use Rattle.dn_world.proofs.Draining.{same_all, same_full, fills_not_all}
use Rattle.dn_world.proofs.laws.drains.Goals as goal

pub returns-clause-all : goal.returns-clause-all
returns-clause-all c = same_all

pub returns-clause-full : goal.returns-clause-full
returns-clause-full c = same_full

pub returns-clause-either : goal.returns-clause-either
returns-clause-either c = fills_not_all
