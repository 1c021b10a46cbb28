use Rattle.std.proofs.Common.{arith}
use Rattle.dn_walks.proofs.Trails.{tracks_begun}
use Rattle.dn_walks.proofs.Lasts.{find_lasts}
use Rattle.dn_walks.proofs.Finding.{find_steps, find_loads}
use Rattle.dn_walks.proofs.laws.finding.Goals as goal

pub returns-clause-begins : goal.returns-clause-begins
returns-clause-begins c = λ p k. (record {}, omega arith, tracks_begun p.words p.chains k)

pub returns-clause-loads : goal.returns-clause-loads
returns-clause-loads c = λ p w word now a e. find_loads p.words now p.chains w.key w.place word a e

pub returns-clause-steps : goal.returns-clause-steps
returns-clause-steps c = λ p w word now h pos a e. find_steps p.words p.chains p.owners.store w.key w.place word h.represents pos a e.answer

pub returns-clause-lasts : goal.returns-clause-lasts
returns-clause-lasts c = λ p q k place u a. find_lasts k place p q u a
