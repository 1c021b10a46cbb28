use Rattle.std.proofs.Common.{arith}
use Rattle.dn_walks.proofs.Trails.{tracks_begun}
use Rattle.dn_walks.proofs.Changing.{walk_steps}
use Rattle.dn_walks.proofs.Keeps.{walk_lasts}
use Rattle.dn_walks.proofs.laws.changing.Goals as goal

pub returns-clause-begins : goal.returns-clause-begins
returns-clause-begins c = λ n k want errand p a. (a, omega arith, tracks_begun p.words p.chains k, record {})

pub returns-clause-steps : goal.returns-clause-steps
returns-clause-steps c = λ n want p w word now h l pos few a e. walk_steps n want p w word now (record { was = h.represents; lane = l.positive; key = pos; few = few }) a e

pub returns-clause-lasts : goal.returns-clause-lasts
returns-clause-lasts c = λ n k want p q place l u a. walk_lasts n k want place p q l.positive u a
