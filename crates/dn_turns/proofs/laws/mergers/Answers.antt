use Rattle.std.proofs.Common.{refl}
use Rattle.dn_turns.proofs.Lasts.{merger_lasts}
use Rattle.dn_turns.proofs.Steps.{merger_steps, merger_fails}
use Rattle.dn_turns.proofs.laws.mergers.Goals as goal

pub returns-clause-begins : goal.returns-clause-begins
returns-clause-begins c = λ n p. record { number = refl; knows = record {} }

pub returns-clause-steps : goal.returns-clause-steps
returns-clause-steps c = λ n m p word now h l few a e. merger_steps n m p word now (record { whole = h; lane = l; few = few }) a e

pub returns-clause-fails : goal.returns-clause-fails
returns-clause-fails c = λ n m p now h l few a e. merger_fails n m p now (record { whole = h; lane = l; few = few }) a e

pub returns-clause-lasts : goal.returns-clause-lasts
returns-clause-lasts c = λ n m p q h l g u a. merger_lasts n m p q (record { whole = h; lane = l; grows = g; leaves = u }) a
