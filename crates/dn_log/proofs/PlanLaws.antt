use Rattle.std.proofs.Common.{ℕ, ◌≤◌, arith}
use Rattle.std.proofs.lemmas.Grind.{common_steps}
use Rattle.dn_log.specs.Log.{Log, plan_of, start_of, Fills}

-- a record begins past what is sealed
pub start-past : (len words : ℕ) → len ≤ start_of len words
start-past len words = grind (arith, common_steps)

-- what lies between the sealed length and the record is a pad up to a segment's end
pub plan-fills : (log : Log) (words : ℕ) → 1 ≤ words → words ≤ 1024 → Fills (plan_of log words).pad log.len (plan_of log words).at words
plan-fills log words l m = grind (arith, common_steps)
