use Rattle.std.proofs.Common.{ℕ, ◌+◌, ◌*◌, ◌≤◌, ◌≡◌, true, false, length, Option, Some, None, refl, sym, ◌∙◌, arith}
use Rattle.std.proofs.lemmas.Bool.{le-ltb, false≢true}
use Rattle.std.proofs.lemmas.Grind.{common_steps}
use Rattle.dn_record.specs.Grammar.{IsRecord}
use Rattle.dn_record.specs.Record.{length_in_words, key_of}
use Rattle.dn_record.specs.declared.records.Record.{Record}
use Rattle.dn_log.specs.Log.{Log, reach_of, start_of, IsFit}
use Rattle.dn_reach.specs.Placing.{plan_for}
use Rattle.dn_reach.proofs.Within.{reach_longer}
use Rattle.dn_reach.proofs.Stages.{words_few}

-- Whether a record has room.

-- one segment behind the log's own reaches for a record
start_near : (len n words : ℕ) → len ≤ 1024 * n → words ≤ 130 → start_of len words + words ≤ 1024 * (n + 1)
start_near len n words l w = grind (arith, common_steps)

pub spare_reaches : (log : Log) (r : Record) (k g : ℕ) → IsFit log → IsRecord r → key_of r ≡ Some k → log.spare ≡ Some g → (plan_for log r).need_segment ≡ false
spare_reaches log r k g fit h e spare =
    let n : ℕ = length_in_words r in
    let near : start_of log.len n + n ≤ 1024 * (length log.segments + 1) = start_near log.len (length log.segments) n fit.len (words_few r k h e) in
    le-ltb (1024 * length (reach_of log)) (start_of log.len n + n) (omega (arith, near, reach_longer log g spare))

-- so a log that needs a segment has no spare one
by_spare : (log : Log) (r : Record) (k : ℕ) (spare : Option ℕ) → log.spare ≡ spare → IsFit log → IsRecord r → key_of r ≡ Some k → (plan_for log r).need_segment ≡ true → spare ≡ None
by_spare log r k None f fit h e need = refl
by_spare log r k (Some g) f fit h e need = absurd (false≢true (sym (spare_reaches log r k g fit h e f) ∙ need))

pub no_spare : (log : Log) (r : Record) (k : ℕ) → IsFit log → IsRecord r → key_of r ≡ Some k → (plan_for log r).need_segment ≡ true → log.spare ≡ None
no_spare log r k fit h e need = by_spare log r k log.spare refl fit h e need
