use Rattle.std.specs.Prelude.{ℕ, List, []}
use Rattle.dn_hist.specs.declared.calls.Call.{Call}
use Rattle.dn_hist.specs.declared.calls.Call.TheVariants.{Get, Put, Delete}
use Rattle.dn_record.specs.Record.{spelling, length_in_words}
use Rattle.dn_record.specs.declared.records.Record.{Record}
use Rattle.dn_record.specs.declared.records.Record.TheVariants as rec
use Rattle.dn_tend.specs.declared.tasks.TendSeal.{TendSeal}
use Rattle.dn_tend.specs.declared.tasks.TendSeal.TheVariants as seal

-- The records that are sealed: of a put or delete its own, of a task its Share or Unshare.

-- a put or delete
abbrev pub IsWrite : Call → Type 0
IsWrite (Get key) = ⊥
IsWrite (Put key value) = Unit {0}
IsWrite (Delete key) = Unit {0}

-- the words of its record; a get has none
abbrev pub call_spelling : Call → List ℕ
call_spelling (Get key) = []
call_spelling (Put key value) = spelling (rec.Put key value)
call_spelling (Delete key) = spelling (rec.Delete key)

-- how many they are
abbrev pub call_words : Call → ℕ
call_words (Get key) = 0
call_words (Put key value) = length_in_words (rec.Put key value)
call_words (Delete key) = length_in_words (rec.Delete key)

abbrev pub task_record : ℕ → TendSeal → Record
task_record key (seal.Share cell opening gate) = rec.Share key cell opening
task_record key (seal.Unshare at stamp gate) = rec.Unshare key at
