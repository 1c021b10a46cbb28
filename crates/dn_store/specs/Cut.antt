use Rattle.std.specs.Prelude.{◌≡◌, ℕ, ◌+◌, List, [], ◌∷◌, ◌++◌}
use Rattle.dn_record.specs.Record.{length_in_words}
use Rattle.dn_model.specs.declared.logs.Placed.{Placed}

-- how many words these records have
abbrev pub words_in : List Placed → ℕ
words_in [] = 0
words_in (p ∷ ps) = length_in_words p.entry + words_in ps

-- so many words of a log are whole records: the number is the offset at which a record begins, or the log's length
pub record IsCut (log : List Placed) (mark : ℕ) : Type 0 where
  pub before : List Placed
  pub after : List Placed
  pub whole : log ≡ before ++ after
  pub words : words_in before ≡ mark
