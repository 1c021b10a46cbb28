use Rattle.std.specs.Prelude.{◌≡◌, ℕ, List, ◌++◌}
use Rattle.dn_record.specs.Record.{spelling}
use Rattle.dn_record.specs.Grammar.{IsRecord, FrontSpells}
use Rattle.dn_record.specs.declared.records.Record.{Record}

-- two records that fronts of the same words spell are one
abbrev pub FrontSpellsOne : Type 0
FrontSpellsOne = (words : List ℕ) (a b : Record) → FrontSpells words a → FrontSpells words b → a ≡ b

-- no spelling begins the spelling of another record
abbrev pub NoSpellingBeginsAnother : Type 0
NoSpellingBeginsAnother = (a b : Record) (rest : List ℕ) → IsRecord a → IsRecord b → spelling a ++ rest ≡ spelling b → a ≡ b
