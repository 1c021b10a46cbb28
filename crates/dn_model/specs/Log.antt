use Rattle.std.specs.Prelude.{◌≡◌, ℕ, ◌+◌, ◌/◌, ◌%◌, ◌<◌, ◌≤◌, List, [], ◌∷◌}
use Rattle.dn_record.specs.Grammar.{IsRecord}
use Rattle.dn_record.specs.Record.{spelling, length_in_words}
use Rattle.dn_record.specs.declared.records.Record.{Record}
use Rattle.dn_record.specs.declared.records.Record.TheVariants.{Put, Delete, Share, Unshare, Loose, LooseDelete, Pad}
pub use Rattle.dn_model.specs.declared.logs.Placed.{Placed}
use Rattle.dn_model.specs.Regions.{gate, directory, offsets}

-- the words from an offset on are these
abbrev pub Stand : (ℕ → ℕ) → ℕ → List ℕ → Type 0
Stand words o [] = Unit {0}
Stand words o (x ∷ xs) = (words o ≡ x) × Stand words (o + 1) xs

-- A record lies within one segment, and a pad reaches to the segment's end.
abbrev pub Fits : ℕ → Record → Type 0
Fits o (Pad words) = o % 1024 + length_in_words (Pad words) ≡ 1024
Fits o (Put key value) = o % 1024 + length_in_words (Put key value) ≤ 1024
Fits o (Delete key) = o % 1024 + length_in_words (Delete key) ≤ 1024
Fits o (Share key cell opening) = o % 1024 + length_in_words (Share key cell opening) ≤ 1024
Fits o (Unshare key at) = o % 1024 + length_in_words (Unshare key at) ≤ 1024
Fits o (Loose key value) = o % 1024 + length_in_words (Loose key value) ≤ 1024
Fits o (LooseDelete key) = o % 1024 + length_in_words (LooseDelete key) ≤ 1024

-- what is asked of a pad alone
abbrev pub PadFits : ℕ → Record → Type 0
PadFits o (Pad words) = o % 1024 + length_in_words (Pad words) ≡ 1024
PadFits o (Put key value) = Unit {0}
PadFits o (Delete key) = Unit {0}
PadFits o (Share key cell opening) = Unit {0}
PadFits o (Unshare key at) = Unit {0}
PadFits o (Loose key value) = Unit {0}
PadFits o (LooseDelete key) = Unit {0}

-- The words from an offset on spell this record; of a pad the header alone is spelled.
pub record SpellsAt (words : ℕ → ℕ) (o : ℕ) (r : Record) : Type 0 where
  pub is_record : IsRecord r
  pub stands : Stand words o (spelling r)
  pub fits : Fits o r

-- From an offset up to the end the words are these records, each beginning where the one before it ends.
abbrev pub Tiles : (ℕ → ℕ) → ℕ → List Placed → ℕ → Type 0
Tiles words o [] end = o ≡ end
Tiles words o (p ∷ ps) end = (p.offset ≡ o) × SpellsAt words o p.entry × Tiles words (o + length_in_words p.entry) ps end

-- each offset up to the end lies in a segment that the lane's directory names
abbrev pub IsCovered : List ℕ → ℕ → ℕ → Type 0
IsCovered words n end = (o : ℕ) → o < end → (o / 1024 < 256) × (0 < directory words n (o / 1024))

-- The sealed log of lane n: its records from offset 0 up to the length in its gate, read through its directory.
pub record IsLog (words : List ℕ) (n : ℕ) (log : List Placed) : Type 0 where
  pub tiled : Tiles (offsets words n) 0 log (gate words n).len
  pub covered : IsCovered words n (gate words n).len

-- the gate's length isn't tiled by records
abbrev pub NoLog : List ℕ → ℕ → Type 0
NoLog words n = (log : List Placed) → IsLog words n log → ⊥
