use Rattle.std.specs.Prelude.{◌≡◌, ◌≢◌, ℕ, ◌≤◌, ◌<◌, ◌^◌, false, List, ◌++◌, length, Option, Some, None, All, ⊤}
use Rattle.dn_word.specs.Cell.{cell_of}
use Rattle.dn_word.specs.declared.packed.place.Ref.{Ref}
use Rattle.dn_record.specs.Record.{spelling}
use Rattle.dn_record.specs.declared.records.Record.{Record}
use Rattle.dn_record.specs.declared.records.Record.TheVariants.{Put, Delete, Share, Unshare, Loose, LooseDelete, Pad}

-- no place, or one in the log of a lane from 1 to 63
abbrev pub IsPlace : Option Ref → Type 0
IsPlace None = ⊤
IsPlace (Some at) = (1 ≤ at.lane) × (at.lane ≤ 63) × (at.offset < 2 ^ 24)

-- the word with which a cell is opened: not closed, with a stamp, and a place or none
pub record IsOpening (word : ℕ) : Type 0 where
  pub is_open : (cell_of word).closed ≡ false
  pub is_stamped : 1 ≤ (cell_of word).stamp
  pub is_place : IsPlace (cell_of word).at

-- at most 1,024 bytes
pub record IsValue (value : List ℕ) : Type 0 where
  pub is_short : length value ≤ 1024
  pub are_bytes : All (λ byte. byte < 2 ^ 8) value

-- what is asked of the fields that are no value
abbrev pub FieldsFit : Record → Type 0
FieldsFit (Put key value) = key ≢ 0
FieldsFit (Delete key) = key ≢ 0
FieldsFit (Share key cell opening) = (key ≢ 0) × (cell < 256) × IsOpening opening
FieldsFit (Unshare key at) = (key ≢ 0) × IsPlace at
FieldsFit (Loose key value) = key ≢ 0
FieldsFit (LooseDelete key) = key ≢ 0
FieldsFit (Pad words) = (1 ≤ words) × (words ≤ 1023)

-- what is asked of the value, where there is one
abbrev pub ValueFits : Record → Type 0
ValueFits (Put key value) = IsValue value
ValueFits (Loose key value) = IsValue value
ValueFits (Delete key) = ⊤
ValueFits (Share key cell opening) = ⊤
ValueFits (Unshare key at) = ⊤
ValueFits (LooseDelete key) = ⊤
ValueFits (Pad words) = ⊤

-- a record of the grammar
pub record IsRecord (r : Record) : Type 0 where
  pub fields_fit : FieldsFit r
  pub value_fits : ValueFits r

-- a front of these words spells this record
pub record FrontSpells (words : List ℕ) (r : Record) : Type 0 where
  pub is_record : IsRecord r
  pub rest : List ℕ
  pub is_front : words ≡ spelling r ++ rest

-- a front of these words spells some record
pub record BeginsWithRecord (words : List ℕ) : Type 0 where
  pub begun : Record
  pub is_begun : FrontSpells words begun
