use Rattle.std.specs.Prelude.{◌≡◌, ℕ, ◌+◌, ◌≤◌, ◌<◌, ⊤}
use Rattle.dn_word.specs.declared.packed.header.Header.{Header}
use Rattle.dn_word.specs.Header.{header_word}
use Rattle.dn_record.specs.Values.{words_for}
use Rattle.dn_record.specs.declared.heads.Head.{Head}
use Rattle.dn_record.specs.declared.heads.Head.TheVariants.{Put, Delete, Share, Unshare, Loose, LooseDelete, Pad}

-- the fields of each kind's header; those that the kind doesn't use are 0
abbrev pub header_for : Head → Header
header_for (Put bytes) = record { kind = 1; bytes = bytes; cell = 0; words = 2 + words_for bytes }
header_for Delete = record { kind = 2; bytes = 0; cell = 0; words = 2 }
header_for (Share cell) = record { kind = 3; bytes = 0; cell = cell; words = 3 }
header_for Unshare = record { kind = 4; bytes = 0; cell = 0; words = 3 }
header_for (Loose bytes) = record { kind = 5; bytes = bytes; cell = 0; words = 2 + words_for bytes }
header_for LooseDelete = record { kind = 6; bytes = 0; cell = 0; words = 2 }
header_for (Pad words) = record { kind = 7; bytes = 0; cell = 0; words = words }

-- the header's word
abbrev pub head_word : Head → ℕ
head_word head = header_word (header_for head)

-- the record's length in words
abbrev pub head_words : Head → ℕ
head_words head = (header_for head).words

-- a value has at most 1,024 bytes, a cell a number below 256, and a pad fills at most all but one word of a segment
abbrev pub IsHead : Head → Type 0
IsHead (Put bytes) = bytes ≤ 1024
IsHead Delete = ⊤
IsHead (Share cell) = cell < 256
IsHead Unshare = ⊤
IsHead (Loose bytes) = bytes ≤ 1024
IsHead LooseDelete = ⊤
IsHead (Pad words) = (1 ≤ words) × (words ≤ 1023)

-- the word is the header that says this
pub record HeadIs (word : ℕ) (head : Head) : Type 0 where
  pub is_head : IsHead head
  pub is_word : head_word head ≡ word
