use Rattle.std.specs.Prelude.{ℕ, ◌-◌, ◌/◌, ◌%◌, ◌^◌, ◌<◌, ◌==◌, ◌&&◌, Bool, List, bit_and, bit_or, slice_index, slice_set}
use Rattle.dn_word.specs.Hash.{hash_of}
use Rattle.dn_pending.specs.declared.filters.Bit.{Bit}
use Rattle.dn_pending.specs.declared.filters.KeyBits.{KeyBits}

-- the bit at a place from 0 to 1,023
abbrev pub bit_of : ℕ → Bit
bit_of place = record { word = place / 64; mask = 2 ^ (place % 64) }

-- the four bits of a key: ten bits of its hash each say the place of one
abbrev pub bits_of : ℕ → KeyBits
bits_of key = record {
  first = bit_of (hash_of key % 1024);
  second = bit_of (hash_of key / 2 ^ 10 % 1024);
  third = bit_of (hash_of key / 2 ^ 20 % 1024);
  fourth = bit_of (hash_of key / 2 ^ 30 % 1024);
}

-- whether the bit is set
abbrev pub is_set : List ℕ → Bit → Bool
is_set words bit = bit_and (slice_index words bit.word) bit.mask == bit.mask

-- what the words lack of the bit
abbrev pub lack_of : List ℕ → Bit → ℕ
lack_of words bit = bit.mask - bit_and (slice_index words bit.word) bit.mask

-- whether all four are set
abbrev pub may_hold : List ℕ → KeyBits → Bool
may_hold words bits =
    is_set words bits.first && is_set words bits.second && is_set words bits.third && is_set words bits.fourth

-- the words with the bit set
abbrev pub set_in : List ℕ → Bit → List ℕ
set_in words bit = slice_set words bit.word (bit_or (slice_index words bit.word) bit.mask)

-- the words with all four set
abbrev pub added_to : List ℕ → KeyBits → List ℕ
added_to words bits = set_in (set_in (set_in (set_in words bits.first) bits.second) bits.third) bits.fourth

-- the bits lie within the 16 words of a filter
pub record AreInside (bits : KeyBits) : Type 0 where
  pub first : bits.first.word < 16
  pub second : bits.second.word < 16
  pub third : bits.third.word < 16
  pub fourth : bits.fourth.word < 16
