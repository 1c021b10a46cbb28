use Rattle.std.specs.Prelude.{ℕ, ◌+◌, ◌*◌, ◌/◌, ◌%◌, ◌^◌, Option, Some, None, nat_eq, if◌then◌else◌}
use Rattle.dn_word.specs.declared.packed.place.Ref.{Ref}

-- the lower 32 bits of a word: 8 of the lane, 24 of the offset; 0 is no place
abbrev pub ref_of : ℕ → Option Ref
ref_of word = if nat_eq (word % 2 ^ 32) 0 then None else Some (record { lane = word / 2 ^ 24 % 2 ^ 8; offset = word % 2 ^ 24 })

-- the word of a place whose offset is below 2 ^ 24
abbrev pub ref_word : Ref → ℕ
ref_word r = r.lane * 2 ^ 24 + r.offset

-- the 32 bits in which a word keeps a place or none
abbrev pub ref_part : Option Ref → ℕ
ref_part None = 0
ref_part (Some r) = ref_word r
