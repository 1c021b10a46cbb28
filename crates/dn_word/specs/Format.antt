use Rattle.std.specs.Prelude.{ℕ, ◌+◌, ◌*◌, ◌/◌, ◌%◌, ◌^◌}
use Rattle.dn_word.specs.declared.packed.format.Format.{Format}

-- 32 bits of the number of segments, 32 of the layout's number
abbrev pub format_of : ℕ → Format
format_of word = record { segments = word / 2 ^ 32; number = word % 2 ^ 32 }

-- the word of a format whose fields are within their widths
abbrev pub format_word : Format → ℕ
format_word f = f.segments * 2 ^ 32 + f.number
