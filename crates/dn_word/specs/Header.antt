use Rattle.std.specs.Prelude.{ℕ, ◌+◌, ◌*◌, ◌/◌, ◌%◌, ◌^◌}
use Rattle.dn_word.specs.declared.packed.header.Header.{Header}

-- 8 bits of the kind, 16 of the bytes, 16 of the cell, 16 of the words, 8 of zero
abbrev pub header_of : ℕ → Header
header_of word = record { kind = word / 2 ^ 56; bytes = word / 2 ^ 40 % 2 ^ 16; cell = word / 2 ^ 24 % 2 ^ 16; words = word / 2 ^ 8 % 2 ^ 16 }

-- the word of a header whose fields are within their widths
abbrev pub header_word : Header → ℕ
header_word h = h.kind * 2 ^ 56 + h.bytes * 2 ^ 40 + h.cell * 2 ^ 24 + h.words * 2 ^ 8
