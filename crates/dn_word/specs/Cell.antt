use Rattle.std.specs.Prelude.{ℕ, ◌+◌, ◌*◌, ◌/◌, ◌%◌, ◌^◌, nat_le}
use Rattle.dn_word.specs.Gate.{bit_of}
use Rattle.dn_word.specs.Ref.{ref_of, ref_part}
use Rattle.dn_word.specs.declared.packed.cell.Cell.{Cell}

-- one bit of the closing, 31 of the stamp, 32 of the place
abbrev pub cell_of : ℕ → Cell
cell_of word = record { closed = nat_le (2 ^ 63) word; stamp = word / 2 ^ 32 % 2 ^ 31; at = ref_of word }

-- the word of a cell whose fields are within their widths
abbrev pub cell_word : Cell → ℕ
cell_word c = bit_of c.closed * 2 ^ 63 + c.stamp * 2 ^ 32 + ref_part c.at
