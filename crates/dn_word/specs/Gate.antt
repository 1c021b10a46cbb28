use Rattle.std.specs.Prelude.{ℕ, ◌+◌, ◌-◌, ◌*◌, ◌/◌, ◌%◌, ◌^◌, Bool, true, false, Option, Some, None, max, nat_eq, nat_le, if◌then◌else◌}
use Rattle.dn_word.specs.declared.packed.gate.Gate.{Gate}

-- a bit as a number
abbrev pub bit_of : Bool → ℕ
bit_of true = 1
bit_of false = 0

-- one bit of the fence, 31 of the stamp, 8 of zero, 24 of the length
abbrev pub gate_of : ℕ → Gate
gate_of word = record { fenced = nat_le (2 ^ 63) word; stamp = word / 2 ^ 32 % 2 ^ 31; len = word % 2 ^ 24 }

-- the word of a gate whose fields are within their widths
abbrev pub gate_word : Gate → ℕ
gate_word g = bit_of g.fenced * 2 ^ 63 + g.stamp * 2 ^ 32 + g.len

-- the stamp after the greater of the gate's own and a floor, up to the last stamp
abbrev pub next_of : Gate → ℕ → Option ℕ
next_of g floor = if nat_eq (max g.stamp floor) (2 ^ 31 - 1) then None else Some (max g.stamp floor + 1)
