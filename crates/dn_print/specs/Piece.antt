use Rattle.std.specs.Prelude.{ℕ, ◌++◌, ◌&&◌, Bool, List, codes, nat_le, if◌then◌else◌}
use Rattle.std.specs.List.{list_all}
use Rattle.std.specs.Int.{w64, to_be_bytes}
use Rattle.std.specs.Fmt.{decimal}
use Rattle.hex.specs.Hex.{encode_lower}
use Rattle.dn_word.specs.declared.positions.Position.{Position}
use Rattle.dn_hist.specs.declared.calls.Reply.{Reply}
use Rattle.dn_hist.specs.declared.calls.Reply.TheVariants.{Value, Absent, Stored, Deleted}

-- a position: stamp, rank and session
abbrev pub position_text : Position → List ℕ
position_text p = decimal p.stamp ++ (codes "." ++ (decimal p.rank ++ (codes "." ++ decimal p.session)))

-- `!` to `~`
abbrev pub is_graphic : ℕ → Bool
is_graphic b = nat_le 33 b && nat_le b 126

-- two lower-case hexadecimal digits for each byte
abbrev pub hex_text : List ℕ → List ℕ
hex_text bytes = encode_lower bytes

-- a word of the pool: 16 hexadecimal digits, the most significant first
abbrev pub word_text : ℕ → List ℕ
word_text word = hex_text (to_be_bytes w64 word)

-- a value: `=` and its bytes where each has a sign of its own, else `%` and hexadecimal digits
abbrev pub value_text : List ℕ → List ℕ
value_text bytes = if list_all is_graphic bytes then codes "=" ++ bytes else codes "%" ++ hex_text bytes

-- what a call was answered
abbrev pub reply_text : Reply → List ℕ
reply_text (Value bytes) = value_text bytes
reply_text Absent = codes "absent"
reply_text Stored = codes "stored"
reply_text Deleted = codes "deleted"
