use Rattle.std.specs.Prelude.{ℕ, ◌+◌, ◌-◌, ◌*◌, ◌%◌, ◌&&◌, ◌||◌, Bool, List, [], ◌∷◌, Option, Some, None, nat_eq, nat_le, if◌then◌else◌, length, drop, slice_index, replicate}
use Rattle.std.specs.List.{list_all, slice_split}
use Rattle.dn_script.specs.Number.{is_within, number_in}

-- The three forms of a value.

-- `=` is followed by the bytes themselves, 0 to 1,024 from `!` to `~`
abbrev pub plain_value : List ℕ → Option (List ℕ)
plain_value bytes = if nat_le (length bytes) 1024 && list_all (is_within 33 126) bytes then Some bytes else None

-- `0` to `9` and `a` to `f`
abbrev pub is_hexadecimal : ℕ → Bool
is_hexadecimal b = is_within 48 57 b || is_within 97 102 b

-- what such a digit stands for
abbrev pub digit_value : ℕ → ℕ
digit_value b = if is_within 48 57 b then b - 48 else (if is_within 97 102 b then b - 87 else 0)

-- the bytes that pairs of digits write
abbrev pub pairs_of : List ℕ → List ℕ
pairs_of [] = []
pairs_of (high ∷ []) = []
pairs_of (high ∷ low ∷ more) = (16 * digit_value high + digit_value low) ∷ pairs_of more

-- `%` is followed by 0 to 1,024 pairs of hexadecimal digits
abbrev pub pair_value : List ℕ → Option (List ℕ)
pair_value digits =
    if nat_le (length digits) 2048 && nat_eq (length digits % 2) 0 && list_all is_hexadecimal digits
    then Some (pairs_of digits) else None

-- a byte so many times
abbrev pub filled_with : Option ℕ → Option ℕ → Option (List ℕ)
filled_with None count = None
filled_with (Some byte) None = None
filled_with (Some byte) (Some count) = Some (replicate count byte)

-- a byte, 0 to 255, and how many times it stands, 0 to 1,024
abbrev pub filled_by : List (List ℕ) → Option (List ℕ)
filled_by (byte ∷ count ∷ []) = filled_with (number_in 0 255 byte) (number_in 0 1024 count)
filled_by parts = None

-- `#` is followed by these with a `*` between
abbrev pub filled_value : List ℕ → Option (List ℕ)
filled_value text = filled_by (slice_split (λ b. nat_eq b 42) text)

-- the bytes of the value in the field
abbrev pub value_of : List ℕ → Option (List ℕ)
value_of field =
    if nat_eq (slice_index field 0) 61 then plain_value (drop 1 field)
    else (if nat_eq (slice_index field 0) 37 then pair_value (drop 1 field)
    else (if nat_eq (slice_index field 0) 35 then filled_value (drop 1 field) else None))
