use Rattle.std.specs.Prelude.{ℕ, ◌+◌, ◌-◌, ◌*◌, ◌^◌, ◌&&◌, ◌||◌, Bool, List, Option, Some, None, nat_eq, nat_lt, nat_le, if◌then◌else◌, length, slice_index, fold}
use Rattle.std.specs.List.{list_all}

-- a byte lies from one to another
abbrev pub is_within : ℕ → ℕ → ℕ → Bool
is_within least most b = nat_le least b && nat_le b most

-- `0` to `9`
abbrev pub is_digit : ℕ → Bool
is_digit b = is_within 48 57 b

-- the number that digits write in decimal
abbrev pub number_of : List ℕ → ℕ
number_of digits = fold (λ number digit. 10 * number + (digit - 48)) 0 digits

-- a number that fits 64 bits, where it is one
abbrev pub fitting : Bool → ℕ → Option ℕ
fitting is_number number = if is_number && nat_lt number (2 ^ 64) then Some number else None

-- a zero in front of other digits
abbrev pub has_leading_zero : List ℕ → Bool
has_leading_zero field = nat_eq (slice_index field 0) 48 && nat_lt 1 (length field)

-- a number below 2^64 in decimal, without sign and leading zeros
abbrev pub numeral_of : List ℕ → Option ℕ
numeral_of field =
    if nat_eq (length field) 0 || has_leading_zero field then None
    else fitting (list_all is_digit field) (number_of field)

-- a number that lies from one to another
abbrev pub kept_within : ℕ → ℕ → Option ℕ → Option ℕ
kept_within least most None = None
kept_within least most (Some number) = if nat_le least number && nat_le number most then Some number else None

-- a number from one to another in decimal
abbrev pub number_in : ℕ → ℕ → List ℕ → Option ℕ
number_in least most field = kept_within least most (numeral_of field)
