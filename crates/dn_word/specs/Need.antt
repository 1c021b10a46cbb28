use Rattle.std.specs.Prelude.{ℕ, ◌+◌, ◌-◌, ◌^◌, ◌||◌, max, Option, Some, None, nat_eq, nat_lt, if◌then◌else◌}
use Rattle.dn_word.specs.declared.positions.Need.{Need}
use Rattle.dn_word.specs.declared.positions.Position.{Position}

-- A quiet read takes the next rank of its session's last stamp, or the first rank of a later stamp.
abbrev pub quiet_of : Need → ℕ → Option Position
quiet_of need stamp =
    if nat_lt stamp need.floor || nat_lt stamp need.last.stamp then None
    else (if nat_eq stamp need.last.stamp
    then (if nat_eq need.last.rank (2 ^ 32 - 1) then None else Some (record { stamp = stamp; rank = need.last.rank + 1; session = need.session }))
    else Some (record { stamp = stamp; rank = 1; session = need.session }))

-- the greatest of the three stamps
abbrev pub greatest_of : Need → ℕ → ℕ
greatest_of need stamp = max (max stamp need.floor) need.last.stamp

abbrev pub raised_of : Need → ℕ → Option Position
raised_of need stamp =
    if nat_eq (greatest_of need stamp) (2 ^ 31 - 1) then None
    else Some (record { stamp = greatest_of need stamp + 1; rank = 0; session = need.session })
