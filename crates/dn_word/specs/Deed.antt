use Rattle.std.specs.Prelude.{ℕ, ◌+◌, ◌*◌, ◌/◌, ◌%◌, ◌^◌, nat_eq, if◌then◌else◌}
use Rattle.dn_word.specs.declared.packed.deed.Deed.{Deed}
use Rattle.dn_word.specs.declared.packed.deed.DeedState.{DeedState}
use Rattle.dn_word.specs.declared.packed.deed.DeedState.TheVariants.{Nobody, Owned, Leaving, Released}

-- the state that a number of two bits stands for
abbrev pub state_of : ℕ → DeedState
state_of n = if nat_eq n 0 then Nobody else (if nat_eq n 1 then Owned else (if nat_eq n 2 then Leaving else Released))

-- the number of a state
abbrev pub state_number : DeedState → ℕ
state_number Nobody = 0
state_number Owned = 1
state_number Leaving = 2
state_number Released = 3

-- two bits of the state, 23 of the epoch, 8 of the lane, 31 of the floor
abbrev pub deed_of : ℕ → Deed
deed_of word = record { state = state_of (word / 2 ^ 62); epoch = word / 2 ^ 39 % 2 ^ 23; lane = word / 2 ^ 31 % 2 ^ 8; floor = word % 2 ^ 31 }

-- the word of a deed whose fields are within their widths
abbrev pub deed_word : Deed → ℕ
deed_word d = state_number d.state * 2 ^ 62 + d.epoch * 2 ^ 39 + d.lane * 2 ^ 31 + d.floor
