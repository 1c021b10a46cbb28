use Rattle.std.specs.Prelude.{ℕ, ◌+◌, ◌==◌, Option, Some, None, max, if◌then◌else◌}
use Rattle.dn_word.specs.Deed.{deed_of, deed_word}
use Rattle.dn_word.specs.declared.packed.gate.Gate.{Gate}
use Rattle.dn_word.specs.declared.packed.deed.Deed.{Deed}
use Rattle.dn_word.specs.declared.packed.deed.DeedState.{DeedState}
use Rattle.dn_word.specs.declared.packed.deed.DeedState.TheVariants.{Nobody, Owned, Leaving}

-- a lane owns what is granted to it; lane 0 stands for nobody
abbrev pub owned_by : ℕ → DeedState
owned_by lane = if lane == 0 then Nobody else Owned

-- the greater of a floor and the stamp in the gate of the lane that had the slot, where a lane had it
abbrev pub raised : ℕ → Option Gate → ℕ
raised floor None = floor
raised floor (Some gate) = max floor gate.stamp

-- what a grant makes of a deed: the next epoch, and a floor that no receipt of the lane before is above
abbrev pub granted : Deed → Option Gate → ℕ → Deed
granted deed gate to = record { state = owned_by to; epoch = deed.epoch + 1; lane = to; floor = raised deed.floor gate }

-- as words
abbrev pub granted_word : ℕ → Option Gate → ℕ → ℕ
granted_word deed gate to = deed_word (granted (deed_of deed) gate to)

-- the deed that asks its lane to leave: all but the state is kept
abbrev pub leaving : Deed → Deed
leaving deed = record { state = Leaving; epoch = deed.epoch; lane = deed.lane; floor = deed.floor }

abbrev pub leaving_word : ℕ → ℕ
leaving_word deed = deed_word (leaving (deed_of deed))
