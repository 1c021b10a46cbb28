use Rattle.std.specs.Prelude.{ℕ, ◌+◌, ◌<◌}
use Rattle.dn_index.specs.Walk.{actions_left}
use Rattle.dn_merge.specs.Merge.{Merging}
use Rattle.dn_merge.specs.declared.places.MergePlace.{MergePlace}
use Rattle.dn_merge.specs.declared.places.MergePlace.TheVariants.{Gate, Mark, Directory, Header, Key, Walk, Pass}

-- a bound on the actions that are left of a turn, most of them of the walk
abbrev pub left_in : MergePlace → ℕ
left_in Gate = 16399
left_in (Mark gate) = 16398
left_in (Directory mark) = 16397
left_in (Header mark from) = 16396
left_in (Key mark from to change) = 16395
left_in (Walk to w) = 1 + actions_left w
left_in (Pass to) = 1

abbrev pub merge_left : Merging → ℕ
merge_left m = left_in m.place

-- the turn has ended, or fewer than so many actions are left of it
abbrev pub HasFewer : ℕ → MergePlace → Type 0
HasFewer most Gate = Unit {0}
HasFewer most (Mark gate) = left_in (Mark gate) < most
HasFewer most (Directory mark) = left_in (Directory mark) < most
HasFewer most (Header mark from) = left_in (Header mark from) < most
HasFewer most (Key mark from to change) = left_in (Key mark from to change) < most
HasFewer most (Walk to w) = left_in (Walk to w) < most
HasFewer most (Pass to) = left_in (Pass to) < most
