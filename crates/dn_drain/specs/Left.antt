use Rattle.std.specs.Prelude.{ℕ, ◌+◌, ◌-◌, ◌*◌, List}
use Rattle.dn_model.specs.Regions.{gate, mark}
use Rattle.dn_merge.specs.Left.{left_in}
use Rattle.dn_merge.specs.declared.places.MergePlace.{MergePlace}
use Rattle.dn_drain.specs.Alone.{Alone}

-- A bound on the actions that are left until all is merged: a turn, of at most 16,399 actions, for each word that isn't
-- merged, and the rest of this turn.

abbrev pub unmerged : List ℕ → ℕ → ℕ
unmerged words n = (gate words n).len - mark words n

abbrev pub left_at : List ℕ → ℕ → MergePlace → ℕ
left_at words n place = unmerged words n * 16400 + left_in place

abbrev pub left_by : ℕ → Alone → ℕ
left_by n a = left_at a.words n a.merger.place
