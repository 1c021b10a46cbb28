use Rattle.std.specs.Prelude.{ℕ, List, max}
use Rattle.dn_model.specs.Regions.{gate, deed}

-- The greatest stamp that a call of a slot may have by now: the floor of the slot's deed, or the stamp in the gate of the
-- lane that the deed names.
abbrev pub bound_in : List ℕ → ℕ → ℕ
bound_in words t = max (deed words t).floor (gate words (deed words t).lane).stamp
