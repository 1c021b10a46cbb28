use Rattle.std.specs.Prelude.{◌≡◌, ◌⊎◌, ℕ, ◌<◌, List, Contains, true}
use Rattle.dn_word.specs.Regions.{gate_at, deed_at, segment_counter_at, cell_counter_at, cell_at, cell_key_at}
use Rattle.dn_act.specs.declared.actions.Action.{Action}
use Rattle.dn_act.specs.declared.actions.Action.TheVariants.{Load, Store, Cas, Or, Add}
use Rattle.dn_log.specs.declared.staging.Staged.{Staged}
use Rattle.dn_tend.specs.Tend.{asks_to_leave, given_up}

-- Which words a lane changes, and how.

-- the exchange by which it gives up a slot: of a deed that asks it to leave
abbrev pub GivesUp : ℕ → ℕ → ℕ → ℕ → Type 0
GivesUp lane at old new = (slot : ℕ) × (slot < 64) × (at ≡ deed_at slot) × (asks_to_leave lane old ≡ true) × (new ≡ given_up old)

-- a cell, from 0 to 255, and its key
abbrev pub IsCell : ℕ → Type 0
IsCell at = (cell : ℕ) × (cell < 256) × (at ≡ cell_at cell)

abbrev pub IsCellKey : ℕ → Type 0
IsCellKey at = (cell : ℕ) × (cell < 256) × (at ≡ cell_key_at cell)

-- A lane stores words of its own that wait, and keys of cells. It exchanges its own gate, the deed of a slot that it is
-- asked to leave, and cells. It adds 1 to the counter of segments and to that of cells. Else it loads.
abbrev pub IsOfLane : ℕ → List Staged → Action → Type 0
IsOfLane lane waits (Load at) = Unit {0}
IsOfLane lane waits (Store at word) = Contains waits (record { at = at; word = word }) ⊎ IsCellKey at
IsOfLane lane waits (Cas at old new) = (at ≡ gate_at lane) ⊎ (GivesUp lane at old new ⊎ IsCell at)
IsOfLane lane waits (Or at bits) = ⊥
IsOfLane lane waits (Add at by) = (by ≡ 1) × ((at ≡ segment_counter_at) ⊎ (at ≡ cell_counter_at))
