use Rattle.std.specs.Prelude.{◌≡◌, ◌⊎◌, ℕ, ◌≤◌}
use Rattle.dn_word.specs.Regions.{segments_at, overflow_counter_at}
use Rattle.dn_act.specs.Words.{pool_size}
use Rattle.dn_act.specs.declared.actions.Action.{Action}
use Rattle.dn_act.specs.declared.actions.Action.TheVariants.{Load, Store, Cas, Or, Add}
use Rattle.dn_model.specs.Regions.{gate_at, mark_at, directory_at}
use Rattle.dn_index.specs.Footprint.{IsOfBucket}

-- a word of the log of a lane: its gate, its merged mark, a word of its directory, a word of the segments; the last two with the word behind them, to which only words lead that no sealed log has
abbrev pub IsOfLog : ℕ → ℕ → Type 0
IsOfLog lane at = (at ≡ gate_at lane) ⊎ ((at ≡ mark_at lane) ⊎ (((directory_at lane 0 ≤ at) × (at ≤ directory_at lane 256)) ⊎ ((segments_at ≤ at) × (at ≤ pool_size 8192))))

-- What the merger of a lane does: it loads words of the lane's log and of the index, stores the lane's merged mark and words of
-- buckets, and adds 1 to the overflow counter.
abbrev pub IsOfMerger : ℕ → Action → Type 0
IsOfMerger lane (Load at) = IsOfLog lane at ⊎ ((at ≡ overflow_counter_at) ⊎ IsOfBucket at)
IsOfMerger lane (Store at word) = (at ≡ mark_at lane) ⊎ IsOfBucket at
IsOfMerger lane (Cas at old new) = ⊥
IsOfMerger lane (Or at bits) = ⊥
IsOfMerger lane (Add at by) = (at ≡ overflow_counter_at) × (by ≡ 1)
