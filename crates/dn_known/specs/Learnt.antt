use Rattle.std.specs.Prelude.{ℕ, ◌==◌, Some, slice_index, slice_set, if◌then◌else◌}
use Rattle.dn_pending.specs.Entries.{kept_from}
use Rattle.dn_pending.specs.Table.{Table}
use Rattle.dn_plan.specs.declared.results.Effect.{Effect}
use Rattle.dn_plan.specs.declared.results.Effect.TheVariants.{Epoch, DropBelow, Bar}
use Rattle.dn_known.specs.State.{KnownState}

-- A lane that meets another epoch of a slot takes it over, and pending records of the slot count from the log's present
-- length on.
abbrev pub met : KnownState → ℕ → ℕ → KnownState
met k slot epoch =
    if slice_index k.epochs slot == epoch then k
    else record k { epochs = slice_set k.epochs slot epoch; counts = slice_set k.counts slot k.log.len }

-- the records below the mark are merged
abbrev pub kept_past : ℕ → Table → Table
kept_past mark table = record table { entries = kept_from mark table.entries }

-- what a lane knows once a step of its plan has told it something
abbrev pub learnt : KnownState → Effect → KnownState
learnt k (Epoch slot epoch) = met k slot epoch
learnt k (DropBelow mark) = record k { pending = kept_past mark k.pending }
learnt k (Bar gate) = record k { barred = Some gate }
