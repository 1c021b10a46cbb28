use Rattle.std.specs.Prelude.{ℕ, ◌-◌, ◌++◌, ◌∷◌, [], Option, Some, None}
use Rattle.dn_log.specs.Log.{sealed_of}
use Rattle.dn_log.specs.declared.plans.Plan.{Plan}
use Rattle.dn_pending.specs.Table.{Table}
use Rattle.dn_known.specs.State.{KnownState}

-- a record at this offset is pending for the key whose value it says where to find, if it says that of one
abbrev pub with_pending : Option ℕ → ℕ → Table → Table
with_pending None at table = table
with_pending (Some key) at table =
    record { entries = table.entries ++ record { key = key; at = at } ∷ []; spare = table.spare - 1 }

-- the lane once its plan's record is sealed
abbrev pub sealed_by : KnownState → Plan → Option ℕ → KnownState
sealed_by k plan key = record k { log = sealed_of k.log plan; pending = with_pending key plan.at k.pending }
