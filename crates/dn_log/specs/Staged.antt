use Rattle.std.specs.Prelude.{ℕ, List, Option, slice_get}
use Rattle.std.specs.Option.{option_map}
use Rattle.dn_act.specs.declared.actions.Action.{Action}
use Rattle.dn_act.specs.declared.actions.Action.TheVariants.{Store}
use Rattle.dn_log.specs.declared.staging.Staged.{Staged}

-- the store that carries a staged word to the pool
abbrev pub store_of : Staged → Action
store_of staged = Store staged.at staged.word

-- the store of the staged word at this place from the oldest, where there is one
abbrev pub flow_of : List Staged → ℕ → Option Action
flow_of words index = option_map store_of (slice_get words index)
