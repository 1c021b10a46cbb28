use Rattle.std.proofs.Common.{◌≡◌, take}
use Rattle.std.specs.Option.{option_copied}
use Rattle.dn_model.specs.Held.{unmerged}
use Rattle.dn_model.proofs.holdings.last_unmerged.Given as goal

-- the last one so far
abbrev pub invariant-loop-placed : goal.invariant-loop-placed
invariant-loop-placed l = option_copied l.last ≡ unmerged l.key l.merged (take l.placed-index l.log)
