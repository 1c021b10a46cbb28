use Rattle.std.proofs.Common.{◌≡◌, drop}
use Rattle.dn_model.specs.Held.{entry_at}
use Rattle.dn_model.proofs.holdings.entry_in.Given as goal

-- none so far, so it is the rest that decides
abbrev pub invariant-loop-placed : goal.invariant-loop-placed
invariant-loop-placed l = entry_at l.offset l.log ≡ entry_at l.offset (drop l.placed-index l.log)
