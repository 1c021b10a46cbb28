use Rattle.std.specs.Prelude.{◌≡◌, ◌+◌, length}
use Rattle.dn_run.specs.Asked.{calls_numbered}
use Rattle.dn_run.specs.Counts.{counts_of}
use Rattle.dn_run.specs.Output.{unanswered_in}
use Rattle.dn_run.specs.Run.{Run}

-- The counts of calls that are printed add up: each call that got a number was made, was given up, or has no answer.
pub record AddsUp (r : Run) : Type 0 where
  pub calls : (counts_of r.past).calls ≡ length (calls_numbered r.past)
  pub sum : (counts_of r.past).calls ≡ (counts_of r.past).made + ((counts_of r.past).given + length (unanswered_in r.world))
