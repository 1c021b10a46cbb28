use Rattle.std.proofs.Common.{ℕ, ◌≡◌, List, []}
use Rattle.dn_outcomes.specs.Runs.{after}
use Rattle.dn_world.specs.Opening.{adds_for}
use Rattle.dn_world.specs.State.{world_of}
use Rattle.dn_world.proofs.crews.Crew.add_lanes.Given as goal

-- so many lanes are added
abbrev pub invariant-loop-added : goal.invariant-loop-added
invariant-loop-added l = (words : List ℕ) → world_of words l.self [] [] ≡ after (world_of words l.fn.self [] []) (adds_for l.added)
