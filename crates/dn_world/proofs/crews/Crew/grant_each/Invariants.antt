use Rattle.std.proofs.Common.{ℕ, ◌≡◌, slice_index}
use Rattle.dn_world.specs.Opening.{MayGoOn, IsWhole}
use Rattle.dn_world.proofs.Granting.{IsSoFar}
use Rattle.dn_world.proofs.crews.Crew.grant_each.Given as goal

-- the slots below this one are given to their owners
abbrev pub invariant-loop-slot : goal.invariant-loop-slot
invariant-loop-slot g l = record {
  sound : MayGoOn (g.M.Memory.words l.mem) l.self;
  granted : g.M.Memory.faults l.mem ≡ g.M.Memory.faults l.fn.mem
      → IsSoFar (g.M.Memory.words l.fn.mem) l.fn.self (g.M.Memory.words l.mem) l.self (λ (t : ℕ). slice_index l.fn.lanes t) l.slot;
  whole : IsWhole l.whole (g.M.Memory.faults l.fn.mem) (g.M.Memory.faults l.mem);
}
