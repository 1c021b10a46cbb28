use Rattle.std.proofs.Common.{◌++◌, ◌∷◌, []}
use Rattle.dn_waiting.specs.State.{WaitingState}
use Rattle.dn_tend.specs.declared.tasks.Task.TheVariants.{Release}
use Rattle.dn_waiting.proofs.Joined.{tasks_joined}
use Rattle.dn_waiting.proofs.waiting.Waiting.queue_release.Goals as goal

pub invariant_of-self : goal.invariant_of-self
invariant_of-self c =
    let w : WaitingState = record { calls = c.self.inside.calls.items; lanes = c.self.inside.lanes.items } in
    tasks_joined w c.args.lane c.index_mut.result.now c.queue_release.new.self (c.index_mut.result.now.tasks ++ Release c.args.slot ∷ []) c.self.invariant c.requires.lane
    c.index_mut.ensures.value c.queue_release.ensures
