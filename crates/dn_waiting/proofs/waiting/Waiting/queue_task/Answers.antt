use Rattle.std.proofs.Common.{ℕ, ◌≡◌, ◌++◌, ◌∷◌, [], OnOk, OnErr, Result, Ok, Err, set, get_or}
use Rattle.dn_waiting.specs.State.{WaitingState}
use Rattle.dn_waiting.specs.Queues.{AtLane}
use Rattle.dn_waiting.specs.Sound.{IsSound, IsLane}
use Rattle.dn_tend.specs.declared.tasks.Task.{Task}
use Rattle.dn_waiting.specs.Queues.{with_task}
use Rattle.dn_waiting.proofs.Joined.{tasks_joined, made_of}
use Rattle.dn_waiting.proofs.waiting.Waiting.queue_task.Goals as goal

by_result : {X E : Type 0} (w : WaitingState) (l : ℕ) (q r : AtLane) (task : Task) (o : Result X E) → IsSound w → IsLane l → q ≡ get_or w.lanes l q
    → OnOk o (r ≡ with_task q task) → OnErr o (r ≡ q) → IsSound (made_of w.calls (set w.lanes l r))
by_result w l q r task (Ok x) sound h there ok err = tasks_joined w l q r (q.tasks ++ task ∷ []) sound h there ok
by_result w l q r task (Err x) sound h there ok err = tasks_joined w l q r q.tasks sound h there err

pub invariant_of-self : goal.invariant_of-self
invariant_of-self c =
    let w : WaitingState = record { calls = c.self.inside.calls.items; lanes = c.self.inside.lanes.items } in
    by_result w c.args.lane c.index_mut.result.now c.queue_task.new.self c.args.task c.queue_task.result c.self.invariant c.requires c.index_mut.ensures.value c.queue_task.ensures.ok c.queue_task.ensures.err
