use Rattle.std.specs.Prelude.{ℕ, ◌+◌, zero, suc, List, cond}
use Rattle.dn_tend.specs.declared.tasks.Task.{Task}
use Rattle.dn_waiting.specs.Queues.{is_queued}

-- of how many slots below a number no release waits: so many may still arrive without memory
unfoldable pub unqueued_below : List Task → ℕ → ℕ
unqueued_below tasks zero = 0
unqueued_below tasks (suc slot) = cond (is_queued slot tasks) 0 1 + unqueued_below tasks slot
