use Rattle.std.specs.Prelude.{◌≡◌, ◌<◌, ◌≤◌, ◌+◌, ℕ, false, List, Some}
use Rattle.dn_hist.specs.declared.receipts.Receipt.{Receipt}
use Rattle.dn_tend.specs.declared.tasks.Task.{Task}
use Rattle.dn_tend.specs.declared.tasks.Task.TheVariants as task
use Rattle.dn_lane.specs.State.{LaneState}
use Rattle.dn_lane.specs.Taken.{Taken}
use Rattle.dn_lane.specs.Turns.{turned}
use Rattle.dn_owners.specs.Known.{knowing_nothing}
use Rattle.dn_beside.specs.Pool.{Pool, store_in}
use Rattle.dn_beside.specs.Step.{IsStepBy, by_lane}
use Rattle.dn_learnt.specs.Heeding.{IsLesson}
use Rattle.dn_receipts.specs.Joined.{Joins}
use Rattle.dn_lanes.specs.Lane.{IsLaneAt}
use Rattle.dn_lanes.specs.Stepped.{receipt_by, IsOfCall, claims_in}

-- A lane begins, and is stopped.

-- a task that concerns no shared key
abbrev pub IsOwnTask : Task → Type 0
IsOwnTask (task.Release slot) = slot < 64
IsOwnTask task.Trim = Unit {0}
IsOwnTask (task.Share key) = ⊥
IsOwnTask (task.Unshare key) = ⊥

-- lane n is made, and no word is stored for that
pub record IsMade (p : Pool) (n : ℕ) (l : LaneState) : Type 0 where
  pub q : Pool
  pub lesson : IsLesson n p q
  pub lane : IsLaneAt n l q

-- a lane is stopped at an action by which it would have come to this: nothing is known of it then
pub record IsStoppedAt (p : Pool) (n : ℕ) (l : LaneState) (now : List ℕ) (t : Taken) : Type 0 where
  pub q : Pool
  pub words : q.words ≡ now
  pub by : IsStepBy (by_lane n) p q
  pub nothing : q.owners.knows n ≡ knowing_nothing false
  pub joins : Joins p q (receipt_by (turned t))
  pub its : (r : Receipt) → receipt_by (turned t) ≡ Some r → IsOfCall l r
  pub count : (store_in q).segment_count ≤ (store_in p).segment_count + claims_in l.mode
