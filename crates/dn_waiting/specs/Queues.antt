use Rattle.std.specs.Prelude.{ℕ, ◌==◌, Bool, false, List, [], ◌∷◌, ◌++◌, Option, None}
use Rattle.std.specs.List.{list_any}
use Rattle.std.specs.Option.{option_to_list}
use Rattle.dn_hist.specs.declared.receipts.SessionView.{SessionView}
use Rattle.dn_tend.specs.declared.tasks.Task.{Task}
use Rattle.dn_tend.specs.declared.tasks.Task.TheVariants.{Release, Trim, Share, Unshare}

-- what there is at a lane, apart from the lane's own state
pub record AtLane : Type 0 where
  -- the tasks that wait, in order of arrival
  pub tasks : List Task
  -- the views of the attempts that wait, in order of arrival
  pub queue : List SessionView
  -- the view of the attempt that is under way
  pub begun : Option SessionView

-- nothing waits and no call is under way
abbrev pub idle : AtLane
idle = record { tasks = []; queue = []; begun = None }

-- the attempts at the lane: the one under way, and behind it those that wait
abbrev pub attempts_at : AtLane → List SessionView
attempts_at at = option_to_list at.begun ++ at.queue

-- the task arrives, the last of all
abbrev pub with_task : AtLane → Task → AtLane
with_task at task = record at { tasks = at.tasks ++ task ∷ [] }

-- the attempt arrives, the last of all
abbrev pub with_attempt : AtLane → SessionView → AtLane
with_attempt at view = record at { queue = at.queue ++ view ∷ [] }

-- the task gives up this slot
abbrev pub is_release : ℕ → Task → Bool
is_release slot (Release s) = s == slot
is_release slot Trim = false
is_release slot (Share key) = false
is_release slot (Unshare key) = false

-- a task that gives up this slot waits
abbrev pub is_queued : ℕ → List Task → Bool
is_queued slot tasks = list_any (is_release slot) tasks
