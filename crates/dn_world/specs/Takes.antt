use Rattle.std.specs.Prelude.{◌≡◌, ℕ, false, List, Option, Some, None}
use Rattle.dn_hist.specs.declared.receipts.SessionView.{SessionView}
use Rattle.dn_tend.specs.declared.tasks.Task.{Task}
use Rattle.dn_lane.specs.Left.{is_working}
use Rattle.dn_lane.specs.State.{LaneState}
use Rattle.dn_callers.specs.Sessions.{IsSession}
use Rattle.dn_cluster.specs.Machine.{lane_in}
use Rattle.dn_cluster.specs.State.{numbered}
use Rattle.dn_waiting.specs.Sound.{IsLane}
use Rattle.dn_waiting.specs.State.{at_lane}
use Rattle.dn_waiting.specs.Turns.{next_at}
use Rattle.dn_waiting.specs.declared.calls.Next.{Next}
use Rattle.dn_outcomes.specs.State.{World, Done}
use Rattle.dn_outcomes.specs.Steps.{begins, tends, tries}
use Rattle.dn_world.specs.State.{CrewState}
use Rattle.dn_world.specs.Comes.{CanBeWorld}

-- What a lane takes up.

-- a lane that runs has nothing under way
pub record IsFree (words : List ℕ) (x : CrewState) (n : ℕ) : Type 0 where
  pub can : CanBeWorld words x
  pub number : IsLane n
  pub lane : LaneState
  pub runs : lane_in (numbered x.cluster.nodes n) ≡ Some lane
  pub rests : is_working lane.mode ≡ false

-- and this is next
pub record Takes (words : List ℕ) (x : CrewState) (n : ℕ) (next : Next) : Type 0 where
  pub can : CanBeWorld words x
  pub number : IsLane n
  pub lane : LaneState
  pub runs : lane_in (numbered x.cluster.nodes n) ≡ Some lane
  pub rests : is_working lane.mode ≡ false
  pub next_is : next_at (at_lane x.waiting n) ≡ next

-- the gate word by which it would begin nothing
abbrev pub barred_by : Option LaneState → Option ℕ
barred_by None = None
barred_by (Some l) = l.base.known.barred

abbrev pub begins_at : World → ℕ → Done
begins_at w n = begins w n (barred_by (w.machine.lanes n)) (next_at (at_lane w.waiting n))

abbrev pub tends_at : World → ℕ → Task → Done
tends_at w n t = tends w n t (barred_by (w.machine.lanes n))

abbrev pub tries_at : World → ℕ → SessionView → Done
tries_at w n view = tries w n view (barred_by (w.machine.lanes n))

-- a view is of a session
abbrev pub IsSessionOf : Option SessionView → Type 0
IsSessionOf None = Unit {0}
IsSessionOf (Some view) = IsSession view.session
