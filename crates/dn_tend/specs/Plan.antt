use Rattle.std.specs.Prelude.{ℕ}
use Rattle.dn_word.specs.Regions.{IsLane}
use Rattle.dn_tend.specs.Tend.{acts, rooms, seals, ends, goes, action_in, seal_in, taken_in, located_in, roomed_in, sealed_in}
use Rattle.dn_tend.specs.Fit.{FitsNext}
use Rattle.dn_tend.specs.declared.tasks.Task.{Task}
use Rattle.dn_tend.specs.declared.tasks.Task.TheVariants as task
use Rattle.dn_tend.specs.declared.tasks.TendFound.{TendFound}
use Rattle.dn_tend.specs.declared.tasks.TendStep.{TendStep}
use Rattle.dn_tend.specs.declared.tasks.TendStep.TheVariants as step
use Rattle.dn_tend.specs.declared.phases.TendAct.TheVariants as at
use Rattle.dn_tend.specs.declared.phases.TendThen.{TendThen}
use Rattle.dn_tend.specs.declared.phases.TendThen.TheVariants as thence
use Rattle.dn_tend.specs.declared.phases.TendAfter.{TendAfter}
use Rattle.dn_tend.specs.declared.phases.TendAfter.TheVariants as after
use Rattle.dn_tend.specs.declared.phases.TendNext.{TendNext}
use Rattle.dn_tend.specs.declared.phases.TendNext.TheVariants as next
use Rattle.dn_tend.specs.declared.phases.TendTurn.{TendTurn}

-- A task of a lane under way: what it waits for.
pub record Tending : Type 0 where
  pub lane : ℕ
  pub wait : TendNext

pub record IsTending (t : Tending) : Type 0 where
  pub number : IsLane t.lane
  pub fits : FitsNext t.lane t.wait

abbrev pub tending : ℕ → TendNext → Tending
tending lane wait = record { lane = lane; wait = wait }

-- its first wait
abbrev pub begun_in : Task → TendNext
begun_in (task.Release slot) = acts (at.Deed slot)
begun_in task.Trim = acts at.Mark
begun_in (task.Share key) = acts (at.ShareLook key)
begun_in (task.Unshare key) = acts (at.UnshareLook key)

abbrev pub begun : ℕ → Task → Tending
begun lane task = tending lane (begun_in task)

-- what it asks for
abbrev pub step_then : ℕ → TendThen → TendStep
step_then lane (thence.Act phase) = step.Act (action_in lane phase)
step_then lane (thence.Seal phase) = step.Seal (seal_in phase)
step_then lane (thence.Done answer) = step.Done answer

abbrev pub step_after : ℕ → TendAfter → TendStep
step_after lane (after.Room phase) = step.Room
step_after lane (after.Then to) = step_then lane to

abbrev pub step_next : ℕ → TendNext → TendStep
step_next lane (next.Locate phase) = step.Locate
step_next lane (next.After to) = step_after lane to

abbrev pub step_of : Tending → TendStep
step_of t = step_next t.lane t.wait

-- ---- what it is told; a task that waits for something else stays
abbrev pub turn_then : ℕ → ℕ → TendThen → TendTurn
turn_then lane word (thence.Act phase) = taken_in lane phase word
turn_then lane word (thence.Seal phase) = goes (seals phase)
turn_then lane word (thence.Done answer) = goes (ends answer)

abbrev pub turn_after : ℕ → ℕ → TendAfter → TendTurn
turn_after lane word (after.Room phase) = goes (rooms phase)
turn_after lane word (after.Then to) = turn_then lane word to

abbrev pub turn_next : ℕ → ℕ → TendNext → TendTurn
turn_next lane word (next.Locate phase) = goes (next.Locate phase)
turn_next lane word (next.After to) = turn_after lane word to

abbrev pub turn_of : Tending → ℕ → TendTurn
turn_of t word = turn_next t.lane word t.wait

abbrev pub located_next : TendFound → TendNext → TendNext
located_next found (next.Locate phase) = next.After (located_in phase found)
located_next found (next.After to) = next.After to

abbrev pub roomed_after : TendAfter → TendAfter
roomed_after (after.Room phase) = after.Then (roomed_in phase)
roomed_after (after.Then to) = after.Then to

abbrev pub roomed_next : TendNext → TendNext
roomed_next (next.Locate phase) = next.Locate phase
roomed_next (next.After to) = next.After (roomed_after to)

abbrev pub sealed_then : TendThen → TendNext
sealed_then (thence.Act phase) = acts phase
sealed_then (thence.Seal phase) = sealed_in phase
sealed_then (thence.Done answer) = ends answer

abbrev pub sealed_after : TendAfter → TendNext
sealed_after (after.Room phase) = rooms phase
sealed_after (after.Then to) = sealed_then to

abbrev pub sealed_next : TendNext → TendNext
sealed_next (next.Locate phase) = next.Locate phase
sealed_next (next.After to) = sealed_after to
