use Rattle.std.specs.Prelude.{Option, Some, None}
use Rattle.dn_act.specs.declared.actions.Action.{Action}
use Rattle.dn_ask.specs.Ask.{action_in}
use Rattle.dn_find.specs.Find.{find_next}
use Rattle.dn_log.specs.Claim.{next_of as claim_next}
use Rattle.dn_services.specs.Sealing.{next_of as seal_next}
use Rattle.dn_lane.specs.Asked.{brief_of}
use Rattle.dn_lane.specs.State.{LaneState}
use Rattle.dn_lane.specs.declared.asked.Asked.{Asked}
use Rattle.dn_lane.specs.declared.base.Base.{Base}
use Rattle.dn_lane.specs.declared.modes.Mode.{Mode}
use Rattle.dn_lane.specs.declared.modes.Mode.TheVariants as mode

-- the lane's next action: none exactly where no plan is under way
abbrev pub next_in : Base → Asked → Mode → Option Action
next_in g a mode.Idle = None
next_in g a (mode.Acting wait) = Some (action_in (brief_of g.known.log.lane a) wait)
next_in g a (mode.Finding wait find) = Some (find_next g.fetch find)
next_in g a (mode.Claiming wait claim) = Some (claim_next claim)
next_in g a (mode.Sealing wait seal) = Some (seal_next g.known seal g.staging)

abbrev pub next_of : LaneState → Option Action
next_of l = next_in l.base l.asked l.mode
