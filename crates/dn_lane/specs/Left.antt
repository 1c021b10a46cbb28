use Rattle.std.specs.Prelude.{ℕ, ◌+◌, ◌*◌, Bool, true, false, length}
use Rattle.dn_ask.specs.Rank.{rank_act, rank_locate, rank_room, rank_seal}
use Rattle.dn_find.specs.Fit.{find_left}
use Rattle.dn_services.specs.Room.{actions_in}
use Rattle.dn_lane.specs.declared.base.Base.{Base}
use Rattle.dn_lane.specs.declared.modes.Going.{Going}
use Rattle.dn_lane.specs.declared.modes.Going.TheVariants.{On, End}
use Rattle.dn_lane.specs.declared.modes.Mode.{Mode}
use Rattle.dn_lane.specs.declared.modes.Mode.TheVariants as mode

-- A bound on the actions that are left: each rank of the plan counts 2^20, more than any service takes.
abbrev pub mode_left : Base → Mode → ℕ
mode_left g mode.Idle = 0
mode_left g (mode.Acting wait) = rank_act wait * 1048576
mode_left g (mode.Finding wait find) = rank_locate wait * 1048576 + find_left g.fetch find
mode_left g (mode.Claiming wait claim) = rank_room wait * 1048576 + actions_in claim
mode_left g (mode.Sealing wait seal) = rank_seal wait * 1048576 + length g.staging

abbrev pub going_left : Base → Going → ℕ
going_left g (On mode) = mode_left g mode
going_left g (End end) = 0

-- whether a plan is under way
abbrev pub is_working : Mode → Bool
is_working mode.Idle = false
is_working (mode.Acting wait) = true
is_working (mode.Finding wait find) = true
is_working (mode.Claiming wait claim) = true
is_working (mode.Sealing wait seal) = true

-- whether a record is being sealed
abbrev pub is_sealing : Mode → Bool
is_sealing mode.Idle = false
is_sealing (mode.Acting wait) = false
is_sealing (mode.Finding wait find) = false
is_sealing (mode.Claiming wait claim) = false
is_sealing (mode.Sealing wait seal) = true
