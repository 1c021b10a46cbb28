use Rattle.dn_parts.proofs.PartsSpace.{has_space}
use Rattle.dn_parts.proofs.PartsLogs.{have_logs}
use Rattle.dn_parts.proofs.PartsIndex.{has_index}
use Rattle.dn_parts.proofs.PartsOwning.{in_one_log, hold_looks, know_pending}
use Rattle.dn_parts.proofs.PartsStamps.{are_bound, grants_in_order}
use Rattle.dn_parts.proofs.PartsPlaces.{know_places}
use Rattle.dn_parts.proofs.PartsTurns.{know_turns}
use Rattle.dn_parts.proofs.PartsCells.{has_cells}
use Rattle.dn_parts.proofs.laws.parts.Goals as goal

pub returns-clause-space : goal.returns-clause-space
returns-clause-space c = has_space

pub returns-clause-logs : goal.returns-clause-logs
returns-clause-logs c = have_logs

pub returns-clause-index : goal.returns-clause-index
returns-clause-index c = has_index

pub returns-clause-one_log : goal.returns-clause-one_log
returns-clause-one_log c = in_one_log

pub returns-clause-looks : goal.returns-clause-looks
returns-clause-looks c = hold_looks

pub returns-clause-pending : goal.returns-clause-pending
returns-clause-pending c = know_pending

pub returns-clause-stamps : goal.returns-clause-stamps
returns-clause-stamps c = are_bound

pub returns-clause-grants : goal.returns-clause-grants
returns-clause-grants c = grants_in_order

pub returns-clause-lanes : goal.returns-clause-lanes
returns-clause-lanes c = know_places

pub returns-clause-mergers : goal.returns-clause-mergers
returns-clause-mergers c = know_turns

pub returns-clause-cells : goal.returns-clause-cells
returns-clause-cells c = has_cells
