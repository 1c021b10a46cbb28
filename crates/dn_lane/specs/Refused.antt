use Rattle.std.specs.Prelude.{◌≡◌, ℕ, Option, Some, None}
use Rattle.dn_lane.specs.Asked.{number_in}
use Rattle.dn_lane.specs.State.{LaneState}
use Rattle.dn_lane.specs.declared.answers.Refuse.{Refuse}
use Rattle.dn_lane.specs.declared.answers.Refuse.TheVariants.{Busy, Fenced, OutOfMemory}
use Rattle.dn_lane.specs.declared.modes.Mode.{Mode}
use Rattle.dn_lane.specs.declared.modes.Mode.TheVariants as mode

abbrev pub barred_by : Option ℕ → Option Refuse
barred_by None = None
barred_by (Some word) = Some (Fenced word)

abbrev pub refused_by : LaneState → Mode → Option Refuse
refused_by l mode.Idle = barred_by l.base.known.barred
refused_by l (mode.Acting wait) = Some (Busy (number_in l.asked))
refused_by l (mode.Finding wait find) = Some (Busy (number_in l.asked))
refused_by l (mode.Claiming wait claim) = Some (Busy (number_in l.asked))
refused_by l (mode.Sealing wait seal) = Some (Busy (number_in l.asked))

-- why the lane begins nothing: a plan is under way; or none is, and an earlier one found its gate closed
abbrev pub refusal_of : LaneState → Option Refuse
refusal_of l = refused_by l l.mode

-- a refusal is that cause, or want of memory where there is none
abbrev pub Refuses : Option Refuse → Refuse → Type 0
Refuses (Some cause) refuse = refuse ≡ cause
Refuses None refuse = refuse ≡ OutOfMemory
