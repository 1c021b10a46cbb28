use Rattle.std.specs.Prelude.{◌≡◌, ◌≤◌, [], true, false}
use Rattle.dn_log.specs.Log.{plan_of}
use Rattle.dn_ask.specs.Ask.{record_in}
use Rattle.dn_ask.specs.Fit.{FitsAct, FitsLocate, FitsRoom, FitsSeal, FitsEnd}
use Rattle.dn_ask.specs.Rank.{records_act, records_locate, records_room, records_seal, has_room_act}
use Rattle.dn_find.specs.Fit.{FitsFind}
use Rattle.dn_known.specs.State.{KnownState}
use Rattle.dn_services.specs.Room.{IsClaimFor}
use Rattle.dn_services.specs.Sealing.{IsSealing}
use Rattle.dn_lane.specs.Asked.{brief_of, words_in, MaySeal}
use Rattle.dn_lane.specs.Taken.{sealing_by}
use Rattle.dn_lane.specs.declared.asked.Asked.{Asked}
use Rattle.dn_lane.specs.declared.base.Base.{Base}
use Rattle.dn_lane.specs.declared.modes.Going.{Going}
use Rattle.dn_lane.specs.declared.modes.Going.TheVariants.{On, End}
use Rattle.dn_lane.specs.declared.modes.Mode.{Mode}
use Rattle.dn_lane.specs.declared.modes.Mode.TheVariants as mode

-- The ranges of what a lane has, in each mode. Words wait to flow only where a record is sealed.

-- there is room for the record
pub record HasRoom (k : KnownState) (a : Asked) : Type 0 where
  pub reaches : (plan_of k.log (words_in a)).need_segment ≡ false
  pub seals : MaySeal a

abbrev pub FitsMode : Base → Asked → Mode → Type 0
FitsMode g a mode.Idle = g.staging ≡ []
FitsMode g a (mode.Acting wait) =
    (g.staging ≡ []) × FitsAct (brief_of g.known.log.lane a) wait
    × (records_act wait ≤ g.known.pending.spare) × (has_room_act wait ≡ true → HasRoom g.known a)
FitsMode g a (mode.Finding wait find) =
    (g.staging ≡ []) × FitsLocate (brief_of g.known.log.lane a) wait
    × (records_locate wait ≤ g.known.pending.spare) × FitsFind g.fetch find
FitsMode g a (mode.Claiming wait claim) =
    (g.staging ≡ []) × FitsRoom (brief_of g.known.log.lane a) wait
    × (records_room wait ≤ g.known.pending.spare) × IsClaimFor g.known.log claim
FitsMode g a (mode.Sealing wait seal) =
    FitsSeal (brief_of g.known.log.lane a) wait × (records_seal wait ≤ g.known.pending.spare) × IsSealing g.known seal g.staging
    × (seal ≡ sealing_by a (record_in wait))

abbrev pub FitsGoing : Base → Asked → Going → Type 0
FitsGoing g a (On mode) = FitsMode g a mode
FitsGoing g a (End end) = (g.staging ≡ []) × FitsEnd (brief_of g.known.log.lane a) end

-- a lane keeps its number and its pool
pub record SameLane (old new : Base) : Type 0 where
  pub number : new.known.log.lane ≡ old.known.log.lane
  pub pool : new.known.log.pool ≡ old.known.log.pool
  pub fetch : new.fetch.segments ≡ old.fetch.segments
