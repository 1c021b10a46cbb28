use Rattle.std.specs.Prelude.{◌≡◌, ◌<◌, ◌^◌}
use Rattle.dn_word.specs.Regions.{IsLane}
use Rattle.dn_plan.specs.Fit.{FitsBrief, FitsEffect, FitsAct as FitsCallAct, FitsLocate as FitsCallLocate, FitsRoom as FitsCallRoom, FitsSeal as FitsCallSeal, FitsEnding, IsWrite}
use Rattle.dn_plan.specs.declared.phases.Brief.{Brief}
use Rattle.dn_tend.specs.Fit.{FitsAct as FitsTaskAct, FitsLocate as FitsTaskLocate, FitsRoom as FitsTaskRoom, FitsSeal as FitsTaskSeal, FitsRecord}
use Rattle.dn_ask.specs.declared.asks.Act.{Act}
use Rattle.dn_ask.specs.declared.asks.Act.TheVariants as act
use Rattle.dn_ask.specs.declared.asks.Locate.{Locate}
use Rattle.dn_ask.specs.declared.asks.Locate.TheVariants as locate
use Rattle.dn_ask.specs.declared.asks.FindRoom.{FindRoom}
use Rattle.dn_ask.specs.declared.asks.FindRoom.TheVariants as find
use Rattle.dn_ask.specs.declared.asks.Seal.{Seal}
use Rattle.dn_ask.specs.declared.asks.Seal.TheVariants as seal
use Rattle.dn_ask.specs.declared.asks.Sealed.{Sealed}
use Rattle.dn_ask.specs.declared.asks.Sealed.TheVariants as sealed
use Rattle.dn_ask.specs.declared.asks.End.{End}
use Rattle.dn_ask.specs.declared.asks.End.TheVariants as end
use Rattle.dn_ask.specs.declared.asks.Then.{Then}
use Rattle.dn_ask.specs.declared.asks.Then.TheVariants as thence
use Rattle.dn_ask.specs.declared.asks.After.{After}
use Rattle.dn_ask.specs.declared.asks.After.TheVariants as after
use Rattle.dn_ask.specs.declared.asks.Next.{Next}
use Rattle.dn_ask.specs.declared.asks.Next.TheVariants as next
use Rattle.dn_ask.specs.declared.asks.Step.{Step}

-- The ranges of what a plan knows where it asks. Its brief is the call's; of a task it only has the lane.

-- the brief of a task: no call has key 0
pub record IsTask (b : Brief) : Type 0 where
  pub number : IsLane b.lane
  pub no_key : b.key ≡ 0

abbrev pub FitsAct : Brief → Act → Type 0
FitsAct b (act.Call phase) = FitsBrief b × FitsCallAct b phase
FitsAct b (act.Task phase) = IsTask b × FitsTaskAct b.lane phase

abbrev pub FitsLocate : Brief → Locate → Type 0
FitsLocate b (locate.Call phase) = FitsBrief b × FitsCallLocate b phase
FitsLocate b (locate.Task phase) = IsTask b × FitsTaskLocate b.lane phase

abbrev pub FitsRoom : Brief → FindRoom → Type 0
FitsRoom b (find.Call phase) = FitsBrief b × FitsCallRoom b phase
FitsRoom b (find.Task phase) = IsTask b × FitsTaskRoom b.lane phase

abbrev pub FitsSeal : Brief → Seal → Type 0
FitsSeal b (seal.Call phase) = FitsBrief b × FitsCallSeal b phase
FitsSeal b (seal.Task phase) = IsTask b × FitsTaskSeal b.lane phase

-- the ranges of what is sealed
abbrev pub FitsSealed : Brief → Sealed → Type 0
FitsSealed b (sealed.Call sealing) = FitsBrief b × IsWrite b.kind × (sealing.stamp < 2 ^ 31)
FitsSealed b (sealed.Task key seal) = IsTask b × FitsRecord seal

-- a call ends as a call does
abbrev pub FitsEnd : Brief → End → Type 0
FitsEnd b (end.Call ending) = FitsBrief b × FitsEnding b.kind ending
FitsEnd b (end.Task answer) = Unit {0}

abbrev pub FitsThen : Brief → Then → Type 0
FitsThen b (thence.Act wait) = FitsAct b wait
FitsThen b (thence.Seal wait) = FitsSeal b wait
FitsThen b (thence.End ending) = FitsEnd b ending

abbrev pub FitsAfter : Brief → After → Type 0
FitsAfter b (after.Room wait) = FitsRoom b wait
FitsAfter b (after.Then to) = FitsThen b to

abbrev pub FitsNext : Brief → Next → Type 0
FitsNext b (next.Locate wait) = FitsLocate b wait
FitsNext b (next.After to) = FitsAfter b to

pub record FitsStep (b : Brief) (step : Step) : Type 0 where
  pub known : FitsEffect step.effect
  pub goes : FitsNext b step.next
