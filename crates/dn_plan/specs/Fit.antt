use Rattle.std.specs.Prelude.{◌≡◌, ◌≢◌, ◌^◌, ◌<◌, true, false, Option, Some, None}
use Rattle.dn_word.specs.Gate.{gate_of}
use Rattle.dn_word.specs.Need.{raised_of}
use Rattle.dn_word.specs.Regions.{IsLane}
use Rattle.dn_plan.specs.declared.phases.Kind.{Kind}
use Rattle.dn_plan.specs.declared.phases.Kind.TheVariants as kind
use Rattle.dn_plan.specs.declared.phases.Brief.{Brief}
use Rattle.dn_plan.specs.Plan.{is_owner, need_of}
use Rattle.dn_plan.specs.declared.phases.Raised.{Raised}
use Rattle.dn_plan.specs.declared.phases.ActPhase.{ActPhase}
use Rattle.dn_plan.specs.declared.phases.ActPhase.TheVariants as at
use Rattle.dn_plan.specs.declared.phases.LocatePhase.{LocatePhase}
use Rattle.dn_plan.specs.declared.phases.LocatePhase.TheVariants as locate
use Rattle.dn_plan.specs.declared.phases.RoomPhase.{RoomPhase}
use Rattle.dn_plan.specs.declared.phases.RoomPhase.TheVariants as find
use Rattle.dn_plan.specs.declared.phases.SealPhase.{SealPhase}
use Rattle.dn_plan.specs.declared.phases.SealPhase.TheVariants as seal
use Rattle.dn_plan.specs.declared.results.Ending.{Ending}
use Rattle.dn_plan.specs.declared.results.Ending.TheVariants.{Made, NotOwner, Fenced, Full, Worn}
use Rattle.dn_plan.specs.declared.results.Effect.{Effect}
use Rattle.dn_plan.specs.declared.results.Effect.TheVariants.{Epoch, DropBelow, Bar}
use Rattle.dn_plan.specs.declared.results.Then.{Then}
use Rattle.dn_plan.specs.declared.results.Then.TheVariants as thence
use Rattle.dn_plan.specs.declared.results.After.{After}
use Rattle.dn_plan.specs.declared.results.After.TheVariants as after
use Rattle.dn_plan.specs.declared.results.Next.{Next}
use Rattle.dn_plan.specs.declared.results.Next.TheVariants as next
use Rattle.dn_plan.specs.declared.results.Step.{Step}

-- The ranges of what a plan knows, in each phase.

pub record FitsBrief (b : Brief) : Type 0 where
  pub number : IsLane b.lane
  pub named : b.key ≢ 0
  pub last : b.view.last.stamp < 2 ^ 31

-- only a put or delete has a record of its own
abbrev pub IsWrite : Kind → Type 0
IsWrite kind.Get = ⊥
IsWrite kind.Put = Unit {0}
IsWrite kind.Delete = Unit {0}

-- only a get ends without one
abbrev pub IsRead : Kind → Type 0
IsRead kind.Get = Unit {0}
IsRead kind.Put = ⊥
IsRead kind.Delete = ⊥

-- the look says that the lane is owner, the gate is open, and the position is the one that the rule gives by both
pub record FitsRaised (b : Brief) (r : Raised) : Type 0 where
  pub owner : is_owner b.lane r.look ≡ true
  pub free : (gate_of r.gate).fenced ≡ false
  pub rule : raised_of (need_of b r.look) (gate_of r.gate).stamp ≡ Some r.to
  pub stamp : r.to.stamp < 2 ^ 31

abbrev pub FitsAct : Brief → ActPhase → Type 0
FitsAct b at.Look = Unit {0}
FitsAct b (at.Gate look located) = is_owner b.lane look ≡ true
FitsAct b (at.Raise r) = FitsRaised b r × IsRead b.kind

abbrev pub FitsLocate : Brief → LocatePhase → Type 0
FitsLocate b (locate.Owner look) = is_owner b.lane look ≡ true

abbrev pub FitsRoom : Brief → RoomPhase → Type 0
FitsRoom b (find.Write r) = FitsRaised b r × IsWrite b.kind

abbrev pub FitsSeal : Brief → SealPhase → Type 0
FitsSeal b (seal.Write r) = FitsRaised b r × IsWrite b.kind

-- a call is made with a record exactly where it is a put or delete
abbrev pub FitsEnding : Kind → Ending → Type 0
FitsEnding k (Made to None located) = (to.stamp < 2 ^ 31) × IsRead k
FitsEnding k (Made to (Some place) located) = (to.stamp < 2 ^ 31) × IsWrite k
FitsEnding k (NotOwner look) = Unit {0}
FitsEnding k (Fenced gate) = Unit {0}
FitsEnding k (Full counter segments) = IsWrite k
FitsEnding k (Worn stamp) = stamp < 2 ^ 31

abbrev pub FitsEffect : Option Effect → Type 0
FitsEffect None = Unit {0}
FitsEffect (Some (Epoch slot epoch)) = (slot < 64) × (epoch < 2 ^ 23)
FitsEffect (Some (DropBelow mark)) = Unit {0}
FitsEffect (Some (Bar gate)) = Unit {0}

abbrev pub FitsThen : Brief → Then → Type 0
FitsThen b (thence.Act phase) = FitsAct b phase
FitsThen b (thence.Seal phase) = FitsSeal b phase
FitsThen b (thence.End ending) = FitsEnding b.kind ending

abbrev pub FitsAfter : Brief → After → Type 0
FitsAfter b (after.Room phase) = FitsRoom b phase
FitsAfter b (after.Then to) = FitsThen b to

abbrev pub FitsNext : Brief → Next → Type 0
FitsNext b (next.Locate phase) = FitsLocate b phase
FitsNext b (next.After to) = FitsAfter b to

pub record FitsStep (b : Brief) (step : Step) : Type 0 where
  pub known : FitsEffect step.effect
  pub goes : FitsNext b step.next
