use Rattle.std.specs.Prelude.{ℕ, ◌≡◌, ◌≢◌, ◌^◌, ◌<◌, true, false}
use Rattle.std.specs.Option.{ForSome}
use Rattle.dn_word.specs.Gate.{gate_of}
use Rattle.dn_plan.specs.Plan.{is_owner}
use Rattle.dn_plan.specs.Fit.{FitsEffect}
use Rattle.dn_tend.specs.Tend.{asks_to_leave}
use Rattle.dn_tend.specs.declared.tasks.Task.{Task}
use Rattle.dn_tend.specs.declared.tasks.Task.TheVariants as task
use Rattle.dn_tend.specs.declared.tasks.TendFound.{TendFound}
use Rattle.dn_tend.specs.declared.tasks.TendFound.TheVariants as found
use Rattle.dn_tend.specs.declared.tasks.TendSeal.{TendSeal}
use Rattle.dn_tend.specs.declared.tasks.TendSeal.TheVariants as sealing
use Rattle.dn_tend.specs.declared.phases.TendAct.{TendAct}
use Rattle.dn_tend.specs.declared.phases.TendAct.TheVariants as at
use Rattle.dn_tend.specs.declared.phases.TendLocate.{TendLocate}
use Rattle.dn_tend.specs.declared.phases.TendLocate.TheVariants as locate
use Rattle.dn_tend.specs.declared.phases.TendRoom.{TendRoom}
use Rattle.dn_tend.specs.declared.phases.TendRoom.TheVariants as find
use Rattle.dn_tend.specs.declared.phases.TendSealing.{TendSealing}
use Rattle.dn_tend.specs.declared.phases.TendSealing.TheVariants as seal
use Rattle.dn_tend.specs.declared.phases.TendThen.{TendThen}
use Rattle.dn_tend.specs.declared.phases.TendThen.TheVariants as thence
use Rattle.dn_tend.specs.declared.phases.TendAfter.{TendAfter}
use Rattle.dn_tend.specs.declared.phases.TendAfter.TheVariants as after
use Rattle.dn_tend.specs.declared.phases.TendNext.{TendNext}
use Rattle.dn_tend.specs.declared.phases.TendNext.TheVariants as next
use Rattle.dn_tend.specs.declared.phases.TendTurn.{TendTurn}

-- The ranges of what a task knows, in each phase.

abbrev pub FitsTask : Task → Type 0
FitsTask (task.Release slot) = slot < 64
FitsTask task.Trim = Unit {0}
FitsTask (task.Share key) = key ≢ 0
FitsTask (task.Unshare key) = key ≢ 0

abbrev pub FitsFound : TendFound → Type 0
FitsFound found.Nothing = Unit {0}
FitsFound (found.At place) = place.offset < 2 ^ 24
FitsFound (found.Shared cell opening) = cell < 256

-- a look by which the lane is owner
abbrev pub IsLook : ℕ → ℕ → Type 0
IsLook lane look = is_owner lane look ≡ true

-- a gate that was open when it was loaded
abbrev pub WasOpen : ℕ → Type 0
WasOpen gate = (gate_of gate).fenced ≡ false

abbrev pub FitsAct : ℕ → TendAct → Type 0
FitsAct lane (at.Deed slot) = slot < 64
FitsAct lane (at.GiveUp slot deed) = (slot < 64) × (asks_to_leave lane deed ≡ true)
FitsAct lane at.Mark = Unit {0}
FitsAct lane (at.ShareLook key) = key ≢ 0
FitsAct lane (at.ShareGate key look place) = IsLook lane look × ForSome place (λ found. found.offset < 2 ^ 24)
FitsAct lane (at.Count share) = IsLook lane share.look × WasOpen share.gate
FitsAct lane (at.Claim share) = IsLook lane share.look × WasOpen share.gate
FitsAct lane (at.Name share cell) = IsLook lane share.look × WasOpen share.gate × (cell < 256)
FitsAct lane (at.Open share cell) = IsLook lane share.look × WasOpen share.gate × (cell < 256)
FitsAct lane (at.UnshareLook key) = key ≢ 0
FitsAct lane (at.UnshareGate unshare) = IsLook lane unshare.look × (unshare.cell < 256)
FitsAct lane (at.Cell unshare gate) = IsLook lane unshare.look × WasOpen gate × (unshare.cell < 256)
FitsAct lane (at.Close unshare gate seen stamp) =
    IsLook lane unshare.look × WasOpen gate × (stamp < 2 ^ 31) × (unshare.cell < 256)

abbrev pub FitsLocate : ℕ → TendLocate → Type 0
FitsLocate lane (locate.Share key look) = (key ≢ 0) × IsLook lane look
FitsLocate lane (locate.Unshare key look) = (key ≢ 0) × IsLook lane look

abbrev pub FitsRoom : ℕ → TendRoom → Type 0
FitsRoom lane (find.Share share) = IsLook lane share.look × WasOpen share.gate
FitsRoom lane (find.Unshare unshare gate) = IsLook lane unshare.look × WasOpen gate × (unshare.cell < 256)

abbrev pub FitsSeal : ℕ → TendSealing → Type 0
FitsSeal lane (seal.Share share cell) = IsLook lane share.look × WasOpen share.gate × (cell < 256)
FitsSeal lane (seal.Unshare unshare place stamp gate) =
    IsLook lane unshare.look × WasOpen gate × (stamp < 2 ^ 31) × ForSome place (λ found. found.offset < 2 ^ 24)

abbrev pub FitsThen : ℕ → TendThen → Type 0
FitsThen lane (thence.Act phase) = FitsAct lane phase
FitsThen lane (thence.Seal phase) = FitsSeal lane phase
FitsThen lane (thence.Done answer) = Unit {0}

abbrev pub FitsAfter : ℕ → TendAfter → Type 0
FitsAfter lane (after.Room phase) = FitsRoom lane phase
FitsAfter lane (after.Then to) = FitsThen lane to

abbrev pub FitsNext : ℕ → TendNext → Type 0
FitsNext lane (next.Locate phase) = FitsLocate lane phase
FitsNext lane (next.After to) = FitsAfter lane to

-- the numbers of a record that is sealed fit their fields
abbrev pub FitsRecord : TendSeal → Type 0
FitsRecord (sealing.Share cell opening gate) = Unit {0}
FitsRecord (sealing.Unshare place stamp gate) = (stamp < 2 ^ 31) × ForSome place (λ found. found.offset < 2 ^ 24)

pub record FitsTurn (lane : ℕ) (turn : TendTurn) : Type 0 where
  pub known : FitsEffect turn.effect
  pub goes : FitsNext lane turn.next
