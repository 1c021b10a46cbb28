use Rattle.std.specs.Prelude.{◌≡◌, ◌≢◌, ℕ, ◌-◌, ◌^◌, true, false, Option, Some, None}
use Rattle.dn_word.specs.Gate.{gate_of}
use Rattle.dn_word.specs.Need.{quiet_of, greatest_of}
use Rattle.dn_word.specs.declared.packed.place.Ref.{Ref}
use Rattle.dn_word.specs.declared.positions.Position.{Position}
use Rattle.dn_plan.specs.Plan.{is_owner, need_of}
use Rattle.dn_plan.specs.declared.phases.Kind.{Kind}
use Rattle.dn_plan.specs.declared.phases.Kind.TheVariants as kind
use Rattle.dn_plan.specs.declared.phases.Brief.{Brief}
use Rattle.dn_plan.specs.declared.phases.Located.{Located}
use Rattle.dn_plan.specs.declared.phases.ActPhase.{ActPhase}
use Rattle.dn_plan.specs.declared.phases.ActPhase.TheVariants as at
use Rattle.dn_plan.specs.declared.phases.SealPhase.{SealPhase}
use Rattle.dn_plan.specs.declared.phases.SealPhase.TheVariants as seal

-- When each answer comes: in which phase of the call, and by which word that it read there.

-- the look is a deed by which the lane isn't owner
abbrev pub IsNotOwner : Brief → ℕ → ℕ → ActPhase → Type 0
IsNotOwner b told word at.Look = (told ≡ word) × (is_owner b.lane word ≡ false)
IsNotOwner b told word (at.Gate look located) = ⊥
IsNotOwner b told word (at.Raise r) = ⊥

-- the gate that was loaded has the bit; the exchange found another gate than was loaded
abbrev pub IsFenced : ℕ → ℕ → ActPhase → Type 0
IsFenced told word at.Look = ⊥
IsFenced told word (at.Gate look located) = (told ≡ word) × ((gate_of word).fenced ≡ true)
IsFenced told word (at.Raise r) = (told ≡ word) × (word ≢ r.gate)

-- only a get may stay at the stamp that it read
abbrev pub HasToRaise : Brief → ℕ → ℕ → Kind → Type 0
HasToRaise b look stamp kind.Get = quiet_of (need_of b look) stamp ≡ None
HasToRaise b look stamp kind.Put = Unit {0}
HasToRaise b look stamp kind.Delete = Unit {0}

-- the greatest of the gate's stamp, the look's floor and the session's last stamp is the last one
pub record IsAtLast (b : Brief) (stamp look gate : ℕ) : Type 0 where
  pub free : (gate_of gate).fenced ≡ false
  pub raise : HasToRaise b look (gate_of gate).stamp b.kind
  pub last : greatest_of (need_of b look) (gate_of gate).stamp ≡ 2 ^ 31 - 1
  pub told : stamp ≡ 2 ^ 31 - 1

abbrev pub IsWorn : Brief → ℕ → ℕ → ActPhase → Type 0
IsWorn b stamp word at.Look = ⊥
IsWorn b stamp word (at.Gate look located) = IsAtLast b stamp look word
IsWorn b stamp word (at.Raise r) = ⊥

-- a get is quiet at the gate that it loaded
pub record IsQuiet (b : Brief) (to : Position) (look gate : ℕ) : Type 0 where
  pub free : (gate_of gate).fenced ≡ false
  pub get : b.kind ≡ kind.Get
  pub quiet : quiet_of (need_of b look) (gate_of gate).stamp ≡ Some to

-- or its exchange of the gate was done; then or there it stands as was said when its key was located
abbrev pub IsRead : Brief → Position → Option Ref → Located → ℕ → ActPhase → Type 0
IsRead b to place located word at.Look = ⊥
IsRead b to place located word (at.Gate look found) = IsQuiet b to look word × (place ≡ None) × (located ≡ found)
IsRead b to place located word (at.Raise r) = (word ≡ r.gate) × (to ≡ r.to) × (place ≡ None) × (located ≡ r.located)

-- the exchange that seals was done, or found another gate than was loaded
abbrev pub IsWritten : Position → Option Ref → Located → Ref → ℕ → SealPhase → Type 0
IsWritten to place located sealed word (seal.Write r) =
    (word ≡ r.gate) × (to ≡ r.to) × (place ≡ Some sealed) × (located ≡ r.located)

abbrev pub IsShut : ℕ → ℕ → SealPhase → Type 0
IsShut told word (seal.Write r) = (told ≡ word) × (word ≢ r.gate)
