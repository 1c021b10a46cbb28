use Rattle.std.specs.Prelude.{◌≡◌, ◌⊎◌, ℕ, ◌+◌, ◌^◌, ◌<◌, ◌≤◌}
use Rattle.dn_word.specs.Deed.{deed_of}
use Rattle.dn_word.specs.declared.packed.deed.Deed.{Deed}
use Rattle.dn_act.specs.declared.actions.Action.{Action}
use Rattle.dn_act.specs.declared.actions.Action.TheVariants.{Load, Store, Cas, Or, Add}
use Rattle.dn_monitor.specs.Grant.{leaving}

-- the gates and the merged marks of lanes 1 to 63, and the deeds of the 64 slots
abbrev pub IsGateAt : ℕ → Type 0
IsGateAt at = (64 < at) × (at < 128)

abbrev pub IsMarkAt : ℕ → Type 0
IsMarkAt at = (128 < at) × (at < 192)

abbrev pub IsDeedAt : ℕ → Type 0
IsDeedAt at = (192 ≤ at) × (at < 256)

-- a grant has the next epoch, and no lower a floor
pub record IsGrant (old new : Deed) : Type 0 where
  pub epoch : new.epoch ≡ old.epoch + 1
  pub floor : old.floor ≤ new.floor

-- an exchange of a deed asks its lane to leave, with all else kept, or is a grant
abbrev pub IsChange : ℕ → ℕ → Type 0
IsChange old new = (deed_of new ≡ leaving (deed_of old)) ⊎ IsGrant (deed_of old) (deed_of new)

-- what a monitor does: it loads gates, marks and deeds; stores the format; sets the bit of a gate; exchanges a deed
abbrev pub IsOfMonitor : Action → Type 0
IsOfMonitor (Load at) = IsGateAt at ⊎ (IsMarkAt at ⊎ IsDeedAt at)
IsOfMonitor (Store at word) = at ≡ 0
IsOfMonitor (Cas at old new) = IsDeedAt at × IsChange old new
IsOfMonitor (Or at bits) = IsGateAt at × (bits ≡ 2 ^ 63)
IsOfMonitor (Add at by) = ⊥
