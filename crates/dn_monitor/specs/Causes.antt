use Rattle.std.specs.Prelude.{◌≡◌, ◌≢◌, ◌⊎◌, ℕ, ◌+◌, ◌-◌, ◌^◌, ◌<◌, ◌≤◌, false, Option}
use Rattle.dn_word.specs.Gate.{gate_of}
use Rattle.dn_word.specs.Deed.{deed_of}
use Rattle.dn_word.specs.declared.packed.gate.Gate.{Gate}
use Rattle.dn_word.specs.declared.packed.deed.DeedState.TheVariants.{Nobody, Owned, Leaving, Released}
use Rattle.dn_monitor.specs.Grant.{granted_word}
use Rattle.dn_monitor.specs.Monitor.{is_lane}
use Rattle.dn_monitor.specs.declared.places.Errand.{Errand}
use Rattle.dn_monitor.specs.declared.places.Errand.TheVariants.{Move, Takeover}
use Rattle.dn_monitor.specs.declared.places.MonitorPlace.{MonitorPlace}
use Rattle.dn_monitor.specs.declared.places.MonitorPlace.TheVariants as at

-- When each answer comes: where the monitor was, with what it had loaded there, and the word that its action found.

-- the store of the format found the old word
pub record IsFormatted (old word : ℕ) (place : MonitorPlace) : Type 0 where
  pub segments : ℕ
  pub here : place ≡ at.Format segments
  pub found : word ≡ old

-- a look's load found the deed
pub record IsLooked (deed word : ℕ) (place : MonitorPlace) : Type 0 where
  pub slot : ℕ
  pub here : place ≡ at.Look slot
  pub found : word ≡ deed

-- a move's exchange made the deed
pub record IsMade (deed word : ℕ) (place : MonitorPlace) : Type 0 where
  pub slot : ℕ
  pub to : ℕ
  pub seen : ℕ
  pub gate : Option Gate
  pub here : place ≡ at.Grant (Move slot to) seen gate
  pub done : word ≡ seen
  pub made : deed ≡ granted_word seen gate to

-- the deed that a move loaded was the target's already
pub record WasSo (deed word : ℕ) (place : MonitorPlace) : Type 0 where
  pub slot : ℕ
  pub to : ℕ
  pub here : place ≡ at.Deed (Move slot to)
  pub owned : (deed_of word).state ≡ Owned
  pub target : (deed_of word).lane ≡ to
  pub found : word ≡ deed

abbrev pub IsGranted : ℕ → ℕ → MonitorPlace → Type 0
IsGranted deed word place = IsMade deed word place ⊎ WasSo deed word place

-- the gate whose bit was set held the old word
pub record IsBarred (old word : ℕ) (place : MonitorPlace) : Type 0 where
  pub lane : ℕ
  pub here : place ≡ at.Fence lane
  pub found : word ≡ old

-- a takeover passes the last slot, whose deed doesn't name the lane
pub record PassesLast (slots word : ℕ) (place : MonitorPlace) : Type 0 where
  pub lane : ℕ
  pub here : place ≡ at.Deed (Takeover lane 63 slots)
  pub other : (deed_of word).lane ≢ lane

-- or grants it
pub record TakesLast (slots word : ℕ) (place : MonitorPlace) : Type 0 where
  pub lane : ℕ
  pub before : ℕ
  pub deed : ℕ
  pub gate : Option Gate
  pub here : place ≡ at.Grant (Takeover lane 63 before) deed gate
  pub done : word ≡ deed
  pub count : slots ≡ before + 1

abbrev pub IsTaken : ℕ → ℕ → MonitorPlace → Type 0
IsTaken slots word place = PassesLast slots word place ⊎ TakesLast slots word place

-- a move loaded a deed that is Leaving, and then a gate of that lane without the bit
pub record IsHeld (deed word : ℕ) (place : MonitorPlace) : Type 0 where
  pub slot : ℕ
  pub to : ℕ
  pub here : place ≡ at.Gate (Move slot to) deed
  pub leaving : (deed_of deed).state ≡ Leaving
  pub unfenced : (gate_of word).fenced ≡ false

-- the mark is below the length that was read after the lane gave the slot up or was fenced
pub record IsWaiting (mark need word : ℕ) (place : MonitorPlace) : Type 0 where
  pub errand : Errand
  pub deed : ℕ
  pub gate : Gate
  pub here : place ≡ at.Mark errand deed gate
  pub found : word ≡ mark
  pub length : need ≡ gate.len
  pub below : mark < need

-- a takeover loaded a gate without the bit
pub record IsNotFenced (gate word : ℕ) (place : MonitorPlace) : Type 0 where
  pub lane : ℕ
  pub slot : ℕ
  pub before : ℕ
  pub deed : ℕ
  pub here : place ≡ at.Gate (Takeover lane slot before) deed
  pub found : word ≡ gate
  pub unfenced : (gate_of word).fenced ≡ false

-- a deed that a lane leaves or has left
abbrev pub IsGivenUp : ℕ → Type 0
IsGivenUp deed = ((deed_of deed).state ≡ Leaving) ⊎ ((deed_of deed).state ≡ Released)

-- a deed that no lane has: it is nobody's, or the lane that leaves or has left isn't from 1 to 63
abbrev pub IsVacant : ℕ → Type 0
IsVacant deed = ((deed_of deed).state ≡ Nobody) ⊎ (IsGivenUp deed × (is_lane (deed_of deed).lane ≡ false))

-- the grant of a deed is next: a move loaded it vacant
pub record FoundVacant (deed word : ℕ) (place : MonitorPlace) : Type 0 where
  pub slot : ℕ
  pub to : ℕ
  pub here : place ≡ at.Deed (Move slot to)
  pub found : word ≡ deed
  pub vacant : IsVacant deed

-- or the mark is at least the length that was read after the lane gave the slot up or was fenced
pub record FoundMerged (deed word : ℕ) (place : MonitorPlace) : Type 0 where
  pub errand : Errand
  pub gate : Gate
  pub here : place ≡ at.Mark errand deed gate
  pub merged : gate.len ≤ word

abbrev pub IsToGrant : ℕ → ℕ → MonitorPlace → Type 0
IsToGrant deed word place = FoundVacant deed word place ⊎ FoundMerged deed word place

-- the deed to be granted has the last epoch
pub record IsWorn (epoch word : ℕ) (place : MonitorPlace) : Type 0 where
  pub deed : ℕ
  pub next : IsToGrant deed word place
  pub last : (deed_of deed).epoch ≡ 2 ^ 23 - 1
  pub told : epoch ≡ 2 ^ 23 - 1
