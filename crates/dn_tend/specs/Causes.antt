use Rattle.std.specs.Prelude.{◌≡◌, ◌≢◌, ℕ, ◌-◌, ◌^◌, ◌≤◌, true, false}
use Rattle.dn_word.specs.Gate.{gate_of}
use Rattle.dn_plan.specs.Plan.{is_owner}
use Rattle.dn_tend.specs.Tend.{asks_to_leave, share_stamp, unshare_stamp}
use Rattle.dn_tend.specs.declared.phases.TendAct.{TendAct}
use Rattle.dn_tend.specs.declared.phases.TendAct.TheVariants as at
use Rattle.dn_tend.specs.declared.phases.TendLocate.{TendLocate}
use Rattle.dn_tend.specs.declared.phases.TendLocate.TheVariants as locate
use Rattle.dn_tend.specs.declared.tasks.TendFound.{TendFound}
use Rattle.dn_tend.specs.declared.tasks.TendFound.TheVariants as found

-- When each answer comes: at which action of the task, and by which word that it found.

-- the exchange of the deed was done
abbrev pub IsReleased : ℕ → TendAct → Type 0
IsReleased word (at.GiveUp slot deed) = word ≡ deed
IsReleased word phase = ⊥

-- the deed that was loaded doesn't ask this lane to leave
abbrev pub IsNotLeaving : ℕ → ℕ → ℕ → TendAct → Type 0
IsNotLeaving lane look word (at.Deed slot) = (look ≡ word) × (asks_to_leave lane word ≡ false)
IsNotLeaving lane look word phase = ⊥

-- the mark that was loaded
abbrev pub IsTrimmed : ℕ → ℕ → TendAct → Type 0
IsTrimmed mark word at.Mark = mark ≡ word
IsTrimmed mark word phase = ⊥

-- the Share is sealed, and its cell was opened
abbrev pub IsShared : ℕ → ℕ → TendAct → Type 0
IsShared cell word (at.Open share claimed) = cell ≡ claimed
IsShared cell word phase = ⊥

-- the deed that was loaded isn't Owned by this lane
abbrev pub IsNotOwner : ℕ → ℕ → ℕ → TendAct → Type 0
IsNotOwner lane look word (at.ShareLook key) = (look ≡ word) × (is_owner lane word ≡ false)
IsNotOwner lane look word (at.UnshareLook key) = (look ≡ word) × (is_owner lane word ≡ false)
IsNotOwner lane look word phase = ⊥

-- the gate that was loaded has the bit
abbrev pub IsFenced : ℕ → ℕ → TendAct → Type 0
IsFenced told word (at.ShareGate key look place) = (told ≡ word) × ((gate_of word).fenced ≡ true)
IsFenced told word (at.UnshareGate unshare) = (told ≡ word) × ((gate_of word).fenced ≡ true)
IsFenced told word phase = ⊥

-- the exchange of the deed, or the one that closes the cell, found another word than was loaded
abbrev pub IsAgain : ℕ → ℕ → ℕ → TendAct → Type 0
IsAgain old seen word (at.GiveUp slot deed) = (old ≡ deed) × (seen ≡ word) × (word ≢ deed)
IsAgain old seen word (at.Close unshare gate cell stamp) = (old ≡ cell) × (seen ≡ word) × (word ≢ cell)
IsAgain old seen word phase = ⊥

-- the counter of claimed cells, loaded or found by the add, is at least 256
abbrev pub HasNoCell : ℕ → ℕ → TendAct → Type 0
HasNoCell counter word (at.Count share) = (counter ≡ word) × (256 ≤ word)
HasNoCell counter word (at.Claim share) = (counter ≡ word) × (256 ≤ word)
HasNoCell counter word phase = ⊥

-- the greatest of the stamps of the gate, the floor and, of an Unshare, the cell is the last one
abbrev pub IsWorn : ℕ → ℕ → TendAct → Type 0
IsWorn stamp word (at.ShareGate key look place) =
    (stamp ≡ 2 ^ 31 - 1) × ((gate_of word).fenced ≡ false) × (share_stamp look word ≡ 2 ^ 31 - 1)
IsWorn stamp word (at.Cell unshare gate) = (stamp ≡ 2 ^ 31 - 1) × (unshare_stamp unshare gate word ≡ 2 ^ 31 - 1)
IsWorn stamp word phase = ⊥

-- what was located isn't a Share
abbrev pub IsPlain : TendLocate → TendFound → Type 0
IsPlain (locate.Share key look) found = ⊥
IsPlain (locate.Unshare key look) found.Nothing = Unit {0}
IsPlain (locate.Unshare key look) (found.At place) = Unit {0}
IsPlain (locate.Unshare key look) (found.Shared cell opening) = ⊥

-- a key that is to be shared was located as a Share
abbrev pub WasShared : ℕ → TendLocate → TendFound → Type 0
WasShared cell (locate.Share key look) found.Nothing = ⊥
WasShared cell (locate.Share key look) (found.At place) = ⊥
WasShared cell (locate.Share key look) (found.Shared has opening) = cell ≡ has
WasShared cell (locate.Unshare key look) found = ⊥
