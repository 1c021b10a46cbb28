use Rattle.std.specs.Prelude.{◌≡◌, ◌≢◌, ◌<◌, ◌≤◌, ℕ, true, List, Contains}
use Rattle.dn_word.specs.declared.packed.deed.DeedState.TheVariants.{Nobody, Released}
use Rattle.dn_act.specs.Words.{word_at}
use Rattle.dn_hist.specs.Calls.{key_of}
use Rattle.dn_hist.specs.declared.receipts.Receipt.{Receipt}
use Rattle.dn_model.specs.Regions.{gate, deed, deed_at, slot_of}
use Rattle.dn_moves.specs.Unmerged.{IsUnmerged}

-- A slot is granted where its deed gets a later epoch.
abbrev pub Grants : List ℕ → List ℕ → ℕ → Type 0
Grants words now t = (deed words t).epoch < (deed now t).epoch

-- no lane has it any more: it was nobody's, its lane has given it up, or that lane is fenced
pub data HasLeft (words : List ℕ) (t : ℕ) : Type 0 where
  Nobodys : (deed words t).state ≡ Nobody → HasLeft words t
  GivenUp : (deed words t).state ≡ Released → HasLeft words t
  Fenced : (gate words (deed words t).lane).fenced ≡ true → HasLeft words t

-- a floor is at least the stamp of every receipt of a key of the slot
abbrev pub IsFloor : List Receipt → ℕ → ℕ → Type 0
IsFloor rs t floor = (r : Receipt) → Contains rs r → slot_of (key_of r.call) ≡ t → r.position.stamp ≤ floor

-- What is so of a grant: its lane has left the slot, all that was sealed of the slot's keys is merged, the new floor is at
-- least the stamp of every receipt that stands, and no word of the pool changes but this deed.
pub record IsGranted (words now : List ℕ) (rs : List Receipt) (t : ℕ) : Type 0 where
  pub left : HasLeft words t
  pub merged : (n : ℕ) → IsUnmerged words n t → ⊥
  pub floor : IsFloor rs t (deed now t).floor
  pub alone : (at : ℕ) → at ≢ deed_at t → word_at now at ≡ word_at words at
