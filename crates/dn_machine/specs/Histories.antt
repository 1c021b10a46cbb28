use Rattle.std.specs.Prelude.{◌≡◌, ◌≤◌, ◌+◌, ℕ, List, Some}
use Rattle.std.specs.List.Sorted.{IsPermutation}
use Rattle.dn_word.specs.declared.packed.place.Ref.{Ref}
use Rattle.dn_record.specs.Record.{length_in_words}
use Rattle.dn_hist.specs.Receipt.{IsInOrder}
use Rattle.dn_hist.specs.declared.receipts.Receipt.{Receipt}
use Rattle.dn_model.specs.Log.{SpellsAt}
use Rattle.dn_model.specs.Regions.{offsets, gate, IsLane}
use Rattle.dn_callers.specs.Callers.{receipts_of}
use Rattle.dn_receipts.specs.Sealing.{record_of}
use Rattle.dn_machine.specs.State.{Machine}

-- The history of a machine: the receipts that stand, in order of position.
pub record IsHistory (m : Machine) (hs : List Receipt) : Type 0 where
  pub once : IsPermutation (receipts_of m.callers.receipts) hs
  pub order : IsInOrder hs

-- The words at the place of a receipt spell its record, within what its lane has sealed.
pub record IsSealedIn (words : List ℕ) (r : Receipt) : Type 0 where
  pub at : Ref
  pub is : r.at ≡ Some at
  pub lane : IsLane at.lane
  pub spells : SpellsAt (offsets words at.lane) at.offset (record_of r.call)
  pub inside : at.offset + length_in_words (record_of r.call) ≤ (gate words at.lane).len
