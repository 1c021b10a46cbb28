use Rattle.std.proofs.Common.{ℕ, ◌<◌, ◌≡◌, inl, inr, true, false, Bool, if◌then◌else◌, List, [], ◌∷◌, Option, Some, None, refl, sym, ◌∙◌, ap}
use Rattle.dn_word.specs.Ref.{ref_of}
use Rattle.dn_word.specs.declared.packed.deed.Deed.{Deed}
use Rattle.dn_word.specs.declared.packed.place.Ref.{Ref}
use Rattle.dn_record.specs.Grammar.{IsRecord}
use Rattle.dn_record.specs.declared.records.Record.{Record}
use Rattle.dn_record.specs.declared.records.Record.TheVariants.{Put, Delete, Share, Unshare, Loose, LooseDelete, Pad}
use Rattle.dn_model.specs.Regions.{cell, mark, owner, slot_of, home_of}
use Rattle.dn_model.specs.declared.logs.Placed.{Placed}
use Rattle.dn_model.specs.Index.{index}
use Rattle.dn_model.specs.Held.{Found, Says, Astray, is_authority, unmerged, record_at, led_to, authority, authority_by, holder, holder_by, holder_from, held, value_in, named, cell_word}
use Rattle.dn_model.proofs.HashLaws.{slot_below}
use Rattle.dn_model.proofs.HeldLaws.{Each, unmerged_is, entry_at_is}
use Rattle.dn_model.proofs.MapLaws.{lane_or_not, log_records}
use Rattle.dn_store.specs.State.{StoreState}
use Rattle.dn_store.specs.Represents.{Represents}
use Rattle.dn_store.specs.Holding.{owner_in, waiting, authority_in, holder_in, holds}
use Rattle.dn_store.proofs.Places.{index_is}

-- What the words hold is what the store holds.

-- ---- the authority
pub owner_is : (words : List ℕ) (chains : ℕ → List ℕ) (s : StoreState) (k : ℕ) → Represents words chains s → owner words k ≡ owner_in s k
owner_is words chains s k h = ap (λ (d : Deed). d.lane) (h.table.deeds (slot_of k) (slot_below k))

-- of a lane, or of a number that is no lane's
waiting_is : (words : List ℕ) (chains : ℕ → List ℕ) (s : StoreState) (n k : ℕ) → Represents words chains s → unmerged k (mark words n) (s.logs n) ≡ waiting s n k
waiting_is words chains s n k h = elim (lane_or_not n) [
  | inl l ↦ ap (λ x. unmerged k x (s.logs n)) (h.table.marks n l.below)
  | inr l ↦ (let none : s.logs n ≡ [] = h.reads.no_more n l in ap (λ x. unmerged k (mark words n) x) none ∙ sym (ap (λ x. unmerged k (s.marks n) x) none))
]

pub authority_is : (words : List ℕ) (chains : ℕ → List ℕ) (s : StoreState) (k : ℕ) → 0 < k → Represents words chains s → authority words s.logs chains k ≡ authority_in s k
authority_is words chains s k pos h =
    ap (λ n. authority_by s.logs k (unmerged k (mark words n) (s.logs n)) (index words (chains (home_of k)) k)) (owner_is words chains s k h)
    ∙ ap (λ r. authority_by s.logs k r (index words (chains (home_of k)) k)) (waiting_is words chains s (owner_in s k) k h)
    ∙ ap (λ p. authority_by s.logs k (waiting s (owner_in s k) k) p) (index_is words chains k (s.index k) (h.indexed.stands k pos))

-- ---- what it says, which for a shared key stands in a cell
abbrev SameCells : List ℕ → (ℕ → ℕ) → Type 0
SameCells words cells = (j : ℕ) → j < 256 → cell words j ≡ cells j

holder_is : (words : List ℕ) (cells : ℕ → ℕ) (logs : ℕ → List Placed) (k : ℕ) (r : Record) → SameCells words cells → IsRecord r → holder_by (cell words) logs k r ≡ holder_by cells logs k r
holder_is words cells logs k (Put key value) same r = refl
holder_is words cells logs k (Delete key) same r = refl
holder_is words cells logs k (Share key j opening) same r = ap (λ w. named logs k (ref_of (cell_word opening w))) (same j r.fields_fit.1)
holder_is words cells logs k (Unshare key at) same r = refl
holder_is words cells logs k (Loose key value) same r = refl
holder_is words cells logs k (LooseDelete key) same r = refl
holder_is words cells logs k (Pad n) same r = refl

-- where what was found is a record of the grammar
abbrev IsGiven : Found (Option Record) → Type 0
IsGiven Astray = Unit {0}
IsGiven (Says None) = Unit {0}
IsGiven (Says (Some r)) = IsRecord r

holder_from_is : (words : List ℕ) (cells : ℕ → ℕ) (logs : ℕ → List Placed) (k : ℕ) (a : Found (Option Record)) → SameCells words cells → IsGiven a → holder_from (cell words) logs k a ≡ holder_from cells logs k a
holder_from_is words cells logs k Astray same g = refl
holder_from_is words cells logs k (Says None) same g = refl
holder_from_is words cells logs k (Says (Some r)) same g = holder_is words cells logs k r same g

none_some : (r : Record) → None ≡ Some r → ⊥
none_some r e = cc

placed_record : (logs : ℕ → List Placed) (at : Option Ref) (r : Record) → ((n : ℕ) → Each (λ p. IsRecord p.entry) (logs n)) → record_at logs at ≡ Some r → IsRecord r
placed_record logs None r each e = absurd (none_some r e)
placed_record logs (Some at) r each e = entry_at_is IsRecord at.offset (logs at.lane) (each at.lane) r e

led_by : (k : ℕ) (r : Record) (b : Bool) → IsRecord r → IsGiven (if b then Says (Some r) else Astray)
led_by k r true g = g
led_by k r false g = tt

led_given : (k : ℕ) (r : Option Record) → ((x : Record) → r ≡ Some x → IsRecord x) → IsGiven (led_to k r)
led_given k None g = tt
led_given k (Some r) g = led_by k r (is_authority k r) (g r refl)

given_by : (logs : ℕ → List Placed) (k : ℕ) (waits : Option Record) (place : Option ℕ) → ((r : Record) → waits ≡ Some r → IsRecord r) → ((n : ℕ) → Each (λ p. IsRecord p.entry) (logs n))
    → IsGiven (authority_by logs k waits place)
given_by logs k (Some r) place first each = first r refl
given_by logs k None None first each = tt
given_by logs k None (Some word) first each = led_given k (record_at logs (ref_of word)) (λ r e. placed_record logs (ref_of word) r each e)

also : (k : ℕ) (log : List Placed) → Each (λ p. IsRecord p.entry) log → Each (λ p. is_authority k p.entry ≡ true → IsRecord p.entry) log
also k [] h = tt
also k (p ∷ ps) h = (λ _. h.0, also k ps h.1)

pub holder_in_is : (words : List ℕ) (chains : ℕ → List ℕ) (s : StoreState) (k : ℕ) → 0 < k → Represents words chains s → holder words s.logs chains k ≡ holder_in s k
holder_in_is words chains s k pos h =
    let each = log_records words s.logs chains h.reads in
    let n : ℕ = owner_in s k in
    ap (λ a. holder_from (cell words) s.logs k a) (authority_is words chains s k pos h)
    ∙ holder_from_is words s.cells s.logs k (authority_in s k) h.table.cells
    (given_by s.logs k (waiting s n k) (s.index k) (unmerged_is IsRecord k (s.marks n) (s.logs n) (also k (s.logs n) (each n))) each)

pub held_is : (words : List ℕ) (chains : ℕ → List ℕ) (s : StoreState) (k : ℕ) → 0 < k → Represents words chains s → held words s.logs chains k ≡ holds s k
held_is words chains s k pos h = ap value_in (holder_in_is words chains s k pos h)
