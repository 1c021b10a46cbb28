use Rattle.std.proofs.Common.{ℕ, ◌<◌, ◌≤◌, ◌≡◌, ◌≢◌, inl, inr, Bool, true, false, if◌then◌else◌, List, [], ◌∷◌, ◌++◌, All, length, Option, Some, None, refl, sym, ◌∙◌, ap, arith, slice_set}
use Rattle.std.proofs.lemmas.List.Elements.{All-append}
use Rattle.dn_word.specs.Gate.{gate_of}
use Rattle.dn_word.specs.Deed.{deed_of}
use Rattle.dn_word.specs.Ref.{ref_of}
use Rattle.dn_word.specs.declared.packed.place.Ref.{Ref}
use Rattle.dn_act.specs.Words.{word_at}
use Rattle.dn_act.proofs.Words.{word_at-set_other}
use Rattle.dn_hist.specs.Calls.{Bytes}
use Rattle.dn_record.specs.Grammar.{IsRecord}
use Rattle.dn_record.specs.declared.records.Record.{Record}
use Rattle.dn_record.specs.declared.records.Record.TheVariants.{Put, Delete, Share, Unshare, Loose, LooseDelete, Pad}
use Rattle.dn_model.specs.Same.{SamePool}
use Rattle.dn_model.specs.Regions.{gate, gate_at, mark, mark_at, directory, directory_at, place, deed_at, cell, cell_at, bucket_at, owner, slot_of, home_of, offsets, IsLane}
use Rattle.dn_model.specs.Log.{Placed, Tiles, IsCovered}
use Rattle.dn_model.specs.Index.{index}
use Rattle.dn_model.specs.Held.{Reads, is_authority, unmerged, record_at, Says, Astray, led_to, authority_by, holder_by, holder_from, holder, held, value_in, named, cell_word}
use Rattle.dn_model.specs.PoolMap.{HoldsMap}
use Rattle.dn_model.specs.OneLog.{is_plain, IsOneLog}
use Rattle.dn_model.proofs.HashLaws.{home_below, slot_below}
use Rattle.dn_model.proofs.IndexLaws.{index_frame}
use Rattle.dn_model.proofs.LogLaws.{log_frame, log_sealed}
use Rattle.dn_model.proofs.HeldLaws.{Each, unmerged_is, entry_at_is, reads_frame}
use Rattle.dn_model.proofs.MapLaws.{lane_or_not, log_records}

-- ---- the pool's map stays where the words that it rests on stay
unmerged_frame : (words now : List ℕ) (logs : ℕ → List Placed) (chains : ℕ → List ℕ) (k n : ℕ) → SamePool words now → Reads words logs chains → unmerged k (mark now n) (logs n) ≡ unmerged k (mark words n) (logs n)
unmerged_frame words now logs chains k n s h = elim (lane_or_not n) [
  | inl l ↦ ap (λ x. unmerged k x (logs n)) (s.marks n l)
  | inr l ↦ (let e : logs n ≡ [] = h.no_more n l in ap (λ x. unmerged k (mark now n) x) e ∙ sym (ap (λ x. unmerged k (mark words n) x) e))
]

holder_by_frame : (words now : List ℕ) (logs : ℕ → List Placed) (k : ℕ) (r : Record) → SamePool words now → IsRecord r → holder_by (cell now) logs k r ≡ holder_by (cell words) logs k r
holder_by_frame words now logs k (Put key value) s h = refl
holder_by_frame words now logs k (Delete key) s h = refl
holder_by_frame words now logs k (Share key j opening) s h = ap (λ w. named logs k (ref_of (cell_word opening w))) (s.cells j h.fields_fit.1)
holder_by_frame words now logs k (Unshare key at) s h = refl
holder_by_frame words now logs k (Loose key value) s h = refl
holder_by_frame words now logs k (LooseDelete key) s h = refl
holder_by_frame words now logs k (Pad n) s h = refl

record_at_is : (P : Record → Type 0) (logs : ℕ → List Placed) (at : Option Ref) → ((n : ℕ) → Each (λ p. P p.entry) (logs n)) → (r : Record) → record_at logs at ≡ Some r → P r
record_at_is P logs None each r e = absurd (nothing r e) where
  nothing : (q : Record) → None ≡ Some q → ⊥
  nothing q f = cc
record_at_is P logs (Some at) each r e = entry_at_is P at.offset (logs at.lane) (each at.lane) r e

led_by_frame : (words now : List ℕ) (logs : ℕ → List Placed) (k : ℕ) (r : Record) (b : Bool) → SamePool words now → IsRecord r → holder_from (cell now) logs k (if b then Says (Some r) else Astray) ≡ holder_from (cell words) logs k (if b then Says (Some r) else Astray)
led_by_frame words now logs k r true s h = holder_by_frame words now logs k r s h
led_by_frame words now logs k r false s h = refl

led_frame : (words now : List ℕ) (logs : ℕ → List Placed) (k : ℕ) (x : Option Record) → SamePool words now → ((r : Record) → x ≡ Some r → IsRecord r) → holder_from (cell now) logs k (led_to k x) ≡ holder_from (cell words) logs k (led_to k x)
led_frame words now logs k None s h = refl
led_frame words now logs k (Some r) s h = led_by_frame words now logs k r (is_authority k r) s (h r refl)

from_frame : (words now : List ℕ) (logs : ℕ → List Placed) (k : ℕ) (u : Option Record) (p : Option ℕ) → SamePool words now → ((r : Record) → u ≡ Some r → IsRecord r) → ((n : ℕ) → Each (λ q. IsRecord q.entry) (logs n))
    → holder_from (cell now) logs k (authority_by logs k u p) ≡ holder_from (cell words) logs k (authority_by logs k u p)
from_frame words now logs k (Some r) p s h each = holder_by_frame words now logs k r s (h r refl)
from_frame words now logs k None None s h each = refl
from_frame words now logs k None (Some word) s h each = led_frame words now logs k (record_at logs (ref_of word)) s (record_at_is IsRecord logs (ref_of word) each)

weakened : (k : ℕ) (log : List Placed) → Each (λ p. IsRecord p.entry) log → Each (λ p. is_authority k p.entry ≡ true → IsRecord p.entry) log
weakened k [] h = tt
weakened k (p ∷ ps) h = (λ _. h.0, weakened k ps h.1)

pub holder_frame : (words now : List ℕ) (logs : ℕ → List Placed) (chains : ℕ → List ℕ) (k : ℕ) → SamePool words now → Reads words logs chains → holder now logs chains k ≡ holder words logs chains k
holder_frame words now logs chains k s h =
    let o : owner now k ≡ owner words k = s.deeds (slot_of k) (slot_below k) in
    let n : ℕ = owner words k in
    let each = log_records words logs chains h in
    let u : unmerged k (mark now (owner now k)) (logs (owner now k)) ≡ unmerged k (mark words n) (logs n) =
    ap (λ m. unmerged k (mark now m) (logs m)) o ∙ unmerged_frame words now logs chains k n s h in
    let i : index now (chains (home_of k)) k ≡ index words (chains (home_of k)) k =
    index_frame words now (chains (home_of k)) k (home_below k) s.buckets (h.chains_are (home_of k) (home_below k)) in
    ap (λ x. holder_from (cell now) logs k (authority_by logs k x (index now (chains (home_of k)) k))) u
    ∙ ap (λ x. holder_from (cell now) logs k (authority_by logs k (unmerged k (mark words n) (logs n)) x)) i
    ∙ from_frame words now logs k (unmerged k (mark words n) (logs n)) (index words (chains (home_of k)) k) s
    (unmerged_is IsRecord k (mark words n) (logs n) (weakened k (logs n) (each n))) each

pub held_frame : (words now : List ℕ) (logs : ℕ → List Placed) (chains : ℕ → List ℕ) (k : ℕ) → SamePool words now → Reads words logs chains → held now logs chains k ≡ held words logs chains k
held_frame words now logs chains k s h = ap value_in (holder_frame words now logs chains k s h)

pub map_frame : (words now : List ℕ) (map : Bytes) → SamePool words now → HoldsMap words map → HoldsMap now map
map_frame words now map s h = record {
  logs = h.logs;
  chains = h.chains;
  reads = reads_frame words now h.logs h.chains s h.reads;
  holds = λ k pos. held_frame words now h.logs h.chains k s h.reads ∙ h.holds k pos;
  no_key = h.no_key;
}

-- ---- the pool with one log
pub one_log_kept : (words now : List ℕ) (n : ℕ) (log : List Placed) → SamePool words now → IsOneLog words n log → IsOneLog now n log
one_log_kept words now n log s h = record {
  lane = h.lane;
  own = log_frame words now n log h.own (s.logs n h.lane);
  others = λ m l d. (s.logs m l).len_is ∙ h.others m l d;
  owns = λ t lt. s.deeds t lt ∙ h.owns t lt;
  merged = s.marks n h.lane ∙ h.merged;
  index = record { each = λ b i lt pos below. s.buckets.same b i lt pos below ∙ h.index.each b i lt pos below };
  plain = h.plain;
}

-- a gate with a greater length seals the records that stand up to there
pub one_log_sealed : (words : List ℕ) (n new : ℕ) (log more : List Placed) → gate_at n < length words → IsOneLog words n log
    → Tiles (offsets words n) (gate words n).len more (gate_of new).len → IsCovered words n (gate_of new).len → All (λ (p : Placed). is_plain p.entry ≡ true) more
    → IsOneLog (slice_set words (gate_at n) new) n (log ++ more)
one_log_sealed words n new log more long h t c plain =
    let other : (i : ℕ) → i ≢ gate_at n → word_at (slice_set words (gate_at n) new) i ≡ word_at words i = λ i d. word_at-set_other words (gate_at n) i new d in
    record {
      lane = h.lane;
      own = log_sealed words n new log more long h.lane.below h.own t c;
      others = λ m l d. ap (λ w. (gate_of w).len) (other (gate_at m) (λ e. d (omega (arith, e)))) ∙ h.others m l d;
      owns = λ s lt. ap (λ w. (deed_of w).lane) (other (deed_at s) (λ e. absurd (omega (arith, e, h.lane.below)))) ∙ h.owns s lt;
      merged = other (mark_at n) (λ e. absurd (omega (arith, e))) ∙ h.merged;
      index = record { each = λ b i lt pos below. other (bucket_at b i) (λ e. absurd (omega (arith, e, h.lane.below))) ∙ h.index.each b i lt pos below };
      plain = All-append (λ (p : Placed). is_plain p.entry ≡ true) log more h.plain plain;
    }
