use Rattle.std.proofs.Common.{ℕ, ◌-◌, ◌≡◌, ◌≢◌, ◌⊎◌, inl, inr, List, length, slice_set, refl, sym, ◌∙◌, ap, subst, arith}
use Rattle.dn_word.specs.Gate.{gate_of}
use Rattle.dn_word.specs.Regions.{overflow_counter_at}
use Rattle.dn_act.specs.Action.{Performs}
use Rattle.dn_act.specs.Words.{word_at}
use Rattle.dn_act.proofs.Words.{word_at-set_other, length-set}
use Rattle.dn_model.specs.Regions.{gate_at, mark_at, IsLane}
use Rattle.dn_index.specs.Footprint.{IsOfBucket}
use Rattle.dn_beside.specs.Pool.{Pool, IsWhole}
use Rattle.dn_merge.specs.Merge.{next_in}
use Rattle.dn_merge.specs.declared.places.MergePlace.{MergePlace}
use Rattle.dn_merge.specs.declared.places.MergePlace.TheVariants as at
use Rattle.dn_turns.specs.Knows.{KnowsMerge}
use Rattle.dn_turns.proofs.Loads.{Loads, load_leaves}
use Rattle.dn_drain.specs.Leaves.{LeavesWords}
use Rattle.dn_drain.specs.Left.{unmerged}
use Rattle.dn_drain.proofs.Places.{IsOfIndex, walk_at}

-- What an action of lane n's merger leaves of the words.

-- it acts, knowing what it does
pub record IsActing (n : ℕ) (p : Pool) (place : MergePlace) (word : ℕ) (now : List ℕ) : Type 0 where
  pub whole : IsWhole p
  pub lane : IsLane n
  pub knows : KnowsMerge n p place
  pub does : Performs (next_in n place) word p.words now

pub same_words : (n : ℕ) (words now : List ℕ) → now ≡ words → LeavesWords n words now
same_words n words now e = record { size = ap length e; each = λ i a b c. ap (λ ws. word_at ws i) e }

-- one word is another
other_word : (n i at : ℕ) → (at ≡ mark_at n) ⊎ IsOfIndex at → i ≢ mark_at n → i ≢ overflow_counter_at → (IsOfBucket i → ⊥) → i ≢ at
other_word n i at (inl m) a b c e = absurd (a (e ∙ m))
other_word n i at (inr (inl z)) a b c e = absurd (b (e ∙ z))
other_word n i at (inr (inr k)) a b c e = absurd (c (subst IsOfBucket (sym e) k))

set_words : (n : ℕ) (words now : List ℕ) (at v : ℕ) → (at ≡ mark_at n) ⊎ IsOfIndex at → now ≡ slice_set words at v → LeavesWords n words now
set_words n words now at v o e = record {
  size = ap length e ∙ length-set words at v;
  each = λ i a b c. ap (λ ws. word_at ws i) e ∙ word_at-set_other words at i v (other_word n i at o a b c);
}

load_words : (n : ℕ) (p : Pool) (place : MergePlace) (word : ℕ) (now : List ℕ) → Loads place → IsActing n p place word now → LeavesWords n p.words now
load_words n p place word now o h = same_words n p.words now (load_leaves p.words now n place o h.does.change)

pub leaves_words : (n : ℕ) (p : Pool) (place : MergePlace) (word : ℕ) (now : List ℕ) → IsActing n p place word now → LeavesWords n p.words now
leaves_words n p at.Gate word now h = load_words n p at.Gate word now (record {}) h
leaves_words n p (at.Mark gate) word now h = load_words n p (at.Mark gate) word now (record {}) h
leaves_words n p (at.Directory mark) word now h = load_words n p (at.Directory mark) word now (record {}) h
leaves_words n p (at.Header mark from) word now h = load_words n p (at.Header mark from) word now (record {}) h
leaves_words n p (at.Key mark from to change) word now h = load_words n p (at.Key mark from to change) word now (record {}) h
leaves_words n p (at.Walk to w) word now h = set_words n p.words now _ _ (inr (walk_at n w.key _ p w.place h.whole h.lane h.knows.walk)) h.does.change
leaves_words n p (at.Pass to) word now h = set_words n p.words now (mark_at n) to (inl refl) h.does.change

pub words_stay : (n : ℕ) (a b c : List ℕ) → LeavesWords n a b → LeavesWords n b c → LeavesWords n a c
words_stay n a b c h k = record {
  size = k.size ∙ h.size;
  each = λ i d e f. k.each i d e f ∙ h.each i d e f;
}

-- ---- what isn't merged
pub gate_stays : (n : ℕ) (words now : List ℕ) → IsLane n → LeavesWords n words now → word_at now (gate_at n) ≡ word_at words (gate_at n)
gate_stays n words now l h = h.each (gate_at n) (λ e. absurd (omega (arith, e))) (λ e. absurd (omega (arith, e))) (λ b. absurd (omega (arith, b.0, l.below)))

pub unmerged_still : (n : ℕ) (words now : List ℕ) → word_at now (gate_at n) ≡ word_at words (gate_at n) → word_at now (mark_at n) ≡ word_at words (mark_at n) → unmerged now n ≡ unmerged words n
unmerged_still n words now g m = ap (λ (x : ℕ). (gate_of x).len - word_at now (mark_at n)) g ∙ ap (λ (x : ℕ). (gate_of (word_at words (gate_at n))).len - x) m

-- the index isn't the mark
no_mark : (n at : ℕ) → IsLane n → IsOfIndex at → mark_at n ≢ at
no_mark n at l (inl z) e = absurd (omega (arith, e, z))
no_mark n at l (inr b) e = absurd (omega (arith, e, b.0, l.below))

pub index_still : (n : ℕ) (words now : List ℕ) (at v : ℕ) → IsLane n → IsOfIndex at → now ≡ slice_set words at v → LeavesWords n words now → unmerged now n ≡ unmerged words n
index_still n words now at v l o e h = unmerged_still n words now (gate_stays n words now l h) (ap (λ ws. word_at ws (mark_at n)) e ∙ word_at-set_other words at (mark_at n) v (no_mark n at l o))
