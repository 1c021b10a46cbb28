use Rattle.std.proofs.Common.{ℕ, ◌≡◌, ◌⊎◌, inl, inr, true, Option, Some, None, sym, ◌∙◌, ap, arith}
use Rattle.std.proofs.lemmas.Bool.{false≢true}
use Rattle.std.proofs.lemmas.Bool.Decides.{nat_tests}
use Rattle.dn_word.specs.Ref.{ref_of, ref_word}
use Rattle.dn_record.specs.declared.records.Record.{Record}
use Rattle.dn_record.specs.declared.records.Record.TheVariants.{Put, Delete, Share, Unshare, Loose, LooseDelete, Pad}
use Rattle.dn_model.specs.Regions.{IsLane}
use Rattle.dn_model.specs.Held.{is_authority, record_at}
use Rattle.dn_index.specs.Walk.{Walking, turn_of, after_of}
use Rattle.dn_index.specs.declared.places.Step.{Step}
use Rattle.dn_index.specs.declared.places.Step.TheVariants.{On, End}
use Rattle.dn_index.specs.declared.places.WalkTurn.TheVariants as turn
use Rattle.dn_owners.specs.Given.{IsSetting, IsPassing}
use Rattle.dn_owners.specs.Merging.{IsWaiting}
use Rattle.dn_beside.specs.Pool.{Pool, store_in, IsWhole}
use Rattle.dn_walks.specs.IndexStep.{IndexState, with_index}
use Rattle.dn_walks.specs.Changing.{KnowsStep}
use Rattle.dn_merge.specs.Merge.{walked}
use Rattle.dn_merge.specs.declared.places.Change.{Change}
use Rattle.dn_merge.specs.declared.places.Change.TheVariants.{Set, Remove}
use Rattle.dn_turns.specs.Knows.{Works, want_of, IsNoDelete, Suits, AtWalk, AtPass, KnowsMerge}
use Rattle.dn_turns.proofs.Logs.{spelled, works_has, leads_there}

-- What a walk means to the owners, and what is known when it ends.

-- ---- the record on which a merger works isn't merged
pub works_wait : (n k : ℕ) (p : Pool) (mark : ℕ) → (w : Works n p mark) → is_authority k w.of.entry ≡ true → IsWaiting p.owners n k w.of
works_wait n k p mark w a = record { has = works_has n p mark w; unmerged = omega (arith, w.mark_is, w.at); authority = a }

some_is : (w v : ℕ) → Some w ≡ Some v → w ≡ v
some_is w v e = cc

none_is : (v : ℕ) → (let x : Option ℕ = None in x) ≡ Some v → ⊥
none_is v e = absurd (cc e)

pub walk_setting : (n : ℕ) (p : Pool) (to : ℕ) (w : Walking) → IsWhole p → IsLane n → (a : AtWalk n p to w)
    → IsSetting p.owners n w.key a.works.of (want_of a.change (record { lane = n; offset = a.mark }))
walk_setting n p to w h l a = record {
  has = works_has n p a.mark a.works;
  unmerged = omega (arith, a.works.mark_is, a.works.at);
  authority = a.authority;
  leads = by_change a.change;
} where
  by_change : (c : Change) (v : ℕ) → want_of c (record { lane = n; offset = a.mark }) ≡ Some v → record_at (store_in p).logs (ref_of v) ≡ Some a.works.of.entry
  by_change Set v e = ap (λ x. record_at (store_in p).logs (ref_of x)) (sym (some_is (ref_word (record { lane = n; offset = a.mark })) v e)) ∙ leads_there n p a.mark h l a.works
  by_change Remove v e = absurd (none_is v e)

-- ---- a record is one of one key
one_key : (k q : ℕ) (r : Record) → is_authority k r ≡ true → is_authority q r ≡ true → q ≡ k
one_key k q (Put x value) e f = grind (arith, nat_tests)
one_key k q (Delete x) e f = grind (arith, nat_tests)
one_key k q (Share x cell opening) e f = grind (arith, nat_tests)
one_key k q (Unshare x at) e f = grind (arith, nat_tests)
one_key k q (Loose x value) e f = absurd (false≢true e)
one_key k q (LooseDelete x) e f = absurd (false≢true e)
one_key k q (Pad count) e f = absurd (false≢true e)

-- ---- after an action of the walk
works_index : (n : ℕ) (p : Pool) (i : IndexState) (mark : ℕ) → Works n p mark → Works n (with_index p i) mark
works_index n p i mark w = record { mark_is = w.mark_is; of = w.of; before = w.before; after = w.after; log = w.log; merged = w.merged; at = w.at }

pub walk_knows : (n : ℕ) (p : Pool) (i : IndexState) (to : ℕ) (w : Walking) → (a : AtWalk n p to w) → (step : Step) → KnowsStep n w.key (want_of a.change (record { lane = n; offset = a.mark })) (with_index p i) step
    → KnowsMerge n (with_index p i) (walked to (turn_of step) (after_of w step)).place
unfolding works_index
walk_knows n p i to w a (On place) k = record {
  mark = a.mark;
  works = works_index n p i a.mark a.works;
  to_is = a.to_is;
  positive = a.positive;
  authority = a.authority;
  change = a.change;
  suits = a.suits;
  walk = k;
}
walk_knows n p i to w a (End turn.More) k = absurd k
walk_knows n p i to w a (End (turn.Found at)) k = absurd k
walk_knows n p i to w a (End turn.Absent) k = absurd k
walk_knows n p i to w a (End turn.Written) k = record {
  mark = a.mark;
  works = works_index n p i a.mark a.works;
  to_is = a.to_is;
  follows = λ q e. by_change a.change a.suits k q (one_key w.key q a.works.of.entry a.authority e);
} where
  by_change : (c : Change) → Suits c a.works.of.entry w.key → i.index w.key ≡ want_of c (record { lane = n; offset = a.mark }) → (q : ℕ) → q ≡ w.key
      → ((i.index q ≡ Some (ref_word (record { lane = n; offset = a.mark }))) × IsNoDelete a.works.of.entry) ⊎ ((i.index q ≡ None) × (a.works.of.entry ≡ Delete q))
  by_change Set u f q e = inl (ap i.index e ∙ f, u)
  by_change Remove u f q e = inr (ap i.index e ∙ f, u ∙ ap (λ x. Delete x) (sym e))
walk_knows n p i to w a (End (turn.IndexFull counter)) k = record {}

-- ---- the mark may pass the record
pub pass_passing : (n : ℕ) (p : Pool) (to : ℕ) → IsWhole p → IsLane n → (a : AtPass n p to) → IsPassing p.owners n to a.works.of
pass_passing n p to h l a =
    let s = spelled n p a.mark h l a.works in
    record {
      before = a.works.before;
      after = a.works.after;
      log = a.works.log;
      at = a.works.mark_is ∙ sym a.works.at;
      past = omega (arith, s.past, a.to_is);
      rest = λ q c. omega (arith, s.rest q c, a.to_is);
      followed = λ q e. elim (a.follows q e) [
        | inl i ↦ inl (ref_word (record { lane = n; offset = a.mark }), i.0, leads_there n p a.mark h l a.works)
        | inr i ↦ inr i
      ];
    }
