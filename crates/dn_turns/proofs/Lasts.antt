use Rattle.std.proofs.Common.{ℕ, ◌≡◌, inl, inr, true, ◌∷◌, ◌++◌, append_assoc, sym, ◌∙◌, ap, arith}
use Rattle.dn_model.specs.Regions.{place, offsets, IsLane}
use Rattle.dn_model.specs.Held.{is_authority}
use Rattle.dn_beside.specs.Pool.{Pool, IsWhole}
use Rattle.dn_beside.specs.Grown.{Grows}
use Rattle.dn_beside.specs.Chains.{IsChainKept}
use Rattle.dn_beside.specs.Mergers.{LeavesMerger}
use Rattle.dn_walks.proofs.Keeps.{walk_lasts}
use Rattle.dn_merge.specs.Merge.{Merging}
use Rattle.dn_merge.specs.declared.places.MergePlace.{MergePlace}
use Rattle.dn_merge.specs.declared.places.MergePlace.TheVariants as at
use Rattle.dn_turns.specs.Knows.{Works, want_of, KnowsMerge, IsMergerAt}
use Rattle.dn_turns.proofs.Logs.{spelled, place_lasts}
use Rattle.dn_turns.proofs.Loads.{key_positive}
use Rattle.dn_turns.proofs.Walks.{works_wait}

-- What a merger knows lasts under the steps of others.

pub record IsLeft (n : ℕ) (p q : Pool) : Type 0 where
  pub whole : IsWhole p
  pub lane : IsLane n
  pub grows : Grows p q
  pub leaves : LeavesMerger n p q

works : (n : ℕ) (p q : Pool) (mark : ℕ) → IsLeft n p q → Works n p mark → Works n q mark
works n p q mark u w =
    let m = u.grows.later.logs n in
    record {
      mark_is = u.leaves.mark ∙ w.mark_is;
      of = w.of;
      before = w.before;
      after = w.after ++ m.0;
      log = m.1 ∙ ap (λ x. x ++ m.0) w.log ∙ append_assoc w.before (w.of ∷ w.after) m.0;
      merged = w.merged;
      at = w.at;
    }

from : (n : ℕ) (p q : Pool) (mark word : ℕ) → (u : IsLeft n p q) → Works n p mark → word ≡ place p.words n mark → word ≡ place q.words n mark
from n p q mark word u w e = e ∙ sym (place_lasts n p q mark u.whole u.lane u.grows w)

-- the chain of the record's key is kept
chain : (n : ℕ) (p q : Pool) (mark k : ℕ) → IsLeft n p q → (w : Works n p mark) → is_authority k w.of.entry ≡ true → IsChainKept n k p q
chain n p q mark k u w a = u.leaves.chains k w.of (key_positive (offsets p.words n) mark k w.of.entry (spelled n p mark u.whole u.lane w).spelled a) (works_wait n k p mark w a)

pub knows_last : (n : ℕ) (place : MergePlace) (p q : Pool) → IsLeft n p q → KnowsMerge n p place → KnowsMerge n q place
unfolding works
knows_last n at.Gate p q u k = record {}
knows_last n (at.Mark gate) p q u k = (omega (arith, u.leaves.mark, k.0), omega (arith, (u.grows.later.gates n).len, k.1))
knows_last n (at.Directory mark) p q u k = works n p q mark u k
knows_last n (at.Header mark x) p q u k = record { works = works n p q mark u k.works; from_is = from n p q mark x u k.works k.from_is }
knows_last n (at.Key mark x to change) p q u k = record { works = works n p q mark u k.works; from_is = from n p q mark x u k.works k.from_is; to_is = k.to_is; change_is = k.change_is }
knows_last n (at.Walk to w) p q u k = record {
  mark = k.mark;
  works = works n p q k.mark u k.works;
  to_is = k.to_is;
  positive = k.positive;
  authority = k.authority;
  change = k.change;
  suits = k.suits;
  walk = walk_lasts n w.key (want_of k.change (record { lane = n; offset = k.mark })) w.place p q u.lane.positive (chain n p q k.mark w.key u k.works k.authority) k.walk;
}
knows_last n (at.Pass to) p q u k = record {
  mark = k.mark;
  works = works n p q k.mark u k.works;
  to_is = k.to_is;
  follows = λ x e. let i = (chain n p q k.mark x u k.works e).index in elim (k.follows x e) [ inl y ↦ inl (i ∙ y.0, y.1) | inr y ↦ inr (i ∙ y.0, y.1) ];
}

pub merger_lasts : (n : ℕ) (m : Merging) (p q : Pool) → IsLeft n p q → IsMergerAt n m p → IsMergerAt n m q
merger_lasts n m p q u a = record { number = a.number; knows = knows_last n m.place p q u a.knows }
