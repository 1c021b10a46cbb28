use Rattle.std.specs.Prelude.{◌≡◌, ◌⊎◌, ℕ, ◌+◌, ◌<◌, ◌≤◌, List}
use Rattle.dn_model.specs.declared.logs.Placed.{Placed}
use Rattle.dn_store.specs.State.{with_at}
use Rattle.dn_owners.specs.Given.{IsPassing}
use Rattle.dn_beside.specs.Pool.{Pool, store_in}
use Rattle.dn_beside.specs.Step.{IsStepBy, IsQuiet, by_merger}
use Rattle.dn_merge.specs.Merge.{Merging, merge_after}
use Rattle.dn_turns.specs.Knows.{Follows, IsMergerAt}
use Rattle.dn_turns.specs.Claims.{asks_in}

-- What comes of an action of lane n's merger.

-- the mark moves past a record that the index follows
pub record IsPassed (n : ℕ) (p q : Pool) : Type 0 where
  pub to : ℕ
  pub of : Placed
  pub passing : IsPassing p.owners n to of
  pub follows : Follows (store_in p).index (record { lane = n; offset = (store_in p).marks n }) of.entry
  pub marks : (store_in q).marks ≡ with_at (store_in p).marks n to

-- A pool that is whole, as all others see it. Of the store the index and the mark alone may change, with the counter of
-- overflow buckets and who has claimed them.
pub record IsMergerStep (n : ℕ) (m : Merging) (p : Pool) (now : List ℕ) : Type 0 where
  pub q : Pool
  pub words : q.words ≡ now
  pub step : IsStepBy (by_merger n) p q
  pub quiet : IsQuiet p q
  pub owners : q.owners ≡ record p.owners {
    store = record (store_in p) {
      index = (store_in q).index;
      marks = (store_in q).marks;
      bucket_count = (store_in q).bucket_count;
      takers = (store_in q).takers;
    };
  }
  pub mark : ((store_in q).marks ≡ (store_in p).marks) ⊎ IsPassed n p q
  pub count : (store_in q).bucket_count ≤ (store_in p).bucket_count + asks_in m.place

-- and the merger knows its next place; it comes to ask for a bucket only where one is left
pub record MergerStepped (n : ℕ) (m : Merging) (p : Pool) (word : ℕ) (now : List ℕ) : Type 0 where
  pub left : IsMergerStep n m p now
  pub knows : IsMergerAt n (merge_after m word) left.q
  pub low : (asks_in (merge_after m word).place ≡ 0)
      ⊎ ((asks_in (merge_after m word).place ≡ 1) × ((store_in left.q).bucket_count < 4096))
