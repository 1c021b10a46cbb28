use Rattle.std.specs.Prelude.{◌≡◌, ℕ, ◌*◌, ◌<◌, ◌≤◌}
use Rattle.dn_model.specs.Regions.{directory, IsLane}
use Rattle.dn_owners.specs.Later.{IsLater}
use Rattle.dn_beside.specs.Pool.{Pool, store_in}

-- What every actor sees of any step: logs, gates, marks, epochs, floors, promises and counters only grow, and what is
-- sealed stays where it is, since the directories stay up to the sealed lengths.
pub record Grows (p q : Pool) : Type 0 where
  pub later : IsLater p.owners q.owners
  pub pool : (store_in q).pool ≡ (store_in p).pool
  pub segments : (store_in p).segment_count ≤ (store_in q).segment_count
  pub buckets : (store_in p).bucket_count ≤ (store_in q).bucket_count
  pub named : (n i : ℕ) → IsLane n → i * 1024 < ((store_in p).gates n).len
      → directory q.words n i ≡ directory p.words n i
