use Rattle.std.specs.Prelude.{◌≡◌, ◌≢◌, ℕ, ◌<◌, Bool, true, false, List, Option}
use Rattle.dn_model.specs.Held.{Says}
use Rattle.dn_model.specs.Regions.{IsLane}
use Rattle.dn_store.specs.Holding.{holds}
use Rattle.dn_beside.specs.Pool.{Pool, store_in, IsWhole}
use Rattle.dn_beside.specs.Grown.{Grows}
use Rattle.dn_beside.specs.Lanes.{LeavesLane}
use Rattle.dn_beside.specs.Mergers.{LeavesMerger}
use Rattle.dn_beside.specs.Orders.{LeavesOrder}

-- A step of one actor, as all others see it. Who acts: the lane or the merger of this number, 0 where none does, or the
-- monitor.
pub record Acting : Type 0 where
  pub lane : ℕ
  pub merger : ℕ
  pub monitor : Bool

pub record IsStepBy (a : Acting) (p q : Pool) : Type 0 where
  pub whole : IsWhole q
  pub grows : Grows p q
  pub lanes : (n : ℕ) → IsLane n → n ≢ a.lane → LeavesLane n p q
  pub mergers : (n : ℕ) → IsLane n → n ≢ a.merger → LeavesMerger n p q
  pub order : a.monitor ≡ false → LeavesOrder p q
  -- who claims what
  pub segment_count : a.lane ≡ 0 → (store_in q).segment_count ≡ (store_in p).segment_count
  pub bucket_count : a.merger ≡ 0 → (store_in q).bucket_count ≡ (store_in p).bucket_count

-- It leaves what is held at each key, and promises nothing.
pub record IsQuiet (p q : Pool) : Type 0 where
  pub held : (k : ℕ) (v : Option (List ℕ)) → 0 < k → holds (store_in p) k ≡ Says v → holds (store_in q) k ≡ Says v
  pub promised : (k : ℕ) → q.owners.promised k ≡ p.owners.promised k

abbrev pub by_lane : ℕ → Acting
by_lane n = record { lane = n; merger = 0; monitor = false }

abbrev pub by_merger : ℕ → Acting
by_merger n = record { lane = 0; merger = n; monitor = false }

abbrev pub by_monitor : Acting
by_monitor = record { lane = 0; merger = 0; monitor = true }

abbrev pub by_nobody : Acting
by_nobody = record { lane = 0; merger = 0; monitor = false }
