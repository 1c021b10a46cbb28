use Rattle.std.specs.Prelude.{◌≡◌, ◌≢◌, ◌<◌, ◌≤◌, ◌+◌, ℕ, Option, Some, None}
use Rattle.dn_hist.specs.Calls.{key_of}
use Rattle.dn_model.specs.Regions.{IsLane}
use Rattle.dn_merge.specs.Merge.{Merging}
use Rattle.dn_monitor.specs.Monitor.{Monitoring}
use Rattle.dn_lane.specs.State.{LaneState}
use Rattle.dn_lane.specs.declared.asked.Asked.{Asked}
use Rattle.dn_lane.specs.declared.asked.Asked.TheVariants as asked
use Rattle.dn_beside.specs.Pool.{Pool, store_in, IsWhole}
use Rattle.dn_turns.specs.Claims.{asking}
use Rattle.dn_turns.specs.Knows.{IsMergerAt}
use Rattle.dn_turns.specs.Sums.{sum_to}
use Rattle.dn_lanes.specs.Lane.{IsLaneAt}
use Rattle.dn_lanes.specs.Stepped.{claims_in}
use Rattle.dn_lanes.specs.Unmade.{IsUnmade}
use Rattle.dn_orders.specs.Knowing.{KnowsOrder}
use Rattle.dn_receipts.specs.Receipts.{AreReceipts}
use Rattle.dn_callers.specs.Callers.{Callers, receipts_of}
use Rattle.dn_callers.specs.Sessions.{AreSessions, IsUnderWay}
use Rattle.dn_machine.specs.State.{Machine}
use Rattle.dn_machine.specs.Given.{IsOfSession}

-- What is sound of a machine.

-- how many lanes have read the segment counter below its limit and not yet added to it
abbrev pub claims : Option LaneState → ℕ
claims None = 0
claims (Some l) = claims_in l.mode

abbrev pub claiming : (ℕ → Option LaneState) → ℕ
claiming lanes = sum_to 63 (λ n. claims (lanes n))

-- the call of a lane is under way, and of a key
abbrev pub IsCallOf : Callers → Asked → Type 0
IsCallOf c asked.Nothing = Unit {0}
IsCallOf c (asked.Call call view room) = IsUnderWay c view × (key_of call ≢ 0)
IsCallOf c asked.Task = Unit {0}

-- Who acts: each by a number of a lane, and each session at one lane at most.
pub record AreActors (m : Machine) : Type 0 where
  pub made : (n : ℕ) (l : LaneState) → m.lanes n ≡ Some l → (x : Merging) × (m.mergers n ≡ Some x)
  pub numbers : (n : ℕ) (x : Merging) → m.mergers n ≡ Some x → IsLane n
  pub loads : (s slot : ℕ) → m.loads s ≡ Some slot → slot < 64
  pub calls : (n : ℕ) (l : LaneState) → m.lanes n ≡ Some l → IsCallOf m.callers l.asked
  pub alone : (n k s : ℕ) (l x : LaneState) → m.lanes n ≡ Some l → m.lanes k ≡ Some x
      → IsOfSession s l.asked → IsOfSession s x.asked → n ≡ k

-- What each of them knows of the pool, at its phase.
pub record KnowPool (p : Pool) (m : Machine) : Type 0 where
  pub lanes : (n : ℕ) (l : LaneState) → m.lanes n ≡ Some l → IsLaneAt n l p
  pub mergers : (n : ℕ) (x : Merging) → m.mergers n ≡ Some x → IsMergerAt n x p
  pub monitor : (x : Monitoring) → m.monitor ≡ Some x → KnowsOrder p x
  -- of a lane that wasn't made nothing stands in the pool
  pub unmade : (n : ℕ) → IsLane n → m.mergers n ≡ None → IsUnmade p n

-- No counter comes far past its limit: each is raised by those alone that have read it below.
pub record HaveRoom (p : Pool) (m : Machine) : Type 0 where
  pub pool : (store_in p).pool ≤ 8192
  pub buckets : (store_in p).bucket_count + asking m.mergers ≤ 4096 + 63
  pub segments : (store_in p).segment_count + claiming m.lanes ≤ (store_in p).pool + 63

pub record IsMachineAt (p : Pool) (m : Machine) : Type 0 where
  pub words : p.words ≡ m.words
  pub whole : IsWhole p
  pub actors : AreActors m
  pub know : KnowPool p m
  pub room : HaveRoom p m
  pub receipts : AreReceipts p (receipts_of m.callers.receipts)
  pub callers : AreSessions m.callers

-- a machine over a pool of so many segments
pub record IsSound (segments : ℕ) (m : Machine) : Type 0 where
  pub p : Pool
  pub at : IsMachineAt p m
  pub pool : (store_in p).pool ≡ segments
