use Rattle.std.specs.Prelude.{ℕ, ◌≤◌, ◌<◌, List, [], All, Option, None, replicate}
use Rattle.dn_log.specs.Log.{Log}
use Rattle.dn_pending.specs.Table.{Table}
use Rattle.dn_pending.specs.declared.entries.Entry.{Entry}

-- what a lane knows
pub record KnownState : Type 0 where
  -- its log
  pub log : Log
  -- the records that it has sealed and that aren't merged, by key
  pub pending : Table
  -- of each slot the epoch that it has met last
  pub epochs : List ℕ
  -- and the length that its log had then: pending records of the slot count from there on
  pub counts : List ℕ
  -- the gate word that has closed the lane
  pub barred : Option ℕ

-- a lane at its start: of each slot it knows epoch 0
abbrev pub fresh : ℕ → ℕ → KnownState
fresh lane segments = record {
  log = record { lane = lane; pool = segments; len = 0; segments = []; spare = None };
  pending = record { entries = []; spare = 2 };
  epochs = replicate 64 0;
  counts = replicate 64 0;
  barred = None;
}

-- nothing that a lane knows lies past its log
pub record IsWithin (k : KnownState) : Type 0 where
  pub pending : All (λ (e : Entry). e.at < k.log.len) k.pending.entries
  pub counts : All (λ n. n ≤ k.log.len) k.counts
