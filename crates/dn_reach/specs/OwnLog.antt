use Rattle.std.specs.Prelude.{◌≡◌, ℕ, [], All, None}
use Rattle.dn_log.specs.Log.{Log, reach_of, IsFit, IsApart}
use Rattle.dn_model.specs.Regions.{IsLane}
use Rattle.dn_beside.specs.Pool.{Pool, store_in, IsWhole}
use Rattle.dn_reach.specs.Directory.{NamesSegments}

-- What lane n knows of its own log, whatever it is doing, and also behind a fence.
pub record HoldsLog (p : Pool) (n : ℕ) (log : Log) : Type 0 where
  pub lane : log.lane ≡ n
  pub pool : log.pool ≡ (store_in p).pool
  pub len : ((store_in p).gates n).len ≡ log.len
  pub fit : IsFit log
  pub apart : IsApart (reach_of log)
  pub holders : All (λ g. (store_in p).holders g ≡ n) (reach_of log)
  pub directory : NamesSegments p.words log

-- the log of a lane that has written nothing yet
abbrev pub empty_log : ℕ → ℕ → Log
empty_log lane pool = record { lane = lane; pool = pool; len = 0; segments = []; spare = None }

-- a lane of a whole pool, with this log
pub record IsLaneOf (p : Pool) (n : ℕ) (log : Log) : Type 0 where
  pub whole : IsWhole p
  pub lane : IsLane n
  pub own : HoldsLog p n log
