use Rattle.std.specs.Prelude.{ℕ, List}
use Rattle.dn_store.specs.Fresh.{no_overflow}
use Rattle.dn_owners.specs.Fresh.{fresh_owners}
use Rattle.dn_beside.specs.Pool.{Pool}

-- the pool of the words that an opening for so many lanes leaves
abbrev pub fresh_pool : List ℕ → ℕ → ℕ → (ℕ → ℕ) → Pool
fresh_pool words pool lanes owners = record { words = words; chains = no_overflow; owners = fresh_owners pool lanes owners }
