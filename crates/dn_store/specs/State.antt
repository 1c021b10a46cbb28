use Rattle.std.specs.Prelude.{ℕ, List, Option, nat_eq, if◌then◌else◌}
use Rattle.dn_word.specs.declared.packed.gate.Gate.{Gate}
use Rattle.dn_word.specs.declared.packed.deed.Deed.{Deed}
use Rattle.dn_model.specs.declared.logs.Placed.{Placed}

-- A store, apart from the words that spell it: numbers, and functions from the numbers of lanes, slots, cells and keys.
pub record StoreState : Type 0 where
  -- how many segments there are
  pub pool : ℕ
  -- of a lane: its sealed log, its gate, and how many words of its log are merged
  pub logs : ℕ → List Placed
  pub gates : ℕ → Gate
  pub marks : ℕ → ℕ
  -- of a slot: who owns it
  pub deeds : ℕ → Deed
  -- of a key: the place word that the index gives
  pub index : ℕ → Option ℕ
  -- of a cell: its word and its key word
  pub cells : ℕ → ℕ
  pub keys : ℕ → ℕ
  -- how often a segment, a cell, an overflow bucket was asked for, with those times at which none was left
  pub segment_count : ℕ
  pub cell_count : ℕ
  pub bucket_count : ℕ
  -- Ghosts, which no word tells. The lane that claimed a segment or a cell, for ever, and the lane whose merger claimed
  -- an overflow bucket and hasn't linked it: each 0 where there is none.
  pub holders : ℕ → ℕ
  pub cell_holders : ℕ → ℕ
  pub takers : ℕ → ℕ

-- a function with another value at one number
abbrev pub with_at : {A : Type 0} → (ℕ → A) → ℕ → A → ℕ → A
with_at f n v m = if nat_eq m n then v else f m
