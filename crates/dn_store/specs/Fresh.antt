use Rattle.std.specs.Prelude.{◌≡◌, ◌≢◌, ◌⊎◌, ◌≤◌, ◌<◌, ℕ, List, [], None, length, nat_eq, if◌then◌else◌}
use Rattle.dn_word.specs.Format.{format_word}
use Rattle.dn_word.specs.Regions.{format_at}
use Rattle.dn_word.specs.Gate.{gate_of}
use Rattle.dn_word.specs.Deed.{deed_of, deed_word}
use Rattle.dn_word.specs.declared.packed.deed.DeedState.TheVariants.{Owned}
use Rattle.dn_act.specs.Words.{word_at, pool_size}
use Rattle.dn_model.specs.Regions.{deed_at}
use Rattle.dn_store.specs.State.{StoreState}

-- the deed with which an opening grants a slot: in epoch 1, with a floor of 0
abbrev pub first_deed : ℕ → ℕ
first_deed lane = deed_word (record { state = Owned; epoch = 1; lane = lane; floor = 0 })

-- the deed's word then, or 0 where the grant failed and nobody owns the slot
abbrev pub granted : ℕ → ℕ
granted owner = if nat_eq owner 0 then 0 else first_deed owner

-- The words of a pool that an opening for so many lanes leaves: the format word, each slot's deed, which names one of
-- the lanes or nobody, and zeros.
pub record IsFreshPool (words : List ℕ) (pool lanes : ℕ) (owners : ℕ → ℕ) : Type 0 where
  pub some : 1 ≤ lanes
  pub few : lanes ≤ 63
  pub size : pool_size pool ≤ length words
  pub format : word_at words format_at ≡ format_word (record { segments = pool; number = 1 })
  pub known : (t : ℕ) → t < 64 → owners t ≤ lanes
  pub deeds : (t : ℕ) → t < 64 → word_at words (deed_at t) ≡ granted (owners t)
  pub zeros : (at : ℕ) → at ≢ 0 → (at < 192) ⊎ (256 ≤ at) → word_at words at ≡ 0

-- the store of these words: nothing is sealed, merged, shared, indexed or claimed
abbrev pub fresh_store : ℕ → (ℕ → ℕ) → StoreState
fresh_store pool owners = record {
  pool = pool;
  logs = λ n. [];
  gates = λ n. gate_of 0;
  marks = λ n. 0;
  deeds = λ t. deed_of (granted (owners t));
  index = λ k. None;
  cells = λ j. 0;
  keys = λ j. 0;
  segment_count = 0;
  cell_count = 0;
  bucket_count = 0;
  holders = λ g. 0;
  cell_holders = λ j. 0;
  takers = λ c. 0;
}

-- no home bucket has overflow buckets
abbrev pub no_overflow : ℕ → List ℕ
no_overflow home = []
