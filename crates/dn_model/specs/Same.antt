use Rattle.std.specs.Prelude.{◌≡◌, ℕ, ◌<◌, List}
use Rattle.dn_act.specs.Words.{word_at}
use Rattle.dn_model.specs.Regions.{gate, mark, directory, place, deed, cell, bucket, IsLane}

-- What stays the same of the words, so that what they mean stays: no more than the meaning rests on.

-- the keys, place words and next words of the buckets
pub record SameBuckets (words now : List ℕ) : Type 0 where
  pub same : (b i : ℕ) → b < 8192 → 0 < i → i < 8 → bucket now b i ≡ bucket words b i

-- what a lane's log rests on: the sealed length, the directory words that name a segment, and the words below that length
pub record SameLog (words now : List ℕ) (n : ℕ) : Type 0 where
  pub len_is : (gate now n).len ≡ (gate words n).len
  pub directory_is : (q : ℕ) → q < 256 → 0 < directory words n q → directory now n q ≡ directory words n q
  pub words_are : (o : ℕ) → o < (gate words n).len → word_at now (place words n o) ≡ word_at words (place words n o)

-- what the pool's map rests on: of a deed the lane that it names
pub record SamePool (words now : List ℕ) : Type 0 where
  pub logs : (n : ℕ) → IsLane n → SameLog words now n
  pub marks : (n : ℕ) → IsLane n → mark now n ≡ mark words n
  pub deeds : (s : ℕ) → s < 64 → (deed now s).lane ≡ (deed words s).lane
  pub cells : (j : ℕ) → j < 256 → cell now j ≡ cell words j
  pub buckets : SameBuckets words now
