use Rattle.std.specs.Prelude.{ℕ, ◌<◌, ◌≡◌, ◌≢◌, List, length, slice_set}
use Rattle.std.proofs.lemmas.List.{get_or-set_same, get_or-set_other, length-set as length-set_at}
use Rattle.dn_act.specs.Words.{word_at}

-- the word that was written
pub word_at-set_same : (ws : List ℕ) (i v : ℕ) → i < length ws → word_at (slice_set ws i v) i ≡ v
word_at-set_same ws i v h = get_or-set_same ws i v 0 h

-- every other word stays
pub word_at-set_other : (ws : List ℕ) (i j v : ℕ) → j ≢ i → word_at (slice_set ws i v) j ≡ word_at ws j
word_at-set_other ws i j v h = get_or-set_other ws i j v 0 h

-- and so does their number
pub length-set : (ws : List ℕ) (i v : ℕ) → length (slice_set ws i v) ≡ length ws
length-set ws i v = length-set_at ws i v
