use Rattle.std.proofs.Common.{ℕ, ◌^◌, ◌<◌, List, [], ◌∷◌, arith}
use Rattle.std.specs.Prelude.{fold}
use Rattle.std.specs.Int.{w64, to_le_bytes}
use Rattle.dn_word.specs.Hash.{hash_step, hash_of}
use Rattle.dn_model.specs.Regions.{home_of, slot_of}

folded : (h : ℕ) (bytes : List ℕ) → h < 2 ^ 64 → fold hash_step h bytes < 2 ^ 64
folded h [] lt = lt
folded h (b ∷ bs) lt = folded (hash_step h b) bs (omega arith)

pub hash_below : (k : ℕ) → hash_of k < 2 ^ 64
hash_below k = folded 0xcbf29ce484222325 (to_le_bytes w64 k) (omega arith)

-- a key's home bucket and slot are numbers of theirs
pub home_below : (k : ℕ) → home_of k < 4096
home_below k = let h = hash_below k in omega (arith, h)

pub slot_below : (k : ℕ) → slot_of k < 64
slot_below k = let h = hash_below k in omega (arith, h)
