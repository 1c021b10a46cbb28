use Rattle.std.proofs.Common.{ℕ, ◌+◌, ◌*◌, ◌/◌, ◌%◌, ◌<◌, ◌≤◌, ◌≡◌, length, slice_index, arith}
use Rattle.std.proofs.lemmas.Nat.{same_from_place}
use Rattle.std.proofs.lemmas.List.Elements.{All-get_or}
use Rattle.dn_log.specs.Log.{Log, reach_of, word_of, IsApart, IsFit}

-- the pool's word of an offset lies behind all other regions
pub word_of-past : (log : Log) (offset : ℕ) → 98304 ≤ word_of log offset
word_of-past log offset = omega arith

-- the segment that an offset lies in is one of the lane's, or the spare
pub segment-within : (log : Log) (offset : ℕ) → offset < 1024 * length (reach_of log) → offset / 1024 < length (reach_of log)
segment-within log offset h = omega (arith, h)

-- and ends within the pool
pub word_of-below : (log : Log) (offset : ℕ) → IsFit log → offset < 1024 * length (reach_of log) → word_of log offset < 98304 + 1024 * log.pool
word_of-below log offset fit h =
    let g : slice_index (reach_of log) (offset / 1024) < log.pool = All-get_or (λ g. g < log.pool) (reach_of log) (offset / 1024) 0 (segment-within log offset h) fit.each in
    omega (arith, g)

same_offset : (a b : ℕ) → a / 1024 ≡ b / 1024 → a % 1024 ≡ b % 1024 → a ≡ b
same_offset a b q r = omega (arith, q, r)

same_word : (g h r s : ℕ) → r < 1024 → s < 1024 → 98304 + (1024 * g + r) ≡ 98304 + (1024 * h + s) → (g ≡ h) × (r ≡ s)
same_word g h r s i j e = same_from_place g r h s 1024 i j (omega (arith, e))

-- two offsets of a lane whose segments differ have different words of the pool
pub word_of-apart : (log : Log) (a b : ℕ) → IsApart (reach_of log) → a < 1024 * length (reach_of log) → b < 1024 * length (reach_of log) → word_of log a ≡ word_of log b → a ≡ b
word_of-apart log a b apart i j e =
    let s : (slice_index (reach_of log) (a / 1024) ≡ slice_index (reach_of log) (b / 1024)) × (a % 1024 ≡ b % 1024) = same_word _ _ (a % 1024) (b % 1024) (omega arith) (omega arith) e in
    same_offset a b (apart.each (a / 1024) (b / 1024) (segment-within log a i) (segment-within log b j) s.0) s.1
