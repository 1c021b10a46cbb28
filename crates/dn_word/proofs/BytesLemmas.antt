use Rattle.std.proofs.Common.{◌≡◌, ◌≤◌, ◌+◌, ◌-◌, ℕ, List, ◌++◌, length, take, min, refl, ap, sym, ◌∙◌, arith, append_assoc}
use Rattle.std.proofs.lemmas.List.{take-append-le}
use Rattle.std.proofs.Math.Seq.{take-append-add, take-length}
use Rattle.std.proofs.lemmas.Grind.{common_steps}
use Rattle.std.specs.Int.{w64, to_le_bytes}

inside : (a rest : List ℕ) (left n : ℕ) → left ≤ length a → n ≡ left → take left (a ++ rest) ≡ take n a ++ take (left - n) rest
inside a rest left n h e = grind (arith, common_steps, take-append-le)

beyond_by : (a rest : List ℕ) (left n k : ℕ) → left ≡ length a + k → n ≡ length a → k ≡ left - n → take left (a ++ rest) ≡ take n a ++ take (left - n) rest
beyond_by a rest left n k h e d = cc (take-append-add a rest k, take-length a)

beyond : (a rest : List ℕ) (left n : ℕ) → length a ≤ left → n ≡ length a → take left (a ++ rest) ≡ take n a ++ take (left - n) rest
beyond a rest left n h e = beyond_by a rest left n (left - n) (omega arith) e refl

-- a piece of the bytes taken from one word, and the rest from the next ones
taken : (a rest : List ℕ) (left n : ℕ) → n ≡ min left (length a) → take left (a ++ rest) ≡ take n a ++ take (left - n) rest
taken a rest left n e = grind (arith, inside, beyond)

pub word_more : (w : ℕ) (rest items : List ℕ) (left n : ℕ) → n ≡ min left 8 → (items ++ take n (to_le_bytes w64 w)) ++ take (left - n) rest ≡ items ++ take left (to_le_bytes w64 w ++ rest)
word_more w rest items left n e = append_assoc items _ _ ∙ ap (λ t. items ++ t) (sym (taken (to_le_bytes w64 w) rest left n e))
