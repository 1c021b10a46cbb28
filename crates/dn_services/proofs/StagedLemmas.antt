use Rattle.std.proofs.Common.{◌≡◌, ◌<◌, ◌+◌, ℕ, suc, List, [], ◌∷◌, ◌++◌, length, take, get_or, ap, sym, ◌∙◌, arith, append_assoc, add-zero}
use Rattle.std.proofs.lemmas.List.{take_more, length-take-le}
use Rattle.dn_log.specs.Log.{Log, word_of}
use Rattle.dn_log.specs.declared.staging.Staged.{Staged}
use Rattle.dn_services.specs.Staged.{placed}

-- one more word at the next offset
pub placed-push : (log : Log) (at : ℕ) (xs : List ℕ) (w : ℕ) → placed log at (xs ++ w ∷ []) ≡ placed log at xs ++ (record { at = word_of log (at + length xs); word = w }) ∷ []
placed-push log at [] w = ap (λ n. (let s : Staged = record { at = word_of log n; word = w } in s) ∷ []) (sym (add-zero at))
placed-push log at (x ∷ xs) w = ap (λ t. (let s : Staged = record { at = word_of log at; word = x } in s) ∷ t)
    (placed-push log (at + 1) xs w ∙ ap (λ n. placed log (at + 1) xs ++ (let s : Staged = record { at = word_of log n; word = w } in s) ∷ []) (next at (length xs)))
  where
    next : (a n : ℕ) → a + 1 + n ≡ a + suc n
    next a n = omega arith

-- one more word is staged behind those before
pub staged_more : (log : Log) (at i place : ℕ) (words : List ℕ) (old new start : List Staged) → i < length words → place ≡ word_of log (at + i)
    → old ≡ start ++ placed log at (take i words) → new ≡ old ++ (record { at = place; word = get_or words i 0 }) ∷ [] → new ≡ start ++ placed log at (take (i + 1) words)
staged_more log at i place words old new start h e o n =
    n ∙ ap (λ xs. xs ++ (let s : Staged = record { at = place; word = get_or words i 0 } in s) ∷ []) o ∙ append_assoc start _ _
    ∙ ap (λ xs. start ++ xs) (ap (λ m. placed log at (take i words) ++ (let s : Staged = record { at = m; word = get_or words i 0 } in s) ∷ []) (e ∙ ap (λ m. word_of log (at + m)) (sym (length-take-le i words (omega arith))))
    ∙ sym (placed-push log at (take i words) (get_or words i 0)) ∙ ap (placed log at) (sym (take_more words i 0 h)))
