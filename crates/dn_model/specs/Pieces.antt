use Rattle.std.specs.Prelude.{ℕ, zero, suc, ◌+◌, List, [], ◌∷◌}

-- so many words of a reader from a place on
abbrev pub reads : (ℕ → ℕ) → ℕ → ℕ → List ℕ
reads words o zero = []
reads words o (suc n) = words o ∷ reads words (o + 1) n
