use Rattle.std.specs.Prelude.{ℕ, ◌+◌, zero, suc}

-- what a function gives for the numbers from 1 to this one, in all
abbrev pub sum_to : ℕ → (ℕ → ℕ) → ℕ
sum_to zero f = 0
sum_to (suc n) f = f (suc n) + sum_to n f
