use Rattle.std.proofs.Common.{◌≡◌, ◌<◌, ℕ, Bool, None, List, [], ◌∷◌, length, refl, ap, ◌∙◌, arith}
use Rattle.std.proofs.lemmas.List.Splits.{length-slice_split}
use Rattle.std.specs.List.{slice_split}
use Rattle.dn_script.specs.Value.{filled_by}

pub some_parts : (p : ℕ → Bool) (xs : List ℕ) → 0 < length (slice_split p xs)
some_parts p xs = omega (arith, length-slice_split p xs)

-- three parts or more
filled_by_more : (byte count : List ℕ) (more : List (List ℕ)) → 0 < length more → filled_by (byte ∷ count ∷ more) ≡ None
filled_by_more byte count [] h = absurd (omega arith)
filled_by_more byte count (next ∷ more) h = refl

pub not_filled : (p : ℕ → Bool) (parts rest : List (List ℕ)) (byte count xs : List ℕ) → parts ≡ byte ∷ rest → rest ≡ count ∷ slice_split p xs → filled_by parts ≡ None
not_filled p parts rest byte count xs e r = ap filled_by (e ∙ ap (λ more. byte ∷ more) r) ∙ filled_by_more byte count (slice_split p xs) (some_parts p xs)
