use Rattle.std.proofs.Common.{◌≡◌, ℕ, ◌+◌, ◌≤◌, List, ◌++◌, length, take, drop, ap, sym, ◌∙◌, arith, subst, Option}
use Rattle.std.proofs.lemmas.Grind.{common_steps}
use Rattle.std.proofs.lemmas.List.{drop-drop, length-take-le, take-append-drop}
use Rattle.std.proofs.Math.Seq.{take-add}
use Rattle.std.proofs.KnownBytes.{Appends-trans}
use Rattle.std.specs.Io.KnownBytes.{Appends}

-- a front was written, and then a front of what is left of the bytes
pub more_written : (old mid new : Option (List ℕ)) (bytes piece : List ℕ) (done count : ℕ)
    → Appends old mid (take done bytes) → Appends mid new (take count piece) → piece ≡ drop done bytes → Appends old new (take (done + count) bytes)
more_written old mid new bytes piece done count p q e =
    subst (Appends old new) (ap (λ xs. take done bytes ++ take count xs) e ∙ sym (take-add done count bytes)) (Appends-trans old mid new (take done bytes) (take count piece) p q)

front_of : (copied rest : List ℕ) (count : ℕ) → length copied ≡ count → take count (copied ++ rest) ≡ copied
front_of copied rest count e = grind (arith, common_steps)

-- a copied front, and the rest, are what was left
pub front_and_rest : (bytes copied rest left : List ℕ) (start count : ℕ) → left ≡ drop start bytes → copied ≡ take count (drop start bytes) → count ≤ length (drop start bytes)
    → left ≡ take count (copied ++ rest) ++ drop (start + count) bytes
front_and_rest bytes copied rest left start count l c h =
    l ∙ sym (take-append-drop count (drop start bytes))
    ∙ ap (λ xs. xs ++ drop count (drop start bytes)) (sym (front_of copied rest count (ap length c ∙ length-take-le count (drop start bytes) h) ∙ c))
    ∙ ap (λ xs. take count (copied ++ rest) ++ xs) (rest_of)
  where
    rest_of : drop count (drop start bytes) ≡ drop (start + count) bytes
    rest_of = drop-drop count start bytes
