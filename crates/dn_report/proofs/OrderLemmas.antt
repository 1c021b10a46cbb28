use Rattle.std.proofs.Common.{◌≡◌, ◌+◌, ◌<◌, false, List, [], ◌∷◌, length, map, subst, arith}
use Rattle.std.specs.Ordering.{is_lt}
use Rattle.std.specs.List.Sorted.{IsSortedByKey}
use Rattle.std.specs.declared.cmp.Ordering.{Ordering}
use Rattle.std.proofs.lemmas.List.{get_or-map, length-map}

not_less : {Y K : Type 0} (key : Y → K) (cmp : K → K → Ordering) (a b c d : Y) → a ≡ c → b ≡ d → is_lt (cmp (key c) (key d)) ≡ false → is_lt (cmp (key a) (key b)) ≡ false
not_less key cmp a b c d e g h = rw e (rw g h)

-- A list is in order by a key of what a function makes of its elements: so is what it makes of the list.
pub sorted_map : {X Y K : Type 0} (f : X → Y) (key : Y → K) (cmp : K → K → Ordering) (xs : List X) → IsSortedByKey (λ x. key (f x)) cmp xs → IsSortedByKey key cmp (map f xs)
sorted_map f key cmp [] h = λ k d low high. absurd (omega (arith, high))
sorted_map f key cmp (x ∷ xs) h = λ k d low high.
    let within : k + 1 < length (x ∷ xs) = subst (λ n. k + 1 < n) (length-map (x ∷ xs) f) high in
    not_less key cmp _ _ _ _ (get_or-map f (x ∷ xs) (k + 1) x d within) (get_or-map f (x ∷ xs) k x d (omega (arith, within))) (h k x low within)
