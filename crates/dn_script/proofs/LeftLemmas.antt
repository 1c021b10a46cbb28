use Rattle.std.proofs.Common.{◌≡◌, ◌&&◌, ℕ, Bool, true, false, List, [], ◌∷◌, Option, None, Result, Ok, refl, sym, ap, subst, ◌∙◌}
use Rattle.std.specs.Borrow.{Bor}
use Rattle.std.specs.List.{list_all}
use Rattle.dn_script.specs.declared.faults.Cause.{Cause}
use Rattle.dn_script.specs.declared.fields.Rules.{Rules}
use Rattle.dn_script.specs.declared.rows.Part.{Part}
use Rattle.dn_script.specs.declared.rows.Row.{Row}
use Rattle.dn_script.specs.declared.verbs.Verb.{Verb}
use Rattle.dn_script.specs.Found.{left_of}
use Rattle.dn_script.specs.Said.{Said, reading}
use Rattle.dn_script.specs.Sentence.{begins, is_known, is_begun}
use Rattle.dn_script.specs.Table.{parts_of}

-- Where no field is left, the parts that are left change nothing.

read_none : (rules : Rules) (parts : List Part) (said : Said) → ◌≡◌ {A = Result Said Cause} (Ok said) (reading rules parts [] said)
read_none rules [] said = refl
read_none rules (part ∷ parts) said = refl

begun_none : (parts : List Part) → true ≡ begins parts []
begun_none [] = refl
begun_none (part ∷ parts) = refl

pub none_read : (rules : Rules) (parts : List Part) (rest : Option (Bor (List ℕ))) (said : Said) → rest ≡ None → ◌≡◌ {A = Result Said Cause} (Ok said) (reading rules parts (left_of rest) said)
none_read rules parts rest said none =
    let P : Option (Bor (List ℕ)) → Type 0 = λ r. ◌≡◌ {A = Result Said Cause} (Ok said) (reading rules parts (left_of r) said) in
    subst P (sym none) (read_none rules parts said)

pub none_begun : (parts : List Part) (rest : Option (Bor (List ℕ))) → rest ≡ None → true ≡ begins parts (left_of rest)
none_begun parts rest none =
    let P : Option (Bor (List ℕ)) → Type 0 = λ r. true ≡ begins parts (left_of r) in
    subst P (sym none) (begun_none parts)

-- what is played is asked first
both_ways : (known begun : Bool) → (known && begun) ≡ (begun && known)
both_ways true true = refl
both_ways true false = refl
both_ways false true = refl
both_ways false false = refl

pub begun_if_known : (verbs : List Verb) (fields : List (List ℕ)) (row : Row) → (list_all (is_known verbs) (parts_of row) && begins (parts_of row) fields) ≡ is_begun verbs fields row
begun_if_known verbs fields row = both_ways (list_all (is_known verbs) (parts_of row)) (begins (parts_of row) fields)

and_false : (b : Bool) → (b && false) ≡ false
and_false true = refl
and_false false = refl

pub unknown_row : (verbs : List Verb) (fields : List (List ℕ)) (row : Row) (known : Bool) → known ≡ list_all (is_known verbs) (parts_of row) → known ≡ false → known ≡ is_begun verbs fields row
unknown_row verbs fields row known is none =
    none ∙ sym (ap (λ b. begins (parts_of row) fields && b) (sym is ∙ none) ∙ and_false (begins (parts_of row) fields))
