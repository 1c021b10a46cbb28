use Rattle.std.proofs.Common.{◌≡◌, ◌∷◌, ◌+◌, take, drop, nat_eq, sym, ◌∙◌, ap}
use Rattle.std.specs.List.{slice_split}
use Rattle.dn_script.proofs.PartLemmas.{not_filled}
use Rattle.dn_script.proofs.values.filled.Goals as goal

pub returns-in-Some : goal.returns-in-Some
returns-in-Some c =
    let text = c.args.text.now in
    let count = c.behind-count.result.now in
    let first : slice_split (λ b. nat_eq b 42) text ≡ take c.in_ok-end.end text ∷ slice_split (λ b. nat_eq b 42) count =
    c.in_ok-end.ensures.parts ∙ ap (λ rest. take c.in_ok-end.end text ∷ slice_split (λ b. nat_eq b 42) rest) (sym c.behind-count.ensures) in
    sym (not_filled (λ b. nat_eq b 42) (slice_split (λ b. nat_eq b 42) text) (slice_split (λ b. nat_eq b 42) count) (take c.in_ok-end.end text)
    (take c.in-Some.field-0 count) (drop (c.in-Some.field-0 + 1) count) first c.in-Some.ensures.parts)
