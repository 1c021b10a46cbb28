use Rattle.std.proofs.Common.{◌≡◌, ◌+◌, ◌++◌, ℕ, List, ap, sym, ◌∙◌, add-one, append_assoc}
use Rattle.dn_outcomes.specs.State.{World}
use Rattle.dn_run.specs.Output.{lanes_text, lane_line}

-- the line of the next lane is printed
pub one_more : (out old now : List ℕ) (w : World) (words : List ℕ) (n : ℕ) → old ≡ out ++ lanes_text w words n → now ≡ old ++ lane_line w words (n + 1) → now ≡ out ++ lanes_text w words (n + 1)
one_more out old now w words n before next =
    next ∙ ap (λ (xs : List ℕ). xs ++ lane_line w words (n + 1)) before ∙ append_assoc out (lanes_text w words n) (lane_line w words (n + 1))
    ∙ ap (λ (m : ℕ). out ++ lanes_text w words m) (sym (add-one n))
