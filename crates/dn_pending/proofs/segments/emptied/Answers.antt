use Rattle.std.proofs.Common.{◌≡◌, ◌/◌, ◌≤◌, ◌==◌, ℕ, true, false, nat_lt, length, arith, subst, sym, drop, ◌∙◌}
use Rattle.std.proofs.lemmas.Bool.{eq-eqb}
use Rattle.std.proofs.lemmas.List.Sums.{prefix_len-le-length}
use Rattle.dn_pending.specs.declared.segments.Segment.{Segment}
use Rattle.dn_pending.specs.Segments.{IsFit}
use Rattle.dn_pending.proofs.CoverLemmas.{IsFit-shed}
use Rattle.dn_pending.proofs.segments.emptied.Goals as goal

pub returns-else-is_empty-clause-within : goal.returns-else-is_empty-clause-within
returns-else-is_empty-clause-within c = omega (arith, c.passed.ensures, prefix_len-le-length (λ (s : Segment). nat_lt s.number (c.args.mark / 1024)) c.args.segments.now)

some_by : (n : ℕ) → (n == 0) ≡ false → 1 ≤ n
some_by n h = let z : n ≡ 0 → ⊥ = λ e. (let t : (n == 0) ≡ true = eq-eqb n 0 e in cc) in omega (arith, z)

pub returns-else-is_empty-clause-fit : goal.returns-else-is_empty-clause-fit
returns-else-is_empty-clause-fit c = λ entries fit is.
    subst (λ k. IsFit (drop k c.args.segments.now) c.args.left.now) (sym c.passed.ensures)
    (IsFit-shed c.args.segments.now c.args.mark entries c.args.left.now fit is (some_by (length c.args.left.now) (sym c.is_empty.ensures ∙ c.if-is_empty.false)))
