use Rattle.std.proofs.Common.{ℕ, ◌<◌, ◌≡◌, inl, inr, sym, ◌∙◌, ap, subst, arith}
use Rattle.std.proofs.lemmas.Bool.{cases_eq, cases_lt}
use Rattle.dn_merge.specs.declared.mergers.MergeTurn.{MergeTurn}
use Rattle.dn_drain.specs.Alone.{Alone, answer_by, run_by}
use Rattle.dn_drain.specs.Ends.{EndsBy, EndsAt, Drains}

-- A drain ends at one action alone.

ends_there : (a : Alone) (k : ℕ) (e : MergeTurn) (h : Drains a k e) → EndsAt a h.before
ends_there a k e h = subst (λ (t : MergeTurn). EndsBy a h.before t) (sym h.answer) h.ends

not_later : (a : Alone) (k j : ℕ) (e f : MergeTurn) (h : Drains a k e) (i : Drains a j f) → h.before < i.before → ⊥
not_later a k j e f h i lt = i.goes_on.each h.before lt (ends_there a k e h)

same_before : (a : Alone) (k j : ℕ) (e f : MergeTurn) (h : Drains a k e) (i : Drains a j f) → h.before ≡ i.before
same_before a k j e f h i = elim (cases_eq h.before i.before) [
  | inl same ↦ same
  | inr other ↦ elim (cases_lt h.before i.before) [
    | inl lt ↦ absurd (not_later a k j e f h i lt)
    | inr le ↦ absurd (not_later a j k f e i h (omega (arith, le, other)))
  ]
]

pub one_end : (a : Alone) (k j : ℕ) (e f : MergeTurn) → Drains a k e → Drains a j f → (k ≡ j) × (e ≡ f)
one_end a k j e f h i =
    let same : h.before ≡ i.before = same_before a k j e f h i in
    (omega (arith, h.last, i.last, same), sym h.answer ∙ ap (λ (n : ℕ). answer_by (run_by a n)) same ∙ i.answer)
