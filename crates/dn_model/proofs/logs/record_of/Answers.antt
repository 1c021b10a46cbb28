use Rattle.std.proofs.Common.{ℕ, ◌≡◌, List, Some, sym, ◌∙◌, subst, arith}
use Rattle.std.proofs.lemmas.Grind.{common_steps}
use Rattle.dn_record.specs.Grammar.{FrontSpells}
use Rattle.dn_model.specs.Regions.{offsets}
use Rattle.dn_model.specs.Log.{PadFits}
use Rattle.dn_model.proofs.PieceLaws.{spells_front, front_spells}
use Rattle.dn_model.proofs.logs.record_of.Goals as goal

pub returns-then-reaches-clause-only : goal.returns-then-reaches-clause-only
returns-then-reaches-clause-only c =
    let w : ℕ → ℕ = offsets c.args.words.now c.args.lane in
    let P : List ℕ → Type 0 = λ xs. FrontSpells xs c.in-Some.entry in
    let front : FrontSpells c.as_slice.result.now c.in-Some.entry = rw c.in-Some.is at c.in_ok-entry.ensures.only in
    let pad : PadFits c.args.offset c.in-Some.entry = grind (arith, common_steps, c.reaches.ensures) in
    front_spells w c.args.offset c.in-Some.entry (subst P (c.as_slice.ensures.value ∙ c.in_ok-rest.ensures) front) pad

pub returns-then-reaches-clause-found : goal.returns-then-reaches-clause-found
returns-then-reaches-clause-found c = λ r h.
    let w : ℕ → ℕ = offsets c.args.words.now c.args.lane in
    let P : List ℕ → Type 0 = λ xs. FrontSpells xs r in
    let e : c.in_ok-entry.field-0 ≡ Some r = c.in_ok-entry.ensures.«record» r (subst P (sym (c.as_slice.ensures.value ∙ c.in_ok-rest.ensures)) (spells_front w c.args.offset r h)) in
    sym c.in-Some.is ∙ e

pub returns-clause-found : goal.returns-clause-found
returns-clause-found c = λ r h.
    let w : ℕ → ℕ = offsets c.args.words.now c.args.lane in
    let P : List ℕ → Type 0 = λ xs. FrontSpells xs r in
    let e : c.in_ok-entry.field-0 ≡ Some r = c.in_ok-entry.ensures.«record» r (subst P (sym (c.as_slice.ensures.value ∙ c.in_ok-rest.ensures)) (spells_front w c.args.offset r h)) in
    sym c.in-None.is ∙ e
