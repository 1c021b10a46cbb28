use Rattle.std.proofs.Common.{◌≡◌, ◌∙◌, None, cond, ap, sym}
use Rattle.std.specs.List.{list_all}
use Rattle.dn_script.specs.Number.{is_digit, fitting, number_of, numeral_of}
use Rattle.dn_script.proofs.DecimalLemmas.{numeral_prints, numeral_spelled}
use Rattle.dn_script.proofs.texts.numeral.Goals as goal

pub returns-then-is_empty_or_padded-clause-spelled : goal.returns-then-is_empty_or_padded-clause-spelled
returns-then-is_empty_or_padded-clause-spelled c =
    let field = c.args.field.now in
    let none : None ≡ numeral_of field = ap (λ b. cond b None (fitting (list_all is_digit field) (number_of field))) (sym c.if-is_empty_or_padded.true ∙ c.is_empty_or_padded.ensures) in
    λ n small e. none ∙ numeral_spelled field n small e

pub returns-else-is_empty_or_padded-clause-spelled : goal.returns-else-is_empty_or_padded-clause-spelled
returns-else-is_empty_or_padded-clause-spelled c =
    let field = c.args.field.now in
    let value : c.number.result ≡ numeral_of field = c.number.ensures ∙ ap (λ b. cond b None (fitting (list_all is_digit field) (number_of field))) (sym c.if-is_empty_or_padded.false ∙ c.is_empty_or_padded.ensures) in
    λ n small e. value ∙ numeral_spelled field n small e

pub returns-else-is_empty_or_padded-clause-decimal : goal.returns-else-is_empty_or_padded-clause-decimal
returns-else-is_empty_or_padded-clause-decimal c =
    let field = c.args.field.now in
    let value : c.number.result ≡ numeral_of field = c.number.ensures ∙ ap (λ b. cond b None (fitting (list_all is_digit field) (number_of field))) (sym c.if-is_empty_or_padded.false ∙ c.is_empty_or_padded.ensures) in
    numeral_prints field c.number.result value
