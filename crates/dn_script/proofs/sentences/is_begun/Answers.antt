use Rattle.std.proofs.Common.{◌∙◌, ap}
use Rattle.std.specs.List.{list_all}
use Rattle.dn_script.specs.Sentence.{fields_of, is_known}
use Rattle.dn_script.proofs.LeftLemmas.{unknown_row}
use Rattle.dn_script.proofs.sentences.is_begun.Goals as goal

pub returns-else-are_known : goal.returns-else-are_known
returns-else-are_known c =
    unknown_row c.args.verbs.now (fields_of c.args.line.now) c.args.row c.are_known.result
    (c.are_known.ensures ∙ ap (list_all (is_known c.args.verbs.now)) c.parts.ensures) c.if-are_known.false
