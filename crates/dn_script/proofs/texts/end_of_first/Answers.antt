use Rattle.dn_script.proofs.FieldLemmas.{parts_of, one_part}
use Rattle.dn_script.proofs.texts.end_of_first.Goals as goal

pub returns-clause-parts : goal.returns-clause-parts
returns-clause-parts c = parts_of _ c.args.text.now c.place_of.result c.place_of.ensures.value

pub returns-clause-one : goal.returns-clause-one
returns-clause-one c = one_part _ c.args.text.now c.place_of.result c.place_of.ensures.value
