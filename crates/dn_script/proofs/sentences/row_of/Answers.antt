use Rattle.std.proofs.Common.{◌∙◌, sym}
use Rattle.dn_script.specs.Sentence.{fields_of}
use Rattle.dn_script.proofs.LeadLemmas.{led}
use Rattle.dn_script.proofs.sentences.row_of.Goals as goal

pub returns-in-Some : goal.returns-in-Some
returns-in-Some c = c.if_known.ensures ∙ sym (led c.args.verbs.now (fields_of c.args.line.now) c.in-Some.row (sym c.lead.ensures ∙ c.in-Some.is))
