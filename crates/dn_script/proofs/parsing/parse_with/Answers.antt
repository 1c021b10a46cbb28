use Rattle.dn_script.specs.declared.scripts.Script.{Script}
use Rattle.dn_script.proofs.Walks.{if_ok}
use Rattle.dn_script.proofs.LineFits.{script_fits}
use Rattle.dn_script.proofs.parsing.parse_with.Goals as goal

pub returns-clause-fits : goal.returns-clause-fits
returns-clause-fits c = if_ok c.read_script.result (λ (s : Script) h. script_fits c.args.verbs.now c.args.mode c.args.segments c.args.bytes.now s h) c.read_script.ensures.script
