use Rattle.std.proofs.Common.{ap, sym, ◌∙◌, Option, ℕ}
use Rattle.dn_outcomes.specs.State.{may_name}
use Rattle.dn_world.specs.State.{world_of}
use Rattle.dn_world.proofs.crews.Crew.may_name.Goals as goal

pub returns-in-Some : goal.returns-in-Some
returns-in-Some c = λ words told receipts. c.is_made.ensures words told receipts ∙ sym (ap (λ (o : Option ℕ). may_name (world_of words c.args.self.now told receipts) o) c.in-Some.is)
