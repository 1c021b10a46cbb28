use Rattle.std.proofs.Common.{Option, refl, subst, sym}
use Rattle.dn_outcomes.specs.Orders.{release}
use Rattle.dn_outcomes.specs.declared.leaving.Leaving.{Leaving}
use Rattle.dn_world.specs.Comes.{Turns}
use Rattle.dn_world.proofs.crews.Crew.release.Goals as goal

pub returns-in-Some : goal.returns-in-Some
returns-in-Some c = subst (λ (o : Option Leaving). Turns c.args.self.now c.release_at.new.self (λ w. release w o)) (sym c.in-Some.is) c.release_at.ensures

pub returns-in_default : goal.returns-in_default
returns-in_default c = subst (λ (o : Option Leaving). Turns c.args.self.now c.args.self.now (λ w. release w o)) (sym c.in_default.is) (record { is = λ words told receipts. refl })
