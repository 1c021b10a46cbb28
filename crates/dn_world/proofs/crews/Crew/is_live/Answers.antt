use Rattle.std.proofs.Common.{ℕ, List, ap, ◌==◌, ◌∙◌}
use Rattle.std.specs.List.{list_any}
use Rattle.dn_world.specs.State.{CrewState}
use Rattle.dn_world.proofs.crews.Crew.is_live.Goals as goal

pub returns : goal.returns
returns c words told receipts = c.holds.ensures ∙ ap (λ (ns : List ℕ). list_any (λ (n : ℕ). n == c.args.lane) ns) (c.deref.ensures.value ∙ ap (λ (z : CrewState). z.live) c.self.view_is)
