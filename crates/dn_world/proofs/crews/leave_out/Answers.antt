use Rattle.std.proofs.Common.{rules, ℕ, ◌==◌, not}
use Rattle.std.proofs.lemmas.Fn.{filter_same}
use Rattle.dn_world.proofs.crews.leave_out.Goals as goal

pub returns : goal.returns
returns c = filter_same _ (λ (n : ℕ). not (n == c.args.lane)) _ (λ x b f r. search rules) c.args.lanes.now.items c.retain.new.self.items c.retain.ensures.filtered
