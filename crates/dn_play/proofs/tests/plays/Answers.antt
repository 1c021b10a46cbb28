use Rattle.std.proofs.Common.{ℕ, List, sym, subst}
use Rattle.dn_script.specs.declared.scripts.Line.{Line}
use Rattle.dn_play.specs.At.{CanGo, Follow}
use Rattle.dn_play.proofs.Opened.{can_play}
use Rattle.dn_play.proofs.tests.plays.Goals as goal

pub lines-requires : goal.lines-requires
lines-requires g c = record {
  can = subst (λ (ls : List Line). CanGo c.open.new.mem c.in_ok-player.player c.new-out.result.items (Follow ls)) (sym c.into_vec.ensures)
      (subst (λ (out : List ℕ). CanGo c.open.new.mem c.in_ok-player.player out (Follow c.in-Ok.script.lines)) (sym c.new-out.ensures.items)
      (can_play c.in_ok-pool.pool c.open.new.mem c.in_ok-player.player c.in-Ok.script.segments c.in-Ok.script.nodes c.in-Ok.script.lines c.in_ok-player.ensures.started c.in-Ok.ensures.fits.fit));
}
