use Rattle.std.proofs.Common.{ℕ, ◌≡◌, List, Some, refl}
use Rattle.dn_outcomes.specs.declared.events.Event.TheVariants.{Refresh}
use Rattle.dn_outcomes.specs.State.{World}
use Rattle.dn_script.specs.declared.scripts.Line.{Line}
use Rattle.dn_run.specs.Run.{Run, loader}
use Rattle.dn_play.specs.At.{IsAt, Stops}
use Rattle.dn_play.specs.declared.players.Player.{Player}
use Rattle.dn_play.proofs.More.{at_given, order_kept}
use Rattle.dn_play.proofs.Printed.{on_ok, if_unprinted}
use Rattle.dn_play.proofs.Stopping.{step_load, stops_event, load_more, leaves_event}
use Rattle.dn_play.proofs.players.Player.refresh.Goals as goal

pub returns-clause-goes : goal.returns-clause-goes
returns-clause-goes g c =
    let p : Player = c.args.self.now in
    let q : Player = c.event.new.self in
    let now : List ℕ = g.M.Memory.words c.event.new.mem in
    on_ok c.print_load.result (λ printed w lines r at.
    at_given w lines (g.M.Memory.words c.args.mem.now) p c.args.out.now.items r (Refresh c.args.session) r.doing now q q.order c.print_load.new.out.items c.in-Ok.outcome at c.requires.session at.going.doing refl
    (c.in-Ok.ensures.gives.is w lines c.args.out.now.items r at c.requires.session)
    (order_kept w lines (g.M.Memory.words c.args.mem.now) p c.args.out.now.items r (Refresh c.args.session) now q c.in-Ok.outcome at (c.in-Ok.ensures.gives.is w lines c.args.out.now.items r at c.requires.session) refl) printed) c.print_load.ensures.ok

pub returns-clause-stops : goal.returns-clause-stops
returns-clause-stops g c =
    let p : Player = c.args.self.now in
    let q : Player = c.event.new.self in
    let now : List ℕ = g.M.Memory.words c.event.new.mem in
    if_unprinted c.print_load.result (λ stop. (w : World) (lines : List Line) (r : Run) → IsAt w lines (g.M.Memory.words c.args.mem.now) p c.args.out.now.items r → loader r ≡ Some c.args.session
    → Stops w lines now q c.print_load.new.out.items r stop)
    (λ w lines r at loads. leaves_event r now p q (Refresh c.args.session) c.in-Ok.outcome r.doing (c.in-Ok.ensures.gives.is w lines c.args.out.now.items r at c.requires.session) (step_load r c.args.session loads))
    c.print_load.ensures.want

pub returns-in-Err-clause-stops : goal.returns-in-Err-clause-stops
returns-in-Err-clause-stops g c =
    λ w lines r at loads. stops_event w lines (g.M.Memory.words c.args.mem.now) c.args.self.now c.args.out.now.items r (g.M.Memory.words c.event.new.mem) c.event.new.self c.in-Err.stop at (load_more r c.args.session loads) c.in-Err.ensures.stops
