use Rattle.std.proofs.Common.{ℕ, List, refl}
use Rattle.dn_monitor.specs.Heirs.{no_heirs}
use Rattle.dn_outcomes.specs.Does.{does}
use Rattle.dn_outcomes.specs.declared.events.Event.TheVariants.{Start}
use Rattle.dn_run.specs.Doing.{left_of}
use Rattle.dn_run.specs.Run.{Run, goes_on}
use Rattle.dn_play.proofs.Leading.{stops_after}
use Rattle.dn_play.proofs.Leading.{leads_left, next_may}
use Rattle.dn_play.proofs.More.{at_next}
use Rattle.dn_play.proofs.Stopping.{step_next, stops_event, stops_print, next_more, leaves_event}
use Rattle.dn_play.proofs.players.Player.start.Goals as goal

pub returns-in-Err-clause-halts : goal.returns-in-Err-clause-halts
returns-in-Err-clause-halts g c = record {
  is = λ w lines r at may.
      stops_event w lines (g.M.Memory.words c.args.mem.now) c.args.self.now c.args.out.now.items r (g.M.Memory.words c.event.new.mem) c.event.new.self c.in-Err.stop at (next_more r (Start c.args.session c.args.named c.args.call) may) c.in-Err.ensures.stops;
}

pub returns-in-Err-print_start-clause-halts : goal.returns-in-Err-print_start-clause-halts
returns-in-Err-print_start-clause-halts g c =
    let now : List ℕ = g.M.Memory.words c.event.new.mem in record {
      is = λ w lines r at may.
          stops_print w lines now c.event.new.self c.print_start.new.out.items r c.in-Err-print_start.stop c.in-Err-print_start.ensures.want
          (leaves_event r now c.args.self.now c.event.new.self (Start c.args.session c.args.named c.args.call) c.in-Ok.outcome (left_of r.world r.doing (does r.world (Start c.args.session c.args.named c.args.call) no_heirs).outcome) (c.in-Ok.ensures.gives.is w lines c.args.out.now.items r at (next_may w lines (g.M.Memory.words c.args.mem.now) c.args.self.now c.args.out.now.items r (Start c.args.session c.args.named c.args.call) at may)) (step_next r (Start c.args.session c.args.named c.args.call) may));
    }

pub load-requires-clause-can : goal.load-requires-clause-can
load-requires-clause-can g c =
    let h = c.requires.can in
    let now : List ℕ = g.M.Memory.words c.event.new.mem in
    let given = c.in-Ok.ensures.gives.is h.start h.lines c.args.out.now.items h.run h.at (next_may h.start h.lines (g.M.Memory.words c.args.mem.now) c.args.self.now c.args.out.now.items h.run (Start c.args.session c.args.named c.args.call) h.at h.may_go) in record {
      start = h.start;
      lines = h.lines;
      run = goes_on h.run (Start c.args.session c.args.named c.args.call) (does h.run.world (Start c.args.session c.args.named c.args.call) no_heirs);
      at = at_next h.start h.lines (g.M.Memory.words c.args.mem.now) c.args.self.now c.args.out.now.items h.run (Start c.args.session c.args.named c.args.call) now c.event.new.self c.print_start.new.out.items c.in-Ok.outcome h.at h.may_go given refl c.in-Ok-print_start.ensures.ok;
      may_go = refl;
    }

pub returns-in-Ok-load-clause-goes : goal.returns-in-Ok-load-clause-goes
returns-in-Ok-load-clause-goes g c =
    let mid : List ℕ = g.M.Memory.words c.event.new.mem in
    let now : List ℕ = g.M.Memory.words c.load.new.mem in
    let e = Start c.args.session c.args.named c.args.call in record {
      is = λ w lines r at may.
          let given = c.in-Ok.ensures.gives.is w lines c.args.out.now.items r at (next_may w lines (g.M.Memory.words c.args.mem.now) c.args.self.now c.args.out.now.items r (Start c.args.session c.args.named c.args.call) at may) in
          let x : Run = goes_on r e (does r.world e no_heirs) in
          leads_left w lines now c.load.new.self c.load.new.out.items r x c.in-Ok.outcome (does r.world e no_heirs).outcome (step_next r e may) refl refl given.outcome
          (c.in-Ok-load.ensures.goes.is w lines x
          (at_next w lines (g.M.Memory.words c.args.mem.now) c.args.self.now c.args.out.now.items r e mid c.event.new.self c.print_start.new.out.items c.in-Ok.outcome at may given refl c.in-Ok-print_start.ensures.ok)
          (refl));
    }

pub returns-in-Err-load-clause-halts : goal.returns-in-Err-load-clause-halts
returns-in-Err-load-clause-halts g c =
    let mid : List ℕ = g.M.Memory.words c.event.new.mem in
    let now : List ℕ = g.M.Memory.words c.load.new.mem in
    let e = Start c.args.session c.args.named c.args.call in record {
      is = λ w lines r at may.
          let given = c.in-Ok.ensures.gives.is w lines c.args.out.now.items r at (next_may w lines (g.M.Memory.words c.args.mem.now) c.args.self.now c.args.out.now.items r (Start c.args.session c.args.named c.args.call) at may) in
          let x : Run = goes_on r e (does r.world e no_heirs) in
          stops_after w lines now c.load.new.self c.load.new.out.items r x c.in-Err-load.stop (step_next r e may)
          (c.in-Err-load.ensures.halts.is w lines x
          (at_next w lines (g.M.Memory.words c.args.mem.now) c.args.self.now c.args.out.now.items r e mid c.event.new.self c.print_start.new.out.items c.in-Ok.outcome at may given refl c.in-Ok-print_start.ensures.ok)
          (refl));
    }

pub event-requires : goal.event-requires
event-requires g c = (let h = c.requires.can in record {
  can = record {
    out = c.args.out.now.items;
    start = h.start;
    lines = h.lines;
    run = h.run;
    at = h.at;
    may = next_may h.start h.lines (g.M.Memory.words c.args.mem.now) c.args.self.now c.args.out.now.items h.run (Start c.args.session c.args.named c.args.call) h.at h.may_go;
    plain = refl;
  };
})
