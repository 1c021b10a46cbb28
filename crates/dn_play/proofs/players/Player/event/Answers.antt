use Rattle.std.proofs.Common.{ℕ, List, sym, subst, ◌∙◌, arith}
use Rattle.dn_world.specs.State.{WorldState}
use Rattle.dn_run.specs.declared.counts.Counts.{Counts}
use Rattle.dn_play.specs.At.{StopsEvent}
use Rattle.dn_play.specs.Tally.{HasRoom}
use Rattle.dn_play.specs.declared.players.Player.{Player}
use Rattle.dn_play.proofs.Added.{counts_room}
use Rattle.dn_play.proofs.Given.{at_sound, gives_so, on_counted, if_pool, faults_pool, load_session}
use Rattle.dn_play.proofs.Numbered.{may_give}
use Rattle.dn_play.proofs.players.Player.event.Goals as goal

pub event-requires-clause-can : goal.event-requires-clause-can
event-requires-clause-can g c =
    let h = c.requires.can in at_sound h.start h.lines (g.M.Memory.words c.args.mem.now) c.args.self.now h.out h.run h.at

pub event-requires-clause-event : goal.event-requires-clause-event
event-requires-clause-event g c =
    let h = c.requires.can in may_give h.start h.lines (g.M.Memory.words c.args.mem.now) c.args.self.now h.out h.run c.args.event h.at h.may h.plain

pub done-requires : goal.done-requires
done-requires g c =
    let h = c.requires.can in record {
      room = subst (λ (k : Counts). HasRoom k) (sym h.at.counts) (counts_room h.run.past (omega (arith, h.at.events, h.at.few)));
      events = omega (arith, c.if-self-ge-MOST_EVENTS.false);
      loader = λ s is. load_session h.run.world c.args.event s h.may (sym c.loader_of-loader.ensures ∙ is);
    }

pub returns-in-Ok-clause-gives : goal.returns-in-Ok-clause-gives
returns-in-Ok-clause-gives g c =
    let words : List ℕ = g.M.Memory.words c.args.mem.now in
    let now : List ℕ = g.M.Memory.words c.event.new.mem in
    let p : Player = c.args.self.now in
    let v : WorldState = c.event.new.self in
    let h = c.requires.can in
    gives_so words p now v c.done.new.self c.args.event c.loader_of-loader.result c.in-Ok.outcome c.done.result h.plain (omega (arith, c.if-self-ge-MOST_EVENTS.false)) c.loader_of-loader.ensures c.in-Ok.ensures.happens c.done.ensures.done

pub returns-in-Ok-clause-count : goal.returns-in-Ok-clause-count
returns-in-Ok-clause-count g c = on_counted _ _ _ c.in-Ok.outcome _ _ c.done.result c.in-Ok.ensures.count c.done.ensures.done

pub returns-in-Ok-clause-stops : goal.returns-in-Ok-clause-stops
returns-in-Ok-clause-stops g c =
    if_pool c.in-Ok.outcome c.done.result (λ s. StopsEvent (g.M.Memory.words c.args.mem.now) c.args.self.now (g.M.Memory.words c.event.new.mem) c.done.new.self s) tt c.done.ensures.fault

pub returns-in-Ok-clause-faults : goal.returns-in-Ok-clause-faults
returns-in-Ok-clause-faults g c = faults_pool c.in-Ok.outcome _ _ c.done.result c.in-Ok.ensures.count c.done.ensures.fault
