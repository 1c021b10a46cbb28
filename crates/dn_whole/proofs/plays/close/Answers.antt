use Rattle.std.proofs.Common.{ℕ, List, length, refl, sym, subst, ap, ◌∙◌}
use Rattle.dn_world.specs.Finishes.{HaveEnded, IsFinishFault}
use Rattle.dn_world.specs.declared.finishes.FinishFault.{FinishFault}
use Rattle.dn_play.specs.declared.players.Player.{Player}
use Rattle.dn_whole.proofs.Closing.{drained_of, fills_of, events_printed, leaves_now, leaves_drained, done_of}
use Rattle.dn_whole.proofs.plays.close.Goals as goal

pub returns-in_default-clause-stops : goal.returns-in_default-clause-stops
returns-in_default-clause-stops g c = record { is = λ w lines r at over. leaves_now w lines (g.M.Memory.words c.args.mem.now) c.args.player c.args.out.now.items r (g.M.Memory.words c.args.mem.now) at refl }

pub returns-in_default-unanswered-clause-stops : goal.returns-in_default-unanswered-clause-stops
returns-in_default-unanswered-clause-stops g c = record { is = λ w lines r at over. leaves_now w lines (g.M.Memory.words c.args.mem.now) c.args.player c.args.out.now.items r (g.M.Memory.words c.args.mem.now) at refl }

pub returns-in-Err-OutOfMemory-clause-stops : goal.returns-in-Err-OutOfMemory-clause-stops
returns-in-Err-OutOfMemory-clause-stops g c = record { is = λ w lines r at over. leaves_now w lines (g.M.Memory.words c.args.mem.now) c.args.player c.args.out.now.items r (g.M.Memory.words c.finish.new.mem) at (subst (λ (x : FinishFault). IsFinishFault (g.M.Memory.words c.args.mem.now) c.args.player.world (g.M.Memory.words c.finish.new.mem) c.finish.new.self x) c.in-Err-OutOfMemory.field-0-is c.in-Err-OutOfMemory.ensures.fault).0 }

pub returns-in-Err-IndexFull-clause-closes : goal.returns-in-Err-IndexFull-clause-closes
returns-in-Err-IndexFull-clause-closes g c =
    let full = subst (λ (x : FinishFault). IsFinishFault (g.M.Memory.words c.args.mem.now) c.args.player.world (g.M.Memory.words c.finish.new.mem) c.finish.new.self x) c.in-Err-IndexFull.field-0-is c.in-Err-IndexFull.ensures.fault in record {
      is = λ w lines r at over. record {
        lane = full.lane;
        counter = c.in-Err-IndexFull.field-0-0;
        drained = drained_of w lines (g.M.Memory.words c.args.mem.now) c.args.player c.args.out.now.items r (g.M.Memory.words c.finish.new.mem) c.finish.new.self full.lane at full.finishes;
        fills = fills_of w lines (g.M.Memory.words c.args.mem.now) c.args.player c.args.out.now.items r (g.M.Memory.words c.finish.new.mem) c.finish.new.self full.lane c.in-Err-IndexFull.field-0-0 at c.finish.ensures.lanes full.at;
        full = full.full;
        output = events_printed w lines (g.M.Memory.words c.args.mem.now) c.args.player c.args.out.now.items c.unanswered.new.out.items r c.deref.result.now at (c.deref.ensures.value ∙ c.in-Ok.ensures) c.in-Ok-unanswered.ensures;
      };
    }

pub returns-in-Ok-summary-clause-closes : goal.returns-in-Ok-summary-clause-closes
returns-in-Ok-summary-clause-closes g c =
    let words : List ℕ = g.M.Memory.words c.args.mem.now in
    let now : List ℕ = g.M.Memory.words c.finish.new.mem in
    let p : Player = c.args.player in record {
      is = λ w lines r at over.
          done_of w lines words p c.args.out.now.items c.unanswered.new.out.items now c.summary.new.out.items r c.finish.new.self c.deref.result.now c.len.result at (record {
            calls_are = c.deref.ensures.value ∙ c.in-Ok.ensures;
            unanswered = c.in-Ok-unanswered.ensures;
            many = c.len.ensures ∙ c.in-Ok.calls.ok.0 ∙ ap (λ (cs : List (ℕ × ℕ)). length cs) (sym c.deref.ensures.value);
            finishes = c.in-Ok-finish.ensures.finishes;
            all = c.in-Ok-finish.ensures.drained;
            ended = c.in-Ok-finish.ensures.ended;
            leaves = c.finish.ensures.actors;
            lanes = c.finish.ensures.lanes;
            stays = c.finish.ensures.history;
            reports = λ told. c.in-Ok-summary.ensures now told (subst (λ (n : ℕ). HaveEnded now n c.finish.new.self.ended) (sym c.finish.ensures.lanes) c.in-Ok-finish.ensures.ended);
          });
    }

pub returns-clause-stops : goal.returns-clause-stops
returns-clause-stops g c = record {
  is = λ w lines r at over.
      leaves_drained r (length c.args.player.world.crew.cluster.nodes) (g.M.Memory.words c.finish.new.mem)
      (drained_of w lines (g.M.Memory.words c.args.mem.now) c.args.player c.args.out.now.items r (g.M.Memory.words c.finish.new.mem) c.finish.new.self (length c.args.player.world.crew.cluster.nodes) at c.in-Ok-finish.ensures.finishes);
}
