use Rattle.std.proofs.Common.{sym, ◌∙◌}
use Rattle.dinomo.proofs.Endings.{no_fault, written}
use Rattle.dinomo.proofs.playing.play_script.Goals as goal

pub returns-in-Ok-clause-ends : goal.returns-in-Ok-clause-ends
returns-in-Ok-clause-ends g c =
    written c.args.script
    (record {
      words = g.M.Memory.words c.args.pool.now;
      now = g.M.Memory.words c.play.new.mem;
      old = g.K.Sink.written c.args.sink.now;
      new = g.K.Sink.written c.write_out.new.sink;
    }) c.in-Ok.end c.play.new.out.items c.as_slice.result.now c.status_of.result c.write_out.result c.in-Ok.ensures.plays c.as_slice.ensures.value
    c.status_of.ensures c.write_out.ensures.ends c.write_out.ensures.whole c.write_out.ensures.part

pub returns-in-Ok-clause-write_fault : goal.returns-in-Ok-clause-write_fault
returns-in-Ok-clause-write_fault g c = λ is. c.write_out.ensures.cause is (λ f. no_fault c.in-Ok.end (sym c.status_of.ensures ∙ f))
