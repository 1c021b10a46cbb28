use Rattle.std.proofs.Common.{ℕ, length, refl, subst, ap}
use Rattle.dinomo.specs.declared.reading.InputFault.{InputFault}
use Rattle.dinomo.specs.Pool.{pool_segments}
use Rattle.dinomo.specs.Verdict.{Verdict, Bad, Played, IsRead, IsInputFault}
use Rattle.dinomo.proofs.Endings.{refused, not_read, no_memory}
use Rattle.dinomo.proofs.playing.play.Goals as goal

pub returns-in-Ok : goal.returns-in-Ok
returns-in-Ok g c =
    let read = subst (λ (n : ℕ). IsRead n (g.S.Source.left c.args.source.now) (g.S.Source.faults c.args.source.now) (g.S.Source.faults c.read_script.new.source) (Played c.in-Ok.script))
    (ap pool_segments c.size.ensures) c.in-Ok.ensures.ok in
    record {
      plays = record {
        verdict = Played c.in-Ok.script;
        told = read.told;
        ends = c.play_script.ensures.ends;
        read_to_end = λ is. c.in-Ok.ensures.end;
        read_fault = λ is. absurd (c.play_script.ensures.no_read is);
        no_read_fault = λ is. read.reads;
        write_fault = c.play_script.ensures.write_fault;
        no_write_fault = c.play_script.ensures.no_write_fault;
        pool_fault = c.play_script.ensures.pool_fault;
        no_fault = c.play_script.ensures.no_fault;
      };
    }

pub returns-in-Err-Bad : goal.returns-in-Err-Bad
returns-in-Err-Bad g c =
    let read = subst (λ (x : InputFault). IsInputFault (pool_segments c.size.result) (g.S.Source.left c.args.source.now) (g.S.Source.faults c.args.source.now) (g.S.Source.faults c.read_script.new.source) x)
    c.in-Err-Bad.field-0-is c.in-Err-Bad.ensures.fault in
    record {
      plays = refused (record {
        left = g.S.Source.left c.args.source.now;
        reads = g.S.Source.faults c.args.source.now;
        written = g.K.Sink.written c.args.sink.now;
        writes = g.K.Sink.faults c.args.sink.now;
        words = g.M.Memory.words c.args.pool.now;
        accesses = g.M.Memory.faults c.args.pool.now;
      }) (record {
        left = g.S.Source.left c.read_script.new.source;
        reads = g.S.Source.faults c.read_script.new.source;
        written = g.K.Sink.written c.refuse.new.sink;
        writes = g.K.Sink.faults c.refuse.new.sink;
        words = g.M.Memory.words c.args.pool.now;
        accesses = g.M.Memory.faults c.args.pool.now;
      }) (record { line = c.in-Err-Bad.line; cause = c.in-Err-Bad.cause }) c.refuse.result
          (subst (λ (n : ℕ). IsRead n (g.S.Source.left c.args.source.now) (g.S.Source.faults c.args.source.now) (g.S.Source.faults c.read_script.new.source) (Bad (record { line = c.in-Err-Bad.line; cause = c.in-Err-Bad.cause })))
          (ap pool_segments c.size.ensures) read)
          (c.refuse.ensures.ends (g.M.Memory.words c.args.pool.now)) c.refuse.ensures.no_read c.refuse.ensures.no_pool c.refuse.ensures.write_fault c.refuse.ensures.no_write_fault refl;
    }

pub returns-in-Err-Read : goal.returns-in-Err-Read
returns-in-Err-Read g c =
    record {
      plays = not_read (record {
        left = g.S.Source.left c.args.source.now;
        reads = g.S.Source.faults c.args.source.now;
        written = g.K.Sink.written c.args.sink.now;
        writes = g.K.Sink.faults c.args.sink.now;
        words = g.M.Memory.words c.args.pool.now;
        accesses = g.M.Memory.faults c.args.pool.now;
      }) (record {
        left = g.S.Source.left c.read_script.new.source;
        reads = g.S.Source.faults c.read_script.new.source;
        written = g.K.Sink.written c.args.sink.now;
        writes = g.K.Sink.faults c.args.sink.now;
        words = g.M.Memory.words c.args.pool.now;
        accesses = g.M.Memory.faults c.args.pool.now;
      })
          (subst (λ (x : InputFault). IsInputFault (pool_segments c.size.result) (g.S.Source.left c.args.source.now) (g.S.Source.faults c.args.source.now) (g.S.Source.faults c.read_script.new.source) x)
          c.in-Err-Read.field-0-is c.in-Err-Read.ensures.fault)
          (record { words = refl; unwritten = refl }) refl refl;
    }

pub returns-in-Err-OutOfMemory : goal.returns-in-Err-OutOfMemory
returns-in-Err-OutOfMemory g c =
    record {
      plays = no_memory (record {
        left = g.S.Source.left c.args.source.now;
        reads = g.S.Source.faults c.args.source.now;
        written = g.K.Sink.written c.args.sink.now;
        writes = g.K.Sink.faults c.args.sink.now;
        words = g.M.Memory.words c.args.pool.now;
        accesses = g.M.Memory.faults c.args.pool.now;
      }) (record {
        left = g.S.Source.left c.read_script.new.source;
        reads = g.S.Source.faults c.read_script.new.source;
        written = g.K.Sink.written c.args.sink.now;
        writes = g.K.Sink.faults c.args.sink.now;
        words = g.M.Memory.words c.args.pool.now;
        accesses = g.M.Memory.faults c.args.pool.now;
      })
          (subst (λ (x : InputFault). IsInputFault (pool_segments c.size.result) (g.S.Source.left c.args.source.now) (g.S.Source.faults c.args.source.now) (g.S.Source.faults c.read_script.new.source) x)
          c.in-Err-OutOfMemory.field-0-is c.in-Err-OutOfMemory.ensures.fault)
          (record { words = refl; unwritten = refl }) refl refl;
    }
