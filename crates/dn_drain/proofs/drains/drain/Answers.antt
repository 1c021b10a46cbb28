use Rattle.std.proofs.Common.{suc, Option, ◌∙◌, subst, arith}
use Rattle.dn_cluster.specs.Machine.{IsMade}
use Rattle.dn_drain.specs.Stepped.{turn_in, IsStepped}
use Rattle.dn_drain.specs.declared.drains.Merged.{Merged}
use Rattle.dn_drain.proofs.Acting.{others_stay}
use Rattle.dn_drain.proofs.Draining.{begins, begun, further, fault_so, drained_idle, merged, still_sound}
use Rattle.dn_drain.proofs.Leaving.{words_stay}
use Rattle.dn_drain.proofs.drains.drain.Goals as goal

pub returns-in-Err-clause-fault : goal.returns-in-Err-clause-fault
returns-in-Err-clause-fault g c = fault_so (g.M.Memory.words c.args.mem.now) (g.M.Memory.words c.args.mem.now) (g.M.Memory.words c.step-first.new.mem) c.args.cluster.now c.args.cluster.now c.step-first.new.cluster c.args.lane 0 c.in-Err.fault (begins (g.M.Memory.words c.args.mem.now) c.args.cluster.now c.args.lane) c.in-Err.ensures.fault

pub loop-merged-init : goal.loop-merged-init
loop-merged-init g c = record {
  count = 0;
  going = begun (g.M.Memory.words c.args.mem.now) (g.M.Memory.words c.step-first.new.mem) c.args.cluster.now c.step-first.new.cluster c.args.lane c.in_default.field-0 c.in_default.ensures.answer;
  words = c.step-first.ensures.words;
  others = c.step-first.ensures.others;
  segments = c.step-first.ensures.segments;
  lanes = c.step-first.ensures.lanes;
  faults = c.in_default.ensures.count;
}

pub step-requires-clause-sound : goal.step-requires-clause-sound
step-requires-clause-sound g c = still_sound (g.M.Memory.words c.args.mem.now) (g.M.Memory.words c.loop-merged.mem) c.args.cluster.now c.loop-merged.cluster c.args.lane (suc c.loop-merged.invariant.count) c.loop-merged.invariant.going.acted c.requires.sound

pub loop-merged-preserved : goal.loop-merged-preserved
loop-merged-preserved g c = record {
  count = suc c.loop-merged.invariant.count;
  going = further (g.M.Memory.words c.args.mem.now) (g.M.Memory.words c.loop-merged.mem) (g.M.Memory.words c.step.new.mem) c.args.cluster.now c.loop-merged.cluster c.step.new.cluster c.args.lane (suc c.loop-merged.invariant.count) c.loop-merged.invariant.going
      (subst (λ (o : Option Merged). IsStepped (g.M.Memory.words c.loop-merged.mem) c.loop-merged.cluster (g.M.Memory.words c.step.new.mem) c.step.new.cluster c.args.lane (turn_in o)) c.in-Ok-None.field-0-is c.in-Ok-None.ensures.answer);
  words = words_stay c.args.lane (g.M.Memory.words c.args.mem.now) (g.M.Memory.words c.loop-merged.mem) (g.M.Memory.words c.step.new.mem) c.loop-merged.invariant.words c.step.ensures.words;
  others = others_stay c.args.lane c.args.cluster.now c.loop-merged.cluster c.step.new.cluster c.loop-merged.invariant.others c.step.ensures.others;
  segments = c.step.ensures.segments ∙ c.loop-merged.invariant.segments;
  lanes = c.step.ensures.lanes ∙ c.loop-merged.invariant.lanes;
  faults = c.in-Ok-None.ensures.count ∙ c.loop-merged.invariant.faults;
}

pub returns-in-Ok-Some-clause-drained : goal.returns-in-Ok-Some-clause-drained
returns-in-Ok-Some-clause-drained g c =
    drained_idle (g.M.Memory.words c.args.mem.now) (g.M.Memory.words c.loop-merged.mem) (g.M.Memory.words c.step.new.mem) c.args.cluster.now c.loop-merged.cluster c.step.new.cluster c.args.lane c.loop-merged.invariant.count c.in-Ok-Some.merged.gate c.in-Ok-Some.merged.mark c.loop-merged.invariant.going
    (subst (λ (o : Option Merged). IsStepped (g.M.Memory.words c.loop-merged.mem) c.loop-merged.cluster (g.M.Memory.words c.step.new.mem) c.step.new.cluster c.args.lane (turn_in o)) c.in-Ok-Some.field-0-is c.in-Ok-Some.ensures.answer)

pub returns-in-Ok-Some-clause-merged : goal.returns-in-Ok-Some-clause-merged
returns-in-Ok-Some-clause-merged g c =
    let made : IsMade c.loop-merged.cluster c.args.lane = (c.requires.made.0, omega (arith, c.requires.made.1, c.loop-merged.invariant.lanes)) in
    merged (g.M.Memory.words c.args.mem.now) (g.M.Memory.words c.loop-merged.mem) (g.M.Memory.words c.step.new.mem) c.args.cluster.now c.loop-merged.cluster c.step.new.cluster c.args.lane c.loop-merged.invariant.count c.in-Ok-Some.merged.gate c.in-Ok-Some.merged.mark c.loop-merged.invariant.going
    (subst (λ (o : Option Merged). IsStepped (g.M.Memory.words c.loop-merged.mem) c.loop-merged.cluster (g.M.Memory.words c.step.new.mem) c.step.new.cluster c.args.lane (turn_in o)) c.in-Ok-Some.field-0-is c.in-Ok-Some.ensures.answer)
    (still_sound (g.M.Memory.words c.args.mem.now) (g.M.Memory.words c.loop-merged.mem) c.args.cluster.now c.loop-merged.cluster c.args.lane (suc c.loop-merged.invariant.count) c.loop-merged.invariant.going.acted c.requires.sound) made

pub returns-in-Ok-Some-clause-words : goal.returns-in-Ok-Some-clause-words
returns-in-Ok-Some-clause-words g c = words_stay c.args.lane (g.M.Memory.words c.args.mem.now) (g.M.Memory.words c.loop-merged.mem) (g.M.Memory.words c.step.new.mem) c.loop-merged.invariant.words c.step.ensures.words

pub returns-in-Ok-Some-clause-others : goal.returns-in-Ok-Some-clause-others
returns-in-Ok-Some-clause-others g c = others_stay c.args.lane c.args.cluster.now c.loop-merged.cluster c.step.new.cluster c.loop-merged.invariant.others c.step.ensures.others

pub returns-in-Err-step-clause-fault : goal.returns-in-Err-step-clause-fault
returns-in-Err-step-clause-fault g c = fault_so (g.M.Memory.words c.args.mem.now) (g.M.Memory.words c.loop-merged.mem) (g.M.Memory.words c.step.new.mem) c.args.cluster.now c.loop-merged.cluster c.step.new.cluster c.args.lane (suc c.loop-merged.invariant.count) c.in-Err-step.fault c.loop-merged.invariant.going c.in-Err-step.ensures.fault

pub returns-in-Err-step-clause-words : goal.returns-in-Err-step-clause-words
returns-in-Err-step-clause-words g c = words_stay c.args.lane (g.M.Memory.words c.args.mem.now) (g.M.Memory.words c.loop-merged.mem) (g.M.Memory.words c.step.new.mem) c.loop-merged.invariant.words c.step.ensures.words

pub returns-in-Err-step-clause-others : goal.returns-in-Err-step-clause-others
returns-in-Err-step-clause-others g c = others_stay c.args.lane c.args.cluster.now c.loop-merged.cluster c.step.new.cluster c.loop-merged.invariant.others c.step.ensures.others
