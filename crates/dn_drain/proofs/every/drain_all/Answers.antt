use Rattle.std.proofs.Common.{ℕ, ◌+◌, ◌-◌, ◌≡◌, length, slice_set, refl, sym, ◌∙◌, subst, arith}
use Rattle.dn_cluster.specs.Does.{CanBeSound}
use Rattle.dn_cluster.specs.Machine.{IsMade}
use Rattle.dn_drain.specs.All.{AreDrained, AreMerged}
use Rattle.dn_drain.proofs.Acting.{its_lane, same_actors, actors_stay}
use Rattle.dn_drain.proofs.Lanes.{same_logs, logs_stay, merged_none, merged_more, merged_before, sound_same, sound_more, can_still, drained_more}
use Rattle.dn_drain.proofs.every.drain_all.Goals as goal

pub loop-at-init : goal.loop-at-init
loop-at-init g c = record {
  drained = (refl, refl);
  merged = merged_none (g.M.Memory.words c.args.mem.now) c.args.ended.now;
  sound = sound_same (g.M.Memory.words c.args.mem.now) c.args.cluster.now;
  words = same_logs (g.M.Memory.words c.args.mem.now);
  actors = same_actors c.args.cluster.now;
  segments = refl;
  lanes = refl;
  faults = refl;
}

pub drain-requires-clause-sound : goal.drain-requires-clause-sound
drain-requires-clause-sound g c = can_still (g.M.Memory.words c.args.mem.now) (g.M.Memory.words c.loop-at.mem) c.args.cluster.now c.loop-at.cluster c.loop-at.invariant.sound c.requires.sound

pub loop-at-preserved : goal.loop-at-preserved
loop-at-preserved g c =
    let can : CanBeSound (g.M.Memory.words c.loop-at.mem) c.loop-at.cluster = can_still (g.M.Memory.words c.args.mem.now) (g.M.Memory.words c.loop-at.mem) c.args.cluster.now c.loop-at.cluster c.loop-at.invariant.sound c.requires.sound in
    let made : IsMade c.loop-at.cluster (c.loop-at.at + 1) = (omega arith, omega (arith, c.loop-at-test.true, c.lanes-at-end.ensures, c.loop-at.invariant.lanes)) in
    record {
      drained = drained_more c.loop-at.at (g.M.Memory.words c.args.mem.now) (g.M.Memory.words c.loop-at.mem) (g.M.Memory.words c.drain.new.mem) c.args.cluster.now c.loop-at.cluster c.drain.new.cluster c.in-Ok.merged c.loop-at.invariant.drained c.in-Ok.ensures.drained;
      merged = subst (λ (i : ℕ). AreMerged (g.M.Memory.words c.drain.new.mem) (c.loop-at.at + 1) (slice_set c.loop-at.ended i c.in-Ok.merged)) (sym c.from.ensures)
          (merged_more c.loop-at.at (g.M.Memory.words c.loop-at.mem) (g.M.Memory.words c.drain.new.mem) c.loop-at.ended c.in-Ok.merged (omega (arith, (its_lane (g.M.Memory.words c.loop-at.mem) c.loop-at.cluster (c.loop-at.at + 1) can made).below)) c.loop-at.invariant.merged c.drain.ensures.words c.in-Ok.ensures.merged);
      sound = sound_more (c.loop-at.at + 1) (g.M.Memory.words c.args.mem.now) (g.M.Memory.words c.loop-at.mem) (g.M.Memory.words c.drain.new.mem) c.args.cluster.now c.loop-at.cluster c.drain.new.cluster c.in-Ok.merged c.loop-at.invariant.sound c.in-Ok.ensures.drained;
      words = logs_stay (c.loop-at.at + 1) (g.M.Memory.words c.args.mem.now) (g.M.Memory.words c.loop-at.mem) (g.M.Memory.words c.drain.new.mem) (its_lane (g.M.Memory.words c.loop-at.mem) c.loop-at.cluster (c.loop-at.at + 1) can made) c.loop-at.invariant.words c.drain.ensures.words;
      actors = actors_stay c.args.cluster.now c.loop-at.cluster c.drain.new.cluster c.loop-at.invariant.actors c.drain.ensures.others.actors;
      segments = c.drain.ensures.segments ∙ c.loop-at.invariant.segments;
      lanes = c.drain.ensures.lanes ∙ c.loop-at.invariant.lanes;
      faults = c.in-Ok.ensures.count ∙ c.loop-at.invariant.faults;
    }

pub returns-clause-drained : goal.returns-clause-drained
returns-clause-drained g c =
    let all : c.loop-at.at ≡ length c.args.cluster.now.nodes = omega (arith, c.loop-at-test.false, c.loop-at.auto.at-end, c.lanes-at-end.ensures) in
    subst (λ (i : ℕ). AreDrained (g.M.Memory.words c.args.mem.now) c.args.cluster.now i (g.M.Memory.words c.loop-at.mem) c.loop-at.cluster) all c.loop-at.invariant.drained

pub returns-clause-merged : goal.returns-clause-merged
returns-clause-merged g c =
    let all : c.loop-at.at ≡ length c.args.cluster.now.nodes = omega (arith, c.loop-at-test.false, c.loop-at.auto.at-end, c.lanes-at-end.ensures) in
    subst (λ (i : ℕ). AreMerged (g.M.Memory.words c.loop-at.mem) i c.loop-at.ended) all c.loop-at.invariant.merged

pub returns-in-Err-clause-words : goal.returns-in-Err-clause-words
returns-in-Err-clause-words g c =
    let can : CanBeSound (g.M.Memory.words c.loop-at.mem) c.loop-at.cluster = can_still (g.M.Memory.words c.args.mem.now) (g.M.Memory.words c.loop-at.mem) c.args.cluster.now c.loop-at.cluster c.loop-at.invariant.sound c.requires.sound in
    let made : IsMade c.loop-at.cluster (c.loop-at.at + 1) = (omega arith, omega (arith, c.loop-at-test.true, c.lanes-at-end.ensures, c.loop-at.invariant.lanes)) in
    logs_stay (c.loop-at.at + 1) (g.M.Memory.words c.args.mem.now) (g.M.Memory.words c.loop-at.mem) (g.M.Memory.words c.drain.new.mem) (its_lane (g.M.Memory.words c.loop-at.mem) c.loop-at.cluster (c.loop-at.at + 1) can made) c.loop-at.invariant.words c.drain.ensures.words

pub returns-in-Err-clause-actors : goal.returns-in-Err-clause-actors
returns-in-Err-clause-actors g c = actors_stay c.args.cluster.now c.loop-at.cluster c.drain.new.cluster c.loop-at.invariant.actors c.drain.ensures.others.actors

pub returns-in-Err-clause-before : goal.returns-in-Err-clause-before
returns-in-Err-clause-before g c =
    let can : CanBeSound (g.M.Memory.words c.loop-at.mem) c.loop-at.cluster = can_still (g.M.Memory.words c.args.mem.now) (g.M.Memory.words c.loop-at.mem) c.args.cluster.now c.loop-at.cluster c.loop-at.invariant.sound c.requires.sound in
    let made : IsMade c.loop-at.cluster (c.loop-at.at + 1) = (omega arith, omega (arith, c.loop-at-test.true, c.lanes-at-end.ensures, c.loop-at.invariant.lanes)) in
    let same : c.loop-at.at ≡ c.loop-at.at + 1 - 1 = omega arith in
    subst (λ (i : ℕ). AreMerged (g.M.Memory.words c.drain.new.mem) i c.loop-at.ended) same
    (merged_before c.loop-at.at (g.M.Memory.words c.loop-at.mem) (g.M.Memory.words c.drain.new.mem) c.loop-at.ended (omega (arith, (its_lane (g.M.Memory.words c.loop-at.mem) c.loop-at.cluster (c.loop-at.at + 1) can made).below)) c.loop-at.invariant.merged c.drain.ensures.words)
