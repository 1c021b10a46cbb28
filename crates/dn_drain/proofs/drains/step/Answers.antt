use Rattle.std.proofs.Common.{inl, inr, ◌∙◌, ap, subst}
use Rattle.dn_merge.specs.declared.mergers.MergeTurn.{MergeTurn}
use Rattle.dn_merge.specs.declared.mergers.MergeTurn.TheVariants.{More, Idle, IndexFull}
use Rattle.dn_cluster.specs.Acting.{failed}
use Rattle.dn_cluster.specs.declared.actors.Acted.{Acted}
use Rattle.dn_cluster.specs.declared.actors.Acted.TheVariants as acted
use Rattle.dn_drain.specs.Stepped.{IsStepped}
use Rattle.dn_drain.proofs.Acting.{HasCalled, stepped, leaves_others, step_leaves, step_falls, step_full, fail_leaves, same_others, IsOfMerger, of_merger_alone}
use Rattle.dn_drain.proofs.drains.step.Goals as goal

pub unreachable-requires : goal.unreachable-requires
unreachable-requires g c =
    let h : IsOfMerger c.act.result = of_merger_alone (g.M.Memory.words c.args.mem.now) c.args.cluster.now c.args.lane c.act.result c.requires.made c.act.ensures.answer in
    elim c.in-Nothing.is [
      | inl e ↦ subst IsOfMerger e h
      | inr o ↦ elim o [
        | inl e ↦ subst IsOfMerger e.1 h
        | inr q ↦ elim q [ inl e ↦ subst IsOfMerger e.1 h | inr e ↦ subst IsOfMerger e.1 h ]
      ]
    ]

pub returns-in-Merger-More-clause-answer : goal.returns-in-Merger-More-clause-answer
returns-in-Merger-More-clause-answer g c =
    let called : HasCalled (g.M.Memory.words c.args.mem.now) (g.M.Memory.words c.act.new.mem) c.args.cluster.now c.act.new.self c.args.lane c.act.result More =
    record { is = c.in-Merger-More.is ∙ ap (λ (t : MergeTurn). let x : Acted = acted.Merger t in x) c.in-Merger-More.field-0-is; answer = c.act.ensures.answer; event = c.act.ensures.event } in
    stepped (g.M.Memory.words c.args.mem.now) (g.M.Memory.words c.act.new.mem) c.args.cluster.now c.act.new.self c.args.lane c.act.result More c.requires.sound c.requires.made called

pub returns-in-Merger-More-clause-falls : goal.returns-in-Merger-More-clause-falls
returns-in-Merger-More-clause-falls g c =
    let called : HasCalled (g.M.Memory.words c.args.mem.now) (g.M.Memory.words c.act.new.mem) c.args.cluster.now c.act.new.self c.args.lane c.act.result More =
    record { is = c.in-Merger-More.is ∙ ap (λ (t : MergeTurn). let x : Acted = acted.Merger t in x) c.in-Merger-More.field-0-is; answer = c.act.ensures.answer; event = c.act.ensures.event } in
    let s : IsStepped (g.M.Memory.words c.args.mem.now) c.args.cluster.now (g.M.Memory.words c.act.new.mem) c.act.new.self c.args.lane More = stepped (g.M.Memory.words c.args.mem.now) (g.M.Memory.words c.act.new.mem) c.args.cluster.now c.act.new.self c.args.lane c.act.result More c.requires.sound c.requires.made called in
    step_falls (g.M.Memory.words c.args.mem.now) (g.M.Memory.words c.act.new.mem) c.args.cluster.now c.act.new.self c.args.lane c.requires.sound c.requires.made s

pub returns-in-Merger-More-clause-words : goal.returns-in-Merger-More-clause-words
returns-in-Merger-More-clause-words g c =
    let called : HasCalled (g.M.Memory.words c.args.mem.now) (g.M.Memory.words c.act.new.mem) c.args.cluster.now c.act.new.self c.args.lane c.act.result More =
    record { is = c.in-Merger-More.is ∙ ap (λ (t : MergeTurn). let x : Acted = acted.Merger t in x) c.in-Merger-More.field-0-is; answer = c.act.ensures.answer; event = c.act.ensures.event } in
    let s : IsStepped (g.M.Memory.words c.args.mem.now) c.args.cluster.now (g.M.Memory.words c.act.new.mem) c.act.new.self c.args.lane More = stepped (g.M.Memory.words c.args.mem.now) (g.M.Memory.words c.act.new.mem) c.args.cluster.now c.act.new.self c.args.lane c.act.result More c.requires.sound c.requires.made called in
    step_leaves (g.M.Memory.words c.args.mem.now) (g.M.Memory.words c.act.new.mem) c.args.cluster.now c.act.new.self c.args.lane More c.requires.sound c.requires.made s

pub returns-in-Merger-More-clause-others : goal.returns-in-Merger-More-clause-others
returns-in-Merger-More-clause-others g c =
    let called : HasCalled (g.M.Memory.words c.args.mem.now) (g.M.Memory.words c.act.new.mem) c.args.cluster.now c.act.new.self c.args.lane c.act.result More =
    record { is = c.in-Merger-More.is ∙ ap (λ (t : MergeTurn). let x : Acted = acted.Merger t in x) c.in-Merger-More.field-0-is; answer = c.act.ensures.answer; event = c.act.ensures.event } in
    leaves_others (g.M.Memory.words c.args.mem.now) (g.M.Memory.words c.act.new.mem) c.args.cluster.now c.act.new.self c.args.lane c.act.result More c.requires.sound c.requires.made called

pub returns-in-Merger-Idle-clause-answer : goal.returns-in-Merger-Idle-clause-answer
returns-in-Merger-Idle-clause-answer g c =
    let called : HasCalled (g.M.Memory.words c.args.mem.now) (g.M.Memory.words c.act.new.mem) c.args.cluster.now c.act.new.self c.args.lane c.act.result (Idle c.in-Merger-Idle.gate c.in-Merger-Idle.mark) =
    record { is = c.in-Merger-Idle.is ∙ ap (λ (t : MergeTurn). let x : Acted = acted.Merger t in x) c.in-Merger-Idle.field-0-is; answer = c.act.ensures.answer; event = c.act.ensures.event } in
    stepped (g.M.Memory.words c.args.mem.now) (g.M.Memory.words c.act.new.mem) c.args.cluster.now c.act.new.self c.args.lane c.act.result (Idle c.in-Merger-Idle.gate c.in-Merger-Idle.mark) c.requires.sound c.requires.made called

pub returns-in-Merger-Idle-clause-words : goal.returns-in-Merger-Idle-clause-words
returns-in-Merger-Idle-clause-words g c =
    let called : HasCalled (g.M.Memory.words c.args.mem.now) (g.M.Memory.words c.act.new.mem) c.args.cluster.now c.act.new.self c.args.lane c.act.result (Idle c.in-Merger-Idle.gate c.in-Merger-Idle.mark) =
    record { is = c.in-Merger-Idle.is ∙ ap (λ (t : MergeTurn). let x : Acted = acted.Merger t in x) c.in-Merger-Idle.field-0-is; answer = c.act.ensures.answer; event = c.act.ensures.event } in
    let s : IsStepped (g.M.Memory.words c.args.mem.now) c.args.cluster.now (g.M.Memory.words c.act.new.mem) c.act.new.self c.args.lane (Idle c.in-Merger-Idle.gate c.in-Merger-Idle.mark) = stepped (g.M.Memory.words c.args.mem.now) (g.M.Memory.words c.act.new.mem) c.args.cluster.now c.act.new.self c.args.lane c.act.result (Idle c.in-Merger-Idle.gate c.in-Merger-Idle.mark) c.requires.sound c.requires.made called in
    step_leaves (g.M.Memory.words c.args.mem.now) (g.M.Memory.words c.act.new.mem) c.args.cluster.now c.act.new.self c.args.lane (Idle c.in-Merger-Idle.gate c.in-Merger-Idle.mark) c.requires.sound c.requires.made s

pub returns-in-Merger-Idle-clause-others : goal.returns-in-Merger-Idle-clause-others
returns-in-Merger-Idle-clause-others g c =
    let called : HasCalled (g.M.Memory.words c.args.mem.now) (g.M.Memory.words c.act.new.mem) c.args.cluster.now c.act.new.self c.args.lane c.act.result (Idle c.in-Merger-Idle.gate c.in-Merger-Idle.mark) =
    record { is = c.in-Merger-Idle.is ∙ ap (λ (t : MergeTurn). let x : Acted = acted.Merger t in x) c.in-Merger-Idle.field-0-is; answer = c.act.ensures.answer; event = c.act.ensures.event } in
    leaves_others (g.M.Memory.words c.args.mem.now) (g.M.Memory.words c.act.new.mem) c.args.cluster.now c.act.new.self c.args.lane c.act.result (Idle c.in-Merger-Idle.gate c.in-Merger-Idle.mark) c.requires.sound c.requires.made called

pub returns-in-Merger-IndexFull-clause-fault : goal.returns-in-Merger-IndexFull-clause-fault
returns-in-Merger-IndexFull-clause-fault g c =
    let called : HasCalled (g.M.Memory.words c.args.mem.now) (g.M.Memory.words c.act.new.mem) c.args.cluster.now c.act.new.self c.args.lane c.act.result (IndexFull c.in-Merger-IndexFull.counter) =
    record { is = c.in-Merger-IndexFull.is ∙ ap (λ (t : MergeTurn). let x : Acted = acted.Merger t in x) c.in-Merger-IndexFull.field-0-is; answer = c.act.ensures.answer; event = c.act.ensures.event } in
    stepped (g.M.Memory.words c.args.mem.now) (g.M.Memory.words c.act.new.mem) c.args.cluster.now c.act.new.self c.args.lane c.act.result (IndexFull c.in-Merger-IndexFull.counter) c.requires.sound c.requires.made called

pub returns-in-Merger-IndexFull-clause-full : goal.returns-in-Merger-IndexFull-clause-full
returns-in-Merger-IndexFull-clause-full g c =
    let called : HasCalled (g.M.Memory.words c.args.mem.now) (g.M.Memory.words c.act.new.mem) c.args.cluster.now c.act.new.self c.args.lane c.act.result (IndexFull c.in-Merger-IndexFull.counter) =
    record { is = c.in-Merger-IndexFull.is ∙ ap (λ (t : MergeTurn). let x : Acted = acted.Merger t in x) c.in-Merger-IndexFull.field-0-is; answer = c.act.ensures.answer; event = c.act.ensures.event } in
    let s : IsStepped (g.M.Memory.words c.args.mem.now) c.args.cluster.now (g.M.Memory.words c.act.new.mem) c.act.new.self c.args.lane (IndexFull c.in-Merger-IndexFull.counter) = stepped (g.M.Memory.words c.args.mem.now) (g.M.Memory.words c.act.new.mem) c.args.cluster.now c.act.new.self c.args.lane c.act.result (IndexFull c.in-Merger-IndexFull.counter) c.requires.sound c.requires.made called in
    step_full (g.M.Memory.words c.args.mem.now) (g.M.Memory.words c.act.new.mem) c.args.cluster.now c.act.new.self c.args.lane c.in-Merger-IndexFull.counter c.requires.sound c.requires.made s

pub returns-in-Merger-IndexFull-clause-words : goal.returns-in-Merger-IndexFull-clause-words
returns-in-Merger-IndexFull-clause-words g c =
    let called : HasCalled (g.M.Memory.words c.args.mem.now) (g.M.Memory.words c.act.new.mem) c.args.cluster.now c.act.new.self c.args.lane c.act.result (IndexFull c.in-Merger-IndexFull.counter) =
    record { is = c.in-Merger-IndexFull.is ∙ ap (λ (t : MergeTurn). let x : Acted = acted.Merger t in x) c.in-Merger-IndexFull.field-0-is; answer = c.act.ensures.answer; event = c.act.ensures.event } in
    let s : IsStepped (g.M.Memory.words c.args.mem.now) c.args.cluster.now (g.M.Memory.words c.act.new.mem) c.act.new.self c.args.lane (IndexFull c.in-Merger-IndexFull.counter) = stepped (g.M.Memory.words c.args.mem.now) (g.M.Memory.words c.act.new.mem) c.args.cluster.now c.act.new.self c.args.lane c.act.result (IndexFull c.in-Merger-IndexFull.counter) c.requires.sound c.requires.made called in
    step_leaves (g.M.Memory.words c.args.mem.now) (g.M.Memory.words c.act.new.mem) c.args.cluster.now c.act.new.self c.args.lane (IndexFull c.in-Merger-IndexFull.counter) c.requires.sound c.requires.made s

pub returns-in-Merger-IndexFull-clause-others : goal.returns-in-Merger-IndexFull-clause-others
returns-in-Merger-IndexFull-clause-others g c =
    let called : HasCalled (g.M.Memory.words c.args.mem.now) (g.M.Memory.words c.act.new.mem) c.args.cluster.now c.act.new.self c.args.lane c.act.result (IndexFull c.in-Merger-IndexFull.counter) =
    record { is = c.in-Merger-IndexFull.is ∙ ap (λ (t : MergeTurn). let x : Acted = acted.Merger t in x) c.in-Merger-IndexFull.field-0-is; answer = c.act.ensures.answer; event = c.act.ensures.event } in
    leaves_others (g.M.Memory.words c.args.mem.now) (g.M.Memory.words c.act.new.mem) c.args.cluster.now c.act.new.self c.args.lane c.act.result (IndexFull c.in-Merger-IndexFull.counter) c.requires.sound c.requires.made called

pub returns-in-Fault-clause-words : goal.returns-in-Fault-clause-words
returns-in-Fault-clause-words g c = fail_leaves (g.M.Memory.words c.args.mem.now) (g.M.Memory.words c.act.new.mem) c.args.cluster.now c.args.lane c.requires.sound c.requires.made (c.act.ensures.fails (ap failed c.in-Fault.is))

pub returns-in-Fault-clause-others : goal.returns-in-Fault-clause-others
returns-in-Fault-clause-others g c = same_others c.args.lane c.args.cluster.now c.act.new.self (c.act.ensures.same (ap failed c.in-Fault.is))
