use Rattle.std.proofs.Common.{ℕ, List, refl, subst, sym, ◌∙◌}
use Rattle.dn_waiting.specs.State.{WaitingState, at_lane}
use Rattle.dn_waiting.specs.declared.calls.Next.TheVariants.{Tend}
use Rattle.dn_world.specs.Comes.{Came, Comes, Carries, bare}
use Rattle.dn_world.specs.Inside.{state_of}
use Rattle.dn_world.specs.State.{CrewState}
use Rattle.dn_world.specs.Takes.{Takes, tends_at, IsSessionOf}
use Rattle.dn_outcomes.specs.Steps.{acts}
use Rattle.dn_outcomes.specs.declared.outcomes.Outcome.{Outcome}
use Rattle.dn_outcomes.specs.declared.outcomes.Outcome.TheVariants.{Tended}
use Rattle.dn_tend.specs.declared.tasks.TaskAnswer.TheVariants as answer
use Rattle.dn_world.proofs.TakingUp.{takes_begun, takes_room, takes_fits, tends_sound, after_taking, tends_so, tends_barred, then_acts, taken_tend, refused_now}
use Rattle.dn_lane.specs.Refused.{Refuses}
use Rattle.dn_cluster.specs.Asks.{refused_in}
use Rattle.dn_world.proofs.History.{keeps_none, keeps_as}
use Rattle.dn_world.proofs.crews.Crew.tend.Goals as goal

pub give_task-requires-clause-runs : goal.give_task-requires-clause-runs
give_task-requires-clause-runs g c =
    let words : List ℕ = g.M.Memory.words c.args.mem.now in
    let x : CrewState = state_of c.self.inside in
    let n : ℕ = c.args.lane in
    let h : Takes words x n (Tend c.args.task) = subst (λ (z : CrewState). Takes words z n (Tend c.args.task)) (sym c.self.view_is) c.requires.takes in
    (h.lane, h.runs)

pub give_task-requires-clause-task : goal.give_task-requires-clause-task
give_task-requires-clause-task g c =
    let words : List ℕ = g.M.Memory.words c.args.mem.now in
    let x : CrewState = state_of c.self.inside in
    let n : ℕ = c.args.lane in
    let h : Takes words x n (Tend c.args.task) = subst (λ (z : CrewState). Takes words z n (Tend c.args.task)) (sym c.self.view_is) c.requires.takes in
    takes_fits words x n c.args.task h

pub take_up-requires-clause-free : goal.take_up-requires-clause-free
take_up-requires-clause-free g c =
    let words : List ℕ = g.M.Memory.words c.args.mem.now in
    let x : CrewState = state_of c.self.inside in
    let n : ℕ = c.args.lane in
    let h : Takes words x n (Tend c.args.task) = subst (λ (z : CrewState). Takes words z n (Tend c.args.task)) (sym c.self.view_is) c.requires.takes in
    takes_begun words x n (Tend c.args.task) h

pub act-requires-clause-can : goal.act-requires-clause-can
act-requires-clause-can g c =
    let words : List ℕ = g.M.Memory.words c.args.mem.now in
    let x : CrewState = state_of c.self.inside in
    let n : ℕ = c.args.lane in
    let h : Takes words x n (Tend c.args.task) = subst (λ (z : CrewState). Takes words z n (Tend c.args.task)) (sym c.self.view_is) c.requires.takes in
    record {
      told = h.can.told;
      receipts = h.can.receipts;
      sound = tends_sound words x n c.args.task c.give_task.new.self h.can.told h.can.receipts h c.in-Ok.ensures.does c.give_task.ensures.segments h.can.sound.machine;
    }

pub act-requires-clause-session : goal.act-requires-clause-session
act-requires-clause-session g c =
    let words : List ℕ = g.M.Memory.words c.args.mem.now in
    let x : CrewState = state_of c.self.inside in
    let n : ℕ = c.args.lane in
    let h : Takes words x n (Tend c.args.task) = subst (λ (z : CrewState). Takes words z n (Tend c.args.task)) (sym c.self.view_is) c.requires.takes in
    subst (λ (w : WaitingState). IsSessionOf (at_lane w n).begun) (sym c.take_up.ensures.after)
    (subst IsSessionOf (sym (taken_tend x.waiting n c.args.task h.next_is (takes_room words x n (Tend c.args.task) h) ∙ takes_begun words x n (Tend c.args.task) h)) tt)

pub returns-in-Ok-clause-came : goal.returns-in-Ok-clause-came
returns-in-Ok-clause-came g c =
    let words : List ℕ = g.M.Memory.words c.args.mem.now in
    let x : CrewState = state_of c.self.inside in
    let n : ℕ = c.args.lane in
    let h : Takes words x n (Tend c.args.task) = subst (λ (z : CrewState). Takes words z n (Tend c.args.task)) (sym c.self.view_is) c.requires.takes in
    let now : List ℕ = g.M.Memory.words c.act.new.mem in
    let y : CrewState = c.act.new.self in
    let acted : CrewState = record { cluster = c.give_task.new.self; waiting = c.take_up.new.self; live = x.live } in
    λ fine. keeps_as _ _ c.act.result (λ (came : Came). Carries words acted now y came (λ w. acts w n)) (λ (came : Came). Comes words c.args.self.now now y came (λ w. tends_at w n c.args.task))
    (λ came by. subst (λ (z : CrewState). Comes words z now y came (λ w. tends_at w n c.args.task)) c.self.view_is
    (then_acts words x (after_taking x c.give_task.new.self n) now y came n (λ w. tends_at w n c.args.task)
    (tends_so words x n c.args.task c.give_task.new.self h (record { does = c.in-Ok.ensures.does; segments = c.give_task.ensures.segments; lanes = c.give_task.ensures.lanes }) c.in-Ok.ensures.free)
    (subst (λ (w : WaitingState). Carries words (record { cluster = c.give_task.new.self; waiting = w; live = x.live }) now y came (λ w. acts w n)) c.take_up.ensures.after by)))
    (c.act.ensures.came fine)

pub take_up-requires-in-Err-Fenced-clause-free : goal.take_up-requires-in-Err-Fenced-clause-free
take_up-requires-in-Err-Fenced-clause-free g c =
    let words : List ℕ = g.M.Memory.words c.args.mem.now in
    let x : CrewState = state_of c.self.inside in
    let n : ℕ = c.args.lane in
    let h : Takes words x n (Tend c.args.task) = subst (λ (z : CrewState). Takes words z n (Tend c.args.task)) (sym c.self.view_is) c.requires.takes in
    takes_begun words x n (Tend c.args.task) h

pub returns-in-Err-Fenced-clause-came : goal.returns-in-Err-Fenced-clause-came
returns-in-Err-Fenced-clause-came g c =
    let words : List ℕ = g.M.Memory.words c.args.mem.now in
    let x : CrewState = state_of c.self.inside in
    let n : ℕ = c.args.lane in
    let h : Takes words x n (Tend c.args.task) = subst (λ (z : CrewState). Takes words z n (Tend c.args.task)) (sym c.self.view_is) c.requires.takes in
    let y : CrewState = record { cluster = c.give_task.new.self; waiting = c.take_up-in-Err-Fenced.new.self; live = x.live } in
    let told : Outcome = Tended (answer.Fenced c.in-Err-Fenced.word) in
    λ _. keeps_none _ _ told (λ (came : Came). Comes words c.args.self.now words y came (λ w. tends_at w n c.args.task)) refl
    (subst (λ (z : CrewState). Comes words z words y (bare told) (λ w. tends_at w n c.args.task)) c.self.view_is
    (refused_now words x y c.give_task.new.self c.take_up-in-Err-Fenced.new.self n (bare told) told (λ w. tends_at w n c.args.task)
    c.in-Err-Fenced.ensures.same c.take_up-in-Err-Fenced.ensures.after refl refl
    (tends_barred words x n c.args.task c.in-Err-Fenced.word h (subst (Refuses (refused_in x.cluster n)) c.in-Err-Fenced.field-0-is c.in-Err-Fenced.ensures.cause))))
