use Rattle.std.proofs.Common.{ℕ, ◌≡◌, ◌≤◌, true, List, [], length, refl, ap, subst, sym, ◌∙◌, arith}
use Rattle.dn_route.specs.CallersOrder.{Told}
use Rattle.dn_callers.specs.Callers.{Standing}
use Rattle.dn_cluster.specs.Machine.{lane_in, IsMade}
use Rattle.dn_cluster.specs.State.{numbered}
use Rattle.dn_waiting.specs.State.{WaitingState}
use Rattle.dn_outcomes.specs.Does.{queues}
use Rattle.dn_outcomes.specs.State.{is_made, on_lane, done}
use Rattle.dn_outcomes.specs.declared.outcomes.Outcome.TheVariants.{Nothing, Acted, NoLane}
use Rattle.dn_world.specs.Comes.{Moves, bare}
use Rattle.dn_world.specs.Inside.{state_of}
use Rattle.dn_world.specs.State.{CrewState, world_of}
use Rattle.dn_world.proofs.Giving.{queued_stopped, queued_runs}
use Rattle.dn_world.proofs.Stepping.{unmade, on_made, made_of, some_of, not_both}
use Rattle.dn_world.proofs.Changes.{stays_so, no_receipt}
use Rattle.dn_world.proofs.crews.Crew.queue.Goals as goal

pub returns-then-not-is_made-clause-came : goal.returns-then-not-is_made-clause-came
returns-then-not-is_made-clause-came c =
    λ words. stays_so words c.args.self.now NoLane (λ w. on_lane w c.args.lane (queues w c.args.lane c.args.task (w.machine.lanes c.args.lane)))
    (λ told receipts. unmade (world_of words c.args.self.now told receipts) c.args.lane _ (sym (c.is_made.ensures words told receipts) ∙ c.if-not-is_made.true))

pub is_stopped-requires : goal.is_stopped-requires
is_stopped-requires c =
    let x : CrewState = state_of c.self.inside in
    let n : ℕ = c.args.lane in
    let made : (words : List ℕ) (told : List Told) (receipts : List Standing) → is_made (world_of words x told receipts) n ≡ true =
    λ words told receipts. subst (λ (z : CrewState). is_made (world_of words z told receipts) n ≡ true) (sym c.self.view_is) (sym (c.is_made.ensures words told receipts) ∙ c.if-not-is_made.false) in
    made_of [] x [] [] n (made [] [] [])

pub returns-then-is_stopped-clause-came : goal.returns-then-is_stopped-clause-came
returns-then-is_stopped-clause-came c =
    let x : CrewState = state_of c.self.inside in
    let n : ℕ = c.args.lane in
    let made : (words : List ℕ) (told : List Told) (receipts : List Standing) → is_made (world_of words x told receipts) n ≡ true =
    λ words told receipts. subst (λ (z : CrewState). is_made (world_of words z told receipts) n ≡ true) (sym c.self.view_is) (sym (c.is_made.ensures words told receipts) ∙ c.if-not-is_made.false) in
    λ words. subst (λ (z : CrewState). Moves words z words z (bare Nothing) (λ w. on_lane w c.args.lane (queues w c.args.lane c.args.task (w.machine.lanes c.args.lane)))) c.self.view_is (stays_so words x Nothing (λ w. on_lane w c.args.lane (queues w c.args.lane c.args.task (w.machine.lanes c.args.lane)))
    (λ told receipts. on_made (world_of words x told receipts) n _ (made words told receipts)
    ∙ queued_stopped (world_of words x told receipts) n c.args.task (lane_in (numbered x.cluster.nodes n)) (c.is_stopped.ensures.0 c.if-is_stopped.true)))

pub queue_task-requires : goal.queue_task-requires
queue_task-requires c =
    let x : CrewState = state_of c.self.inside in
    let n : ℕ = c.args.lane in
    let made : (words : List ℕ) (told : List Told) (receipts : List Standing) → is_made (world_of words x told receipts) n ≡ true =
    λ words told receipts. subst (λ (z : CrewState). is_made (world_of words z told receipts) n ≡ true) (sym c.self.view_is) (sym (c.is_made.ensures words told receipts) ∙ c.if-not-is_made.false) in
    let is : IsMade x.cluster n = made_of [] x [] [] n (made [] [] []) in
    let most : length x.cluster.nodes ≤ 63 = subst (λ (z : CrewState). length z.cluster.nodes ≤ 63) (sym c.self.view_is) c.requires.can.can.sound.made.most in
    (is.0, omega (arith, is.1, most))

pub returns : goal.returns
returns c =
    let x : CrewState = state_of c.self.inside in
    let n : ℕ = c.args.lane in
    let made : (words : List ℕ) (told : List Told) (receipts : List Standing) → is_made (world_of words x told receipts) n ≡ true =
    λ words told receipts. subst (λ (z : CrewState). is_made (world_of words z told receipts) n ≡ true) (sym c.self.view_is) (sym (c.is_made.ensures words told receipts) ∙ c.if-not-is_made.false) in
    let there = some_of (lane_in (numbered x.cluster.nodes n)) (λ e. not_both c.is_stopped.result (c.is_stopped.ensures.1 e) c.if-is_stopped.false) in
    let y : CrewState = record x { waiting = c.queue_task.new.self } in
    record {
      came = λ words. subst (λ (z : CrewState). Moves words z words y (bare Acted) (λ w. on_lane w c.args.lane (queues w c.args.lane c.args.task (w.machine.lanes c.args.lane)))) c.self.view_is (record {
        is = λ told receipts. no_receipt words x words y Acted (λ w. on_lane w c.args.lane (queues w c.args.lane c.args.task (w.machine.lanes c.args.lane))) told receipts told
            (on_made (world_of words x told receipts) n _ (made words told receipts)
            ∙ queued_runs (world_of words x told receipts) n c.args.task (lane_in (numbered x.cluster.nodes n)) there.0 there.1
            ∙ ap (λ (v : WaitingState). done (world_of words (record x { waiting = v }) told receipts) Acted) (sym c.in_ok-queue_task.ensures.ok));
      });
      done = refl;
      same = tt;
    }
