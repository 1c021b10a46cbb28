use Rattle.std.proofs.Common.{ℕ, ◌≡◌, true, false, List, [], Some, None, refl, ap, subst, sym, ◌∙◌}
use Rattle.dn_lane.specs.Left.{is_working}
use Rattle.dn_lane.specs.State.{LaneState}
use Rattle.dn_route.specs.CallersOrder.{Told}
use Rattle.dn_callers.specs.Callers.{Standing}
use Rattle.dn_cluster.specs.Machine.{lane_in, IsMade}
use Rattle.dn_cluster.specs.State.{numbered}
use Rattle.dn_waiting.specs.State.{at_lane}
use Rattle.dn_waiting.specs.Turns.{next_at}
use Rattle.dn_outcomes.specs.State.{World, is_made, on_lane}
use Rattle.dn_outcomes.specs.Steps.{acts, step}
use Rattle.dn_outcomes.specs.declared.outcomes.Outcome.TheVariants.{Nothing, NoLane}
use Rattle.dn_world.specs.Comes.{Came, Comes, Carries, Keeps, OnDone, bare}
use Rattle.dn_world.specs.Inside.{state_of}
use Rattle.dn_world.specs.State.{CrewState, world_of}
use Rattle.dn_world.specs.Takes.{begins_at}
use Rattle.dn_world.proofs.Stepping.{comes_eq, unmade, on_made, made_of, number_of, some_of, step_stopped, step_working, step_resting, begun_session, can_be_sound, if_ok, not_both}
use Rattle.dn_world.proofs.TakingUp.{lane_is}
use Rattle.dn_world.proofs.Changes.{stays, comes_of}
use Rattle.dn_world.specs.declared.worlds.Standing.{Standing as Kept}
use Rattle.dn_world.proofs.History.{keeps_none, keeps_as}
use Rattle.dn_world.proofs.crews.Crew.step.Goals as goal

pub returns-then-not-is_made-clause-came : goal.returns-then-not-is_made-clause-came
returns-then-not-is_made-clause-came g c =
    let words : List ℕ = g.M.Memory.words c.args.mem.now in
    let x : CrewState = c.args.self.now in
    let n : ℕ = c.args.lane in
    λ _. keeps_none _ _ NoLane (λ (came : Came). Comes words x words x came (λ w. on_lane w n (step w n))) refl
    (comes_of words x words x (bare NoLane) (λ w. on_lane w n (step w n)) (stays words x NoLane (λ w. on_lane w n (step w n))
    (λ told receipts. unmade (world_of words x told receipts) n (step (world_of words x told receipts) n) (sym (c.is_made.ensures words told receipts) ∙ c.if-not-is_made.true))))

pub is_stopped-requires : goal.is_stopped-requires
is_stopped-requires g c =
    let words : List ℕ = g.M.Memory.words c.args.mem.now in
    let x : CrewState = c.args.self.now in
    let n : ℕ = c.args.lane in
    let made : (ws : List ℕ) (told : List Told) (receipts : List Standing) → is_made (world_of ws x told receipts) n ≡ true =
    λ ws told receipts. sym (c.is_made.ensures ws told receipts) ∙ c.if-not-is_made.false in
    let is : IsMade x.cluster n = made_of [] x [] [] n (made [] [] []) in
    subst (λ (z : CrewState). IsMade z.cluster n) (sym c.self.view_is) is

pub returns-then-is_stopped-clause-came : goal.returns-then-is_stopped-clause-came
returns-then-is_stopped-clause-came g c =
    let words : List ℕ = g.M.Memory.words c.args.mem.now in
    let x : CrewState = c.args.self.now in
    let n : ℕ = c.args.lane in
    let made : (ws : List ℕ) (told : List Told) (receipts : List Standing) → is_made (world_of ws x told receipts) n ≡ true =
    λ ws told receipts. sym (c.is_made.ensures ws told receipts) ∙ c.if-not-is_made.false in
    let is : IsMade x.cluster n = made_of [] x [] [] n (made [] [] []) in
    λ _. keeps_none _ _ Nothing (λ (came : Came). Comes words x words x came (λ w. on_lane w n (step w n))) refl
    (comes_of words x words x (bare Nothing) (λ w. on_lane w n (step w n)) (stays words x Nothing (λ w. on_lane w n (step w n))
    (λ told receipts. on_made (world_of words x told receipts) n (step (world_of words x told receipts) n) (made words told receipts)
    ∙ step_stopped (world_of words x told receipts) n (subst (λ (z : CrewState). lane_in (numbered z.cluster.nodes n) ≡ None) c.self.view_is (c.is_stopped.ensures.0 c.if-is_stopped.true)))))

pub lane-requires : goal.lane-requires
lane-requires g c =
    let words : List ℕ = g.M.Memory.words c.args.mem.now in
    let x : CrewState = c.args.self.now in
    let n : ℕ = c.args.lane in
    let made : (ws : List ℕ) (told : List Told) (receipts : List Standing) → is_made (world_of ws x told receipts) n ≡ true =
    λ ws told receipts. sym (c.is_made.ensures ws told receipts) ∙ c.if-not-is_made.false in
    let is : IsMade x.cluster n = made_of [] x [] [] n (made [] [] []) in
    subst (λ (z : CrewState). IsMade z.cluster n) (sym c.self.view_is) is

pub act-requires-clause-can : goal.act-requires-clause-can
act-requires-clause-can g c =
    let words : List ℕ = g.M.Memory.words c.args.mem.now in
    let x : CrewState = c.args.self.now in
    let n : ℕ = c.args.lane in
    let made : (ws : List ℕ) (told : List Told) (receipts : List Standing) → is_made (world_of ws x told receipts) n ≡ true =
    λ ws told receipts. sym (c.is_made.ensures ws told receipts) ∙ c.if-not-is_made.false in
    let is : IsMade x.cluster n = made_of [] x [] [] n (made [] [] []) in
    can_be_sound words x c.requires.can

pub act-requires-clause-lane : goal.act-requires-clause-lane
act-requires-clause-lane g c =
    let words : List ℕ = g.M.Memory.words c.args.mem.now in
    let x : CrewState = c.args.self.now in
    let n : ℕ = c.args.lane in
    let made : (ws : List ℕ) (told : List Told) (receipts : List Standing) → is_made (world_of ws x told receipts) n ≡ true =
    λ ws told receipts. sym (c.is_made.ensures ws told receipts) ∙ c.if-not-is_made.false in
    let is : IsMade x.cluster n = made_of [] x [] [] n (made [] [] []) in
    number_of words x n c.requires.can is

pub act-requires-clause-session : goal.act-requires-clause-session
act-requires-clause-session g c =
    let words : List ℕ = g.M.Memory.words c.args.mem.now in
    let x : CrewState = c.args.self.now in
    let n : ℕ = c.args.lane in
    let made : (ws : List ℕ) (told : List Told) (receipts : List Standing) → is_made (world_of ws x told receipts) n ≡ true =
    λ ws told receipts. sym (c.is_made.ensures ws told receipts) ∙ c.if-not-is_made.false in
    let is : IsMade x.cluster n = made_of [] x [] [] n (made [] [] []) in
    begun_session (world_of words x c.requires.can.told c.requires.can.receipts) n c.requires.can.sound (lane_is n (number_of words x n c.requires.can is))

pub returns-then-working-clause-came : goal.returns-then-working-clause-came
returns-then-working-clause-came g c =
    let words : List ℕ = g.M.Memory.words c.args.mem.now in
    let x : CrewState = c.args.self.now in
    let n : ℕ = c.args.lane in
    let made : (ws : List ℕ) (told : List Told) (receipts : List Standing) → is_made (world_of ws x told receipts) n ≡ true =
    λ ws told receipts. sym (c.is_made.ensures ws told receipts) ∙ c.if-not-is_made.false in
    let is : IsMade x.cluster n = made_of [] x [] [] n (made [] [] []) in
    let b : CrewState = state_of c.self.inside in
    let there = some_of (lane_in (numbered b.cluster.nodes n)) (λ e. not_both c.is_stopped.result (c.is_stopped.ensures.1 e) c.if-is_stopped.false) in
    let l : LaneState = there.0 in
    let runs : lane_in (numbered x.cluster.nodes n) ≡ Some l = subst (λ (z : CrewState). lane_in (numbered z.cluster.nodes n) ≡ Some l) c.self.view_is there.1 in
    let works : c.working.result ≡ is_working l.mode = c.working.ensures ∙ ap (λ (k : LaneState). is_working k.mode) (c.lane.ensures l there.1) in
    let now : List ℕ = g.M.Memory.words c.act.new.mem in
    let y : CrewState = c.act.new.self in
    λ fine. keeps_as _ _ c.act.result (λ (came : Came). Carries words x now y came (λ w. acts w n)) (λ (came : Came). Comes words x now y came (λ w. on_lane w n (step w n)))
    (λ came by. comes_eq words x now y came (λ w. acts w n) (λ w. on_lane w n (step w n))
    (λ told receipts. on_made (world_of words x told receipts) n (step (world_of words x told receipts) n) (made words told receipts)
    ∙ step_working (world_of words x told receipts) n l runs (sym works ∙ c.if-working.true))
    (comes_of words x now y came (λ w. acts w n) by)) (c.act.ensures.came fine)

pub begin_next-requires-clause-free : goal.begin_next-requires-clause-free
begin_next-requires-clause-free g c =
    let words : List ℕ = g.M.Memory.words c.args.mem.now in
    let x : CrewState = c.args.self.now in
    let n : ℕ = c.args.lane in
    let made : (ws : List ℕ) (told : List Told) (receipts : List Standing) → is_made (world_of ws x told receipts) n ≡ true =
    λ ws told receipts. sym (c.is_made.ensures ws told receipts) ∙ c.if-not-is_made.false in
    let is : IsMade x.cluster n = made_of [] x [] [] n (made [] [] []) in
    let b : CrewState = state_of c.self.inside in
    let there = some_of (lane_in (numbered b.cluster.nodes n)) (λ e. not_both c.is_stopped.result (c.is_stopped.ensures.1 e) c.if-is_stopped.false) in
    let l : LaneState = there.0 in
    let runs : lane_in (numbered x.cluster.nodes n) ≡ Some l = subst (λ (z : CrewState). lane_in (numbered z.cluster.nodes n) ≡ Some l) c.self.view_is there.1 in
    let works : c.working.result ≡ is_working l.mode = c.working.ensures ∙ ap (λ (k : LaneState). is_working k.mode) (c.lane.ensures l there.1) in
    let rests : is_working l.mode ≡ false = sym works ∙ c.if-working.false in
    record { can = c.requires.can; number = number_of words x n c.requires.can is; lane = l; runs = runs; rests = rests }

pub returns-clause-came : goal.returns-clause-came
returns-clause-came g c =
    let words : List ℕ = g.M.Memory.words c.args.mem.now in
    let x : CrewState = c.args.self.now in
    let n : ℕ = c.args.lane in
    let made : (ws : List ℕ) (told : List Told) (receipts : List Standing) → is_made (world_of ws x told receipts) n ≡ true =
    λ ws told receipts. sym (c.is_made.ensures ws told receipts) ∙ c.if-not-is_made.false in
    let is : IsMade x.cluster n = made_of [] x [] [] n (made [] [] []) in
    let b : CrewState = state_of c.self.inside in
    let there = some_of (lane_in (numbered b.cluster.nodes n)) (λ e. not_both c.is_stopped.result (c.is_stopped.ensures.1 e) c.if-is_stopped.false) in
    let l : LaneState = there.0 in
    let runs : lane_in (numbered x.cluster.nodes n) ≡ Some l = subst (λ (z : CrewState). lane_in (numbered z.cluster.nodes n) ≡ Some l) c.self.view_is there.1 in
    let works : c.working.result ≡ is_working l.mode = c.working.ensures ∙ ap (λ (k : LaneState). is_working k.mode) (c.lane.ensures l there.1) in
    let rests : is_working l.mode ≡ false = sym works ∙ c.if-working.false in
    let now : List ℕ = g.M.Memory.words c.begin_next.new.mem in
    let y : CrewState = c.begin_next.new.self in
    let was : List Kept = c.args.standing.now.items in
    let stands : List Kept = c.begin_next.new.standing.items in
    let begun : Came → Type 0 = λ came. Comes words x now y came (λ w. begins_at w n) in
    let stepped : Came → Type 0 = λ came. Comes words x now y came (λ w. on_lane w n (step w n)) in
    if_ok c.begin_next.result (λ outcome. OnDone outcome (Keeps was stands outcome begun)) (λ outcome. OnDone outcome (Keeps was stands outcome stepped))
    (λ outcome h fine. keeps_as was stands outcome begun stepped (λ came by. comes_eq words x now y came (λ w. begins_at w n) (λ w. on_lane w n (step w n)) (λ told receipts. (let v : World = world_of words x told receipts in
    on_made v n (step v n) (made words told receipts) ∙ step_resting v n l (next_at (at_lane x.waiting n)) runs rests refl)) by) (h fine)) c.begin_next.ensures.came
