use Rattle.std.proofs.Common.{ℕ, ◌≡◌, slice_index, arith, ap, subst, sym, ◌∙◌}
use Rattle.dn_waiting.specs.State.{WaitingState, call_of}
use Rattle.dn_waiting.specs.Sound.{Shows, IsLoading}
use Rattle.dn_waiting.specs.declared.calls.OpenCall.{OpenCall}
use Rattle.dn_hist.specs.declared.receipts.SessionView.{SessionView}
use Rattle.dn_hist.specs.Calls.{key_of}
use Rattle.dn_model.specs.Regions.{slot_of}
use Rattle.dn_route.specs.SessionState.{SessionState, view_of}
use Rattle.dn_cluster.specs.Machine.{session_at}
use Rattle.dn_waiting.specs.declared.calls.Course.{Course}
use Rattle.dn_outcomes.specs.Going.{goes_on}
use Rattle.dn_outcomes.specs.Starts.{lane_or_none, routes, given_by}
use Rattle.dn_outcomes.specs.State.{done}
use Rattle.dn_outcomes.specs.declared.outcomes.Outcome.{Outcome}
use Rattle.dn_outcomes.specs.declared.outcomes.Outcome.TheVariants.{Acted, GivenUp}
use Rattle.dn_world.specs.State.{CrewState, world_of}
use Rattle.dn_world.specs.Comes.{Turns, Moves, bare}
use Rattle.dn_world.proofs.Changes.{no_receipt}
use Rattle.dn_world.specs.Inside.{state_of}
use Rattle.dn_world.proofs.Routing.{IsRouting, routing, copied_some, goes_on_so}
use Rattle.dn_world.proofs.crews.Crew.routed.Goals as goal

pub loaded-course-requires-clause-session : goal.loaded-course-requires-clause-session
loaded-course-requires-clause-session c =
    let x : CrewState = state_of c.self.inside in
    let s : ℕ = c.args.session in
    let e : c.again-view.result.session ≡ s = ap (λ (v : SessionView). v.session) c.again-view.ensures ∙ ap (λ (z : SessionState). z.session) c.session-caller.ensures.value
    ∙ subst (λ (z : CrewState). (session_at z.cluster s).session ≡ s) (sym c.self.view_is) c.requires.itself in
    (omega (arith, e, c.requires.session.least), omega (arith, e, c.requires.session.most))

pub loaded-course-requires-clause-loading : goal.loaded-course-requires-clause-loading
loaded-course-requires-clause-loading c =
    let x : CrewState = state_of c.self.inside in
    let s : ℕ = c.args.session in
    let e : c.again-view.result.session ≡ s = ap (λ (v : SessionView). v.session) c.again-view.ensures ∙ ap (λ (z : SessionState). z.session) c.session-caller.ensures.value
    ∙ subst (λ (z : CrewState). (session_at z.cluster s).session ≡ s) (sym c.self.view_is) c.requires.itself in
    subst (λ (k : ℕ). IsLoading (call_of x.waiting k)) (sym e) (subst (λ (z : CrewState). IsLoading (call_of z.waiting s)) (sym c.self.view_is) c.requires.loading)

pub loaded-course-requires-clause-number : goal.loaded-course-requires-clause-number
loaded-course-requires-clause-number c =
    let x : CrewState = state_of c.self.inside in
    let s : ℕ = c.args.session in
    let e : c.again-view.result.session ≡ s = ap (λ (v : SessionView). v.session) c.again-view.ensures ∙ ap (λ (z : SessionState). z.session) c.session-caller.ensures.value
    ∙ subst (λ (z : CrewState). (session_at z.cluster s).session ≡ s) (sym c.self.view_is) c.requires.itself in
    let n : c.again-view.result.number ≡ (session_at c.args.self.now.cluster s).number = ap (λ (v : SessionView). v.number) c.again-view.ensures ∙ ap (λ (z : SessionState). z.number) c.session-caller.ensures.value
    ∙ ap (λ (z : CrewState). (session_at z.cluster s).number) c.self.view_is in
    subst (λ (k : ℕ). Shows c.again-view.result (call_of x.waiting k)) (sym e) (subst (λ (z : CrewState). Shows c.again-view.result (call_of z.waiting s)) (sym c.self.view_is) (c.requires.number c.again-view.result n))

pub returns-in-GivenUp-clause-came : goal.returns-in-GivenUp-clause-came
returns-in-GivenUp-clause-came c =
    let x : CrewState = state_of c.self.inside in
    let s : ℕ = c.args.session in
    let e : c.again-view.result.session ≡ s = ap (λ (v : SessionView). v.session) c.again-view.ensures ∙ ap (λ (z : SessionState). z.session) c.session-caller.ensures.value
    ∙ subst (λ (z : CrewState). (session_at z.cluster s).session ≡ s) (sym c.self.view_is) c.requires.itself in
    let y : CrewState = c.go_on.new.self in
    let call : OpenCall = c.in-Some.call.now in
    let h : IsRouting x y s call c.again-view.result c.lane_or_none-route.result c.loaded-course.result = record {
      has = copied_some c.call.result c.in-Some.call (call_of x.waiting s) c.call.ensures c.in-Some.is;
      itself = e;
      view_is = c.again-view.ensures ∙ ap (λ (z : SessionState). view_of z c.key_of-key.result) c.session-caller.ensures.value
          ∙ ap (λ (k : ℕ). view_of (session_at x.cluster s) k) c.key_of-key.ensures;
      route_is = c.lane_or_none-route.ensures.value ∙ ap lane_or_none (c.route.ensures.value
          ∙ ap (λ (k : ℕ). slice_index c.session-caller.result.now.routes k) (c.slot_of.ensures.value ∙ ap slot_of c.key_of-key.ensures)
          ∙ ap (λ (z : SessionState). slice_index z.routes (slot_of (key_of call.call))) c.session-caller.ensures.value);
      course_is = c.loaded-course.ensures.course;
      goes = subst (λ (z : WaitingState). Turns (record x { waiting = z }) y (λ w. goes_on w s c.loaded-course.result)) c.loaded-course.ensures.after c.go_on.ensures;
    } in
    λ words. subst (λ (z : CrewState). Moves words z words y (bare (GivenUp s call.number)) (λ w. routes w s (call_of w.waiting s))) c.self.view_is (record {
      is = λ told receipts. no_receipt words x words y (GivenUp s call.number) (λ w. routes w s (call_of w.waiting s)) told receipts told
          (routing x y s call c.again-view.result c.lane_or_none-route.result c.loaded-course.result h words told receipts ∙ ap (λ (o : Course). done (world_of words y told receipts) (given_by call s o)) c.in-GivenUp.is);
    })

pub returns-in-Load-clause-came : goal.returns-in-Load-clause-came
returns-in-Load-clause-came c =
    let x : CrewState = state_of c.self.inside in
    let s : ℕ = c.args.session in
    let e : c.again-view.result.session ≡ s = ap (λ (v : SessionView). v.session) c.again-view.ensures ∙ ap (λ (z : SessionState). z.session) c.session-caller.ensures.value
    ∙ subst (λ (z : CrewState). (session_at z.cluster s).session ≡ s) (sym c.self.view_is) c.requires.itself in
    let y : CrewState = c.go_on.new.self in
    let call : OpenCall = c.in-Some.call.now in
    let h : IsRouting x y s call c.again-view.result c.lane_or_none-route.result c.loaded-course.result = record {
      has = copied_some c.call.result c.in-Some.call (call_of x.waiting s) c.call.ensures c.in-Some.is;
      itself = e;
      view_is = c.again-view.ensures ∙ ap (λ (z : SessionState). view_of z c.key_of-key.result) c.session-caller.ensures.value
          ∙ ap (λ (k : ℕ). view_of (session_at x.cluster s) k) c.key_of-key.ensures;
      route_is = c.lane_or_none-route.ensures.value ∙ ap lane_or_none (c.route.ensures.value
          ∙ ap (λ (k : ℕ). slice_index c.session-caller.result.now.routes k) (c.slot_of.ensures.value ∙ ap slot_of c.key_of-key.ensures)
          ∙ ap (λ (z : SessionState). slice_index z.routes (slot_of (key_of call.call))) c.session-caller.ensures.value);
      course_is = c.loaded-course.ensures.course;
      goes = subst (λ (z : WaitingState). Turns (record x { waiting = z }) y (λ w. goes_on w s c.loaded-course.result)) c.loaded-course.ensures.after c.go_on.ensures;
    } in
    λ words. subst (λ (z : CrewState). Moves words z words y (bare (Acted)) (λ w. routes w s (call_of w.waiting s))) c.self.view_is (record {
      is = λ told receipts. no_receipt words x words y (Acted) (λ w. routes w s (call_of w.waiting s)) told receipts told
          (routing x y s call c.again-view.result c.lane_or_none-route.result c.loaded-course.result h words told receipts ∙ ap (λ (o : Outcome). done (world_of words y told receipts) o) (goes_on_so call s c.loaded-course.result c.in-Load.is));
    })
