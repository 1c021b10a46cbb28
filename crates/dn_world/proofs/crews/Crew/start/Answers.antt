use Rattle.std.proofs.Common.{ℕ, ◌≡◌, slice_index, arith, refl, ap, subst, sym, ◌∙◌, None, true}
use Rattle.std.specs.Option.{is_some}
use Rattle.dn_cluster.specs.Machine.{closed_in, session_at}
use Rattle.dn_hist.specs.Calls.{key_of}
use Rattle.dn_model.specs.Regions.{slot_of}
use Rattle.dn_route.specs.SessionState.{SessionState, view_of}
use Rattle.dn_cluster.specs.State.{numbered}
use Rattle.dn_hist.specs.declared.receipts.SessionView.{SessionView}
use Rattle.dn_machine.specs.Events.{Numbers}
use Rattle.dn_waiting.specs.State.{WaitingState, call_of}
use Rattle.dn_outcomes.specs.Going.{goes_on}
use Rattle.dn_outcomes.specs.Starts.{start, lane_or_none}
use Rattle.dn_outcomes.specs.State.{World, may_name}
use Rattle.dn_outcomes.specs.declared.outcomes.Outcome.TheVariants.{Numbered, Busy, Closed, NoLane}
use Rattle.dn_world.specs.State.{CrewState, world_of}
use Rattle.dn_world.specs.Inside.{state_of}
use Rattle.dn_world.specs.Comes.{Turns, CanBeWorld, Carries, bare}
use Rattle.dn_world.proofs.Changes.{stays, clustered, no_receipt}
use Rattle.dn_world.proofs.Starting.{named_badly, busy, closed_now, numbered_one, numbered_session, named_lane, none_of, copied, IsStarting}
use Rattle.dn_world.proofs.crews.Crew.start.Goals as goal

pub returns-then-not-may_name : goal.returns-then-not-may_name
returns-then-not-may_name c = record {
  came = λ words. stays words c.args.self.now NoLane (λ w. start w c.args.session c.args.lane c.args.call)
      (λ told receipts. named_badly (world_of words c.args.self.now told receipts) c.args.session c.args.lane c.args.call (sym (c.may_name.ensures words told receipts) ∙ c.if-not-may_name.true));
  done = refl;
}

pub returns-then-is_some : goal.returns-then-is_some
returns-then-is_some c = record {
  came = λ words. stays words c.args.self.now Busy (λ w. start w c.args.session c.args.lane c.args.call)
      (λ told receipts.
      let there : is_some (call_of c.args.self.now.waiting c.args.session) ≡ true =
      ap (λ (z : CrewState). is_some (call_of z.waiting c.args.session)) (sym c.self.view_is) ∙ sym (ap is_some c.call.ensures) ∙ copied c.call.result ∙ sym c.is_some.ensures ∙ c.if-is_some.true in
      busy (world_of words c.args.self.now told receipts) c.args.session c.args.lane c.args.call (sym (c.may_name.ensures words told receipts) ∙ c.if-not-may_name.false) there);
  done = refl;
}

pub returns-then-is_closed : goal.returns-then-is_closed
returns-then-is_closed c =
    let x : CrewState = state_of c.self.inside in
    let free : call_of x.waiting c.args.session ≡ None = none_of (call_of x.waiting c.args.session) (sym (ap is_some c.call.ensures) ∙ copied c.call.result ∙ sym c.is_some.ensures ∙ c.if-is_some.false) in
    record {
      came = λ words. stays words c.args.self.now Closed (λ w. start w c.args.session c.args.lane c.args.call)
          (λ told receipts. closed_now (world_of words c.args.self.now told receipts) c.args.session c.args.lane c.args.call (sym (c.may_name.ensures words told receipts) ∙ c.if-not-may_name.false)
          (subst (λ (z : CrewState). call_of z.waiting c.args.session ≡ None) c.self.view_is free)
          (subst (λ (z : CrewState). closed_in (numbered z.cluster.clients c.args.session) ≡ true) c.self.view_is (sym c.is_closed.ensures ∙ c.if-is_closed.true)));
      done = refl;
    }

pub start-course-requires-clause-session : goal.start-course-requires-clause-session
start-course-requires-clause-session c =
    let x : CrewState = state_of c.self.inside in
    let can : CanBeWorld c.requires.can.words x = subst (λ (z : CrewState). CanBeWorld c.requires.can.words z) (sym c.self.view_is) c.requires.can.can in
    let e : c.number-view.result.session ≡ c.args.session = ap (λ (v : SessionView). v.session) c.number-view.ensures.value
    ∙ numbered_session c.requires.can.words x.cluster c.number-view.new.self can.told can.receipts c.args.session c.number-view.ensures.does c.number-view.ensures.segments can.sound.machine c.requires.session in
    (omega (arith, e, c.requires.session.least), omega (arith, e, c.requires.session.most))

pub start-course-requires-clause-free : goal.start-course-requires-clause-free
start-course-requires-clause-free c =
    let x : CrewState = state_of c.self.inside in
    let can : CanBeWorld c.requires.can.words x = subst (λ (z : CrewState). CanBeWorld c.requires.can.words z) (sym c.self.view_is) c.requires.can.can in
    let e : c.number-view.result.session ≡ c.args.session = ap (λ (v : SessionView). v.session) c.number-view.ensures.value
    ∙ numbered_session c.requires.can.words x.cluster c.number-view.new.self can.told can.receipts c.args.session c.number-view.ensures.does c.number-view.ensures.segments can.sound.machine c.requires.session in
    ap (λ (k : ℕ). call_of c.self.inside.waiting k) e
    ∙ none_of (call_of c.self.inside.waiting c.args.session) (sym (ap is_some c.call.ensures) ∙ copied c.call.result ∙ sym c.is_some.ensures ∙ c.if-is_some.false)

pub start-course-requires-clause-lane : goal.start-course-requires-clause-lane
start-course-requires-clause-lane c =
    let w : World = world_of c.requires.can.words c.args.self.now c.requires.can.can.told c.requires.can.can.receipts in
    named_lane w c.args.lane c.requires.can.can.sound (sym (c.may_name.ensures c.requires.can.words c.requires.can.can.told c.requires.can.can.receipts) ∙ c.if-not-may_name.false)

pub returns : goal.returns
returns c =
    let x : CrewState = state_of c.self.inside in
    let a : CrewState = record x { cluster = c.number-view.new.self } in
    let y : CrewState = c.go_on.new.self in
    let s : ℕ = c.args.session in
    let free : call_of x.waiting s ≡ None = none_of (call_of x.waiting s) (sym (ap is_some c.call.ensures) ∙ copied c.call.result ∙ sym c.is_some.ensures ∙ c.if-is_some.false) in
    let h : IsStarting x a y s c.args.lane c.args.call c.number-view.result c.lane_or_none-route.result c.start-course.result = record {
      numbered = clustered x a (Numbers s) (record { does = c.number-view.ensures.does; segments = c.number-view.ensures.segments; lanes = c.number-view.ensures.lanes; waiting = refl; live = refl });
      view_is = c.number-view.ensures.value ∙ ap (λ (k : ℕ). view_of (session_at c.number-view.new.self s) k) c.key_of-key.ensures;
      route_is = c.lane_or_none-route.ensures.value ∙ ap lane_or_none (c.route.ensures.value
          ∙ ap (λ (k : ℕ). slice_index c.session.result.now.routes k) (c.slot_of.ensures.value ∙ ap slot_of c.key_of-key.ensures)
          ∙ ap (λ (z : SessionState). slice_index z.routes (slot_of (key_of c.args.call))) c.session.ensures.value);
      course_is = c.start-course.ensures.course;
      goes = subst (λ (z : WaitingState). Turns (record a { waiting = z }) y (λ w. goes_on w s c.start-course.result)) c.start-course.ensures.after c.go_on.ensures;
    } in
    record {
      came = λ words. subst (λ (z : CrewState). Carries words z words y (bare (Numbered c.number-view.result.number)) (λ w. start w s c.args.lane c.args.call)) c.self.view_is (record {
        is = λ told receipts sound. no_receipt words x words y (Numbered c.number-view.result.number) (λ w. start w s c.args.lane c.args.call) told receipts told
            (numbered_one x a y s c.args.lane c.args.call c.number-view.result c.lane_or_none-route.result c.start-course.result h words told receipts
            (subst (λ (z : CrewState). may_name (world_of words z told receipts) c.args.lane ≡ true) (sym c.self.view_is) (sym (c.may_name.ensures words told receipts) ∙ c.if-not-may_name.false)) free (sym c.is_closed.ensures ∙ c.if-is_closed.false));
      });
      done = refl;
    }
