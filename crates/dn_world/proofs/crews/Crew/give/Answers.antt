use Rattle.std.proofs.Common.{ℕ, ◌≡◌, ◌<◌, ◌≤◌, true, false, List, All, refl, ap, subst, sym, ◌∙◌}
use Rattle.std.specs.List.Sorted.{IsStrictlyIncreasing}
use Rattle.std.specs.Option.{is_some}
use Rattle.dn_route.specs.CallersOrder.{Told}
use Rattle.dn_callers.specs.Callers.{Standing}
use Rattle.dn_monitor.specs.Heirs.{AreHeirs, no_heirs}
use Rattle.dn_machine.specs.Events.{Orders}
use Rattle.dn_outcomes.specs.Orders.{may_order, give}
use Rattle.dn_outcomes.specs.State.{with_event}
use Rattle.dn_outcomes.specs.declared.outcomes.Outcome.TheVariants.{Acted, MonitorBusy, NoLane}
use Rattle.dn_world.specs.Gives.{IsGivenBy}
use Rattle.dn_world.specs.Inside.{state_of}
use Rattle.dn_world.specs.State.{CrewState, world_of}
use Rattle.dn_world.proofs.Giving.{may_not, busy, given, copied_order, some_now, is_take, live_lanes}
use Rattle.dn_world.proofs.Changes.{stays_so, turns_so, clustered}
use Rattle.dn_world.proofs.crews.Crew.give.Goals as goal

pub returns-then-not-may_order-clause-came : goal.returns-then-not-may_order-clause-came
returns-then-not-may_order-clause-came c =
    λ words. record {
      heirs = no_heirs;
      takes = λ e. absurd (cc e);
      nobody = λ none. refl;
      is = stays_so words c.args.self.now NoLane (λ w. give w c.args.order no_heirs) (λ told receipts. may_not (world_of words c.args.self.now told receipts) c.args.order no_heirs (sym (c.may_order.ensures words told receipts) ∙ c.if-not-may_order.true));
    }

pub returns-then-is_some-clause-came : goal.returns-then-is_some-clause-came
returns-then-is_some-clause-came c =
    let may : (words : List ℕ) (told : List Told) (receipts : List Standing) → may_order (world_of words c.args.self.now told receipts) c.args.order ≡ true =
    λ words told receipts. sym (c.may_order.ensures words told receipts) ∙ c.if-not-may_order.false in
    let there : is_some c.args.self.now.cluster.monitor ≡ true = ap (λ (z : CrewState). is_some z.cluster.monitor) (sym c.self.view_is) ∙ sym (ap is_some c.monitor.ensures) ∙ copied_order c.monitor.result ∙ sym c.is_some.ensures ∙ c.if-is_some.true in
    λ words. record {
      heirs = no_heirs;
      takes = λ e. absurd (cc e);
      nobody = λ none. refl;
      is = stays_so words c.args.self.now MonitorBusy (λ w. give w c.args.order no_heirs) (λ told receipts. busy (world_of words c.args.self.now told receipts) c.args.order no_heirs (may words told receipts) there);
    }

pub give_order-requires-clause-rising : goal.give_order-requires-clause-rising
give_order-requires-clause-rising c =
    subst IsStrictlyIncreasing (sym (c.deref.ensures.value ∙ ap (λ (z : CrewState). z.live) c.self.view_is)) c.requires.can.can.sound.live.rising

pub give_order-requires-clause-lanes : goal.give_order-requires-clause-lanes
give_order-requires-clause-lanes c =
    subst (All (λ (n : ℕ). (1 ≤ n) × (n < 64))) (sym (c.deref.ensures.value ∙ ap (λ (z : CrewState). z.live) c.self.view_is)) (live_lanes _ c.args.self.now.live c.requires.can.can.sound.made.most c.requires.can.can.sound.live)

pub returns : goal.returns
returns c =
    let may : (words : List ℕ) (told : List Told) (receipts : List Standing) → may_order (world_of words c.args.self.now told receipts) c.args.order ≡ true =
    λ words told receipts. sym (c.may_order.ensures words told receipts) ∙ c.if-not-may_order.false in
    let x : CrewState = state_of c.self.inside in
    let y : CrewState = record x { cluster = c.give_order.new.self } in
    let m = some_now c.give_order.new.self.monitor c.give_order.ensures.given in
    let none : is_some x.cluster.monitor ≡ false = sym (ap is_some c.monitor.ensures) ∙ copied_order c.monitor.result ∙ sym c.is_some.ensures ∙ c.if-is_some.false in
    record {
      came = λ words. subst (λ (z : CrewState). IsGivenBy words z y Acted c.args.order) c.self.view_is (record {
        heirs = m.0.heirs;
        takes = λ _. is_take x.live c.args.order m.0.heirs c.requires.formatted
            (λ lane e. subst (λ (l : List ℕ). AreHeirs l m.0.heirs) c.deref.ensures.value (c.give_order.ensures.heirs lane m.0 e m.1))
            (λ none. c.give_order.ensures.nobody m.0 none m.1);
        nobody = λ none. c.give_order.ensures.nobody m.0 none m.1;
        is = turns_so words x y Acted (λ w. give w c.args.order m.0.heirs) (λ w. with_event w (Orders c.args.order m.0.heirs))
            (clustered x y (Orders c.args.order m.0.heirs) (record { does = c.give_order.ensures.does m.0 m.1; segments = c.give_order.ensures.segments; lanes = c.give_order.ensures.lanes; waiting = refl; live = refl }))
            (λ told receipts. given (world_of words x told receipts) c.args.order m.0.heirs
            (subst (λ (z : CrewState). may_order (world_of words z told receipts) c.args.order ≡ true) (sym c.self.view_is) (may words told receipts)) none);
      });
      done = refl;
    }
