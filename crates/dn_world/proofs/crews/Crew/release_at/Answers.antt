use Rattle.std.proofs.Common.{ℕ, ◌≡◌, ◌≤◌, true, List, [], Some, None, ap, subst, sym, ◌∙◌, length, arith}
use Rattle.std.proofs.lemmas.Bool.{lt-ltb, le-ltb}
use Rattle.dn_route.specs.CallersOrder.{Told}
use Rattle.dn_callers.specs.Callers.{Standing}
use Rattle.dn_cluster.specs.Machine.{lane_in, IsMade}
use Rattle.dn_cluster.specs.State.{numbered}
use Rattle.dn_waiting.specs.State.{WaitingState}
use Rattle.dn_outcomes.specs.Orders.{release}
use Rattle.dn_outcomes.specs.State.{is_made}
use Rattle.dn_outcomes.specs.declared.leaving.Leaving.{Leaving}
use Rattle.dn_world.specs.Comes.{Turns}
use Rattle.dn_world.specs.Inside.{state_of}
use Rattle.dn_world.specs.State.{CrewState, world_of}
use Rattle.dn_world.proofs.Others.{release_unmade, release_high, release_stopped, release_runs}
use Rattle.dn_world.proofs.Stepping.{made_of, some_of, not_both}
use Rattle.dn_world.proofs.crews.Crew.release_at.Goals as goal

pub returns-then-not-is_made : goal.returns-then-not-is_made
returns-then-not-is_made c =
    record { is = λ words told receipts. sym (release_unmade (world_of words c.args.self.now told receipts) c.args.leaving (sym (c.is_made.ensures words told receipts) ∙ c.if-not-is_made.true)) }

pub returns-then-slot-ge64 : goal.returns-then-slot-ge64
returns-then-slot-ge64 c =
    record { is = λ words told receipts. sym (release_high (world_of words c.args.self.now told receipts) c.args.leaving (le-ltb c.args.leaving.slot 64 c.if-slot-ge64.true)) }

pub is_stopped-requires : goal.is_stopped-requires
is_stopped-requires c =
    let x : CrewState = state_of c.self.inside in
    let l : Leaving = c.args.leaving in
    let made : (words : List ℕ) (told : List Told) (receipts : List Standing) → is_made (world_of words x told receipts) l.lane ≡ true =
    λ words told receipts. subst (λ (z : CrewState). is_made (world_of words z told receipts) l.lane ≡ true) (sym c.self.view_is) (sym (c.is_made.ensures words told receipts) ∙ c.if-not-is_made.false) in
    made_of [] x [] [] l.lane (made [] [] [])

pub returns-then-is_stopped : goal.returns-then-is_stopped
returns-then-is_stopped c =
    let x : CrewState = state_of c.self.inside in
    let l : Leaving = c.args.leaving in
    let made : (words : List ℕ) (told : List Told) (receipts : List Standing) → is_made (world_of words x told receipts) l.lane ≡ true =
    λ words told receipts. subst (λ (z : CrewState). is_made (world_of words z told receipts) l.lane ≡ true) (sym c.self.view_is) (sym (c.is_made.ensures words told receipts) ∙ c.if-not-is_made.false) in
    record {
      is = λ words told receipts. sym (release_stopped (world_of words c.args.self.now told receipts) c.args.leaving
          (subst (λ (z : CrewState). lane_in (numbered z.cluster.nodes l.lane) ≡ None) c.self.view_is (c.is_stopped.ensures.0 c.if-is_stopped.true)));
    }

pub queue_release-requires-clause-lane : goal.queue_release-requires-clause-lane
queue_release-requires-clause-lane c =
    let x : CrewState = state_of c.self.inside in
    let l : Leaving = c.args.leaving in
    let made : (words : List ℕ) (told : List Told) (receipts : List Standing) → is_made (world_of words x told receipts) l.lane ≡ true =
    λ words told receipts. subst (λ (z : CrewState). is_made (world_of words z told receipts) l.lane ≡ true) (sym c.self.view_is) (sym (c.is_made.ensures words told receipts) ∙ c.if-not-is_made.false) in
    let is : IsMade x.cluster l.lane = made_of [] x [] [] l.lane (made [] [] []) in
    let most : length x.cluster.nodes ≤ 63 = subst (λ (z : CrewState). length z.cluster.nodes ≤ 63) (sym c.self.view_is) c.requires.can in
    (is.0, omega (arith, is.1, most))

pub returns : goal.returns
returns c =
    let x : CrewState = state_of c.self.inside in
    let l : Leaving = c.args.leaving in
    let made : (words : List ℕ) (told : List Told) (receipts : List Standing) → is_made (world_of words x told receipts) l.lane ≡ true =
    λ words told receipts. subst (λ (z : CrewState). is_made (world_of words z told receipts) l.lane ≡ true) (sym c.self.view_is) (sym (c.is_made.ensures words told receipts) ∙ c.if-not-is_made.false) in
    let there = some_of (lane_in (numbered x.cluster.nodes l.lane)) (λ e. not_both c.is_stopped.result (c.is_stopped.ensures.1 e) c.if-is_stopped.false) in
    let y : CrewState = record x { waiting = c.queue_release.new.self } in
    subst (λ (z : CrewState). Turns z y (λ w. release w (Some l))) c.self.view_is (record {
      is = λ words told receipts.
          ap (λ (v : WaitingState). world_of words (record x { waiting = v }) told receipts) c.queue_release.ensures
          ∙ sym (release_runs (world_of words x told receipts) l there.0 (made words told receipts) (lt-ltb l.slot 64 c.if-slot-ge64.false) there.1);
    })
