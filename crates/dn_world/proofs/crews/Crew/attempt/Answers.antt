use Rattle.std.proofs.Common.{ℕ, ◌≡◌, List, refl, ap, subst, sym, ◌∙◌}
use Rattle.std.specs.Prelude.{IsSome}
use Rattle.dn_hist.specs.declared.receipts.SessionView.{SessionView}
use Rattle.dn_lane.specs.Refused.{Refuses}
use Rattle.dn_cluster.specs.Asks.{refused_in}
use Rattle.dn_cluster.specs.State.{ClusterState}
use Rattle.dn_waiting.specs.State.{WaitingState, at_lane}
use Rattle.dn_waiting.specs.Turns.{taken_up}
use Rattle.dn_waiting.specs.declared.calls.Next.TheVariants.{Try}
use Rattle.dn_machine.specs.Events.{Asks}
use Rattle.dn_waiting.specs.State.{call_of}
use Rattle.dn_outcomes.specs.Going.{called, ends}
use Rattle.dn_outcomes.specs.Steps.{acts}
use Rattle.dn_outcomes.specs.declared.outcomes.CallAnswer.TheVariants.{Fenced}
use Rattle.dn_world.specs.Comes.{Came, Comes, Carries, Moves, bare}
use Rattle.dn_world.specs.Inside.{state_of}
use Rattle.dn_world.specs.State.{CrewState}
use Rattle.dn_world.specs.Takes.{Takes, tries_at, IsSessionOf}
use Rattle.dn_world.proofs.TakingUp.{takes_begun, takes_room, may_try, tries_sound, after_taking, tries_so, tries_barred, then_acts, taken_try, IsGivenTo}
use Rattle.dn_world.proofs.Changes.{counts_done}
use Rattle.dn_world.proofs.History.{keeps_none, keeps_as}
use Rattle.dn_world.proofs.crews.Crew.attempt.Goals as goal

pub begin-requires-clause-runs : goal.begin-requires-clause-runs
begin-requires-clause-runs g c =
    let words : List ℕ = g.M.Memory.words c.args.mem.now in
    let x : CrewState = c.args.self.now in
    let n : ℕ = c.args.lane in
    let view : SessionView = c.args.view in
    let h : Takes words x n (Try view) = c.requires.takes in
    (h.lane, h.runs)

pub begin-requires-clause-session : goal.begin-requires-clause-session
begin-requires-clause-session g c =
    let words : List ℕ = g.M.Memory.words c.args.mem.now in
    let x : CrewState = c.args.self.now in
    let n : ℕ = c.args.lane in
    let view : SessionView = c.args.view in
    let h : Takes words x n (Try view) = c.requires.takes in
    (may_try words x n view h).session

pub begin-requires-clause-call : goal.begin-requires-clause-call
begin-requires-clause-call g c =
    let words : List ℕ = g.M.Memory.words c.args.mem.now in
    let x : CrewState = c.args.self.now in
    let n : ℕ = c.args.lane in
    let view : SessionView = c.args.view in
    let h : Takes words x n (Try view) = c.requires.takes in
    subst IsSome (sym (may_try words x n view h).call_is) refl

pub begin-requires-clause-key : goal.begin-requires-clause-key
begin-requires-clause-key g c =
    let words : List ℕ = g.M.Memory.words c.args.mem.now in
    let x : CrewState = c.args.self.now in
    let n : ℕ = c.args.lane in
    let view : SessionView = c.args.view in
    let h : Takes words x n (Try view) = c.requires.takes in
    (may_try words x n view h).key

pub begin-requires-clause-last : goal.begin-requires-clause-last
begin-requires-clause-last g c =
    let words : List ℕ = g.M.Memory.words c.args.mem.now in
    let x : CrewState = c.args.self.now in
    let n : ℕ = c.args.lane in
    let view : SessionView = c.args.view in
    let h : Takes words x n (Try view) = c.requires.takes in
    (may_try words x n view h).stamp

pub begin-requires-clause-hint : goal.begin-requires-clause-hint
begin-requires-clause-hint g c =
    let words : List ℕ = g.M.Memory.words c.args.mem.now in
    let x : CrewState = c.args.self.now in
    let n : ℕ = c.args.lane in
    let view : SessionView = c.args.view in
    let h : Takes words x n (Try view) = c.requires.takes in
    (may_try words x n view h).hint

pub take_up-requires-clause-free : goal.take_up-requires-clause-free
take_up-requires-clause-free g c =
    let words : List ℕ = g.M.Memory.words c.args.mem.now in
    let x : CrewState = c.args.self.now in
    let n : ℕ = c.args.lane in
    let view : SessionView = c.args.view in
    let h : Takes words x n (Try view) = c.requires.takes in
    let b : CrewState = state_of c.self.inside in
    let waits : b.waiting ≡ x.waiting = ap (λ (z : CrewState). z.waiting) c.self.view_is ∙ c.begin.ensures.waiting in
    ap (λ (w : WaitingState). (at_lane w n).begun) waits ∙ takes_begun words x n (Try view) h

pub act-requires-clause-can : goal.act-requires-clause-can
act-requires-clause-can g c =
    let words : List ℕ = g.M.Memory.words c.args.mem.now in
    let x : CrewState = c.args.self.now in
    let n : ℕ = c.args.lane in
    let view : SessionView = c.args.view in
    let h : Takes words x n (Try view) = c.requires.takes in
    let b : CrewState = state_of c.self.inside in
    let waits : b.waiting ≡ x.waiting = ap (λ (z : CrewState). z.waiting) c.self.view_is ∙ c.begin.ensures.waiting in
    let given : IsGivenTo x b.cluster (Asks n view (called (call_of x.waiting view.session))) =
    subst (λ (k : ClusterState). IsGivenTo x k (Asks n view (called (call_of x.waiting view.session)))) (sym (ap (λ (z : CrewState). z.cluster) c.self.view_is))
    (record { does = c.in-Ok.ensures.does; segments = c.begin.ensures.segments; lanes = c.begin.ensures.lanes }) in
    record { told = h.can.told; receipts = h.can.receipts; sound = tries_sound words x n view b.cluster h.can.told h.can.receipts h given h.can.sound }

pub act-requires-clause-session : goal.act-requires-clause-session
act-requires-clause-session g c =
    let words : List ℕ = g.M.Memory.words c.args.mem.now in
    let x : CrewState = c.args.self.now in
    let n : ℕ = c.args.lane in
    let view : SessionView = c.args.view in
    let h : Takes words x n (Try view) = c.requires.takes in
    let b : CrewState = state_of c.self.inside in
    let waits : b.waiting ≡ x.waiting = ap (λ (z : CrewState). z.waiting) c.self.view_is ∙ c.begin.ensures.waiting in
    subst (λ (w : WaitingState). IsSessionOf (at_lane w n).begun) (sym (c.take_up.ensures.after ∙ ap (λ (w : WaitingState). taken_up w n) waits))
    (subst IsSessionOf (sym (taken_try x.waiting n view h.next_is (takes_room words x n (Try view) h))) (may_try words x n view h).session)

pub returns-in-Ok-clause-came : goal.returns-in-Ok-clause-came
returns-in-Ok-clause-came g c =
    let words : List ℕ = g.M.Memory.words c.args.mem.now in
    let x : CrewState = c.args.self.now in
    let n : ℕ = c.args.lane in
    let view : SessionView = c.args.view in
    let h : Takes words x n (Try view) = c.requires.takes in
    let b : CrewState = state_of c.self.inside in
    let waits : b.waiting ≡ x.waiting = ap (λ (z : CrewState). z.waiting) c.self.view_is ∙ c.begin.ensures.waiting in
    let given : IsGivenTo x b.cluster (Asks n view (called (call_of x.waiting view.session))) =
    subst (λ (k : ClusterState). IsGivenTo x k (Asks n view (called (call_of x.waiting view.session)))) (sym (ap (λ (z : CrewState). z.cluster) c.self.view_is))
    (record { does = c.in-Ok.ensures.does; segments = c.begin.ensures.segments; lanes = c.begin.ensures.lanes }) in
    let lives : b.live ≡ x.live = ap (λ (z : CrewState). z.live) c.self.view_is ∙ c.begin.ensures.live in
    let now : List ℕ = g.M.Memory.words c.act.new.mem in
    let y : CrewState = c.act.new.self in
    let acted : CrewState = record { cluster = b.cluster; waiting = c.take_up.new.self; live = b.live } in
    λ fine. keeps_as _ _ c.act.result (λ (came : Came). Carries words acted now y came (λ w. acts w n)) (λ (came : Came). Comes words x now y came (λ w. tries_at w n view))
    (λ came by. then_acts words x (after_taking x b.cluster n) now y came n (λ w. tries_at w n view)
    (tries_so words x n view b.cluster h given c.in-Ok.ensures.free)
    (subst (λ (w : WaitingState). Carries words (record { cluster = b.cluster; waiting = w; live = x.live }) now y came (λ w. acts w n)) (c.take_up.ensures.after ∙ ap (λ (w : WaitingState). taken_up w n) waits)
    (subst (λ (l : List ℕ). Carries words (record { cluster = b.cluster; waiting = c.take_up.new.self; live = l }) now y came (λ w. acts w n)) lives by)))
    (c.act.ensures.came fine)

pub take_up-requires-in-Err-Fenced-clause-free : goal.take_up-requires-in-Err-Fenced-clause-free
take_up-requires-in-Err-Fenced-clause-free g c =
    let words : List ℕ = g.M.Memory.words c.args.mem.now in
    let x : CrewState = c.args.self.now in
    let n : ℕ = c.args.lane in
    let view : SessionView = c.args.view in
    let h : Takes words x n (Try view) = c.requires.takes in
    let b : CrewState = state_of c.self-in-Err-Fenced.inside in
    let same : b ≡ x = c.self-in-Err-Fenced.view_is ∙ c.in-Err-Fenced.ensures.same in
    ap (λ (z : CrewState). (at_lane z.waiting n).begun) same ∙ takes_begun words x n (Try view) h

pub end-requires-clause-session : goal.end-requires-clause-session
end-requires-clause-session g c =
    let words : List ℕ = g.M.Memory.words c.args.mem.now in
    let x : CrewState = c.args.self.now in
    let n : ℕ = c.args.lane in
    let view : SessionView = c.args.view in
    let h : Takes words x n (Try view) = c.requires.takes in
    let b : CrewState = state_of c.self-in-Err-Fenced.inside in
    let same : b ≡ x = c.self-in-Err-Fenced.view_is ∙ c.in-Err-Fenced.ensures.same in
    subst (λ (w : WaitingState). IsSessionOf (at_lane w n).begun) (sym (c.take_up-in-Err-Fenced.ensures.after ∙ ap (λ (z : CrewState). taken_up z.waiting n) same))
    (subst IsSessionOf (sym (taken_try x.waiting n view h.next_is (takes_room words x n (Try view) h))) (may_try words x n view h).session)

pub returns-in-Err-Fenced-clause-came : goal.returns-in-Err-Fenced-clause-came
returns-in-Err-Fenced-clause-came g c =
    let words : List ℕ = g.M.Memory.words c.args.mem.now in
    let x : CrewState = c.args.self.now in
    let n : ℕ = c.args.lane in
    let view : SessionView = c.args.view in
    let h : Takes words x n (Try view) = c.requires.takes in
    let b : CrewState = state_of c.self-in-Err-Fenced.inside in
    let same : b ≡ x = c.self-in-Err-Fenced.view_is ∙ c.in-Err-Fenced.ensures.same in
    let at : record { cluster = b.cluster; waiting = c.take_up-in-Err-Fenced.new.self; live = b.live } ≡ after_taking x x.cluster n =
    ap (λ (w : WaitingState). record { cluster = b.cluster; waiting = w; live = b.live }) c.take_up-in-Err-Fenced.ensures.after ∙ ap (λ (z : CrewState). after_taking z z.cluster n) same in
    λ _. keeps_none _ _ c.end.result (λ (came : Came). Comes words x words c.end.new.self came (λ w. tries_at w n view)) refl
    (tries_barred words x c.end.new.self n view c.in-Err-Fenced.word c.end.result h (subst (Refuses (refused_in x.cluster n)) c.in-Err-Fenced.field-0-is c.in-Err-Fenced.ensures.cause)
    (subst (λ (z : CrewState). Moves words z words c.end.new.self (bare c.end.result) (λ w. ends w n (Fenced c.in-Err-Fenced.word))) at (c.end.ensures.came words)))

pub returns-in-Err-Fenced-clause-count : goal.returns-in-Err-Fenced-clause-count
returns-in-Err-Fenced-clause-count g c =
    counts_done c.end.result _ _ c.end.ensures.done refl
