use Rattle.std.proofs.Common.{ℕ, List, [], refl, subst, sym}
use Rattle.dn_outcomes.specs.Does.{does}
use Rattle.dn_outcomes.specs.declared.events.Event.{Event}
use Rattle.dn_outcomes.specs.declared.events.Event.TheVariants as event
use Rattle.dn_outcomes.specs.Steps.{step}
use Rattle.dn_outcomes.specs.State.{on_lane}
use Rattle.dn_world.specs.Comes.{Came, Comes, Keeps, OnDone, bare}
use Rattle.dn_world.specs.Happens.{MayBeGivenTo, HappensTo}
use Rattle.dn_world.specs.State.{CrewState}
use Rattle.dn_world.proofs.Changes.{comes_of}
use Rattle.dn_world.proofs.Events.{comes_moved, happens_by, given_takes}
use Rattle.dn_world.proofs.Stepping.{if_ok}
use Rattle.dn_world.specs.declared.worlds.Standing.{Standing as Kept}
use Rattle.dn_world.proofs.History.{keeps_none, keeps_as}
use Rattle.dn_world.proofs.crews.Crew.event.Goals as goal

pub returns-in-Step-clause-comes : goal.returns-in-Step-clause-comes
returns-in-Step-clause-comes g c =
    let words : List ℕ = g.M.Memory.words c.args.mem.now in
    let now : List ℕ = g.M.Memory.words c.step.new.mem in
    let x : CrewState = c.args.self.now in
    let y : CrewState = c.step.new.self in
    let n : ℕ = c.in-Step.lane in
    let was : List Kept = c.args.standing.now.items in
    let stands : List Kept = c.step.new.standing.items in
    let stepped : Came → Type 0 = λ came. Comes words x now y came (λ w. on_lane w n (step w n)) in
    let happened : Came → Type 0 = λ came. HappensTo words x now y came c.args.event in
    if_ok c.step.result (λ outcome. OnDone outcome (Keeps was stands outcome stepped)) (λ outcome. OnDone outcome (Keeps was stands outcome happened))
    (λ outcome h fine. keeps_as was stands outcome stepped happened (λ came by. subst (λ (e : Event). HappensTo words x now y came e) (sym c.in-Step.is) (happens_by words x now y came (event.Step n) [] (λ told receipts. tt) by)) (h fine)) c.step.ensures.came

pub returns-in-Start-clause-comes : goal.returns-in-Start-clause-comes
returns-in-Start-clause-comes g c fine =
    let words : List ℕ = g.M.Memory.words c.args.mem.now in
    let x : CrewState = c.args.self.now in
    let y : CrewState = c.start-outcome.new.self in
    let now : List ℕ = words in
    let e : Event = event.Start c.in-Start.session c.in-Start.lane c.in-Start.call in
    keeps_none _ _ c.start-outcome.result (λ (came : Came). HappensTo words x now y came c.args.event) refl
    (subst (λ (k : Event). HappensTo words x now y (bare c.start-outcome.result) k) (sym c.in-Start.is)
    (happens_by words x now y (bare c.start-outcome.result) e [] (λ told receipts. ((subst (MayBeGivenTo x) c.in-Start.is c.requires.event).0, (subst (MayBeGivenTo x) c.in-Start.is c.requires.event).1))
    (comes_of words x now y (bare c.start-outcome.result) (λ z. does z e []) (c.start-outcome.ensures.came words))))

pub returns-in-Flow-clause-comes : goal.returns-in-Flow-clause-comes
returns-in-Flow-clause-comes g c fine =
    let words : List ℕ = g.M.Memory.words c.args.mem.now in
    let x : CrewState = c.args.self.now in
    let y : CrewState = c.flow-outcome.new.self in
    let now : List ℕ = g.M.Memory.words c.flow-outcome.new.mem in
    let e : Event = event.Flow c.in-Flow.lane c.in-Flow.index in
    keeps_none _ _ c.flow-outcome.result (λ (came : Came). HappensTo words x now y came c.args.event) refl
    (subst (λ (k : Event). HappensTo words x now y (bare c.flow-outcome.result) k) (sym c.in-Flow.is)
    (happens_by words x now y (bare c.flow-outcome.result) e [] (λ told receipts. tt)
    (comes_of words x now y (bare c.flow-outcome.result) (λ z. does z e []) (c.flow-outcome.ensures.came fine))))

pub returns-in-Merge-clause-comes : goal.returns-in-Merge-clause-comes
returns-in-Merge-clause-comes g c fine =
    let words : List ℕ = g.M.Memory.words c.args.mem.now in
    let x : CrewState = c.args.self.now in
    let y : CrewState = c.merge-outcome.new.self in
    let now : List ℕ = g.M.Memory.words c.merge-outcome.new.mem in
    let e : Event = event.Merge c.in-Merge.lane in
    keeps_none _ _ c.merge-outcome.result (λ (came : Came). HappensTo words x now y came c.args.event) refl
    (subst (λ (k : Event). HappensTo words x now y (bare c.merge-outcome.result) k) (sym c.in-Merge.is)
    (happens_by words x now y (bare c.merge-outcome.result) e [] (λ told receipts. tt)
    (comes_of words x now y (bare c.merge-outcome.result) (λ z. does z e []) (c.merge-outcome.ensures.came fine))))

pub returns-in-Monitor-clause-comes : goal.returns-in-Monitor-clause-comes
returns-in-Monitor-clause-comes g c fine =
    let words : List ℕ = g.M.Memory.words c.args.mem.now in
    let x : CrewState = c.args.self.now in
    let y : CrewState = c.monitor-outcome.new.self in
    let now : List ℕ = g.M.Memory.words c.monitor-outcome.new.mem in
    let e : Event = event.Monitor in
    keeps_none _ _ c.monitor-outcome.result (λ (came : Came). HappensTo words x now y came c.args.event) refl
    (subst (λ (k : Event). HappensTo words x now y (bare c.monitor-outcome.result) k) (sym c.in-Monitor.is)
    (happens_by words x now y (bare c.monitor-outcome.result) e [] (λ told receipts. tt)
    (comes_of words x now y (bare c.monitor-outcome.result) (λ z. does z e []) (c.monitor-outcome.ensures.came fine))))

pub returns-in-Refresh-clause-comes : goal.returns-in-Refresh-clause-comes
returns-in-Refresh-clause-comes g c fine =
    let words : List ℕ = g.M.Memory.words c.args.mem.now in
    let x : CrewState = c.args.self.now in
    let y : CrewState = c.refresh-outcome.new.self in
    let now : List ℕ = g.M.Memory.words c.refresh-outcome.new.mem in
    let e : Event = event.Refresh c.in-Refresh.session in
    keeps_none _ _ c.refresh-outcome.result (λ (came : Came). HappensTo words x now y came c.args.event) refl
    (subst (λ (k : Event). HappensTo words x now y (bare c.refresh-outcome.result) k) (sym c.in-Refresh.is)
    (happens_by words x now y (bare c.refresh-outcome.result) e [] (λ told receipts. (subst (MayBeGivenTo x) c.in-Refresh.is c.requires.event))
    (comes_of words x now y (bare c.refresh-outcome.result) (λ z. does z e []) (c.refresh-outcome.ensures.came fine))))

pub returns-in-Give-clause-comes : goal.returns-in-Give-clause-comes
returns-in-Give-clause-comes g c fine =
    let words : List ℕ = g.M.Memory.words c.args.mem.now in
    let x : CrewState = c.args.self.now in
    let y : CrewState = c.give-outcome.new.self in
    let now : List ℕ = words in
    let e : Event = event.Give c.in-Give.order in
    keeps_none _ _ c.give-outcome.result (λ (came : Came). HappensTo words x now y came c.args.event) refl
    (subst (λ (k : Event). HappensTo words x now y (bare c.give-outcome.result) k) (sym c.in-Give.is)
    (happens_by words x now y (bare c.give-outcome.result) e (c.give-outcome.ensures.came words).heirs (λ told receipts. ((subst (MayBeGivenTo x) c.in-Give.is c.requires.event).0, given_takes words x y c.give-outcome.result c.in-Give.order (c.give-outcome.ensures.came words) told receipts))
    (comes_moved words x y (bare c.give-outcome.result) (λ z. does z e (c.give-outcome.ensures.came words).heirs) (c.give-outcome.ensures.came words).is)))

pub returns-in-DropOrder-clause-comes : goal.returns-in-DropOrder-clause-comes
returns-in-DropOrder-clause-comes g c fine =
    let words : List ℕ = g.M.Memory.words c.args.mem.now in
    let x : CrewState = c.args.self.now in
    let y : CrewState = c.end_order-outcome.new.self in
    let now : List ℕ = words in
    let e : Event = event.DropOrder in
    keeps_none _ _ c.end_order-outcome.result (λ (came : Came). HappensTo words x now y came c.args.event) refl
    (subst (λ (k : Event). HappensTo words x now y (bare c.end_order-outcome.result) k) (sym c.in-DropOrder.is)
    (happens_by words x now y (bare c.end_order-outcome.result) e [] (λ told receipts. tt)
    (comes_moved words x y (bare c.end_order-outcome.result) (λ z. does z e []) (c.end_order-outcome.ensures.came words))))

pub returns-in_ok-outcome-in-Queue-clause-comes : goal.returns-in_ok-outcome-in-Queue-clause-comes
returns-in_ok-outcome-in-Queue-clause-comes g c fine =
    let words : List ℕ = g.M.Memory.words c.args.mem.now in
    let x : CrewState = c.args.self.now in
    let y : CrewState = c.queue.new.self in
    let now : List ℕ = words in
    let e : Event = event.Queue c.in-Queue.lane c.in-Queue.task in
    keeps_none _ _ c.in_ok-outcome-in-Queue.outcome (λ (came : Came). HappensTo words x now y came c.args.event) refl
    (subst (λ (k : Event). HappensTo words x now y (bare c.in_ok-outcome-in-Queue.outcome) k) (sym c.in-Queue.is)
    (happens_by words x now y (bare c.in_ok-outcome-in-Queue.outcome) e [] (λ told receipts. (subst (MayBeGivenTo x) c.in-Queue.is c.requires.event))
    (comes_moved words x y (bare c.in_ok-outcome-in-Queue.outcome) (λ z. does z e []) (c.in_ok-outcome-in-Queue.ensures.came words))))

pub returns-in_ok-outcome-in-Add-clause-comes : goal.returns-in_ok-outcome-in-Add-clause-comes
returns-in_ok-outcome-in-Add-clause-comes g c fine =
    let words : List ℕ = g.M.Memory.words c.args.mem.now in
    let x : CrewState = c.args.self.now in
    let y : CrewState = c.add.new.self in
    let now : List ℕ = words in
    let e : Event = event.Add in
    keeps_none _ _ c.in_ok-outcome-in-Add.outcome (λ (came : Came). HappensTo words x now y came c.args.event) refl
    (subst (λ (k : Event). HappensTo words x now y (bare c.in_ok-outcome-in-Add.outcome) k) (sym c.in-Add.is)
    (happens_by words x now y (bare c.in_ok-outcome-in-Add.outcome) e [] (λ told receipts. tt)
    (comes_moved words x y (bare c.in_ok-outcome-in-Add.outcome) (λ z. does z e []) (c.in_ok-outcome-in-Add.ensures.came words))))

pub returns-in-Tell-clause-comes : goal.returns-in-Tell-clause-comes
returns-in-Tell-clause-comes g c fine =
    let words : List ℕ = g.M.Memory.words c.args.mem.now in
    let x : CrewState = c.args.self.now in
    let y : CrewState = c.tell-outcome.new.self in
    let now : List ℕ = words in
    let e : Event = event.Tell c.in-Tell.from c.in-Tell.to in
    keeps_none _ _ c.tell-outcome.result (λ (came : Came). HappensTo words x now y came c.args.event) refl
    (subst (λ (k : Event). HappensTo words x now y (bare c.tell-outcome.result) k) (sym c.in-Tell.is)
    (happens_by words x now y (bare c.tell-outcome.result) e [] (λ told receipts. (subst (MayBeGivenTo x) c.in-Tell.is c.requires.event))
    (comes_moved words x y (bare c.tell-outcome.result) (λ z. does z e []) (c.tell-outcome.ensures.came words))))
