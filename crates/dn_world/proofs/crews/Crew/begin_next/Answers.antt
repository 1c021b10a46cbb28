use Rattle.std.proofs.Common.{ℕ, ◌≡◌, List, ap, sym, refl, ◌∙◌}
use Rattle.dn_waiting.specs.State.{at_lane}
use Rattle.dn_waiting.specs.Turns.{next_at}
use Rattle.dn_waiting.specs.declared.calls.Next.{Next}
use Rattle.dn_waiting.specs.declared.calls.Next.TheVariants.{Rest, Tend, Try}
use Rattle.dn_outcomes.specs.State.{World}
use Rattle.dn_outcomes.specs.Steps.{begins}
use Rattle.dn_outcomes.specs.declared.outcomes.Outcome.TheVariants.{Nothing}
use Rattle.dn_world.specs.Comes.{Came, Comes, Keeps, OnDone, bare}
use Rattle.dn_world.specs.State.{CrewState, world_of}
use Rattle.dn_world.specs.Takes.{barred_by, begins_at, tends_at, tries_at}
use Rattle.dn_world.proofs.Stepping.{comes_eq, if_ok}
use Rattle.dn_world.proofs.Changes.{stays, comes_of}
use Rattle.dn_world.specs.declared.worlds.Standing.{Standing as Kept}
use Rattle.dn_world.proofs.History.{keeps_none, keeps_as}
use Rattle.dn_world.proofs.crews.Crew.begin_next.Goals as goal

pub next_for-requires : goal.next_for-requires
next_for-requires g c = c.requires.free.number

pub tend-requires-clause-takes : goal.tend-requires-clause-takes
tend-requires-clause-takes g c =
    let x : CrewState = c.args.self.now in
    let next : next_at (at_lane x.waiting c.args.lane) ≡ Tend c.in-Tend.task = ap (λ (z : CrewState). next_at (at_lane z.waiting c.args.lane)) (sym c.self.view_is) ∙ sym c.next_for.ensures ∙ c.in-Tend.is in
    let free = c.requires.free in
    record { can = free.can; number = free.number; lane = free.lane; runs = free.runs; rests = free.rests; next_is = next }

pub attempt-requires-clause-takes : goal.attempt-requires-clause-takes
attempt-requires-clause-takes g c =
    let x : CrewState = c.args.self.now in
    let next : next_at (at_lane x.waiting c.args.lane) ≡ Try c.in-Try.view = ap (λ (z : CrewState). next_at (at_lane z.waiting c.args.lane)) (sym c.self.view_is) ∙ sym c.next_for.ensures ∙ c.in-Try.is in
    let free = c.requires.free in
    record { can = free.can; number = free.number; lane = free.lane; runs = free.runs; rests = free.rests; next_is = next }

begins_so : (w : World) (n : ℕ) (next : Next) → next_at (at_lane w.waiting n) ≡ next → begins_at w n ≡ begins w n (barred_by (w.machine.lanes n)) next
begins_so w n next e = ap (λ (k : Next). begins w n (barred_by (w.machine.lanes n)) k) e

pub returns-in-Rest-clause-came : goal.returns-in-Rest-clause-came
returns-in-Rest-clause-came g c =
    let words : List ℕ = g.M.Memory.words c.args.mem.now in
    let x : CrewState = c.args.self.now in
    let n : ℕ = c.args.lane in
    let next : next_at (at_lane x.waiting n) ≡ Rest = ap (λ (z : CrewState). next_at (at_lane z.waiting n)) (sym c.self.view_is) ∙ sym c.next_for.ensures ∙ c.in-Rest.is in
    λ _. keeps_none _ _ Nothing (λ (came : Came). Comes words x words x came (λ w. begins_at w n)) refl
    (comes_of words x words x (bare Nothing) (λ w. begins_at w n) (stays words x Nothing (λ w. begins_at w n) (λ told receipts. begins_so (world_of words x told receipts) n Rest next)))

pub returns-in-Tend-clause-came : goal.returns-in-Tend-clause-came
returns-in-Tend-clause-came g c =
    let words : List ℕ = g.M.Memory.words c.args.mem.now in
    let x : CrewState = c.args.self.now in
    let n : ℕ = c.args.lane in
    let next : next_at (at_lane x.waiting n) ≡ Tend c.in-Tend.task = ap (λ (z : CrewState). next_at (at_lane z.waiting n)) (sym c.self.view_is) ∙ sym c.next_for.ensures ∙ c.in-Tend.is in
    let now : List ℕ = g.M.Memory.words c.tend.new.mem in
    let y : CrewState = c.tend.new.self in
    let was : List Kept = c.args.standing.now.items in
    let stands : List Kept = c.tend.new.standing.items in
    let tried : Came → Type 0 = λ came. Comes words x now y came (λ w. tends_at w n c.in-Tend.task) in
    let begun : Came → Type 0 = λ came. Comes words x now y came (λ w. begins_at w n) in
    if_ok c.tend.result (λ outcome. OnDone outcome (Keeps was stands outcome tried)) (λ outcome. OnDone outcome (Keeps was stands outcome begun))
    (λ outcome h fine. keeps_as was stands outcome tried begun (λ came by. comes_eq words x now y came (λ w. tends_at w n c.in-Tend.task) (λ w. begins_at w n) (λ told receipts. begins_so (world_of words x told receipts) n (Tend c.in-Tend.task) next) by) (h fine)) c.tend.ensures.came

pub returns-in-Try-clause-came : goal.returns-in-Try-clause-came
returns-in-Try-clause-came g c =
    let words : List ℕ = g.M.Memory.words c.args.mem.now in
    let x : CrewState = c.args.self.now in
    let n : ℕ = c.args.lane in
    let next : next_at (at_lane x.waiting n) ≡ Try c.in-Try.view = ap (λ (z : CrewState). next_at (at_lane z.waiting n)) (sym c.self.view_is) ∙ sym c.next_for.ensures ∙ c.in-Try.is in
    let now : List ℕ = g.M.Memory.words c.attempt.new.mem in
    let y : CrewState = c.attempt.new.self in
    let was : List Kept = c.args.standing.now.items in
    let stands : List Kept = c.attempt.new.standing.items in
    let tried : Came → Type 0 = λ came. Comes words x now y came (λ w. tries_at w n c.in-Try.view) in
    let begun : Came → Type 0 = λ came. Comes words x now y came (λ w. begins_at w n) in
    if_ok c.attempt.result (λ outcome. OnDone outcome (Keeps was stands outcome tried)) (λ outcome. OnDone outcome (Keeps was stands outcome begun))
    (λ outcome h fine. keeps_as was stands outcome tried begun (λ came by. comes_eq words x now y came (λ w. tries_at w n c.in-Try.view) (λ w. begins_at w n) (λ told receipts. begins_so (world_of words x told receipts) n (Try c.in-Try.view) next) by) (h fine)) c.attempt.ensures.came
