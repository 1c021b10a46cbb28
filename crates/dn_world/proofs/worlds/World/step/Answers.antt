use Rattle.std.proofs.Common.{ℕ, List, [], ◌++◌, map, ◌∙◌, ap, subst}
use Rattle.dn_outcomes.specs.declared.events.Event.TheVariants.{Step}
use Rattle.dn_outcomes.specs.State.{on_lane}
use Rattle.dn_outcomes.specs.Steps.{step}
use Rattle.dn_world.specs.Comes.{Came, Comes, Keeps, OnDone, joining}
use Rattle.dn_world.specs.Happens.{Happens}
use Rattle.dn_world.specs.Inside.{stands_as}
use Rattle.dn_world.specs.State.{CrewState, WorldState}
use Rattle.dn_world.specs.declared.worlds.Standing.{Standing as Kept}
use Rattle.dn_world.proofs.Events.{happens_by}
use Rattle.dn_world.proofs.History.{world_happens}
use Rattle.dn_world.proofs.Stepping.{if_ok}
use Rattle.dn_world.proofs.worlds.World.step.Goals as goal

pub returns-clause-happens : goal.returns-clause-happens
returns-clause-happens g c =
    let words : List ℕ = g.M.Memory.words c.args.mem.now in
    let now : List ℕ = g.M.Memory.words c.step.new.mem in
    let x : CrewState = c.self.inside.crew in
    let y : CrewState = c.step.new.self in
    let was : List Kept = c.reserve.new.self.items in
    let stands : List Kept = c.step.new.standing.items in
    let came : Came → Type 0 = λ came. Comes words x now y came (λ w. on_lane w c.args.lane (step w c.args.lane)) in
    let v : WorldState = record { crew = y; history = map stands_as stands; ended = c.self.inside.ended.items } in
    if_ok c.step.result (λ outcome. OnDone outcome (Keeps was stands outcome came)) (λ outcome. OnDone outcome (Happens words c.args.self.now now v (Step c.args.lane) outcome))
    (λ outcome h fine. subst (λ (w : WorldState). Happens words w now v (Step c.args.lane) outcome) c.self.view_is
    (let k = h fine in
    let it : Came = record { outcome = outcome; receipt = k.receipt } in
    world_happens words x now y it (Step c.args.lane) (map stands_as c.self.inside.standing.items) (map stands_as stands) c.self.inside.ended.items c.self.inside.ended.items
    (k.kept ∙ ap (λ (ks : List Kept). map stands_as ks ++ joining k.receipt) c.in_ok-reserve.ensures.items)
    (happens_by words x now y it (Step c.args.lane) [] (λ told receipts. tt) k.is))) c.step.ensures.came
