use Rattle.std.proofs.Common.{ℕ, List, ◌++◌, map, ◌∙◌, ap, subst}
use Rattle.dn_world.specs.Comes.{Came, Keeps, OnDone, joining}
use Rattle.dn_world.specs.Happens.{HappensTo, Happens}
use Rattle.dn_world.specs.Inside.{stands_as}
use Rattle.dn_world.specs.State.{CrewState, WorldState}
use Rattle.dn_world.specs.declared.worlds.Standing.{Standing as Kept}
use Rattle.dn_world.proofs.History.{world_happens}
use Rattle.dn_world.proofs.Stepping.{if_ok}
use Rattle.dn_world.proofs.worlds.World.do_event.Goals as goal

pub returns-clause-happens : goal.returns-clause-happens
returns-clause-happens g c =
    let words : List ℕ = g.M.Memory.words c.args.mem.now in
    let now : List ℕ = g.M.Memory.words c.event.new.mem in
    let x : CrewState = c.self.inside.crew in
    let y : CrewState = c.event.new.self in
    let was : List Kept = c.reserve.new.self.items in
    let stands : List Kept = c.event.new.standing.items in
    let came : Came → Type 0 = λ came. HappensTo words x now y came c.args.event in
    let v : WorldState = record { crew = y; history = map stands_as stands; ended = c.self.inside.ended.items } in
    if_ok c.event.result (λ outcome. OnDone outcome (Keeps was stands outcome came)) (λ outcome. OnDone outcome (Happens words c.args.self.now now v c.args.event outcome))
    (λ outcome h fine. subst (λ (w : WorldState). Happens words w now v c.args.event outcome) c.self.view_is
    (let k = h fine in
    let it : Came = record { outcome = outcome; receipt = k.receipt } in
    world_happens words x now y it c.args.event (map stands_as c.self.inside.standing.items) (map stands_as stands) c.self.inside.ended.items c.self.inside.ended.items
    (k.kept ∙ ap (λ (ks : List Kept). map stands_as ks ++ joining k.receipt) c.in_ok-reserve.ensures.items)
    k.is)) c.event.ensures.comes
