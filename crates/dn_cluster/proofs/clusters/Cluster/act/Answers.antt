use Rattle.std.proofs.Common.{ℕ, ◌≡◌, Option, Some, None, sym, ◌∙◌, ap, subst}
use Rattle.std.proofs.lemmas.Option.{none-some, same_Some}
use Rattle.dn_machine.specs.Events.{Fails}
use Rattle.dn_cluster.specs.Acting.{actor_of, IsNoOwner}
use Rattle.dn_cluster.specs.State.{numbered}
use Rattle.dn_cluster.specs.Machine.{lane_in}
use Rattle.dn_cluster.specs.Does.{FailsAs}
use Rattle.dn_cluster.specs.declared.actors.Actor.{Actor}
use Rattle.dn_cluster.specs.declared.actors.Actor.TheVariants as actor
use Rattle.dn_cluster.proofs.clusters.Cluster.act.Goals as goal

pub returns-in-Lane-clause-fails : goal.returns-in-Lane-clause-fails
returns-in-Lane-clause-fails g c = λ e.
    subst (λ (a : Actor). FailsAs (g.M.Memory.words c.args.mem.now) c.args.self.now (g.M.Memory.words c.act_lane.new.mem) (λ done. Fails (actor_of a) done)) (sym c.in-Lane.is) (c.act_lane.ensures.fails e)

pub returns-in-Merger-clause-fails : goal.returns-in-Merger-clause-fails
returns-in-Merger-clause-fails g c = λ e.
    subst (λ (a : Actor). FailsAs (g.M.Memory.words c.args.mem.now) c.args.self.now (g.M.Memory.words c.act_merger.new.mem) (λ done. Fails (actor_of a) done)) (sym c.in-Merger.is) (c.act_merger.ensures.fails e)

pub returns-in-Monitor-clause-fails : goal.returns-in-Monitor-clause-fails
returns-in-Monitor-clause-fails g c = λ e.
    subst (λ (a : Actor). FailsAs (g.M.Memory.words c.args.mem.now) c.args.self.now (g.M.Memory.words c.act_monitor.new.mem) (λ done. Fails (actor_of a) done)) (sym c.in-Monitor.is) (c.act_monitor.ensures.fails e)

pub returns-in-Session-clause-fails : goal.returns-in-Session-clause-fails
returns-in-Session-clause-fails g c = λ e.
    subst (λ (a : Actor). FailsAs (g.M.Memory.words c.args.mem.now) c.args.self.now (g.M.Memory.words c.act_session.new.mem) (λ done. Fails (actor_of a) done)) (sym c.in-Session.is) (c.act_session.ensures.fails e)

abbrev number_of : Actor → Option ℕ
number_of (actor.Lane n) = Some n
number_of (actor.Merger n) = None
number_of actor.Monitor = None
number_of (actor.Session s) = None

pub returns-in-Lane-clause-look : goal.returns-in-Lane-clause-look
returns-in-Lane-clause-look g c = λ n look cell l who there e.
    let same : c.in-Lane.lane ≡ n = same_Some c.in-Lane.lane n (ap number_of (sym c.in-Lane.is ∙ who)) in
    subst (λ (k : ℕ). IsNoOwner (g.M.Memory.words c.args.mem.now) k l look) same
    (c.act_lane.ensures.look look cell l (ap (λ (k : ℕ). lane_in (numbered c.args.self.now.nodes k)) same ∙ there) e)

pub returns-in-Merger-clause-look : goal.returns-in-Merger-clause-look
returns-in-Merger-clause-look g c = λ n look cell l who there e. absurd (none-some n (ap number_of (sym c.in-Merger.is ∙ who)))

pub returns-in-Monitor-clause-look : goal.returns-in-Monitor-clause-look
returns-in-Monitor-clause-look g c = λ n look cell l who there e. absurd (none-some n (ap number_of (sym c.in-Monitor.is ∙ who)))

pub returns-in-Session-clause-look : goal.returns-in-Session-clause-look
returns-in-Session-clause-look g c = λ n look cell l who there e. absurd (none-some n (ap number_of (sym c.in-Session.is ∙ who)))
