use Rattle.std.proofs.Common.{length, ◌≡◌, Option, Some, refl, sym, ◌∙◌, ap, arith}
use Rattle.dn_act.specs.declared.actions.Action.{Action}
use Rattle.dn_monitor.specs.Monitor.{Monitoring, monitor_next}
use Rattle.dn_cluster.specs.Acting.{is_nothing, monitor_answer, monitor_found}
use Rattle.dn_cluster.specs.State.{ClusterState}
use Rattle.dn_cluster.proofs.Found.{sized}
use Rattle.dn_cluster.proofs.OtherEvents.{monitor_acts_so, monitor_fails_so}
use Rattle.dn_cluster.proofs.Within.{monitor_low}
use Rattle.dn_cluster.proofs.clusters.Cluster.act_monitor.Goals as goal

pub exec-requires : goal.exec-requires
exec-requires g c = omega (arith, monitor_low c.in-Some-next.action (c.in-Some-next.ensures.within c.in-Some-next.action refl), sized (g.M.Memory.words c.args.mem.now) c.args.self.now c.requires)

pub returns-in-Ok-clause-event : goal.returns-in-Ok-clause-event
returns-in-Ok-clause-event g c = λ _.
    let monitor : c.args.self.now.monitor ≡ Some c.in-Some.monitor = ap (λ (x : ClusterState). x.monitor) (sym c.self.view_is) ∙ c.in-Some.is in
    let next : monitor_next c.in-Some.monitor ≡ Some c.in-Some-next.action = sym c.next.ensures.value ∙ c.in-Some-next.is in
    let after = c.monitor_takes.ensures.after c.in-Some.monitor monitor in
    monitor_acts_so (g.M.Memory.words c.args.mem.now) (g.M.Memory.words c.exec.new.mem) c.args.self.now c.monitor_takes.new.self c.in-Some.monitor c.in-Ok.word c.in-Some-next.action monitor next c.in-Ok.ensures.ok after (ap (λ (x : ClusterState). x.segments) after)

pub returns-in-Ok-clause-segments : goal.returns-in-Ok-clause-segments
returns-in-Ok-clause-segments g c =
    let monitor : c.args.self.now.monitor ≡ Some c.in-Some.monitor = ap (λ (x : ClusterState). x.monitor) (sym c.self.view_is) ∙ c.in-Some.is in
    ap (λ (x : ClusterState). x.segments) (c.monitor_takes.ensures.after c.in-Some.monitor monitor)

pub returns-in-Err-clause-fails : goal.returns-in-Err-clause-fails
returns-in-Err-clause-fails g c = λ _.
    let monitor : c.args.self.now.monitor ≡ Some c.in-Some.monitor = ap (λ (x : ClusterState). x.monitor) (sym c.self.view_is) ∙ c.in-Some.is in
    let next : monitor_next c.in-Some.monitor ≡ Some c.in-Some-next.action = sym c.next.ensures.value ∙ c.in-Some-next.is in
    monitor_fails_so (g.M.Memory.words c.args.mem.now) (g.M.Memory.words c.exec.new.mem) c.args.self.now c.in-Some.monitor c.in-Some-next.action monitor next c.in-Err.ensures.failed

pub returns-in-Err-clause-next : goal.returns-in-Err-clause-next
returns-in-Err-clause-next g c = λ _.
    let monitor : c.args.self.now.monitor ≡ Some c.in-Some.monitor = ap (λ (x : ClusterState). x.monitor) (sym c.self.view_is) ∙ c.in-Some.is in
    let next : monitor_next c.in-Some.monitor ≡ Some c.in-Some-next.action = sym c.next.ensures.value ∙ c.in-Some-next.is in
    ap is_nothing (ap (λ (o : Option Monitoring). monitor_answer (g.M.Memory.words c.args.mem.now) o) monitor ∙ ap (λ (o : Option Action). monitor_found (g.M.Memory.words c.args.mem.now) c.in-Some.monitor o) next)

pub returns-in-Ok-clause-lanes : goal.returns-in-Ok-clause-lanes
returns-in-Ok-clause-lanes g c =
    let monitor : c.args.self.now.monitor ≡ Some c.in-Some.monitor = ap (λ (x : ClusterState). x.monitor) (sym c.self.view_is) ∙ c.in-Some.is in
    ap (λ (x : ClusterState). length x.nodes) (c.monitor_takes.ensures.after c.in-Some.monitor monitor)
