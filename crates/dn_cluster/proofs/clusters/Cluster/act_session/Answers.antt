use Rattle.std.proofs.Common.{ℕ, ◌≡◌, ◌<◌, length, slice_get, Option, Some, None, refl, sym, ◌∙◌, ap, subst, arith}
use Rattle.std.proofs.lemmas.Option.{slice_get_within}
use Rattle.dn_word.specs.Regions.{deed_at}
use Rattle.dn_act.specs.Words.{word_at}
use Rattle.dn_act.specs.declared.actions.Action.TheVariants.{Load}
use Rattle.dn_act.specs.Action.{Performs, MayPerform}
use Rattle.dn_cluster.specs.State.{ClusterState, numbered}
use Rattle.dn_cluster.specs.Acting.{is_nothing, session_answer}
use Rattle.dn_cluster.specs.Inside.{state_of}
use Rattle.dn_cluster.specs.Machine.{load_in}
use Rattle.dn_cluster.specs.declared.actors.Acted.{Acted}
use Rattle.dn_cluster.specs.declared.actors.Acted.TheVariants as acted
use Rattle.dn_cluster.proofs.Found.{sized}
use Rattle.dn_cluster.proofs.OtherEvents.{session_acts_so, session_rests, session_fails_so}
use Rattle.dn_cluster.proofs.Places.{HasClient, now_client, client_is, no_place}
use Rattle.dn_cluster.proofs.clusters.Cluster.act_session.Goals as goal

pub returns-in_default-clause-answer : goal.returns-in_default-clause-answer
returns-in_default-clause-answer g c = λ _.
    let none : load_in (numbered c.args.self.now.clients c.args.session) ≡ None = ap load_in (no_place c.args.self.now.clients c.args.session
    (λ pos. omega (arith, c.in_default.ensures.none refl pos, c.len.ensures, ap (λ (x : ClusterState). length x.clients) c.self.view_is))) in
    ap (session_answer (g.M.Memory.words c.args.mem.now)) (sym none)

pub returns-in_default-clause-event : goal.returns-in_default-clause-event
returns-in_default-clause-event g c = λ _.
    let none : load_in (numbered c.args.self.now.clients c.args.session) ≡ None = ap load_in (no_place c.args.self.now.clients c.args.session
    (λ pos. omega (arith, c.in_default.ensures.none refl pos, c.len.ensures, ap (λ (x : ClusterState). length x.clients) c.self.view_is))) in
    session_rests (g.M.Memory.words c.args.mem.now) c.args.self.now c.args.session none

pub returns-in_default-load-clause-answer : goal.returns-in_default-load-clause-answer
returns-in_default-load-clause-answer g c = λ _.
    let b : ClusterState = state_of c.self.inside in
    let h : HasClient c.args.self.now c.args.session c.in-Some.at = now_client b c.args.self.now c.args.session c.in-Some.at c.index.result.now c.self.view_is
    c.in-Some.ensures.some.0 (omega (arith, c.in-Some.ensures.some.1, c.len.ensures)) c.index.ensures in
    ap (session_answer (g.M.Memory.words c.args.mem.now)) (sym (ap load_in (client_is c.args.self.now c.args.session c.in-Some.at h) ∙ c.in_default-load.is))

pub returns-in_default-load-clause-event : goal.returns-in_default-load-clause-event
returns-in_default-load-clause-event g c = λ _.
    let b : ClusterState = state_of c.self.inside in
    let h : HasClient c.args.self.now c.args.session c.in-Some.at = now_client b c.args.self.now c.args.session c.in-Some.at c.index.result.now c.self.view_is
    c.in-Some.ensures.some.0 (omega (arith, c.in-Some.ensures.some.1, c.len.ensures)) c.index.ensures in
    session_rests (g.M.Memory.words c.args.mem.now) c.args.self.now c.args.session (ap load_in (client_is c.args.self.now c.args.session c.in-Some.at h) ∙ c.in_default-load.is)

pub deed_at-requires : goal.deed_at-requires
deed_at-requires g c =
    let b : ClusterState = state_of c.self.inside in
    let h : HasClient c.args.self.now c.args.session c.in-Some.at = now_client b c.args.self.now c.args.session c.in-Some.at c.index.result.now c.self.view_is
    c.in-Some.ensures.some.0 (omega (arith, c.in-Some.ensures.some.1, c.len.ensures)) c.index.ensures in
    (c.self.invariant.clients c.in-Some.at c.index.result.now (ap (λ (y : ClusterState). slice_get y.clients c.in-Some.at) c.self.view_is ∙ h.is)).load c.in-Some-load.slot c.in-Some-load.is

pub exec-requires : goal.exec-requires
exec-requires g c =
    let b : ClusterState = state_of c.self.inside in
    let h : HasClient c.args.self.now c.args.session c.in-Some.at = now_client b c.args.self.now c.args.session c.in-Some.at c.index.result.now c.self.view_is
    c.in-Some.ensures.some.0 (omega (arith, c.in-Some.ensures.some.1, c.len.ensures)) c.index.ensures in
    let low : c.in-Some-load.slot < 64 = (c.self.invariant.clients c.in-Some.at c.index.result.now (ap (λ (y : ClusterState). slice_get y.clients c.in-Some.at) c.self.view_is ∙ h.is)).load c.in-Some-load.slot c.in-Some-load.is in
    omega (arith, low, sized (g.M.Memory.words c.args.mem.now) c.args.self.now c.requires, c.deed_at.ensures)

pub session_takes-requires-clause-at : goal.session_takes-requires-clause-at
session_takes-requires-clause-at g c =
    let b : ClusterState = state_of c.self.inside in
    let h : HasClient c.args.self.now c.args.session c.in-Some.at = now_client b c.args.self.now c.args.session c.in-Some.at c.index.result.now c.self.view_is
    c.in-Some.ensures.some.0 (omega (arith, c.in-Some.ensures.some.1, c.len.ensures)) c.index.ensures in
    slice_get_within c.args.self.now.clients c.in-Some.at c.index.result.now h.is

pub session_takes-requires-clause-slot : goal.session_takes-requires-clause-slot
session_takes-requires-clause-slot g c =
    let b : ClusterState = state_of c.self.inside in
    let h : HasClient c.args.self.now c.args.session c.in-Some.at = now_client b c.args.self.now c.args.session c.in-Some.at c.index.result.now c.self.view_is
    c.in-Some.ensures.some.0 (omega (arith, c.in-Some.ensures.some.1, c.len.ensures)) c.index.ensures in
    (c.self.invariant.clients c.in-Some.at c.index.result.now (ap (λ (y : ClusterState). slice_get y.clients c.in-Some.at) c.self.view_is ∙ h.is)).load c.in-Some-load.slot c.in-Some-load.is

pub returns-in-Ok-clause-answer : goal.returns-in-Ok-clause-answer
returns-in-Ok-clause-answer g c = λ _.
    let b : ClusterState = state_of c.self.inside in
    let h : HasClient c.args.self.now c.args.session c.in-Some.at = now_client b c.args.self.now c.args.session c.in-Some.at c.index.result.now c.self.view_is
    c.in-Some.ensures.some.0 (omega (arith, c.in-Some.ensures.some.1, c.len.ensures)) c.index.ensures in
    let load : load_in (numbered c.args.self.now.clients c.args.session) ≡ Some c.in-Some-load.slot = ap load_in (client_is c.args.self.now c.args.session c.in-Some.at h) ∙ c.in-Some-load.is in
    ap (λ (w : ℕ). let x : Acted = acted.Session w in x) (c.in-Ok.ensures.ok.answer ∙ ap (λ (k : ℕ). word_at (g.M.Memory.words c.args.mem.now) k) c.deed_at.ensures) ∙ sym (ap (λ (o : Option ℕ). session_answer (g.M.Memory.words c.args.mem.now) o) load)

pub returns-in-Ok-clause-event : goal.returns-in-Ok-clause-event
returns-in-Ok-clause-event g c = λ _.
    let b : ClusterState = state_of c.self.inside in
    let h : HasClient c.args.self.now c.args.session c.in-Some.at = now_client b c.args.self.now c.args.session c.in-Some.at c.index.result.now c.self.view_is
    c.in-Some.ensures.some.0 (omega (arith, c.in-Some.ensures.some.1, c.len.ensures)) c.index.ensures in
    let does : Performs (Load (deed_at c.in-Some-load.slot)) c.in-Ok.word (g.M.Memory.words c.args.mem.now) (g.M.Memory.words c.exec.new.mem) = subst (λ (k : ℕ). Performs (Load k) c.in-Ok.word (g.M.Memory.words c.args.mem.now) (g.M.Memory.words c.exec.new.mem)) c.deed_at.ensures c.in-Ok.ensures.ok in
    let after = c.session_takes.ensures c.index.result.now h.is in
    session_acts_so (g.M.Memory.words c.args.mem.now) (g.M.Memory.words c.exec.new.mem) c.args.self.now c.session_takes.new.self c.args.session c.in-Some.at c.in-Some-load.slot c.in-Ok.word h c.in-Some-load.is does after (ap (λ (x : ClusterState). x.segments) after)

pub returns-in-Ok-clause-segments : goal.returns-in-Ok-clause-segments
returns-in-Ok-clause-segments g c =
    let b : ClusterState = state_of c.self.inside in
    let h : HasClient c.args.self.now c.args.session c.in-Some.at = now_client b c.args.self.now c.args.session c.in-Some.at c.index.result.now c.self.view_is
    c.in-Some.ensures.some.0 (omega (arith, c.in-Some.ensures.some.1, c.len.ensures)) c.index.ensures in
    ap (λ (x : ClusterState). x.segments) (c.session_takes.ensures c.index.result.now h.is)

pub returns-in-Err-clause-fails : goal.returns-in-Err-clause-fails
returns-in-Err-clause-fails g c = λ _.
    session_fails_so (g.M.Memory.words c.args.mem.now) (g.M.Memory.words c.exec.new.mem) c.args.self.now c.args.session c.in-Some-load.slot (subst (λ (k : ℕ). MayPerform (Load k) (g.M.Memory.words c.args.mem.now) (g.M.Memory.words c.exec.new.mem)) c.deed_at.ensures c.in-Err.ensures.failed)

pub returns-in-Err-clause-next : goal.returns-in-Err-clause-next
returns-in-Err-clause-next g c = λ _.
    let b : ClusterState = state_of c.self.inside in
    let h : HasClient c.args.self.now c.args.session c.in-Some.at = now_client b c.args.self.now c.args.session c.in-Some.at c.index.result.now c.self.view_is
    c.in-Some.ensures.some.0 (omega (arith, c.in-Some.ensures.some.1, c.len.ensures)) c.index.ensures in
    let load : load_in (numbered c.args.self.now.clients c.args.session) ≡ Some c.in-Some-load.slot = ap load_in (client_is c.args.self.now c.args.session c.in-Some.at h) ∙ c.in-Some-load.is in
    ap is_nothing (ap (λ (o : Option ℕ). session_answer (g.M.Memory.words c.args.mem.now) o) load)

pub returns-in-Ok-clause-lanes : goal.returns-in-Ok-clause-lanes
returns-in-Ok-clause-lanes g c =
    let b : ClusterState = state_of c.self.inside in
    let h : HasClient c.args.self.now c.args.session c.in-Some.at = now_client b c.args.self.now c.args.session c.in-Some.at c.index.result.now c.self.view_is
    c.in-Some.ensures.some.0 (omega (arith, c.in-Some.ensures.some.1, c.len.ensures)) c.index.ensures in
    ap (λ (x : ClusterState). length x.nodes) (c.session_takes.ensures c.index.result.now h.is)
