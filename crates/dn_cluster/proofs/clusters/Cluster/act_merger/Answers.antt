use Rattle.std.proofs.Common.{ℕ, ◌≡◌, ◌<◌, length, slice_get, Option, None, refl, sym, ◌∙◌, ap, subst, arith}
use Rattle.std.proofs.lemmas.Option.{same_Some}
use Rattle.dn_act.specs.Action.{at_of, Performs, MayPerform}
use Rattle.dn_act.specs.declared.actions.Action.{Action}
use Rattle.dn_merge.specs.Merge.{Merging, merge_next, merge_turn, Meets}
use Rattle.dn_merge.specs.declared.mergers.MergeTurn.{MergeTurn}
use Rattle.dn_cluster.specs.State.{ClusterState, numbered}
use Rattle.dn_cluster.specs.Acting.{is_nothing, merger_answer}
use Rattle.dn_cluster.specs.Changed.{with_node}
use Rattle.dn_cluster.specs.Inside.{state_of, IsNode}
use Rattle.dn_cluster.specs.Machine.{merger_in}
use Rattle.dn_cluster.specs.declared.nodes.Node.{Node}
use Rattle.dn_cluster.specs.declared.actors.Acted.{Acted}
use Rattle.dn_cluster.specs.declared.actors.Acted.TheVariants as acted
use Rattle.dn_cluster.proofs.Found.{MergerFinds, merger_finds}
use Rattle.dn_cluster.proofs.Kept.{node_kept}
use Rattle.dn_cluster.proofs.OtherEvents.{merged_node, merger_acts_so, merger_rests, merger_fails_so}
use Rattle.dn_cluster.proofs.Places.{HasNode, now_node, merger_is, no_place}
use Rattle.dn_cluster.proofs.clusters.Cluster.act_merger.Goals as goal

pub returns-in_default-clause-answer : goal.returns-in_default-clause-answer
returns-in_default-clause-answer g c = λ _.
    let none : merger_in (numbered c.args.self.now.nodes c.args.lane) ≡ None = ap merger_in (no_place c.args.self.now.nodes c.args.lane
    (λ pos. omega (arith, c.in_default.ensures.none refl (omega (arith, pos, c.from.ensures)), c.len.ensures, c.from.ensures, ap (λ (x : ClusterState). length x.nodes) c.self.view_is))) in
    ap (merger_answer (g.M.Memory.words c.args.mem.now)) (sym none)

pub returns-in_default-clause-event : goal.returns-in_default-clause-event
returns-in_default-clause-event g c = λ _.
    let none : merger_in (numbered c.args.self.now.nodes c.args.lane) ≡ None = ap merger_in (no_place c.args.self.now.nodes c.args.lane
    (λ pos. omega (arith, c.in_default.ensures.none refl (omega (arith, pos, c.from.ensures)), c.len.ensures, c.from.ensures, ap (λ (x : ClusterState). length x.nodes) c.self.view_is))) in
    merger_rests (g.M.Memory.words c.args.mem.now) c.args.self.now c.args.lane none

pub exec-requires : goal.exec-requires
exec-requires g c =
    let b : ClusterState = state_of c.self.inside in
    let h : HasNode c.args.self.now c.args.lane c.in-Some.at = now_node b c.args.self.now c.args.lane c.in-Some.at c.index.result.now c.self.view_is
    (omega (arith, c.in-Some.ensures.some.0, c.from.ensures)) (omega (arith, c.in-Some.ensures.some.1, c.len.ensures)) c.index.ensures in
    let finds : MergerFinds (g.M.Memory.words c.args.mem.now) h.node.merger = merger_finds (g.M.Memory.words c.args.mem.now) c.args.self.now c.args.lane c.in-Some.at c.requires h in
    let P = λ (a : Action). at_of a < length (g.M.Memory.words c.args.mem.now) in
    subst P (sym c.next-action.ensures.value) finds.within

pub take-requires : goal.take-requires
take-requires g c =
    let b : ClusterState = state_of c.self.inside in
    let was : HasNode c.args.self.now c.args.lane c.in-Some.at = now_node b c.args.self.now c.args.lane c.in-Some.at c.index.result.now c.self.view_is
    (omega (arith, c.in-Some.ensures.some.0, c.from.ensures)) (omega (arith, c.in-Some.ensures.some.1, c.len.ensures)) c.index.ensures in
    let h : HasNode c.args.self.now c.args.lane c.in-Some.at = now_node b c.args.self.now c.args.lane c.in-Some.at c.index_mut.result.now c.self.view_is
    (omega (arith, c.in-Some.ensures.some.0, c.from.ensures)) (omega (arith, c.in-Some.ensures.some.1, c.len.ensures)) c.index_mut.ensures.value in
    let action : c.next-action.result ≡ merge_next h.node.merger = c.next-action.ensures.value ∙ ap (λ (x : Node). merge_next x.merger) (same_Some was.node h.node (sym was.is ∙ h.is)) in
    let does : Performs (merge_next h.node.merger) c.in-Ok.word (g.M.Memory.words c.args.mem.now) (g.M.Memory.words c.exec.new.mem) =
    subst (λ (a : Action). Performs a c.in-Ok.word (g.M.Memory.words c.args.mem.now) (g.M.Memory.words c.exec.new.mem)) action c.in-Ok.ensures.ok in
    subst (λ (w : ℕ). Meets w h.node.merger.place) (sym does.answer) (merger_finds (g.M.Memory.words c.args.mem.now) c.args.self.now c.args.lane c.in-Some.at c.requires h).meets

pub invariant_of-self : goal.invariant_of-self
invariant_of-self g c =
    let b : ClusterState = state_of c.self.inside in
    let h : HasNode c.args.self.now c.args.lane c.in-Some.at = now_node b c.args.self.now c.args.lane c.in-Some.at c.index_mut.result.now c.self.view_is
    (omega (arith, c.in-Some.ensures.some.0, c.from.ensures)) (omega (arith, c.in-Some.ensures.some.1, c.len.ensures)) c.index_mut.ensures.value in
    let was : IsNode b.segments c.in-Some.at h.node = c.self.invariant.nodes c.in-Some.at h.node (ap (λ (x : ClusterState). slice_get x.nodes c.in-Some.at) c.self.view_is ∙ h.is) in
    node_kept b c.in-Some.at (record h.node { merger = c.take.new.self }) c.self.invariant (record { number = was.number; pool = was.pool; caller = was.caller })

pub returns-in-Ok-clause-answer : goal.returns-in-Ok-clause-answer
returns-in-Ok-clause-answer g c = λ _.
    let b : ClusterState = state_of c.self.inside in
    let was : HasNode c.args.self.now c.args.lane c.in-Some.at = now_node b c.args.self.now c.args.lane c.in-Some.at c.index.result.now c.self.view_is
    (omega (arith, c.in-Some.ensures.some.0, c.from.ensures)) (omega (arith, c.in-Some.ensures.some.1, c.len.ensures)) c.index.ensures in
    let h : HasNode c.args.self.now c.args.lane c.in-Some.at = now_node b c.args.self.now c.args.lane c.in-Some.at c.index_mut.result.now c.self.view_is
    (omega (arith, c.in-Some.ensures.some.0, c.from.ensures)) (omega (arith, c.in-Some.ensures.some.1, c.len.ensures)) c.index_mut.ensures.value in
    let action : c.next-action.result ≡ merge_next h.node.merger = c.next-action.ensures.value ∙ ap (λ (x : Node). merge_next x.merger) (same_Some was.node h.node (sym was.is ∙ h.is)) in
    let does : Performs (merge_next h.node.merger) c.in-Ok.word (g.M.Memory.words c.args.mem.now) (g.M.Memory.words c.exec.new.mem) =
    subst (λ (a : Action). Performs a c.in-Ok.word (g.M.Memory.words c.args.mem.now) (g.M.Memory.words c.exec.new.mem)) action c.in-Ok.ensures.ok in
    ap (λ (t : MergeTurn). let x : Acted = acted.Merger t in x) (c.take.ensures.turn ∙ ap (merge_turn h.node.merger) does.answer)
    ∙ sym (ap (λ (o : Option Merging). merger_answer (g.M.Memory.words c.args.mem.now) o) (merger_is c.args.self.now c.args.lane c.in-Some.at h))

pub returns-in-Ok-clause-event : goal.returns-in-Ok-clause-event
returns-in-Ok-clause-event g c = λ _.
    let b : ClusterState = state_of c.self.inside in
    let was : HasNode c.args.self.now c.args.lane c.in-Some.at = now_node b c.args.self.now c.args.lane c.in-Some.at c.index.result.now c.self.view_is
    (omega (arith, c.in-Some.ensures.some.0, c.from.ensures)) (omega (arith, c.in-Some.ensures.some.1, c.len.ensures)) c.index.ensures in
    let h : HasNode c.args.self.now c.args.lane c.in-Some.at = now_node b c.args.self.now c.args.lane c.in-Some.at c.index_mut.result.now c.self.view_is
    (omega (arith, c.in-Some.ensures.some.0, c.from.ensures)) (omega (arith, c.in-Some.ensures.some.1, c.len.ensures)) c.index_mut.ensures.value in
    let action : c.next-action.result ≡ merge_next h.node.merger = c.next-action.ensures.value ∙ ap (λ (x : Node). merge_next x.merger) (same_Some was.node h.node (sym was.is ∙ h.is)) in
    let does : Performs (merge_next h.node.merger) c.in-Ok.word (g.M.Memory.words c.args.mem.now) (g.M.Memory.words c.exec.new.mem) =
    subst (λ (a : Action). Performs a c.in-Ok.word (g.M.Memory.words c.args.mem.now) (g.M.Memory.words c.exec.new.mem)) action c.in-Ok.ensures.ok in
    merger_acts_so (g.M.Memory.words c.args.mem.now) (g.M.Memory.words c.exec.new.mem) c.args.self.now _ c.args.lane c.in-Some.at c.in-Ok.word h does
    (ap (λ (x : Merging). with_node b c.in-Some.at (record h.node { merger = x })) c.take.ensures.after ∙ ap (λ (x : ClusterState). with_node x c.in-Some.at (merged_node h.node c.in-Ok.word)) c.self.view_is)
    (ap (λ (x : ClusterState). x.segments) c.self.view_is)

pub returns-in-Err-clause-fails : goal.returns-in-Err-clause-fails
returns-in-Err-clause-fails g c = λ _.
    let b : ClusterState = state_of c.self.inside in
    let h : HasNode c.args.self.now c.args.lane c.in-Some.at = now_node b c.args.self.now c.args.lane c.in-Some.at c.index.result.now c.self.view_is
    (omega (arith, c.in-Some.ensures.some.0, c.from.ensures)) (omega (arith, c.in-Some.ensures.some.1, c.len.ensures)) c.index.ensures in
    merger_fails_so (g.M.Memory.words c.args.mem.now) (g.M.Memory.words c.exec.new.mem) c.args.self.now c.args.lane c.in-Some.at h
    (subst (λ (a : Action). MayPerform a (g.M.Memory.words c.args.mem.now) (g.M.Memory.words c.exec.new.mem)) c.next-action.ensures.value c.in-Err.ensures.failed)

pub returns-in-Err-clause-next : goal.returns-in-Err-clause-next
returns-in-Err-clause-next g c = λ _.
    let b : ClusterState = state_of c.self.inside in
    let h : HasNode c.args.self.now c.args.lane c.in-Some.at = now_node b c.args.self.now c.args.lane c.in-Some.at c.index.result.now c.self.view_is
    (omega (arith, c.in-Some.ensures.some.0, c.from.ensures)) (omega (arith, c.in-Some.ensures.some.1, c.len.ensures)) c.index.ensures in
    ap is_nothing (ap (λ (o : Option Merging). merger_answer (g.M.Memory.words c.args.mem.now) o) (merger_is c.args.self.now c.args.lane c.in-Some.at h))
