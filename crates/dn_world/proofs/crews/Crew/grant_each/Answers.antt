use Rattle.std.proofs.Common.{ℕ, Bool, ◌<◌, List, [], slice_index, sym, subst, arith}
use Rattle.dn_world.specs.Opening.{IsGranted, MayGrant, IsWhole}
use Rattle.dn_world.proofs.Granting.{IsSoFar, is_lane, may_grant, so_far_none, so_far_more, all_so}
use Rattle.dn_world.proofs.Whole.{count_whole, both_whole, none_failed}
use Rattle.dn_world.proofs.crews.Crew.grant_each.Goals as goal

pub loop-slot-init : goal.loop-slot-init
loop-slot-init g c = record {
  sound = record { told = []; sound = c.requires.can.sound };
  granted = λ _. so_far_none (g.M.Memory.words c.args.mem.now) c.args.self.now (λ (t : ℕ). slice_index c.args.lanes t) c.requires.can;
  whole = none_failed (g.M.Memory.faults c.args.mem.now);
}

pub grant-granted-requires-clause-some : goal.grant-granted-requires-clause-some
grant-granted-requires-clause-some g c =
    let both = is_lane (g.M.Memory.words c.args.mem.now) c.args.self.now c.loop-slot.slot (slice_index c.args.lanes c.loop-slot.slot) c.requires.can.sound (c.requires.owners c.loop-slot.slot c.loop-slot-test.true) in
    subst (λ (i : ℕ). 0 < slice_index c.args.lanes i) (sym c.from.ensures) (omega (arith, both.0))

pub grant-granted-requires-clause-lane : goal.grant-granted-requires-clause-lane
grant-granted-requires-clause-lane g c =
    let both = is_lane (g.M.Memory.words c.args.mem.now) c.args.self.now c.loop-slot.slot (slice_index c.args.lanes c.loop-slot.slot) c.requires.can.sound (c.requires.owners c.loop-slot.slot c.loop-slot-test.true) in
    subst (λ (i : ℕ). slice_index c.args.lanes i < 64) (sym c.from.ensures) both.1

pub loop-slot-preserved : goal.loop-slot-preserved
loop-slot-preserved g c =
    let words : List ℕ = g.M.Memory.words c.args.mem.now in
    let mid : List ℕ = g.M.Memory.words c.loop-slot.mem in
    let now : List ℕ = g.M.Memory.words c.grant-granted.new.mem in
    let owners : ℕ → ℕ = λ (t : ℕ). slice_index c.args.lanes t in
    let slot : ℕ = c.loop-slot.slot in
    let before = count_whole c.loop-slot.whole (g.M.Memory.faults c.args.mem.now) (g.M.Memory.faults c.loop-slot.mem) c.loop-slot.invariant.whole in
    let after = count_whole c.grant-granted.result (g.M.Memory.faults c.loop-slot.mem) (g.M.Memory.faults c.grant-granted.new.mem) c.grant-granted.ensures.whole in
    record {
      sound = c.grant-granted.ensures.sound;
      granted = λ same.
          let so : IsSoFar words c.args.self.now mid c.loop-slot.self owners slot = c.loop-slot.invariant.granted (omega (arith, same, before, after)) in
          so_far_more words c.args.self.now mid c.loop-slot.self now c.grant-granted.new.self owners slot so
          (subst (λ (i : ℕ). IsGranted mid c.loop-slot.self now c.grant-granted.new.self slot (slice_index c.args.lanes i)) c.from.ensures
          (c.grant-granted.ensures.granted (omega (arith, same, before, after))
          (subst (λ (i : ℕ). MayGrant mid c.loop-slot.self slot (slice_index c.args.lanes i)) (sym c.from.ensures)
          (may_grant words c.args.self.now mid c.loop-slot.self owners slot c.loop-slot-test.true c.requires.can (c.requires.owners slot c.loop-slot-test.true) so))));
      whole = subst (λ (b : Bool). IsWhole b (g.M.Memory.faults c.args.mem.now) (g.M.Memory.faults c.grant-granted.new.mem)) (sym c.both-whole.ensures)
          (both_whole c.loop-slot.whole c.grant-granted.result (g.M.Memory.faults c.args.mem.now) (g.M.Memory.faults c.loop-slot.mem) (g.M.Memory.faults c.grant-granted.new.mem) c.loop-slot.invariant.whole c.grant-granted.ensures.whole);
    }

pub returns-clause-granted : goal.returns-clause-granted
returns-clause-granted g c same =
    all_so (g.M.Memory.words c.args.mem.now) c.args.self.now (g.M.Memory.words c.loop-slot.mem) c.loop-slot.self (λ (t : ℕ). slice_index c.args.lanes t) c.loop-slot.slot
    (omega (arith, c.loop-slot-test.false, c.loop-slot.auto.slot-end)) c.requires.can c.requires.owners (c.loop-slot.invariant.granted same)
