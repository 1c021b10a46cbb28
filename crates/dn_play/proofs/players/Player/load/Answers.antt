use Rattle.std.proofs.Common.{ℕ, List, refl, sym, ◌∙◌, arith}
use Rattle.dn_run.specs.Run.{after_steps}
use Rattle.dn_play.specs.declared.players.Player.{Player}
use Rattle.dn_play.proofs.Loading.{IsLoading, loading_none, loader_is, loading_more, fewer, leads_loaded}
use Rattle.dn_play.proofs.Stopping.{stops_behind}
use Rattle.dn_play.proofs.players.Player.load.Goals as goal

pub loop-self-init : goal.loop-self-init
loop-self-init g c = record {
  loading = λ w lines r at may. loading_none w lines (g.M.Memory.words c.args.mem.now) c.args.self.now c.args.out.now.items r c.args.session at may;
  can = c.requires.can;
  grows = omega arith;
  faults = refl;
}

pub loop-self-preserved : goal.loop-self-preserved
loop-self-preserved g c =
    let words : List ℕ = g.M.Memory.words c.loop-self.mem in
    let now : List ℕ = g.M.Memory.words c.refresh.new.mem in
    let p : Player = c.loop-self.self in
    let q : Player = c.refresh.new.self in
    let s : ℕ = c.args.session in
    let is = sym c.loads.ensures ∙ c.loop-self-test.true in
    let h = c.loop-self.invariant.can in record {
      loading = λ w lines r at may. (let l : IsLoading w lines words p c.loop-self.out.items r s = c.loop-self.invariant.loading w lines r at may in
          loading_more w lines words now p q c.loop-self.out.items c.refresh.new.out.items r s l is (c.in-Ok.ensures.goes w lines (after_steps l.count r) l.at));
      can = (let next = c.in-Ok.ensures.goes h.start h.lines h.run h.at in record { start = h.start; lines = h.lines; run = _; at = next; may_go = refl });
      grows = omega (arith, c.loop-self.invariant.grows, c.in-Ok.ensures.more);
      faults = c.in-Ok.ensures.count ∙ c.loop-self.invariant.faults;
    }

pub loop-self-smaller : goal.loop-self-smaller
loop-self-smaller g c =
    let h = c.loop-self.invariant.can in
    fewer h.start h.lines (g.M.Memory.words c.loop-self.mem) (g.M.Memory.words c.refresh.new.mem) c.loop-self.self c.refresh.new.self c.loop-self.out.items c.refresh.new.out.items h.run c.args.session h.at
    (c.in-Ok.ensures.goes h.start h.lines h.run h.at)

pub returns-in-Err-clause-halts : goal.returns-in-Err-clause-halts
returns-in-Err-clause-halts g c =
    let words : List ℕ = g.M.Memory.words c.loop-self.mem in
    let s : ℕ = c.args.session in
    let is = sym c.loads.ensures ∙ c.loop-self-test.true in record {
      is = λ w lines r at may. (let l : IsLoading w lines words c.loop-self.self c.loop-self.out.items r s = c.loop-self.invariant.loading w lines r at may in
          stops_behind w lines (g.M.Memory.words c.refresh.new.mem) c.refresh.new.self c.refresh.new.out.items r l.count c.in-Err.stop
          (c.in-Err.ensures.stops w lines (after_steps l.count r) l.at (loader_is w lines words c.loop-self.self c.loop-self.out.items (after_steps l.count r) s l.at l.mover is)));
    }

pub returns-clause-goes : goal.returns-clause-goes
returns-clause-goes g c = record {
  is = λ w lines r at may. leads_loaded w lines (g.M.Memory.words c.loop-self.mem) c.loop-self.self c.loop-self.out.items r c.args.session (c.loop-self.invariant.loading w lines r at may) (sym c.loads.ensures ∙ c.loop-self-test.false);
}
