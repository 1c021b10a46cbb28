use Rattle.std.proofs.Common.{ℕ, Bool, List, sym, subst, arith}
use Rattle.dn_world.specs.Opening.{IsWhole}
use Rattle.dn_world.proofs.Granting.{given_on, granted_so}
use Rattle.dn_world.proofs.Whole.{count_whole, both_whole}
use Rattle.dn_world.proofs.crews.Crew.grant.Goals as goal

pub carry_on-looked-requires : goal.carry_on-looked-requires
carry_on-looked-requires g c = (let words : List ℕ = g.M.Memory.words c.args.mem.now in
    given_on words c.args.self.now c.give.new.self c.give.result c.args.slot c.args.lane c.requires.slot c.requires.some c.requires.lane (c.give.ensures.came words) c.requires.sound)

pub returns-clause-granted : goal.returns-clause-granted
returns-clause-granted g c same may =
    let words : List ℕ = g.M.Memory.words c.args.mem.now in
    let first = count_whole c.carry_on-looked.result (g.M.Memory.faults c.args.mem.now) (g.M.Memory.faults c.carry_on-looked.new.mem) c.carry_on-looked.ensures.whole in
    let second = count_whole c.carry_on-exchanged.result (g.M.Memory.faults c.carry_on-looked.new.mem) (g.M.Memory.faults c.carry_on-exchanged.new.mem) c.carry_on-exchanged.ensures.whole in
    granted_so words c.args.self.now c.give.new.self c.give.result (g.M.Memory.words c.carry_on-looked.new.mem) c.carry_on-looked.new.self (g.M.Memory.words c.carry_on-exchanged.new.mem) c.carry_on-exchanged.new.self c.args.slot c.args.lane (record {
      low = c.requires.slot;
      some = c.requires.some;
      most = c.requires.lane;
      gives = c.give.ensures.came words;
      looks_so = c.carry_on-looked.ensures.leads (omega (arith, same, first, second));
      exchanges_so = c.carry_on-exchanged.ensures.leads (omega (arith, same, first, second));
    }) may

pub returns-clause-whole : goal.returns-clause-whole
returns-clause-whole g c =
    let old = g.M.Memory.faults c.args.mem.now in
    let mid = g.M.Memory.faults c.carry_on-looked.new.mem in
    let new = g.M.Memory.faults c.carry_on-exchanged.new.mem in
    subst (λ (b : Bool). IsWhole b old new) (sym c.both.ensures)
    (both_whole c.carry_on-looked.result c.carry_on-exchanged.result old mid new c.carry_on-looked.ensures.whole c.carry_on-exchanged.ensures.whole)
