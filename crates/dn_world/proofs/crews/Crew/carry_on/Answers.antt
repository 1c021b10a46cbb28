use Rattle.std.proofs.Common.{ℕ, ◌≡◌, false, List, refl}
use Rattle.dn_outcomes.specs.Orders.{monitor}
use Rattle.dn_outcomes.proofs.Others.{monitor_kept}
use Rattle.dn_world.specs.Comes.{has_failed}
use Rattle.dn_world.specs.Opening.{Leads}
use Rattle.dn_world.proofs.Dropping.{may_drop, leads_by, may_lead, is_fine}
use Rattle.dn_world.proofs.crews.Crew.carry_on.Goals as goal

pub returns-in-Fault-clause-sound : goal.returns-in-Fault-clause-sound
returns-in-Fault-clause-sound g c =
    may_drop (g.M.Memory.words c.args.mem.now) c.args.self.now c.monitor.new.self (g.M.Memory.words c.monitor.new.mem) c.drop_order.new.self c.requires
    (c.in-Fault.ensures.fails refl) (c.in-Fault.ensures.same refl) c.drop_order.ensures

pub returns : goal.returns
returns g c =
    let words : List ℕ = g.M.Memory.words c.args.mem.now in
    let now : List ℕ = g.M.Memory.words c.monitor.new.mem in
    let fine : has_failed c.monitor.result ≡ false = is_fine c.monitor.result c.in_default.not-Fault in
    let leads : Leads words c.args.self.now now c.monitor.new.self monitor = leads_by words c.args.self.now now c.monitor.new.self c.monitor.result monitor (c.monitor.ensures.came fine) in
    record {
      sound = may_lead words c.args.self.now now c.monitor.new.self monitor leads monitor_kept c.requires;
      leads = λ _. leads;
      whole = record { yes_whole = λ _. c.monitor.ensures.count.done fine; not_whole = λ e. absurd (cc) };
    }
