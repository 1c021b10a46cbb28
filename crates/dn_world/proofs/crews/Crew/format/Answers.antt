use Rattle.std.proofs.Common.{ℕ, ◌≡◌, Bool, true, false, not, List, refl, subst}
use Rattle.dn_act.specs.Action.{MayPerform}
use Rattle.dn_cluster.specs.Acting.{failed, format_of}
use Rattle.dn_world.specs.Opening.{formatted}
use Rattle.dn_world.specs.State.{CrewState}
use Rattle.dn_world.proofs.Refreshing.{not_failed}
use Rattle.dn_world.proofs.crews.Crew.format.Goals as goal
use Rattle.dn_world.proofs.crews.Crew.format.Goals.{in-Fault, in_default}

negated : (b : Bool) → b ≡ true → not b ≡ true → ⊥
negated true e f = cc f
negated false e f = cc e

negated_not : (b : Bool) → b ≡ false → not b ≡ false → ⊥
negated_not true e f = cc e
negated_not false e f = cc f

pub returns : goal.returns
returns g c =
    let words : List ℕ = g.M.Memory.words c.args.mem.now in
    let now : List ℕ = g.M.Memory.words c.format.new.mem in
    elim c.match-matches.branch [
      | in-Fault w ↦ record {
        done = λ t. absurd (negated c.match-matches.matches w.matches-is t);
        fails = λ _. subst (λ (z : CrewState). MayPerform (format_of z.cluster.segments) words now) c.self.view_is (w.in-Fault.ensures.fails refl);
        same = λ t. absurd (negated c.match-matches.matches w.matches-is t);
        fault = λ _. w.in-Fault.ensures.count.fault refl;
      }
      | in_default w ↦
          let fine : failed c.format.result ≡ false = not_failed c.format.result w.in_default.not-Fault in
          record {
            done = λ _. subst (λ (z : CrewState). now ≡ formatted z.cluster.segments words) c.self.view_is (c.format.ensures.words fine);
            fails = λ t. absurd (negated_not c.match-matches.matches w.matches-is t);
            same = λ _. c.format.ensures.count.done fine;
            fault = λ t. absurd (negated_not c.match-matches.matches w.matches-is t);
          }
    ]
