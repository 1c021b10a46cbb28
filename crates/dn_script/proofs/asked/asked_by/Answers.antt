use Rattle.std.proofs.Common.{ℕ, ◌≡◌, ◌+◌, List, Bool, Vec, Global, drop, length, ◌∙◌, ap, arith}
use Rattle.dn_script.specs.Asked.{asked_behind}
use Rattle.dn_script.specs.Asked.{with_line}
use Rattle.dn_script.specs.declared.asked.AskedCall.{AskedCall}
use Rattle.dn_script.specs.declared.scripts.Line.{Line}
use Rattle.dn_script.proofs.AskedLemmas.{behind_taken, behind_left, one_more}
use Rattle.dn_script.proofs.asked.asked_by.Goals as goal
use Rattle.dn_script.proofs.asked.asked_by.Goals.{then-taken-at+in_ok-add_line, else-taken-at}

pub loop-at-preserved : goal.loop-at-preserved
loop-at-preserved c =
    let at : ℕ = c.loop-at.at in
    let lines : List Line = c.args.lines.now in
    let taken : List Bool = c.args.taken.now in
    let asked : List AskedCall = c.loop-at.asked.items in
    let rest : (xs : List AskedCall) → List AskedCall = λ xs. asked_behind xs (drop (at + 1) lines) (drop (at + 1) taken) in
    elim c.if-taken-at.branch [
      | then-taken-at+in_ok-add_line w ↦
          let now : c.if-taken-at.asked.items ≡ with_line asked w.index-lines-at.result = ap (λ (v : Vec AskedCall Global). v.items) w.asked-is ∙ w.in_ok-add_line.ensures.ok in
          record {
            all = ap rest now ∙ behind_taken asked lines taken at w.index-lines-at.result c.loop-at-test.true (omega (arith, c.loop-at-test.true, c.requires.each)) w.index-lines-at.is w.if-taken-at.true ∙ c.loop-at.invariant.all;
            few = omega (arith, ap length now, one_more asked w.index-lines-at.result, c.loop-at.invariant.few);
          }
      | else-taken-at w ↦
          let now : c.if-taken-at.asked.items ≡ asked = ap (λ (v : Vec AskedCall Global). v.items) w.asked-is in
          record {
            all = ap rest now ∙ behind_left asked lines taken at c.loop-at-test.true (omega (arith, c.loop-at-test.true, c.requires.each)) w.if-taken-at.false ∙ c.loop-at.invariant.all;
            few = omega (arith, ap length now, c.loop-at.invariant.few);
          }
    ]
