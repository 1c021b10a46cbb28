use Rattle.std.proofs.Common.{◌∷◌, ◌+◌, ℕ, take, drop, nat_eq, subst, sym, ◌∙◌, arith, length, length-drop, ap}
use Rattle.std.specs.List.{slice_split}
use Rattle.dn_script.specs.Script.{drafted, blank}
use Rattle.dn_script.specs.Fault.{IsDraftFault}
use Rattle.dn_script.proofs.DraftLemmas.{line_kept, line_refused}
use Rattle.dn_script.proofs.parsing.drafts.Goals as goal

pub loop-end-preserved : goal.loop-end-preserved
loop-end-preserved c =
    let rest = c.loop-end.rest.now in
    record {
      lines = line_kept (λ b. nat_eq b 10) c.args.verbs.now c.args.rules c.loop-end.number c.loop-end.header c.in-Ok.after c.loop-end.lines.items c.add_line.new.lines.items (take c.in-Some.end rest) rest c.behind-rest.result.now _
          (c.in-Some.ensures.parts ∙ ap (λ more. take c.in-Some.end rest ∷ slice_split (λ b. nat_eq b 10) more) (sym c.behind-rest.ensures))
          c.loop-end.invariant.lines c.in-Ok.ensures.ok;
      number = omega (arith, length-drop (c.in-Some.end + 1) rest, ap length c.behind-rest.ensures, c.in-Some.ensures.within);
    }

pub returns-in-Err-clause-bad : goal.returns-in-Err-clause-bad
returns-in-Err-clause-bad c =
    let rest = c.loop-end.rest.now in
    let start : ℕ = c.loop-end.number in
    let lines = drafted c.args.verbs.now c.args.rules 1 blank (slice_split (λ b. nat_eq b 10) c.args.bytes.now) in
    subst (λ fault. IsDraftFault (drafted c.args.verbs.now c.args.rules 1 blank (slice_split (λ b. nat_eq b 10) c.args.bytes.now)) fault) (sym c.fault_at.ensures)
    (line_refused (λ b. nat_eq b 10) c.args.verbs.now c.args.rules start c.loop-end.header c.loop-end.lines.items (take c.in-Some.end rest) rest (drop (c.in-Some.end + 1) rest) lines c.in-Err.fault
    c.in-Some.ensures.parts c.loop-end.invariant.lines c.in-Err.ensures.bad)
