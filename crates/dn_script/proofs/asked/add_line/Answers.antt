use Rattle.std.proofs.Common.{ℕ, ◌+◌, ◌∷◌, ◌++◌, List, [], sym, ◌∙◌, ap}
use Rattle.dn_hist.specs.declared.calls.Call.{Call}
use Rattle.dn_script.specs.Asked.{calls_of, with_line}
use Rattle.dn_script.specs.declared.asked.AskedCall.{AskedCall}
use Rattle.dn_script.specs.declared.scripts.Line.{Line}
use Rattle.dn_script.proofs.asked.add_line.Goals as goal

pub returns-in_ok-push : goal.returns-in_ok-push
returns-in_ok-push c =
    let s : ℕ = c.in-Call.session in
    let was : List AskedCall = c.args.asked.now.items in
    record {
      ok = c.in_ok-push.ensures.items
          ∙ ap (λ (n : ℕ). was ++ (record { session = s; number = n + 1; call = c.in_ok-call.call }) ∷ []) (c.calls_of.ensures ∙ ap (λ (xs : List AskedCall). calls_of s xs) c.as_slice.ensures.value)
          ∙ ap (λ (k : Call). was ++ (record { session = s; number = calls_of s was + 1; call = k }) ∷ []) c.in_ok-call.ensures
          ∙ sym (ap (λ (x : Line). with_line was x) c.in-Call.is);
    }
