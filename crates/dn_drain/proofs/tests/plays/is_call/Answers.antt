use Rattle.std.proofs.Common.{List, ℕ, sym, subst}
use Rattle.dn_hist.specs.declared.calls.Call.{Call}
use Rattle.dn_record.specs.Grammar.{IsValue}
use Rattle.dn_lanes.specs.Calls.{IsCall}
use Rattle.dn_drain.proofs.tests.plays.is_call.Goals as goal

pub returns-then-key-ne0 : goal.returns-then-key-ne0
returns-then-key-ne0 c = λ e. subst (λ (x : Call). IsCall x) (sym c.in-Put.is) (c.if-key-ne0.true, subst (λ (v : List ℕ). IsValue v) c.as_bytes.ensures.value (c.is_value.ensures e))
