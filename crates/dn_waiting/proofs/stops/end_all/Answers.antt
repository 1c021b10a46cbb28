use Rattle.std.proofs.Common.{ℕ, ◌≡◌, ◌++◌, List, [], ◌∷◌, map, length, append_assoc, ap, sym, subst, ◌∙◌, arith, suc}
use Rattle.dn_hist.specs.declared.receipts.SessionView.{SessionView}
use Rattle.dn_waiting.specs.Queues.{attempts_at}
use Rattle.dn_waiting.specs.Stops.{without, named_by, AreBelow}
use Rattle.dn_waiting.proofs.stops.end_all.Goals as goal

inside_rest : (n : ℕ) (views rest : List SessionView) (v : SessionView) → views ≡ v ∷ rest → AreBelow n views → AreBelow n rest
inside_rest n views rest v e h k d x =
    let every : AreBelow n (v ∷ rest) = subst (AreBelow n) e h in
    every (suc k) d (omega (arith, x))

noted : (before ended : List (ℕ × ℕ)) (views rest : List SessionView) (v : SessionView) → views ≡ v ∷ rest → ended ≡ before ++ named_by v ∷ []
    → ended ++ map named_by rest ≡ before ++ map named_by views
noted before ended views rest v e f =
    ap (λ xs. xs ++ map named_by rest) f ∙ (append_assoc before (named_by v ∷ []) (map named_by rest) ∙ ap (λ vs. before ++ map named_by vs) (sym e))

pub loop-view-preserved : goal.loop-view-preserved
loop-view-preserved c =
    let e : attempts_at c.loop-view.at ≡ c.in-Some.view ∷ attempts_at c.leave.new.self = rw c.in-Some.is at c.leave.ensures.attempts in
    record {
      inside = inside_rest c.loop-view.calls.len (attempts_at c.loop-view.at) (attempts_at c.leave.new.self) c.in-Some.view e c.loop-view.invariant.inside;
      room = omega (arith, c.loop-view.invariant.room, ap length e, c.push_reserved.ensures.len, c.push_reserved.ensures.capacity);
      calls = ap (without c.loop-view.calls.items) (sym e) ∙ c.loop-view.invariant.calls;
      ended = noted c.loop-view.ended.items c.push_reserved.new.self.items (attempts_at c.loop-view.at) (attempts_at c.leave.new.self) c.in-Some.view e c.push_reserved.ensures.items
          ∙ c.loop-view.invariant.ended;
    }
