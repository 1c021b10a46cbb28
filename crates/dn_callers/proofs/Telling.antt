use Rattle.std.proofs.Common.{◌≡◌, ℕ, false, List, [], ◌∷◌, ◌++◌, refl, sym, ◌∙◌, ap, arith}
use Rattle.dn_word.specs.declared.positions.Position.{Position}
use Rattle.dn_hist.specs.declared.receipts.Receipt.{Receipt}
use Rattle.dn_hist.specs.declared.receipts.SessionView.{SessionView}
use Rattle.dn_store.proofs.At.{at_by}
use Rattle.dn_route.specs.SessionState.{SessionState, heard}
use Rattle.dn_route.specs.CallersOrder.{Told, told_now, Knows}
use Rattle.dn_route.proofs.CallerLaws.{knows_heard, good_told, order_heard}
use Rattle.dn_callers.specs.Callers.{Callers, receipts_of}
use Rattle.dn_callers.specs.Sessions.{IsSession, AreSessions, IsUnderWay}
use Rattle.dn_callers.specs.Changes.{told_at}
use Rattle.dn_callers.proofs.Keeping.{numbers_kept, number_kept, knows_told}

-- A session is told a position.

pub told_sessions : (c : Callers) (s : ℕ) (p : Position) → AreSessions c → IsSession s → c.closed s ≡ false → AreSessions (told_at c s p)
told_sessions c s p h i o =
    let rs : List Receipt = receipts_of c.receipts in
    let old : SessionState = c.sessions s in
    let t : Told = told_now old p in
    let knew : Knows c.told rs old = h.knows s i o in
    record {
      numbers = numbers_kept c.sessions s (heard old p) h.numbers refl;
      order = order_heard c.told rs old p knew h.order;
      knows = λ m j u. at_by (λ x. Knows (c.told ++ t ∷ []) rs x) c.sessions s (heard old p) m
          (λ e. knows_heard c.told rs old p knew)
          (λ d. knows_told c.told rs (c.sessions m) t (h.knows m j u) (λ e. d (sym (h.numbers m j) ∙ sym e ∙ h.numbers s i)));
      answered = h.answered;
      last = h.last;
    }

pub told_calls : (c : Callers) (s : ℕ) (p : Position) (view : SessionView) → AreSessions c → IsSession s → IsUnderWay c view → IsUnderWay (told_at c s p) view
told_calls c s p view h i u = record {
  session = u.session;
  unclosed = u.unclosed;
  number = number_kept c.sessions s (heard (c.sessions s) p) view.number view.session (omega arith) u.number;
  good = good_told c.told (receipts_of c.receipts) view (told_now (c.sessions s) p) u.good (λ e. omega (arith, u.number, ap (λ y. (c.sessions y).number) (sym (h.numbers s i) ∙ e)));
}
