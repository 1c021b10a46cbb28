use Rattle.std.proofs.Common.{◌≡◌, ◌≢◌, ℕ, ◌≤◌, true, false, List, [], ◌∷◌, ◌++◌, Contains, refl, sym, ◌∙◌, ap, subst, arith}
use Rattle.std.proofs.lemmas.Bool.{false≢true}
use Rattle.dn_hist.specs.declared.receipts.Receipt.{Receipt}
use Rattle.dn_hist.specs.declared.receipts.SessionView.{SessionView}
use Rattle.dn_store.proofs.At.{at_by}
use Rattle.dn_route.specs.SessionState.{SessionState, heard}
use Rattle.dn_route.specs.CallersOrder.{KeepsCallersOrder, Knows, IsGood}
use Rattle.dn_route.proofs.CallerLaws.{knows_made, knows_others, order_made}
use Rattle.dn_callers.specs.Callers.{Standing, Callers, receipts_of}
use Rattle.dn_callers.specs.Sessions.{IsSession, AreSessions, IsUnderWay, IsReceiptOf}
use Rattle.dn_callers.specs.Changes.{answered_by, closed_at, unanswered_by}
use Rattle.dn_callers.proofs.Lists.{has_receipt, one_more, each_one}
use Rattle.dn_callers.proofs.Keeping.{numbers_kept, number_kept, good_others, still_open, open_others}

-- A receipt comes to stand, with its answer or without; and a session is closed.

-- the receipt of a call under way, as it stands
pub record Comes (c : Callers) (view : SessionView) (x : Standing) : Type 0 where
  pub sound : AreSessions c
  pub call : IsUnderWay c view
  pub is : IsReceiptOf view x.receipt

-- ---- the order of all
abbrev with_one : Callers → Standing → List Receipt
with_one c x = receipts_of (c.receipts ++ x ∷ [])

order_more : (c : Callers) (view : SessionView) (x : Standing) → Comes c view x → KeepsCallersOrder c.told (with_one c x)
order_more c view x h =
    subst (KeepsCallersOrder c.told) (sym (one_more c.receipts x))
    (order_made c.told (receipts_of c.receipts) view x.receipt h.sound.order h.call.good h.is.session h.is.number h.is.behind)

-- ---- the session's own receipts were all answered, and have lesser numbers
last_more : (c : Callers) (view : SessionView) (x : Standing) → Comes c view x → (y z : Standing) → Contains (c.receipts ++ x ∷ []) y → Contains (c.receipts ++ x ∷ []) z
    → z.receipt.position.session ≡ y.receipt.position.session → y.answered ≡ false → z.receipt.number ≤ y.receipt.number
last_more c view x h y z has_y has_z =
    each_one (λ (z : Standing). z.receipt.position.session ≡ y.receipt.position.session → y.answered ≡ false → z.receipt.number ≤ y.receipt.number) c.receipts x
    (λ z had. each_one (λ (y : Standing). z.receipt.position.session ≡ y.receipt.position.session → y.answered ≡ false → z.receipt.number ≤ y.receipt.number) c.receipts x
    (λ y own e f. h.sound.last y z own had e f)
    (λ e f. omega (arith, h.call.good.numbers z.receipt (has_receipt c.receipts z had) (e ∙ h.is.session), h.is.number)) y has_y)
    (each_one (λ (y : Standing). x.receipt.position.session ≡ y.receipt.position.session → y.answered ≡ false → x.receipt.number ≤ y.receipt.number) c.receipts x
    (λ y own e f. absurd (false≢true (sym f ∙ h.sound.answered view.session y h.call.session h.call.unclosed own (sym e ∙ h.is.session))))
    (λ e f. omega arith) y has_y)
    z has_z

-- ---- another session knows what it knew
others_know : (c : Callers) (x : Standing) (m : ℕ) → AreSessions c → IsSession m → c.closed m ≡ false → m ≢ x.receipt.position.session → Knows c.told (with_one c x) (c.sessions m)
others_know c x m h i o d =
    let P : List Receipt → Type 0 = λ rs. Knows c.told rs (c.sessions m) in
    subst P (sym (one_more c.receipts x)) (knows_others c.told (receipts_of c.receipts) (c.sessions m) x.receipt (h.knows m i o) (λ e. d (sym (h.numbers m i) ∙ sym e)))

calls_good : (c : Callers) (x : Standing) (view : SessionView) → IsUnderWay c view → x.receipt.position.session ≢ view.session → IsGood c.told (with_one c x) view
calls_good c x view u d =
    let P : List Receipt → Type 0 = λ rs. IsGood c.told rs view in
    subst P (sym (one_more c.receipts x)) (good_others c.told (receipts_of c.receipts) view x.receipt u.good d)

-- ---- with its answer
abbrev told_it : Receipt → Standing
told_it r = record { receipt = r; answered = true }

pub answered_sessions : (c : Callers) (view : SessionView) (r : Receipt) → AreSessions c → IsUnderWay c view → IsReceiptOf view r → AreSessions (answered_by c r)
answered_sessions c view r h u is =
    let s : ℕ = r.position.session in
    let x : Standing = told_it r in
    let now : SessionState = heard (c.sessions s) r.position in
    let P : ℕ → Type 0 = λ y. IsSession y in
    let comes : Comes c view x = record { sound = h; call = u; is = is } in
    let own : Knows c.told (receipts_of c.receipts) (c.sessions s) = h.knows s (subst P (sym is.session) u.session) (ap c.closed is.session ∙ u.unclosed) in
    let Q : List Receipt → Type 0 = λ rs. Knows c.told rs now in
    record {
      numbers = numbers_kept c.sessions s now h.numbers refl;
      order = order_more c view x comes;
      knows = λ m i o. at_by (λ y. Knows c.told (with_one c x) y) c.sessions s now m
          (λ e. subst Q (sym (one_more c.receipts x)) (knows_made c.told (receipts_of c.receipts) (c.sessions s) r own (omega (arith, u.number, is.number, ap (λ y. (c.sessions y).number) is.session))))
          (λ d. others_know c x m h i o d);
      answered = λ m y i o has. each_one (λ (y : Standing). y.receipt.position.session ≡ m → y.answered ≡ true) c.receipts x (λ y had. h.answered m y i o had) (λ e. refl) y has;
      last = last_more c view x comes;
    }

pub answered_calls : (c : Callers) (r : Receipt) (view : SessionView) → IsUnderWay c view → r.position.session ≢ view.session → IsUnderWay (answered_by c r) view
answered_calls c r view u d = record {
  session = u.session;
  unclosed = u.unclosed;
  number = number_kept c.sessions r.position.session (heard (c.sessions r.position.session) r.position) view.number view.session (omega arith) u.number;
  good = calls_good c (told_it r) view u d;
}

-- ---- without it, and then the session is closed
abbrev untold : Receipt → Standing
untold r = record { receipt = r; answered = false }

pub unanswered_sessions : (c : Callers) (view : SessionView) (r : Receipt) → AreSessions c → IsUnderWay c view → IsReceiptOf view r → AreSessions (unanswered_by c r)
unanswered_sessions c view r h u is =
    let s : ℕ = r.position.session in
    let x : Standing = untold r in
    let comes : Comes c view x = record { sound = h; call = u; is = is } in
    record {
      numbers = h.numbers;
      order = order_more c view x comes;
      knows = λ m i o. (let open_m = still_open c.closed s m o in others_know c x m h i open_m.1 open_m.0);
      answered = λ m y i o has. (
          let open_m = still_open c.closed s m o in
          each_one (λ (y : Standing). y.receipt.position.session ≡ m → y.answered ≡ true) c.receipts x (λ y had. h.answered m y i open_m.1 had) (λ e. absurd (open_m.0 (sym e))) y has);
      last = last_more c view x comes;
    }

pub unanswered_calls : (c : Callers) (r : Receipt) (view : SessionView) → IsUnderWay c view → r.position.session ≢ view.session → IsUnderWay (unanswered_by c r) view
unanswered_calls c r view u d = record {
  session = u.session;
  unclosed = open_others c.closed r.position.session view.session u.unclosed d;
  number = u.number;
  good = calls_good c (untold r) view u d;
}

-- ---- a session is closed
pub closed_sessions : (c : Callers) (s : ℕ) → AreSessions c → AreSessions (closed_at c s)
closed_sessions c s h = record {
  numbers = h.numbers;
  order = h.order;
  knows = λ m i o. h.knows m i (still_open c.closed s m o).1;
  answered = λ m x i o. h.answered m x i (still_open c.closed s m o).1;
  last = h.last;
}

pub closed_calls : (c : Callers) (s : ℕ) (view : SessionView) → IsUnderWay c view → s ≢ view.session → IsUnderWay (closed_at c s) view
closed_calls c s view u d = record { session = u.session; unclosed = open_others c.closed s view.session u.unclosed d; number = u.number; good = u.good }
