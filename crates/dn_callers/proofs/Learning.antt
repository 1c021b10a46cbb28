use Rattle.std.proofs.Common.{◌≡◌, ℕ, ◌≤◌, false, List, refl, sym, ◌∙◌, ap, subst, arith}
use Rattle.dn_hist.specs.declared.receipts.Receipt.{Receipt}
use Rattle.dn_hist.specs.declared.receipts.SessionView.{SessionView}
use Rattle.dn_store.specs.State.{with_at}
use Rattle.dn_store.proofs.At.{at_same, at_by}
use Rattle.dn_route.specs.SessionState.{SessionState, numbered, view_of, refreshed}
use Rattle.dn_word.specs.declared.positions.Position.{Position}
use Rattle.dn_route.specs.CallersOrder.{Told, IsUpTo, Knows, IsGood}
use Rattle.dn_route.proofs.CallerLaws.{knows_numbered, good_view, good_again}
use Rattle.dn_callers.specs.Callers.{Callers, receipts_of}
use Rattle.dn_callers.specs.Sessions.{IsSession, AreSessions, IsUnderWay}
use Rattle.dn_callers.specs.Changes.{with_session, numbered_at, routed_at, hinted_at}
use Rattle.dn_callers.proofs.Keeping.{numbers_kept, number_kept}

-- One session changes, and neither what was told nor the receipts.

-- it goes on: it knows what it knew
pub record GoesOn (old now : SessionState) : Type 0 where
  pub session : now.session ≡ old.session
  pub number : old.number ≤ now.number
  pub knows : (told : List Told) (rs : List Receipt) → Knows told rs old → Knows told rs now

pub session_kept : (c : Callers) (s : ℕ) (now : SessionState) → GoesOn (c.sessions s) now → AreSessions c → AreSessions (with_session c s now)
session_kept c s now g h = record {
  numbers = numbers_kept c.sessions s now h.numbers g.session;
  order = h.order;
  knows = λ m i o. at_by (λ x. Knows c.told (receipts_of c.receipts) x) c.sessions s now m
      (λ e. let P : ℕ → Type 0 = λ y. Knows c.told (receipts_of c.receipts) (c.sessions y) in g.knows c.told (receipts_of c.receipts) (subst P e (h.knows m i o)))
      (λ d. h.knows m i o);
  answered = h.answered;
  last = h.last;
}

pub call_kept : (c : Callers) (s : ℕ) (now : SessionState) (view : SessionView) → GoesOn (c.sessions s) now → IsUnderWay c view → IsUnderWay (with_session c s now) view
call_kept c s now view g u = record {
  session = u.session;
  unclosed = u.unclosed;
  number = number_kept c.sessions s now view.number view.session g.number u.number;
  good = u.good;
}

-- ---- a number is given
number_on : (s : SessionState) → GoesOn s (numbered s)
number_on s = record { session = refl; number = omega arith; knows = λ told rs k. knows_numbered told rs s k }

pub numbers_sessions : (c : Callers) (s : ℕ) → AreSessions c → AreSessions (numbered_at c s)
numbers_sessions c s h = session_kept c s (numbered (c.sessions s)) (number_on (c.sessions s)) h

pub numbers_calls : (c : Callers) (s : ℕ) (view : SessionView) → IsUnderWay c view → IsUnderWay (numbered_at c s) view
numbers_calls c s view u = call_kept c s (numbered (c.sessions s)) view (number_on (c.sessions s)) u

-- what a session that has this number shows is under way
shown : (c : Callers) (sessions : ℕ → SessionState) (s key : ℕ) → (sessions s).session ≡ s → IsSession s → c.closed s ≡ false → IsGood c.told (receipts_of c.receipts) (view_of (sessions s) key)
    → IsUnderWay (record c { sessions = sessions }) (view_of (sessions s) key)
shown c sessions s key e i o g =
    let P : ℕ → Type 0 = λ y. IsSession y in
    record {
      session = subst P (sym e) i;
      unclosed = ap c.closed e ∙ o;
      number = omega (arith, ap (λ y. (sessions y).number) e);
      good = g;
    }

pub numbers_first : (c : Callers) (s key : ℕ) → AreSessions c → IsSession s → c.closed s ≡ false → IsUnderWay (numbered_at c s) (view_of ((numbered_at c s).sessions s) key)
numbers_first c s key h i o =
    let now : SessionState = numbered (c.sessions s) in
    let is : with_at c.sessions s now s ≡ now = at_same c.sessions s now s refl in
    let P : SessionState → Type 0 = λ x. IsGood c.told (receipts_of c.receipts) (view_of x key) in
    shown c (with_at c.sessions s now) s key (ap (λ (x : SessionState). x.session) is ∙ h.numbers s i) i o
    (subst P (sym is) (good_view c.told (receipts_of c.receipts) (c.sessions s) key (h.knows s i o)))

pub numbers_further : (c : Callers) (view : SessionView) (key : ℕ) → AreSessions c → IsUnderWay c view → view.number ≡ (c.sessions view.session).number
    → IsUnderWay c (view_of (c.sessions view.session) key)
numbers_further c view key h u e =
    let s : ℕ = view.session in
    let is : (c.sessions s).session ≡ s = h.numbers s u.session in
    shown c c.sessions s key is u.session u.unclosed
    (good_again c.told (receipts_of c.receipts) (c.sessions s) key (h.knows s u.session u.unclosed)
    (λ r has f same. absurd (omega (arith, u.good.numbers r has (f ∙ is), same, e))))

-- ---- routes and hints
same_calls : (old now : SessionState) → now.session ≡ old.session → now.number ≡ old.number → now.last ≡ old.last → GoesOn old now
same_calls old now session number last = record {
  session = session;
  number = omega (arith, number);
  knows = λ told rs k. record {
    numbers = λ r c e. omega (arith, number, k.numbers r c (e ∙ session));
    positions = λ r c e. (let P : Position → Type 0 = λ p. IsUpTo r.position p in subst P (sym last) (k.positions r c (e ∙ session)));
    told_numbers = λ t c e. omega (arith, number, k.told_numbers t c (e ∙ session));
    told_positions = λ t c e. (let P : Position → Type 0 = λ p. IsUpTo t.position p in subst P (sym last) (k.told_positions t c (e ∙ session)));
  };
}

pub routes_sessions : (c : Callers) (s slot word : ℕ) → AreSessions c → AreSessions (routed_at c s slot word)
routes_sessions c s slot word h = session_kept c s (refreshed (c.sessions s) slot word) (same_calls (c.sessions s) (refreshed (c.sessions s) slot word) refl refl refl) h

pub routes_calls : (c : Callers) (s slot word : ℕ) (view : SessionView) → IsUnderWay c view → IsUnderWay (routed_at c s slot word) view
routes_calls c s slot word view u = call_kept c s (refreshed (c.sessions s) slot word) view (same_calls (c.sessions s) (refreshed (c.sessions s) slot word) refl refl refl) u

pub hints_sessions : (c : Callers) (s : ℕ) (pairs : List (ℕ × ℕ)) → AreSessions c → AreSessions (hinted_at c s pairs)
hints_sessions c s pairs h = session_kept c s (record (c.sessions s) { hints = pairs }) (same_calls (c.sessions s) (record (c.sessions s) { hints = pairs }) refl refl refl) h

pub hints_calls : (c : Callers) (s : ℕ) (pairs : List (ℕ × ℕ)) (view : SessionView) → IsUnderWay c view → IsUnderWay (hinted_at c s pairs) view
hints_calls c s pairs view u = call_kept c s (record (c.sessions s) { hints = pairs }) view (same_calls (c.sessions s) (record (c.sessions s) { hints = pairs }) refl refl refl) u
