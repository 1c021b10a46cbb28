use Rattle.std.proofs.Common.{ℕ, ◌≡◌, ◌≢◌, ◌<◌, ◌^◌, Bool, true, false, List, [], ◌∷◌, ◌++◌, Option, None, Contains, if◌then◌else◌, refl, sym, ◌∙◌, ap, subst, arith}
use Rattle.std.specs.Ordering.{is_lt}
use Rattle.dn_word.specs.declared.positions.Position.{Position}
use Rattle.dn_hist.specs.Receipt.{position_cmp}
use Rattle.dn_hist.specs.declared.receipts.Receipt.{Receipt}
use Rattle.dn_hist.specs.declared.receipts.SessionView.{SessionView}
use Rattle.dn_model.specs.Regions.{IsLane}
use Rattle.dn_store.specs.State.{with_at}
use Rattle.dn_store.proofs.At.{at_same, at_other, at_by}
use Rattle.dn_route.specs.SessionState.{SessionState, numbered, heard, refreshed, greater_of, hint_of, view_of}
use Rattle.dn_route.proofs.CallerLaws.{good_again}
use Rattle.dn_lanes.specs.Calls.{IsCall}
use Rattle.dn_callers.specs.Callers.{Callers, Standing, receipts_of}
use Rattle.dn_callers.specs.Changes.{numbered_at, told_at, answered_by, routed_at}
use Rattle.dn_callers.specs.Sessions.{IsSession, AreSessions, IsUnderWay}
use Rattle.dn_callers.proofs.Answering.{answered_calls}
use Rattle.dn_callers.proofs.Learning.{numbers_calls, numbers_first, routes_calls}
use Rattle.dn_callers.proofs.Lists.{each_one, one_more}
use Rattle.dn_callers.proofs.Telling.{told_calls}
use Rattle.dn_waiting.specs.State.{WaitingState, at_lane}
use Rattle.dn_waiting.specs.declared.calls.OpenCall.{OpenCall}
use Rattle.dn_outcomes.specs.Sound.{IsCaller, IsCallOf, MayBegin, AreCalls}
use Rattle.dn_outcomes.proofs.Goes.{AreOthers}

-- What becomes of calls where a session changes.

-- ---- sessions
callers_with : (c : Callers) (s : ℕ) (now : SessionState) → ((k : ℕ) → IsSession k → IsCaller (c.sessions k)) → (IsSession s → IsCaller now) → (k : ℕ) → IsSession k → IsCaller (with_at c.sessions s now k)
callers_with c s now h own k i = at_by IsCaller c.sessions s now k (λ e. own (subst IsSession e i)) (λ d. h k i)

pub greater_low : (a b : Position) → a.stamp < 2 ^ 31 → b.stamp < 2 ^ 31 → (greater_of a b).stamp < 2 ^ 31
greater_low a b la lb = by_test (is_lt (position_cmp a b)) where
  by_test : (t : Bool) → (if t then b else a).stamp < 2 ^ 31
  by_test true = lb
  by_test false = la

hears : (s : SessionState) (p : Position) → IsCaller s → p.stamp < 2 ^ 31 → IsCaller (heard s p)
hears s p h low = record { hints = h.hints; stamp = greater_low s.last p h.stamp low }

-- ---- the number of an open call stays
number_with : (c : Callers) (s : ℕ) (now : SessionState) (k n : ℕ) → now.number ≡ (c.sessions s).number → n ≡ (c.sessions k).number → n ≡ (with_at c.sessions s now k).number
number_with c s now k n same h = at_by (λ (y : SessionState). n ≡ y.number) c.sessions s now k (λ e. h ∙ ap (λ j. (c.sessions j).number) e ∙ sym same) (λ d. h)

begin_by : (c d : Callers) (view : SessionView) → (IsUnderWay c view → IsUnderWay d view) → MayBegin c view → MayBegin d view
begin_by c d view by h = record { good = by h.good; hint = h.hint; stamp = h.stamp }

-- ---- a session gives its next call a number
pub numbered_others : (s : ℕ) (w : WaitingState) (c : Callers) (loads : ℕ → Option ℕ) → AreOthers s w c loads → AreOthers s w (numbered_at c s) loads
numbered_others s w c loads h = record {
  callers = callers_with c s (numbered (c.sessions s)) h.callers (λ i. record { hints = (h.callers s i).hints; stamp = (h.callers s i).stamp });
  calls = λ k x i d is.
      let was : IsCallOf c k x = h.calls k x i d is in record {
        unclosed = was.unclosed;
        number = was.number ∙ sym (ap (λ (y : SessionState). y.number) (at_other c.sessions s (numbered (c.sessions s)) k d));
        fits = was.fits;
        unmade = was.unmade;
      };
  loads_are = h.loads_are;
  queued = λ n view lane has. begin_by c (numbered_at c s) view (numbers_calls c s view) (h.queued n view lane has);
  tasks = h.tasks;
}

-- ---- it is told a position
pub told_kept : (s : ℕ) (p : Position) (w : WaitingState) (c : Callers) (loads : ℕ → Option ℕ) → AreSessions c → IsSession s → p.stamp < 2 ^ 31 → AreCalls w c loads → AreCalls w (told_at c s p) loads
told_kept s p w c loads sound own low h = record {
  callers = callers_with c s (heard (c.sessions s) p) h.callers (λ i. hears (c.sessions s) p (h.callers s i) low);
  calls = λ k x i is.
      let was : IsCallOf c k x = h.calls k x i is in record {
        unclosed = was.unclosed;
        number = number_with c s (heard (c.sessions s) p) k x.number refl was.number;
        fits = was.fits;
        unmade = was.unmade;
      };
  loads_are = h.loads_are;
  queued = λ n view lane has. begin_by c (told_at c s p) view (told_calls c s p view sound own) (h.queued n view lane has);
  tasks = h.tasks;
}

-- ---- it learns a route
pub routed_kept : (s slot word : ℕ) (w : WaitingState) (c : Callers) (loads : ℕ → Option ℕ) → AreCalls w c loads → AreCalls w (routed_at c s slot word) loads
routed_kept s slot word w c loads h = record {
  callers = callers_with c s (refreshed (c.sessions s) slot word) h.callers (λ i. record { hints = (h.callers s i).hints; stamp = (h.callers s i).stamp });
  calls = λ k x i is.
      let was : IsCallOf c k x = h.calls k x i is in record {
        unclosed = was.unclosed;
        number = number_with c s (refreshed (c.sessions s) slot word) k x.number refl was.number;
        fits = was.fits;
        unmade = was.unmade;
      };
  loads_are = h.loads_are;
  queued = λ n view lane has. begin_by c (routed_at c s slot word) view (routes_calls c s slot word view) (h.queued n view lane has);
  tasks = h.tasks;
}

-- ---- it is answered
-- by a receipt of another session no call is made
unmade_still : (rs : List Standing) (x : Standing) (k n : ℕ) → k ≢ x.receipt.position.session → ((r : Receipt) → Contains (receipts_of rs) r → r.position.session ≡ k → r.number < n)
    → (r : Receipt) → Contains (receipts_of (rs ++ x ∷ [])) r → r.position.session ≡ k → r.number < n
unmade_still rs x k n d h r has =
    each_one (λ (y : Receipt). y.position.session ≡ k → y.number < n) (receipts_of rs) x.receipt h (λ e. absurd (d (sym e))) r
    (subst (λ ys. Contains ys r) (one_more rs x) has)

pub answered_others : (r : Receipt) (w : WaitingState) (c : Callers) (loads : ℕ → Option ℕ) → r.position.stamp < 2 ^ 31
    → ((n : ℕ) (view : SessionView) → IsLane n → Contains (at_lane w n).queue view → r.position.session ≢ view.session)
    → AreOthers r.position.session w c loads → AreOthers r.position.session w (answered_by c r) loads
answered_others r w c loads low apart h =
    let s : ℕ = r.position.session in
    let x : Standing = record { receipt = r; answered = true } in record {
      callers = callers_with c s (heard (c.sessions s) r.position) h.callers (λ i. hears (c.sessions s) r.position (h.callers s i) low);
      calls = λ k y i d is.
          let was : IsCallOf c k y = h.calls k y i d is in record {
            unclosed = was.unclosed;
            number = number_with c s (heard (c.sessions s) r.position) k y.number refl was.number;
            fits = was.fits;
            unmade = unmade_still c.receipts x k y.number d was.unmade;
          };
      loads_are = h.loads_are;
      queued = λ n view lane has. begin_by c (answered_by c r) view (λ u. answered_calls c r view u (apart n view lane has)) (h.queued n view lane has);
      tasks = h.tasks;
    }

-- ---- what a session shows with an attempt
no_hint : (hints : List (ℕ × ℕ)) (key : ℕ) → hints ≡ [] → hint_of hints key ≡ None
no_hint hints key e = ap (λ hs. hint_of hs key) e

pub first_begins : (c : Callers) (s key : ℕ) → AreSessions c → IsSession s → c.closed s ≡ false → IsCaller ((numbered_at c s).sessions s) → MayBegin (numbered_at c s) (view_of ((numbered_at c s).sessions s) key)
first_begins c s key sound i o h = record {
  good = numbers_first c s key sound i o;
  hint = no_hint ((numbered_at c s).sessions s).hints key h.hints;
  stamp = h.stamp;
}

-- with a further one of a call that isn't made
pub further_begins : (c : Callers) (s key : ℕ) (x : OpenCall) → AreSessions c → IsSession s → IsCallOf c s x → IsCaller (c.sessions s) → MayBegin c (view_of (c.sessions s) key)
further_begins c s key x sound i own h =
    let is : (c.sessions s).session ≡ s = sound.numbers s i in
    let rs : List Receipt = receipts_of c.receipts in record {
      good = record {
        session = subst IsSession (sym is) i;
        unclosed = ap c.closed is ∙ own.unclosed;
        number = omega (arith, ap (λ y. (c.sessions y).number) is);
        good = good_again c.told rs (c.sessions s) key (sound.knows s i own.unclosed) (λ r has f same. absurd (omega (arith, own.unmade r has (f ∙ is), same, own.number)));
      };
      hint = no_hint (c.sessions s).hints key h.hints;
      stamp = h.stamp;
    }

-- ---- a call that begins
pub begun_call : (c : Callers) (s : ℕ) (x : OpenCall) → AreSessions c → IsSession s → c.closed s ≡ false → x.number ≡ ((numbered_at c s).sessions s).number → IsCall x.call → IsCallOf (numbered_at c s) s x
begun_call c s x sound i o number fits =
    let is : (c.sessions s).session ≡ s = sound.numbers s i in
    let now : ((numbered_at c s).sessions s) ≡ numbered (c.sessions s) = at_same c.sessions s (numbered (c.sessions s)) s refl in record {
      unclosed = o;
      number = number;
      fits = fits;
      unmade = λ r has e. omega (arith, (sound.knows s i o).numbers r has (e ∙ sym is), number, ap (λ (y : SessionState). y.number) now);
    }
