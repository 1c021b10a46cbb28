use Rattle.std.proofs.Common.{ℕ, ◌+◌, ◌≡◌, ◌≢◌, ◌<◌, ◌≤◌, ◌⊎◌, inl, inr, Bool, true, false, List, [], ◌∷◌, Option, Some, None, Contains, length, if◌then◌else◌, refl, sym, ◌∙◌, ap, subst, arith}
use Rattle.std.specs.List.{range_with_len}
use Rattle.std.proofs.lemmas.Bool.{false≢true}
use Rattle.std.proofs.lemmas.List.Elements.{Contains-append_left, Contains-append_right, Contains-append_cases, Contains-push, Contains-push_cases}
use Rattle.dn_callers.specs.Callers.{Standing}
use Rattle.dn_callers.specs.Sessions.{IsSession}
use Rattle.dn_callers.proofs.Lists.{has_receipt}
use Rattle.dn_waiting.specs.State.{call_of}
use Rattle.dn_waiting.specs.declared.calls.OpenCall.{OpenCall}
use Rattle.dn_outcomes.specs.Accounts.{Asked, Ended, asked_of, open_in, asked_by, ended_as, ended_in, numbers_asked, numbers_ended, asked_for, HasReceipt}
use Rattle.dn_outcomes.specs.Does.{does}
use Rattle.dn_outcomes.specs.Runs.{after, IsRun}
use Rattle.dn_outcomes.specs.Sound.{IsWorld, MayHappen, IsCallOf}
use Rattle.dn_outcomes.specs.State.{World, Done}
use Rattle.dn_outcomes.specs.Told.{IsQuiet, Joins, Stands, is_made_by, is_end, GoesOn, starts, Names}
use Rattle.dn_outcomes.specs.declared.events.Event.{Event}
use Rattle.dn_outcomes.specs.declared.outcomes.CallAnswer.{CallAnswer}
use Rattle.dn_outcomes.specs.declared.outcomes.CallAnswer.TheVariants as answer
use Rattle.dn_outcomes.specs.declared.outcomes.Outcome.{Outcome}
use Rattle.dn_outcomes.specs.declared.outcomes.Outcome.TheVariants as outcome
use Rattle.dn_outcomes.proofs.Accounts.{event_balanced, own_no_end, no_element, gone, ends_asked}
use Rattle.dn_outcomes.proofs.Counted.{IsCounted, event_counted}
use Rattle.dn_outcomes.proofs.Joined.{event_joined}
use Rattle.dn_outcomes.proofs.Kept.{kept}
use Rattle.dn_outcomes.proofs.ToldEvents.{receipts_so, calls_so, names_so}

-- A call that is given up has no receipt, then or later.

-- ---- elements
of_first : {A : Type 0} (y : A) (ys : List A) (x : A) → Contains (y ∷ ys) x → (y ≡ x) ⊎ Contains ys x
of_first y ys x h = elim (Contains-append_cases (y ∷ []) ys x h) [
  | inl b ↦ elim (Contains-push_cases [] y x b) [
    | inl n ↦ absurd (no_element x n)
    | inr e ↦ inl e
  ]
  | inr b ↦ inr b
]

counted_behind : (xs : List Asked) (a : ℕ) (x : Asked) → numbers_asked xs ≡ range_with_len a (length xs) → Contains xs x → a ≤ x.number
counted_behind [] a x e h = absurd (no_element x h)
counted_behind (y ∷ ys) a x e h =
    let first : y.number ≡ a = cc in
    let rest : numbers_asked ys ≡ range_with_len (a + 1) (length ys) = cc in
    elim (of_first y ys x h) [
      | inl same ↦ omega (arith, first, ap (λ (z : Asked). z.number) same)
      | inr later ↦ omega (arith, counted_behind ys (a + 1) x rest later)
    ]

-- ---- this number of session s is past: it has no receipt, and can't get one
pub record IsPast (w : World) (s n : ℕ) : Type 0 where
  pub none : (x : Standing) → Contains w.machine.callers.receipts x → x.receipt.position.session ≡ s → x.receipt.number ≢ n
  pub below : n ≤ (w.machine.callers.sessions s).number
  pub unasked : (x : Asked) → Contains (open_in w s) x → x.number ≢ n

past_kept : (w : World) (e : Event) (heirs : List ℕ) (s n : ℕ) → IsWorld w → MayHappen w e heirs → IsPast w s n → IsPast (does w e heirs).world s n
past_kept w e heirs s n h may p =
    let d : Done = does w e heirs in
    let asked : List Asked = if starts e s then asked_by e d.outcome else [] in
    let c : IsCounted (w.machine.callers.sessions s).number (d.world.machine.callers.sessions s).number asked = event_counted w e heirs s h may in record {
      none = λ x there own. elim (event_joined w e heirs x h may there) [
        | inl before ↦ p.none x before own
        | inr had ↦ p.unasked (asked_for x.receipt) (subst (λ k. Contains (open_in w k) (asked_for x.receipt)) own had)
      ];
      below = omega (arith, p.below, c.last);
      unasked = λ x there. elim (Contains-append_cases (open_in w s) asked x ((event_balanced w e heirs s h may).from x there)) [
        | inl before ↦ p.unasked x before
        | inr new ↦ (λ same. apart (w.machine.callers.sessions s).number n x.number p.below (counted_behind asked ((w.machine.callers.sessions s).number + 1) x c.numbers new) same)
      ];
    }
  where
    apart : (a n k : ℕ) → n ≤ a → a + 1 ≤ k → k ≡ n → ⊥
    apart a n k below behind same = omega (arith, below, behind, same)

past_on : (w : World) (es : List (Event × List ℕ)) (s n : ℕ) → IsWorld w → IsRun w es → IsPast w s n → IsPast (after w es) s n
past_on w [] s n h run p = p
past_on w (x ∷ xs) s n h run p = past_on (does w x.0 x.1).world xs s n (kept w x.0 x.1 h run.0) run.1 (past_kept w x.0 x.1 s n h run.0 p)

-- ---- by an outcome that gives it up
pub one_ended : (x y : Ended) → Contains (y ∷ []) x → y ≡ x
one_ended x y h = elim (of_first y [] x h) [
  | inl e ↦ e
  | inr n ↦ absurd (no_element x n)
]

unmade_quiet : (w now : World) (s number : ℕ) (a : CallAnswer) → Joins w now s number a → is_made_by a ≡ false → IsQuiet w now
unmade_quiet w now s number (answer.Made way) j e = absurd (false≢true (sym e))
unmade_quiet w now s number (answer.NotOwner look cell) j e = j
unmade_quiet w now s number (answer.Fenced word) j e = j
unmade_quiet w now s number (answer.Full counter segments) j e = j
unmade_quiet w now s number (answer.Worn stamp) j e = j

given_quiet : (w now : World) (o : Outcome) (x : Ended) → Stands w now o → Contains (ended_as o) x → x.made ≡ false → IsQuiet w now
given_quiet w now outcome.Nothing x j h e = j
given_quiet w now outcome.Acted x j h e = j
given_quiet w now (outcome.Numbered number) x j h e = j
given_quiet w now outcome.Busy x j h e = j
given_quiet w now outcome.Closed x j h e = j
given_quiet w now (outcome.Answered s number a given) x j h e = unmade_quiet w now s number a j (ap (λ (z : Ended). z.made) (one_ended x (record { number = number; made = is_made_by a }) h) ∙ e)
given_quiet w now (outcome.GivenUp s number) x j h e = j
given_quiet w now (outcome.Ordered a) x j h e = j
given_quiet w now outcome.MonitorBusy x j h e = j
given_quiet w now (outcome.Tended a) x j h e = j
given_quiet w now (outcome.Added lane) x j h e = j
given_quiet w now outcome.LanesFull x j h e = j
given_quiet w now outcome.NoLane x j h e = j
given_quiet w now (outcome.Merged turn) x j h e = j
given_quiet w now (outcome.Fault actor) x j h e = j

-- the call that ends
has_number : (xs : List Ended) (x : Ended) → Contains xs x → Contains (numbers_ended xs) x.number
has_number [] x h = absurd (no_element x h)
has_number (y ∷ ys) x h = elim (of_first y ys x h) [
  | inl e ↦ subst (λ (z : Ended). Contains (numbers_ended (y ∷ ys)) z.number) e (Contains-append_left (y.number ∷ []) (numbers_ended ys) y.number (Contains-push [] y.number))
  | inr b ↦ Contains-append_right (y.number ∷ []) (numbers_ended ys) x.number (has_number ys x b)
]

record IsCallAt (o : Option OpenCall) (n : ℕ) : Type 0 where
  call : OpenCall
  is : o ≡ Some call
  number : call.number ≡ n

call_at : (o : Option OpenCall) (n : ℕ) → Contains (numbers_asked (asked_of o)) n → IsCallAt o n
call_at None n h = absurd (no_element n h)
call_at (Some c) n h = elim (of_first c.number [] n h) [
  | inl e ↦ record { call = c; is = refl; number = e }
  | inr b ↦ absurd (no_element n b)
]

ending_at : (w : World) (o : Outcome) (s : ℕ) (x : Ended) → Names w.waiting o → is_end o s ≡ true → Contains (ended_as o) x → IsCallAt (call_of w.waiting s) x.number
ending_at w o s x n e h = call_at (call_of w.waiting s) x.number (subst (λ ys. Contains ys x.number) (sym (ends_asked w.waiting o s n e)) (has_number (ended_as o) x h))

given_past : (w : World) (e : Event) (heirs : List ℕ) (s : ℕ) (x : Ended) → IsWorld w → MayHappen w e heirs → IsSession s → is_end (does w e heirs).outcome s ≡ true
    → Contains (ended_as (does w e heirs).outcome) x → x.made ≡ false → IsPast (does w e heirs).world s x.number
given_past w e heirs s x h may i end there given =
    let d : Done = does w e heirs in
    let at : IsCallAt (call_of w.waiting s) x.number = ending_at w d.outcome s x (names_so w e heirs h may) end there in
    let is : IsCallOf w.machine.callers s at.call = h.calls.calls s at.call i at.is in
    let quiet : IsQuiet w d.world = given_quiet w d.world d.outcome x (receipts_so w e heirs h may) there given in
    let none : open_in d.world s ≡ [] = ap asked_of (gone (call_of w.waiting s) (call_of d.world.waiting s) (by_start (starts e s) refl)) in record {
      none = λ y stands own same. apart y.receipt.number at.call.number x.number
          (is.unmade y.receipt (has_receipt w.machine.callers.receipts y (subst (λ ys. Contains ys y) quiet stands)) own) at.number same;
      below = omega (arith, at.number, is.number, (event_counted w e heirs s h may).last);
      unasked = λ y open_now. absurd (no_element y (subst (λ ys. Contains ys y) none open_now));
    }
  where
    apart : (r c n : ℕ) → r < c → c ≡ n → r ≡ n → ⊥
    apart r c n lt is same = omega (arith, lt, is, same)

    by_start : (b : Bool) → starts e s ≡ b → GoesOn true (call_of w.waiting s) (call_of (does w e heirs).world.waiting s)
    by_start true own = absurd (false≢true (sym (own_no_end w e heirs s own) ∙ end))
    by_start false other = subst (λ b. GoesOn b (call_of w.waiting s) (call_of (does w e heirs).world.waiting s)) end (calls_so w e heirs s h may other)

-- ---- over a run
pub given_up : (w : World) (es : List (Event × List ℕ)) (s : ℕ) (x : Ended) → IsWorld w → IsRun w es → IsSession s → Contains (ended_in s w es) x → x.made ≡ false → IsPast (after w es) s x.number
given_up w [] s x h run i there given = absurd (no_element x there)
given_up w (y ∷ ys) s x h run i there given =
    let d : Done = does w y.0 y.1 in
    let next : IsWorld d.world = kept w y.0 y.1 h run.0 in
    elim (Contains-append_cases (if is_end d.outcome s then ended_as d.outcome else []) (ended_in s d.world ys) x there) [
      | inl now ↦ past_on d.world ys s x.number next run.1 (by_end (is_end d.outcome s) refl now)
      | inr later ↦ given_up d.world ys s x next run.1 i later given
    ]
  where
    by_end : (b : Bool) → is_end (does w y.0 y.1).outcome s ≡ b → Contains (if b then ended_as (does w y.0 y.1).outcome else []) x → IsPast (does w y.0 y.1).world s x.number
    by_end true e now = given_past w y.0 y.1 s x h run.0 i e now given
    by_end false e now = absurd (no_element x now)

pub no_receipt : (w : World) (es : List (Event × List ℕ)) (s : ℕ) (x : Ended) → IsWorld w → IsRun w es → IsSession s → Contains (ended_in s w es) x → x.made ≡ false → HasReceipt (after w es) s x.number → ⊥
no_receipt w es s x h run i there given r = (given_up w es s x h run i there given).none r.standing r.stands r.session r.its

-- ---- a call that still is under way or waits
pub stands_nowhere : (w : World) (s : ℕ) (x : Asked) → IsWorld w → IsSession s → Contains (open_in w s) x → HasReceipt w s x.number → ⊥
stands_nowhere w s x h i there r = by_call (call_of w.waiting s) refl there where
  by_call : (o : Option OpenCall) → call_of w.waiting s ≡ o → Contains (asked_of o) x → ⊥
  by_call None e has = no_element x has
  by_call (Some c) e has =
      let is : IsCallOf w.machine.callers s c = h.calls.calls s c i e in
      elim (of_first (record { number = c.number; call = c.call }) [] x has) [
        | inl same ↦ omega (arith, is.unmade r.standing.receipt (has_receipt w.machine.callers.receipts r.standing r.stands) r.session, r.its, ap (λ (z : Asked). z.number) same)
        | inr none ↦ no_element x none
      ]
