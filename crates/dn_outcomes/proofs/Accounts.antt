use Rattle.std.proofs.Common.{◌==◌, ◌||◌, inl, inr, ℕ, ◌≡◌, Bool, true, false, List, [], ◌∷◌, ◌++◌, Option, Some, None, Contains, if◌then◌else◌, refl, sym, ◌∙◌, ap, subst, append_assoc, append-nil, ◌<◌, arith}
use Rattle.std.proofs.lemmas.Bool.{and_parts, eqb-true, false≢true}
use Rattle.std.proofs.lemmas.List.{map-append}
use Rattle.std.proofs.lemmas.List.Elements.{Contains-append_left, Contains-append_right, Contains-append_cases}
use Rattle.dn_hist.specs.declared.calls.Call.{Call}
use Rattle.dn_callers.specs.Sessions.{IsSession}
use Rattle.dn_waiting.specs.State.{WaitingState, call_of}
use Rattle.dn_waiting.specs.declared.calls.OpenCall.{OpenCall}
use Rattle.dn_outcomes.specs.Accounts.{Asked, Ended, asked_of, open_in, numbered_by, asked_by, asked_in, ended_as, ended_in, numbers_asked, numbers_ended}
use Rattle.dn_outcomes.specs.Does.{does}
use Rattle.dn_outcomes.specs.Runs.{after, IsRun}
use Rattle.dn_outcomes.specs.Sound.{IsWorld, MayHappen}
use Rattle.dn_outcomes.specs.Starts.{start_unless, start_beside, start}
use Rattle.dn_outcomes.specs.State.{World, Done, done, may_name}
use Rattle.dn_outcomes.specs.Told.{is_made_by, is_end, GoesOn, IsNew, Starts, starts, HasNumber, Names}
use Rattle.dn_outcomes.specs.declared.events.Event.{Event}
use Rattle.dn_outcomes.specs.declared.events.Event.TheVariants as event
use Rattle.dn_outcomes.specs.declared.outcomes.Outcome.{Outcome}
use Rattle.dn_outcomes.specs.declared.outcomes.Outcome.TheVariants as outcome
use Rattle.dn_outcomes.specs.declared.outcomes.Outcome.TheVariants.{NoLane}
use Rattle.dn_outcomes.proofs.Kept.{kept}
use Rattle.dn_outcomes.proofs.ToldEvents.{calls_so, names_so, starts_so}

-- What a session has asked is, in order, what has ended and what it has at last.

-- ---- a start
new_asked : (o p : Option OpenCall) (number : ℕ) (call : Call) → o ≡ None → IsNew p number call → asked_of o ++ (record { number = number; call = call }) ∷ [] ≡ asked_of p
new_asked o None number call e h = absurd h
new_asked o (Some c) number call e h =
    ap (λ (x : Option OpenCall). asked_of x ++ (record { number = number; call = call }) ∷ []) e
    ∙ ap (λ (n : ℕ). asked_of None ++ (record { number = n; call = call }) ∷ []) (sym h.0)
    ∙ ap (λ (k : Call). asked_of None ++ (record { number = c.number; call = k }) ∷ []) (sym h.1)

same_asked : (w now : World) (s : ℕ) → now ≡ w → open_in w s ++ [] ≡ open_in now s
same_asked w now s e = append-nil (open_in w s) ∙ ap (λ (x : World). open_in x s) (sym e)

starts_asked : (w now : World) (s : ℕ) (call : Call) (o : Outcome) → Starts w now s call o → open_in w s ++ numbered_by call o ≡ open_in now s
starts_asked w now s call outcome.Nothing h = same_asked w now s h
starts_asked w now s call outcome.Acted h = same_asked w now s h
starts_asked w now s call (outcome.Numbered number) h = new_asked (call_of w.waiting s) (call_of now.waiting s) number call h.free h.new
starts_asked w now s call outcome.Busy h = same_asked w now s h
starts_asked w now s call outcome.Closed h = same_asked w now s h
starts_asked w now s call (outcome.Answered t number answer given) h = same_asked w now s h
starts_asked w now s call (outcome.GivenUp t number) h = same_asked w now s h
starts_asked w now s call (outcome.Ordered answer) h = same_asked w now s h
starts_asked w now s call outcome.MonitorBusy h = same_asked w now s h
starts_asked w now s call (outcome.Tended answer) h = same_asked w now s h
starts_asked w now s call (outcome.Added lane) h = same_asked w now s h
starts_asked w now s call outcome.LanesFull h = same_asked w now s h
starts_asked w now s call outcome.NoLane h = same_asked w now s h
starts_asked w now s call (outcome.Merged turn) h = same_asked w now s h
starts_asked w now s call (outcome.Fault actor) h = same_asked w now s h

-- it ends no call
pub start_no_end : (w : World) (s : ℕ) (named : Option ℕ) (call : Call) (k : ℕ) → is_end (start w s named call).outcome k ≡ false
start_no_end w s named call k = by_name (may_name w named) where
  by_closed : (b : Bool) → is_end (start_unless w s named call b).outcome k ≡ false
  by_closed true = refl
  by_closed false = refl

  by_call : (o : Option OpenCall) → is_end (start_beside w s named call o).outcome k ≡ false
  by_call None = by_closed (w.machine.callers.closed s)
  by_call (Some c) = refl

  by_name : (b : Bool) → is_end (if b then start_beside w s named call (call_of w.waiting s) else done w NoLane).outcome k ≡ false
  by_name true = by_call (call_of w.waiting s)
  by_name false = refl

-- ---- a call goes on or ends
goes_asked : (o p : Option OpenCall) → GoesOn false o p → asked_of o ≡ asked_of p
goes_asked None p h = ap asked_of (sym h)
goes_asked (Some c) None h = absurd h
goes_asked (Some c) (Some x) h =
    ap (λ (n : ℕ). (record { number = n; call = c.call }) ∷ []) (sym h.0) ∙ ap (λ (k : Call). (record { number = x.number; call = k }) ∷ []) (sym h.1)

pub gone : (o p : Option OpenCall) → GoesOn true o p → p ≡ None
gone None p h = h
gone (Some c) p h = h

named_number : (o : Option OpenCall) (number : ℕ) → HasNumber o number → numbers_asked (asked_of o) ≡ number ∷ []
named_number None number h = absurd h
named_number (Some c) number h = ap (λ (n : ℕ). n ∷ []) h

number_at_end : (w : WaitingState) (t s number : ℕ) → HasNumber (call_of w t) number → (t == s) ≡ true → numbers_asked (asked_of (call_of w s)) ≡ number ∷ []
number_at_end w t s number h e = named_number (call_of w s) number (subst (λ k. HasNumber (call_of w k) number) (eqb-true t s e) h)

pub ends_asked : (w : WaitingState) (o : Outcome) (s : ℕ) → Names w o → is_end o s ≡ true → numbers_asked (asked_of (call_of w s)) ≡ numbers_ended (ended_as o)
ends_asked w outcome.Nothing s h e = absurd (false≢true e)
ends_asked w outcome.Acted s h e = absurd (false≢true e)
ends_asked w (outcome.Numbered number) s h e = absurd (false≢true e)
ends_asked w outcome.Busy s h e = absurd (false≢true e)
ends_asked w outcome.Closed s h e = absurd (false≢true e)
ends_asked w (outcome.Answered t number answer given) s h e = number_at_end w t s number h (and_parts (t == s) (is_made_by answer || given) e).0
ends_asked w (outcome.GivenUp t number) s h e = number_at_end w t s number h e
ends_asked w (outcome.Ordered answer) s h e = absurd (false≢true e)
ends_asked w outcome.MonitorBusy s h e = absurd (false≢true e)
ends_asked w (outcome.Tended answer) s h e = absurd (false≢true e)
ends_asked w (outcome.Added lane) s h e = absurd (false≢true e)
ends_asked w outcome.LanesFull s h e = absurd (false≢true e)
ends_asked w outcome.NoLane s h e = absurd (false≢true e)
ends_asked w (outcome.Merged turn) s h e = absurd (false≢true e)
ends_asked w (outcome.Fault actor) s h e = absurd (false≢true e)

-- ---- an event: what was open and is asked is what ends and is open, whose calls were asked
pub record IsBalanced (before now asked : List Asked) (ended : List Ended) : Type 0 where
  pub sum : numbers_asked (before ++ asked) ≡ numbers_ended ended ++ numbers_asked now
  pub from : (x : Asked) → Contains now x → Contains (before ++ asked) x

same_balanced : (before now asked : List Asked) → before ++ asked ≡ now → IsBalanced before now asked []
same_balanced before now asked e = record { sum = ap numbers_asked e; from = λ x h. subst (λ ys. Contains ys x) (sym e) h }

none_below : (k : ℕ) → k < 0 → ⊥
none_below k lt = omega (arith, lt)

pub no_element : {A : Type 0} (x : A) → Contains [] x → ⊥
no_element x h = none_below h.0 h.1

other_balanced : (w now : World) (s : ℕ) (o : Outcome) (b : Bool) → is_end o s ≡ b → Names w.waiting o → GoesOn b (call_of w.waiting s) (call_of now.waiting s) → IsBalanced (open_in w s) (open_in now s) [] (if b then ended_as o else [])
other_balanced w now s o false e n g = same_balanced (open_in w s) (open_in now s) [] (append-nil (open_in w s) ∙ goes_asked (call_of w.waiting s) (call_of now.waiting s) g)
other_balanced w now s o true e n g =
    let none : open_in now s ≡ [] = ap asked_of (gone (call_of w.waiting s) (call_of now.waiting s) g) in record {
      sum = ap numbers_asked (append-nil (open_in w s)) ∙ ends_asked w.waiting o s n e ∙ sym (append-nil (numbers_ended (ended_as o))) ∙ ap (λ ys. numbers_ended (ended_as o) ++ numbers_asked ys) (sym none);
      from = λ x h. absurd (no_element x (subst (λ ys. Contains ys x) none h));
    }

own_balanced : (w : World) (t : ℕ) (lane : Option ℕ) (call : Call) (heirs : List ℕ) (s : ℕ) → IsWorld w → IsSession t → (t == s) ≡ true
    → IsBalanced (open_in w s) (open_in (does w (event.Start t lane call) heirs).world s) (numbered_by call (does w (event.Start t lane call) heirs).outcome) []
own_balanced w t lane call heirs s h i e =
    let d : Done = does w (event.Start t lane call) heirs in
    subst (λ k. IsBalanced (open_in w k) (open_in d.world k) (numbered_by call d.outcome) []) (eqb-true t s e)
    (same_balanced (open_in w t) (open_in d.world t) (numbered_by call d.outcome) (starts_asked w d.world t call d.outcome (starts_so w t lane call heirs h i)))

-- a session that starts a call ends none by that
pub own_no_end : (w : World) (e : Event) (heirs : List ℕ) (s : ℕ) → starts e s ≡ true → is_end (does w e heirs).outcome s ≡ false
own_no_end w (event.Start t lane call) heirs s e = start_no_end w t lane call s
own_no_end w (event.Step n) heirs s e = absurd (false≢true e)
own_no_end w (event.Flow n index) heirs s e = absurd (false≢true e)
own_no_end w (event.Merge n) heirs s e = absurd (false≢true e)
own_no_end w event.Monitor heirs s e = absurd (false≢true e)
own_no_end w (event.Refresh t) heirs s e = absurd (false≢true e)
own_no_end w (event.Give o) heirs s e = absurd (false≢true e)
own_no_end w event.DropOrder heirs s e = absurd (false≢true e)
own_no_end w (event.Queue n t) heirs s e = absurd (false≢true e)
own_no_end w event.Add heirs s e = absurd (false≢true e)
own_no_end w (event.Tell t u) heirs s e = absurd (false≢true e)

own_step : (w : World) (e : Event) (heirs : List ℕ) (s : ℕ) → IsWorld w → MayHappen w e heirs → starts e s ≡ true
    → IsBalanced (open_in w s) (open_in (does w e heirs).world s) (asked_by e (does w e heirs).outcome) (if is_end (does w e heirs).outcome s then ended_as (does w e heirs).outcome else [])
own_step w (event.Start t lane call) heirs s h may e =
    let d : Done = does w (event.Start t lane call) heirs in
    subst (λ b. IsBalanced (open_in w s) (open_in d.world s) (numbered_by call d.outcome) (if b then ended_as d.outcome else [])) (sym (start_no_end w t lane call s))
    (own_balanced w t lane call heirs s h may.0 e)
own_step w (event.Step n) heirs s h may e = absurd (false≢true e)
own_step w (event.Flow n index) heirs s h may e = absurd (false≢true e)
own_step w (event.Merge n) heirs s h may e = absurd (false≢true e)
own_step w event.Monitor heirs s h may e = absurd (false≢true e)
own_step w (event.Refresh t) heirs s h may e = absurd (false≢true e)
own_step w (event.Give o) heirs s h may e = absurd (false≢true e)
own_step w event.DropOrder heirs s h may e = absurd (false≢true e)
own_step w (event.Queue n t) heirs s h may e = absurd (false≢true e)
own_step w event.Add heirs s h may e = absurd (false≢true e)
own_step w (event.Tell t u) heirs s h may e = absurd (false≢true e)

pub event_balanced : (w : World) (e : Event) (heirs : List ℕ) (s : ℕ) → IsWorld w → MayHappen w e heirs
    → IsBalanced (open_in w s) (open_in (does w e heirs).world s) (if starts e s then asked_by e (does w e heirs).outcome else []) (if is_end (does w e heirs).outcome s then ended_as (does w e heirs).outcome else [])
event_balanced w e heirs s h may = by_start (starts e s) refl where
  by_start : (b : Bool) → starts e s ≡ b
      → IsBalanced (open_in w s) (open_in (does w e heirs).world s) (if b then asked_by e (does w e heirs).outcome else []) (if is_end (does w e heirs).outcome s then ended_as (does w e heirs).outcome else [])
  by_start true own = own_step w e heirs s h may own
  by_start false other =
      (let d : Done = does w e heirs in other_balanced w d.world s d.outcome (is_end d.outcome s) refl (names_so w e heirs h may) (calls_so w e heirs s h may other))

-- ---- a run
pub carried : (o n a later : List Asked) → ((x : Asked) → Contains n x → Contains (o ++ a) x) → (x : Asked) → Contains (n ++ later) x → Contains (o ++ (a ++ later)) x
carried o n a later from x h = subst (λ ys. Contains ys x) (append_assoc o a later) (elim (Contains-append_cases n later x h) [
  | inl b ↦ Contains-append_left (o ++ a) later x (from x b)
  | inr b ↦ Contains-append_right (o ++ a) later x b
])

chained : (o n f a later : List Asked) (e es : List Ended) → IsBalanced o n a e → IsBalanced n f later es → IsBalanced o f (a ++ later) (e ++ es)
chained o n f a later e es first rest = record {
  sum = ap numbers_asked (sym (append_assoc o a later))
      ∙ map-append (λ (x : Asked). x.number) (o ++ a) later
      ∙ ap (λ ys. ys ++ numbers_asked later) first.sum
      ∙ append_assoc (numbers_ended e) (numbers_asked n) (numbers_asked later)
      ∙ ap (λ ys. numbers_ended e ++ ys) (sym (map-append (λ (x : Asked). x.number) n later) ∙ rest.sum)
      ∙ sym (append_assoc (numbers_ended e) (numbers_ended es) (numbers_asked f))
      ∙ ap (λ ys. ys ++ numbers_asked f) (sym (map-append (λ (x : Ended). x.number) e es));
  from = λ x h. carried o n a later first.from x (rest.from x h);
}

pub run_balanced : (w : World) (es : List (Event × List ℕ)) (s : ℕ) → IsWorld w → IsRun w es → IsBalanced (open_in w s) (open_in (after w es) s) (asked_in s w es) (ended_in s w es)
run_balanced w [] s h run = same_balanced (open_in w s) (open_in w s) [] (append-nil (open_in w s))
run_balanced w (x ∷ xs) s h run =
    let d : Done = does w x.0 x.1 in
    chained (open_in w s) (open_in d.world s) (open_in (after d.world xs) s) (if starts x.0 s then asked_by x.0 d.outcome else []) (asked_in s d.world xs) (if is_end d.outcome s then ended_as d.outcome else []) (ended_in s d.world xs)
    (event_balanced w x.0 x.1 s h run.0) (run_balanced d.world xs s (kept w x.0 x.1 h run.0) run.1)

pub all_accounted : (w : World) (es : List (Event × List ℕ)) (s : ℕ) → IsWorld w → IsRun w es
    → numbers_asked (open_in w s ++ asked_in s w es) ≡ numbers_ended (ended_in s w es) ++ numbers_asked (open_in (after w es) s)
all_accounted w es s h run = (run_balanced w es s h run).sum
