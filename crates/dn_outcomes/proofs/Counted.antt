use Rattle.std.proofs.Common.{ℕ, ◌+◌, ◌≡◌, ◌<◌, Bool, true, false, List, [], ◌∷◌, ◌++◌, Option, Some, None, zero, suc, length, if◌then◌else◌, refl, sym, ◌∙◌, ap, subst, arith}
use Rattle.std.specs.List.{range_with_len}
use Rattle.std.specs.List.Sorted.{IsStrictlyIncreasing}
use Rattle.std.proofs.lemmas.Bool.{eqb-true, false≢true}
use Rattle.std.proofs.lemmas.List.{map-append, length-append}
use Rattle.std.proofs.lemmas.List.FromFn.{length-range_with_len, get_or-range_with_len}
use Rattle.dn_hist.specs.declared.calls.Call.{Call}
use Rattle.dn_callers.specs.Sessions.{IsSession}
use Rattle.dn_waiting.specs.State.{call_of}
use Rattle.dn_waiting.specs.declared.calls.OpenCall.{OpenCall}
use Rattle.dn_outcomes.specs.Accounts.{Asked, asked_of, open_in, numbered_by, asked_by, asked_in, ended_in, numbers_asked, numbers_ended}
use Rattle.dn_outcomes.specs.Does.{does}
use Rattle.dn_outcomes.specs.Runs.{after, IsRun}
use Rattle.dn_outcomes.specs.Sound.{IsWorld, MayHappen}
use Rattle.dn_outcomes.specs.State.{World, Done}
use Rattle.dn_outcomes.specs.Told.{IsNew, Starts, starts}
use Rattle.dn_outcomes.specs.declared.events.Event.{Event}
use Rattle.dn_outcomes.specs.declared.events.Event.TheVariants as event
use Rattle.dn_outcomes.specs.declared.outcomes.Outcome.{Outcome}
use Rattle.dn_outcomes.specs.declared.outcomes.Outcome.TheVariants as outcome
use Rattle.dn_outcomes.proofs.Accounts.{all_accounted}
use Rattle.dn_outcomes.proofs.Kept.{kept}
use Rattle.dn_outcomes.proofs.Numbers.{number_kept}
use Rattle.dn_outcomes.proofs.ToldEvents.{starts_so}

-- The numbers that a session is told are consecutive.

-- ---- numbers one after the other
range_more : (i a j : ℕ) → range_with_len a (i + j) ≡ range_with_len a i ++ range_with_len (a + i) j
range_more zero a j =
    let e : zero + j ≡ j = omega arith in
    let f : a ≡ a + zero = omega arith in
    ap (range_with_len a) e ∙ ap (λ (b : ℕ). range_with_len b j) f
range_more (suc i) a j =
    let e : suc i + j ≡ suc (i + j) = omega arith in
    let f : a + 1 + i ≡ a + suc i = omega arith in
    ap (range_with_len a) e ∙ ap (λ ys. a ∷ ys) (range_more i (a + 1) j ∙ ap (λ (b : ℕ). range_with_len (a + 1) i ++ range_with_len b j) f)

range_start : (xs ys : List ℕ) (a n : ℕ) → xs ++ ys ≡ range_with_len a n → xs ≡ range_with_len a (length xs)
range_start [] ys a n e = refl
range_start (x ∷ xs) ys a zero e = absurd (cc e)
range_start (x ∷ xs) ys a (suc n) e =
    let first : x ≡ a = cc in
    let rest : xs ++ ys ≡ range_with_len (a + 1) n = cc in
    ap (λ (k : ℕ). k ∷ xs) first ∙ ap (λ zs. a ∷ zs) (range_start xs ys (a + 1) n rest)

range_rises : (a n : ℕ) → IsStrictlyIncreasing (range_with_len a n)
range_rises a n k lt =
    let below : k + 1 < n = subst (λ m. k + 1 < m) (length-range_with_len a n) lt in
    omega (arith, get_or-range_with_len a n k 0 (omega (arith, below)), get_or-range_with_len a n (k + 1) 0 below)

-- ---- a session with this number has that one behind these
pub record IsCounted (before now : ℕ) (asked : List Asked) : Type 0 where
  pub numbers : numbers_asked asked ≡ range_with_len (before + 1) (length asked)
  pub last : now ≡ before + length asked

none_counted : (n m : ℕ) → m ≡ n → IsCounted n m []
none_counted n m e = record { numbers = refl; last = omega (arith, e) }

one_counted : (n m number : ℕ) (call : Call) → number ≡ n + 1 → m ≡ number → IsCounted n m ((record { number = number; call = call }) ∷ [])
one_counted n m number call e f = record { numbers = ap (λ (k : ℕ). k ∷ []) e; last = f ∙ e }

counted_on : (n m k : ℕ) (a later : List Asked) → IsCounted n m a → IsCounted m k later → IsCounted n k (a ++ later)
counted_on n m k a later h g =
    let more : length (a ++ later) ≡ length a + length later = length-append a later in
    let at : m + 1 ≡ n + 1 + length a = omega (arith, h.last) in record {
      numbers = map-append (λ (x : Asked). x.number) a later
          ∙ ap (λ ys. ys ++ numbers_asked later) h.numbers
          ∙ ap (λ ys. range_with_len (n + 1) (length a) ++ ys) (g.numbers ∙ ap (λ (b : ℕ). range_with_len b (length later)) at)
          ∙ sym (range_more (length a) (n + 1) (length later))
          ∙ ap (range_with_len (n + 1)) (sym more);
      last = omega (arith, h.last, g.last, more);
    }

-- ---- an event
new_last : (o : Option OpenCall) (number m : ℕ) (call : Call) → IsNew o number call → ((c : OpenCall) → o ≡ Some c → c.number ≡ m) → m ≡ number
new_last None number m call h f = absurd h
new_last (Some c) number m call h f = sym (f c refl) ∙ h.0

same_counted : (w now : World) (s : ℕ) → now ≡ w → IsCounted (w.machine.callers.sessions s).number (now.machine.callers.sessions s).number []
same_counted w now s e = none_counted _ _ (ap (λ (x : World). (x.machine.callers.sessions s).number) e)

starts_counted : (w now : World) (s : ℕ) (call : Call) (o : Outcome) → IsWorld now → IsSession s → Starts w now s call o
    → IsCounted (w.machine.callers.sessions s).number (now.machine.callers.sessions s).number (numbered_by call o)
starts_counted w now s call outcome.Nothing h i b = same_counted w now s b
starts_counted w now s call outcome.Acted h i b = same_counted w now s b
starts_counted w now s call (outcome.Numbered number) h i b =
    one_counted (w.machine.callers.sessions s).number (now.machine.callers.sessions s).number number call b.next
    (new_last (call_of now.waiting s) number (now.machine.callers.sessions s).number call b.new (λ c is. (h.calls.calls s c i is).number))
starts_counted w now s call outcome.Busy h i b = same_counted w now s b
starts_counted w now s call outcome.Closed h i b = same_counted w now s b
starts_counted w now s call (outcome.Answered t number answer given) h i b = same_counted w now s b
starts_counted w now s call (outcome.GivenUp t number) h i b = same_counted w now s b
starts_counted w now s call (outcome.Ordered answer) h i b = same_counted w now s b
starts_counted w now s call outcome.MonitorBusy h i b = same_counted w now s b
starts_counted w now s call (outcome.Tended answer) h i b = same_counted w now s b
starts_counted w now s call (outcome.Added lane) h i b = same_counted w now s b
starts_counted w now s call outcome.LanesFull h i b = same_counted w now s b
starts_counted w now s call outcome.NoLane h i b = same_counted w now s b
starts_counted w now s call (outcome.Merged turn) h i b = same_counted w now s b
starts_counted w now s call (outcome.Fault actor) h i b = same_counted w now s b

own_counted : (w : World) (e : Event) (heirs : List ℕ) (s : ℕ) → IsWorld w → MayHappen w e heirs → starts e s ≡ true
    → IsCounted (w.machine.callers.sessions s).number ((does w e heirs).world.machine.callers.sessions s).number (asked_by e (does w e heirs).outcome)
own_counted w (event.Start t lane call) heirs s h may e =
    let d : Done = does w (event.Start t lane call) heirs in
    subst (λ k. IsCounted (w.machine.callers.sessions k).number (d.world.machine.callers.sessions k).number (numbered_by call d.outcome)) (eqb-true t s e)
    (starts_counted w d.world t call d.outcome (kept w (event.Start t lane call) heirs h may) may.0 (starts_so w t lane call heirs h may.0))
own_counted w (event.Step n) heirs s h may e = absurd (false≢true e)
own_counted w (event.Flow n index) heirs s h may e = absurd (false≢true e)
own_counted w (event.Merge n) heirs s h may e = absurd (false≢true e)
own_counted w event.Monitor heirs s h may e = absurd (false≢true e)
own_counted w (event.Refresh t) heirs s h may e = absurd (false≢true e)
own_counted w (event.Give o) heirs s h may e = absurd (false≢true e)
own_counted w event.DropOrder heirs s h may e = absurd (false≢true e)
own_counted w (event.Queue n t) heirs s h may e = absurd (false≢true e)
own_counted w event.Add heirs s h may e = absurd (false≢true e)
own_counted w (event.Tell t u) heirs s h may e = absurd (false≢true e)

pub event_counted : (w : World) (e : Event) (heirs : List ℕ) (s : ℕ) → IsWorld w → MayHappen w e heirs
    → IsCounted (w.machine.callers.sessions s).number ((does w e heirs).world.machine.callers.sessions s).number (if starts e s then asked_by e (does w e heirs).outcome else [])
event_counted w e heirs s h may = by_start (starts e s) refl where
  by_start : (b : Bool) → starts e s ≡ b
      → IsCounted (w.machine.callers.sessions s).number ((does w e heirs).world.machine.callers.sessions s).number (if b then asked_by e (does w e heirs).outcome else [])
  by_start true own = own_counted w e heirs s h may own
  by_start false other = none_counted (w.machine.callers.sessions s).number ((does w e heirs).world.machine.callers.sessions s).number (number_kept w e heirs s other)

-- ---- a run
pub run_counted : (w : World) (es : List (Event × List ℕ)) (s : ℕ) → IsWorld w → IsRun w es
    → IsCounted (w.machine.callers.sessions s).number ((after w es).machine.callers.sessions s).number (asked_in s w es)
run_counted w [] s h run = none_counted (w.machine.callers.sessions s).number (w.machine.callers.sessions s).number refl
run_counted w (x ∷ xs) s h run =
    let d : Done = does w x.0 x.1 in
    counted_on (w.machine.callers.sessions s).number (d.world.machine.callers.sessions s).number ((after d.world xs).machine.callers.sessions s).number (if starts x.0 s then asked_by x.0 d.outcome else []) (asked_in s d.world xs)
    (event_counted w x.0 x.1 s h run.0) (run_counted d.world xs s (kept w x.0 x.1 h run.0) run.1)

pub numbers_counted : (w : World) (es : List (Event × List ℕ)) (s : ℕ) → IsWorld w → IsRun w es
    → numbers_asked (asked_in s w es) ≡ range_with_len ((w.machine.callers.sessions s).number + 1) (length (asked_in s w es))
numbers_counted w es s h run = (run_counted w es s h run).numbers

-- ---- those that end are the first of them
open_counted : (o : Option OpenCall) (n : ℕ) (asked : List Asked) → ((c : OpenCall) → o ≡ Some c → c.number ≡ n) → numbers_asked asked ≡ range_with_len (n + 1) (length asked)
    → (a : ℕ) × (k : ℕ) × (numbers_asked (asked_of o ++ asked) ≡ range_with_len a k)
open_counted None n asked is e = (n + 1, length asked, e)
open_counted (Some c) n asked is e = (n, suc (length asked), ap (λ (k : ℕ). k ∷ numbers_asked asked) (is c refl) ∙ ap (λ ys. n ∷ ys) e)

first_rise : (xs ys : List ℕ) (a n : ℕ) → xs ++ ys ≡ range_with_len a n → IsStrictlyIncreasing xs
first_rise xs ys a n e = subst IsStrictlyIncreasing (sym (range_start xs ys a n e)) (range_rises a (length xs))

pub ends_rise : (w : World) (es : List (Event × List ℕ)) (s : ℕ) → IsWorld w → IsRun w es → IsSession s → IsStrictlyIncreasing (numbers_ended (ended_in s w es))
ends_rise w es s h run i =
    let c = open_counted (call_of w.waiting s) (w.machine.callers.sessions s).number (asked_in s w es) (λ x is. (h.calls.calls s x i is).number) (numbers_counted w es s h run) in
    first_rise (numbers_ended (ended_in s w es)) (numbers_asked (open_in (after w es) s)) c.0 c.1 (sym (all_accounted w es s h run) ∙ c.2)
