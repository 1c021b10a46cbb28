use Rattle.std.proofs.Common.{ℕ, zero, suc, ◌≡◌, ◌≢◌, ◌==◌, ◌+◌, ◌&&◌, Bool, true, false, cond, List, [], ◌∷◌, Option, Some, None, All, length, get_or, count_by, if◌then◌else◌, refl, sym, ◌∙◌, ap, subst, arith}
use Rattle.std.proofs.lemmas.Bool.{false≢true, eq-eqb, eqb-true}
use Rattle.std.proofs.lemmas.List.{length-append}
use Rattle.std.proofs.lemmas.List.Sums.{sum_by-cons}
use Rattle.dn_hist.specs.declared.calls.Call.{Call}
use Rattle.dn_script.specs.Fit.{IsLine}
use Rattle.dn_script.specs.declared.scripts.Line.{Line}
use Rattle.dn_waiting.specs.State.{call_of}
use Rattle.dn_waiting.specs.Stops.{waiting_from}
use Rattle.dn_waiting.specs.declared.calls.OpenCall.{OpenCall}
use Rattle.dn_outcomes.specs.Does.{does}
use Rattle.dn_outcomes.specs.Runs.{after, IsRun}
use Rattle.dn_outcomes.specs.Sound.{IsWorld, MayHappen}
use Rattle.dn_outcomes.specs.State.{World, Done}
use Rattle.dn_outcomes.specs.Told.{is_end, GoesOn, IsNew, Starts, starts, HasNumber, Names}
use Rattle.dn_outcomes.specs.declared.events.Event.{Event}
use Rattle.dn_outcomes.specs.declared.events.Event.TheVariants as event
use Rattle.dn_outcomes.specs.declared.outcomes.CallAnswer.{CallAnswer}
use Rattle.dn_outcomes.specs.declared.outcomes.CallAnswer.TheVariants as answer
use Rattle.dn_outcomes.specs.declared.outcomes.Outcome.{Outcome}
use Rattle.dn_outcomes.specs.declared.outcomes.Outcome.TheVariants as outcome
use Rattle.dn_outcomes.proofs.Kept.{kept}
use Rattle.dn_outcomes.proofs.ToldEvents.{calls_so, names_so, starts_so}
use Rattle.dn_run.specs.Asked.{call_numbered, calls_numbered}
use Rattle.dn_run.specs.Balance.{AddsUp}
use Rattle.dn_run.specs.Counts.{numbers_call, gives_up}
use Rattle.dn_run.specs.Going.{IsGoing}
use Rattle.dn_run.specs.Happening.{Happening, makes_call, happening}
use Rattle.dn_run.specs.Headline.{IsStarted}
use Rattle.dn_run.specs.Run.{Run, run_of, after_steps, happenings}
use Rattle.dn_run.specs.Uncalled.{IsUncalled}
use Rattle.dn_run.proofs.Going.{goes, uncalled}
use Rattle.dn_run.proofs.Heads.{start_started}
use Rattle.dn_run.proofs.Plain.{IsPlain, IsOther, plain}

-- The counts of calls add up.

-- ---- how many sessions have a call
abbrev has : Option OpenCall → Bool
has None = false
has (Some c) = true

abbrev opens : List (Option OpenCall) → ℕ
opens [] = 0
opens (None ∷ xs) = opens xs
opens (Some c ∷ xs) = suc (opens xs)

waiting_opens : (k : ℕ) (xs : List (Option OpenCall)) → length (waiting_from k xs) ≡ opens xs
waiting_opens k [] = refl
waiting_opens k (None ∷ xs) = waiting_opens (k + 1) xs
waiting_opens k (Some c ∷ xs) = ap (λ (n : ℕ). suc n) (waiting_opens (k + 1) xs)

abbrev SameAt : List (Option OpenCall) → List (Option OpenCall) → ℕ → Type 0
SameAt xs ys k = has (get_or xs k None) ≡ has (get_or ys k None)

same_opens : (xs ys : List (Option OpenCall)) → ((k : ℕ) → SameAt xs ys k) → opens xs ≡ opens ys
same_opens [] [] h = refl
same_opens [] (None ∷ ys) h = same_opens [] ys (λ k. h (suc k))
same_opens [] (Some d ∷ ys) h = absurd (false≢true (h 0))
same_opens (None ∷ xs) [] h = same_opens xs [] (λ k. h (suc k))
same_opens (Some c ∷ xs) [] h = absurd (false≢true (sym (h 0)))
same_opens (None ∷ xs) (None ∷ ys) h = same_opens xs ys (λ k. h (suc k))
same_opens (None ∷ xs) (Some d ∷ ys) h = absurd (false≢true (h 0))
same_opens (Some c ∷ xs) (None ∷ ys) h = absurd (false≢true (sym (h 0)))
same_opens (Some c ∷ xs) (Some d ∷ ys) h = ap (λ (n : ℕ). suc n) (same_opens xs ys (λ k. h (suc k)))

-- one has a call in these alone
first_differs : (k : ℕ) → suc k ≢ 0
first_differs k e = omega (arith, e)

next_differs : (s : ℕ) → 0 ≢ suc s
next_differs s e = omega (arith, e)

later_differs : (k s : ℕ) → k ≢ s → suc k ≢ suc s
later_differs k s d e = d (omega (arith, e))

more_opens : (s : ℕ) (xs ys : List (Option OpenCall)) → has (get_or xs s None) ≡ false → has (get_or ys s None) ≡ true → ((k : ℕ) → k ≢ s → SameAt xs ys k) → opens ys ≡ suc (opens xs)
more_opens zero xs [] a b h = absurd (false≢true b)
more_opens zero xs (None ∷ ys) a b h = absurd (false≢true b)
more_opens zero [] (Some d ∷ ys) a b h = ap (λ (n : ℕ). suc n) (sym (same_opens [] ys (λ k. h (suc k) (first_differs k))))
more_opens zero (None ∷ xs) (Some d ∷ ys) a b h = ap (λ (n : ℕ). suc n) (sym (same_opens xs ys (λ k. h (suc k) (first_differs k))))
more_opens zero (Some c ∷ xs) (Some d ∷ ys) a b h = absurd (false≢true (sym a))
more_opens (suc s) xs [] a b h = absurd (false≢true b)
more_opens (suc s) [] (None ∷ ys) a b h = more_opens s [] ys a b (λ k d. h (suc k) (later_differs k s d))
more_opens (suc s) [] (Some d ∷ ys) a b h = absurd (false≢true (h 0 (next_differs s)))
more_opens (suc s) (None ∷ xs) (None ∷ ys) a b h = more_opens s xs ys a b (λ k d. h (suc k) (later_differs k s d))
more_opens (suc s) (None ∷ xs) (Some d ∷ ys) a b h = absurd (false≢true (h 0 (next_differs s)))
more_opens (suc s) (Some c ∷ xs) (None ∷ ys) a b h = absurd (false≢true (sym (h 0 (next_differs s))))
more_opens (suc s) (Some c ∷ xs) (Some d ∷ ys) a b h = ap (λ (n : ℕ). suc n) (more_opens s xs ys a b (λ k e. h (suc k) (later_differs k s e)))

-- ---- worlds
abbrev open_at : World → ℕ
open_at w = opens w.waiting.calls

abbrev Goes : World → World → Bool → ℕ → Type 0
Goes w now b k = GoesOn b (call_of w.waiting k) (call_of now.waiting k)

none_left : (b : Bool) → (if b then false else false) ≡ false
none_left true = refl
none_left false = refl

goes_has : (b : Bool) (o now : Option OpenCall) → GoesOn b o now → has now ≡ (if b then false else has o)
goes_has b None now h = ap has h ∙ sym (none_left b)
goes_has true (Some c) now h = ap has h
goes_has false (Some c) None h = absurd h
goes_has false (Some c) (Some x) h = refl

goes_at : (w now : World) (k : ℕ) (b v : Bool) → b ≡ v → Goes w now b k → has (call_of now.waiting k) ≡ (if v then false else has (call_of w.waiting k))
goes_at w now k b v e h = goes_has v (call_of w.waiting k) (call_of now.waiting k) (subst (λ (c : Bool). Goes w now c k) e h)

-- no call ends
all_stay : (w now : World) (f : ℕ → Bool) → ((k : ℕ) → f k ≡ false) → ((k : ℕ) → Goes w now (f k) k) → open_at now ≡ open_at w
all_stay w now f none h = same_opens now.waiting.calls w.waiting.calls (λ k. goes_at w now k (f k) false (none k) (h k))

-- that of one session ends
named_has : (o : Option OpenCall) (number : ℕ) → HasNumber o number → has o ≡ true
named_has None number h = absurd h
named_has (Some c) number h = refl

one_ends : (w now : World) (t number : ℕ) (f : ℕ → Bool) → HasNumber (call_of w.waiting t) number → f t ≡ true → ((k : ℕ) → k ≢ t → f k ≡ false) → ((k : ℕ) → Goes w now (f k) k)
    → open_at w ≡ suc (open_at now)
one_ends w now t number f named own others h =
    more_opens t now.waiting.calls w.waiting.calls (goes_at w now t (f t) true own (h t)) (named_has (call_of w.waiting t) number named)
    (λ k d. goes_at w now k (f k) false (others k d) (h k))

-- ---- what an event adds to the counts
abbrev bit : Bool → ℕ
bit b = cond b 1 0

abbrev Balances : World → World → Outcome → Type 0
Balances w now o = bit (numbers_call o) + open_at w ≡ bit (makes_call o) + (bit (gives_up o) + open_at now)

calm_balances : (w now : World) (o : Outcome) → numbers_call o ≡ false → makes_call o ≡ false → gives_up o ≡ false → open_at now ≡ open_at w → Balances w now o
calm_balances w now o a b c same =
    let x : bit (numbers_call o) ≡ 0 = ap (λ (v : Bool). bit v) a in
    let y : bit (makes_call o) ≡ 0 = ap (λ (v : Bool). bit v) b in
    let z : bit (gives_up o) ≡ 0 = ap (λ (v : Bool). bit v) c in omega (arith, x, y, z, same)

made_balances : (w now : World) (o : Outcome) → numbers_call o ≡ false → makes_call o ≡ true → gives_up o ≡ false → open_at w ≡ suc (open_at now) → Balances w now o
made_balances w now o a b c less =
    let x : bit (numbers_call o) ≡ 0 = ap (λ (v : Bool). bit v) a in
    let y : bit (makes_call o) ≡ 1 = ap (λ (v : Bool). bit v) b in
    let z : bit (gives_up o) ≡ 0 = ap (λ (v : Bool). bit v) c in omega (arith, x, y, z, less)

given_balances : (w now : World) (o : Outcome) → numbers_call o ≡ false → makes_call o ≡ false → gives_up o ≡ true → open_at w ≡ suc (open_at now) → Balances w now o
given_balances w now o a b c less =
    let x : bit (numbers_call o) ≡ 0 = ap (λ (v : Bool). bit v) a in
    let y : bit (makes_call o) ≡ 0 = ap (λ (v : Bool). bit v) b in
    let z : bit (gives_up o) ≡ 1 = ap (λ (v : Bool). bit v) c in omega (arith, x, y, z, less)

-- an attempt ends
other_session : (t k : ℕ) → k ≢ t → (t == k) ≡ false
other_session t k d = by (t == k) refl where
  by : (b : Bool) → (t == k) ≡ b → b ≡ false
  by true e = absurd (d (sym (eqb-true t k e)))
  by false e = refl

and_none : (b : Bool) → (b && false) ≡ false
and_none true = refl
and_none false = refl

attempt_ends : (w now : World) (t number : ℕ) → HasNumber (call_of w.waiting t) number → ((k : ℕ) → Goes w now ((t == k) && true) k) → open_at w ≡ suc (open_at now)
attempt_ends w now t number named h =
    one_ends w now t number (λ k. (t == k) && true) named (ap (λ (b : Bool). b && true) (eq-eqb t t refl)) (λ k d. ap (λ (b : Bool). b && true) (other_session t k d)) h

attempt_stays : (w now : World) (t : ℕ) → ((k : ℕ) → Goes w now ((t == k) && false) k) → open_at now ≡ open_at w
attempt_stays w now t h = all_stay w now (λ k. (t == k) && false) (λ k. and_none (t == k)) h

refused_balances : (w now : World) (t number : ℕ) (a : CallAnswer) (given : Bool) → makes_call (outcome.Answered t number a given) ≡ false → HasNumber (call_of w.waiting t) number
    → ((k : ℕ) → Goes w now ((t == k) && given) k) → Balances w now (outcome.Answered t number a given)
refused_balances w now t number a true not named h = given_balances w now (outcome.Answered t number a true) refl not refl (attempt_ends w now t number named h)
refused_balances w now t number a false not named h = calm_balances w now (outcome.Answered t number a false) refl not refl (attempt_stays w now t h)

answered_balances : (w now : World) (t number : ℕ) (a : CallAnswer) (given : Bool) → HasNumber (call_of w.waiting t) number → IsPlain (outcome.Answered t number a given)
    → ((k : ℕ) → Goes w now (is_end (outcome.Answered t number a given) k) k) → Balances w now (outcome.Answered t number a given)
answered_balances w now t number (answer.Made way) true named p h = absurd (false≢true (sym (p refl)))
answered_balances w now t number (answer.Made way) false named p h = made_balances w now (outcome.Answered t number (answer.Made way) false) refl refl refl (attempt_ends w now t number named h)
answered_balances w now t number (answer.NotOwner look cell) given named p h = refused_balances w now t number (answer.NotOwner look cell) given refl named h
answered_balances w now t number (answer.Fenced word) given named p h = refused_balances w now t number (answer.Fenced word) given refl named h
answered_balances w now t number (answer.Full counter segments) given named p h = refused_balances w now t number (answer.Full counter segments) given refl named h
answered_balances w now t number (answer.Worn stamp) given named p h = refused_balances w now t number (answer.Worn stamp) given refl named h

-- any event but a start
stays_balances : (w now : World) (o : Outcome) → numbers_call o ≡ false → makes_call o ≡ false → gives_up o ≡ false → ((k : ℕ) → Goes w now false k) → Balances w now o
stays_balances w now o a b c h = calm_balances w now o a b c (all_stay w now (λ k. false) (λ k. refl) h)

other_balances : (w now : World) (o : Outcome) → Names w.waiting o → IsPlain o → ((k : ℕ) → Goes w now (is_end o k) k) → Balances w now o
other_balances w now outcome.Nothing n p h = stays_balances w now outcome.Nothing refl refl refl h
other_balances w now outcome.Acted n p h = stays_balances w now outcome.Acted refl refl refl h
other_balances w now (outcome.Numbered number) n p h = absurd p
other_balances w now outcome.Busy n p h = stays_balances w now outcome.Busy refl refl refl h
other_balances w now outcome.Closed n p h = stays_balances w now outcome.Closed refl refl refl h
other_balances w now (outcome.Answered t number a given) n p h = answered_balances w now t number a given n p h
other_balances w now (outcome.GivenUp t number) n p h =
    given_balances w now (outcome.GivenUp t number) refl refl refl (one_ends w now t number (λ k. t == k) n (eq-eqb t t refl) (λ k d. other_session t k d) h)
other_balances w now (outcome.Ordered a) n p h = stays_balances w now (outcome.Ordered a) refl refl refl h
other_balances w now outcome.MonitorBusy n p h = stays_balances w now outcome.MonitorBusy refl refl refl h
other_balances w now (outcome.Tended a) n p h = stays_balances w now (outcome.Tended a) refl refl refl h
other_balances w now (outcome.Added lane) n p h = stays_balances w now (outcome.Added lane) refl refl refl h
other_balances w now outcome.LanesFull n p h = stays_balances w now outcome.LanesFull refl refl refl h
other_balances w now outcome.NoLane n p h = stays_balances w now outcome.NoLane refl refl refl h
other_balances w now (outcome.Merged turn) n p h = stays_balances w now (outcome.Merged turn) refl refl refl h
other_balances w now (outcome.Fault actor) n p h = stays_balances w now (outcome.Fault actor) refl refl refl h

-- a start
new_has : (o : Option OpenCall) (number : ℕ) (call : Call) → IsNew o number call → has o ≡ true
new_has None number call h = absurd h
new_has (Some c) number call h = refl

same_open : (w now : World) → now ≡ w → open_at now ≡ open_at w
same_open w now e = ap (λ (x : World). open_at x) e

start_balances : (w now : World) (s : ℕ) (call : Call) (o : Outcome) → IsStarted o → Starts w now s call o → ((k : ℕ) → k ≢ s → Goes w now (is_end o k) k) → Balances w now o
start_balances w now s call outcome.Nothing i h g = absurd i
start_balances w now s call outcome.Acted i h g = absurd i
start_balances w now s call (outcome.Numbered number) i h g =
    let more : open_at now ≡ suc (open_at w) = more_opens s w.waiting.calls now.waiting.calls (ap has h.free) (new_has (call_of now.waiting s) number call h.new)
    (λ k d. sym (goes_at w now k false false refl (g k d))) in omega (arith, more)
start_balances w now s call outcome.Busy i h g = calm_balances w now outcome.Busy refl refl refl (same_open w now h)
start_balances w now s call outcome.Closed i h g = calm_balances w now outcome.Closed refl refl refl (same_open w now h)
start_balances w now s call (outcome.Answered t number a given) i h g = absurd i
start_balances w now s call (outcome.GivenUp t number) i h g = absurd i
start_balances w now s call (outcome.Ordered a) i h g = absurd i
start_balances w now s call outcome.MonitorBusy i h g = absurd i
start_balances w now s call (outcome.Tended a) i h g = absurd i
start_balances w now s call (outcome.Added lane) i h g = absurd i
start_balances w now s call outcome.LanesFull i h g = absurd i
start_balances w now s call outcome.NoLane i h g = calm_balances w now outcome.NoLane refl refl refl (same_open w now h)
start_balances w now s call (outcome.Merged turn) i h g = absurd i
start_balances w now s call (outcome.Fault actor) i h g = absurd i

abbrev BalancesAt : World → Event → List ℕ → Type 0
BalancesAt w e heirs = Balances w (does w e heirs).world (does w e heirs).outcome

not_start : (w : World) (e : Event) (heirs : List ℕ) → IsWorld w → MayHappen w e heirs → IsOther e → ((k : ℕ) → starts e k ≡ false) → BalancesAt w e heirs
not_start w e heirs h may o none =
    other_balances w (does w e heirs).world (does w e heirs).outcome (names_so w e heirs h may) (plain w e heirs o) (λ k. calls_so w e heirs k h may (none k))

event_balances : (w : World) (e : Event) (heirs : List ℕ) → IsWorld w → MayHappen w e heirs → BalancesAt w e heirs
event_balances w (event.Start s lane call) heirs h may =
    let d : Done = does w (event.Start s lane call) heirs in
    start_balances w d.world s call d.outcome (start_started w s lane call) (starts_so w s lane call heirs h may.0)
    (λ k d. calls_so w (event.Start s lane call) heirs k h may (other_session s k d))
event_balances w (event.Step n) heirs h may = not_start w (event.Step n) heirs h may tt (λ k. refl)
event_balances w (event.Flow n index) heirs h may = not_start w (event.Flow n index) heirs h may tt (λ k. refl)
event_balances w (event.Merge n) heirs h may = not_start w (event.Merge n) heirs h may tt (λ k. refl)
event_balances w event.Monitor heirs h may = not_start w event.Monitor heirs h may tt (λ k. refl)
event_balances w (event.Refresh s) heirs h may = not_start w (event.Refresh s) heirs h may tt (λ k. refl)
event_balances w (event.Give o) heirs h may = not_start w (event.Give o) heirs h may tt (λ k. refl)
event_balances w event.DropOrder heirs h may = not_start w event.DropOrder heirs h may tt (λ k. refl)
event_balances w (event.Queue n t) heirs h may = not_start w (event.Queue n t) heirs h may tt (λ k. refl)
event_balances w event.Add heirs h may = not_start w event.Add heirs h may tt (λ k. refl)
event_balances w (event.Tell s t) heirs h may = not_start w (event.Tell s t) heirs h may tt (λ k. refl)

-- ---- all events
abbrev numbered : List Happening → ℕ
numbered past = count_by (λ (x : Happening). numbers_call x.outcome) past

abbrev made : List Happening → ℕ
made past = count_by (λ (x : Happening). makes_call x.outcome) past

abbrev given_up : List Happening → ℕ
given_up past = count_by (λ (x : Happening). gives_up x.outcome) past

count_more : (p : Happening → Bool) (x : Happening) (xs : List Happening) → count_by p (x ∷ xs) ≡ bit (p x) + count_by p xs
count_more p x xs = sum_by-cons (λ (y : Happening). cond (p y) 1 0) x xs

events_balance : (w : World) (es : List (Event × List ℕ)) → IsWorld w → IsRun w es
    → numbered (happenings w es) + open_at w ≡ made (happenings w es) + (given_up (happenings w es) + open_at (after w es))
events_balance w [] h run = omega arith
events_balance w (x ∷ xs) h run =
    let d : Done = does w x.0 x.1 in
    let y : Happening = happening x.0 d in
    let ys : List Happening = happenings d.world xs in
    let a = count_more (λ (z : Happening). numbers_call z.outcome) y ys in
    let b = count_more (λ (z : Happening). makes_call z.outcome) y ys in
    let c = count_more (λ (z : Happening). gives_up z.outcome) y ys in
    let one : BalancesAt w x.0 x.1 = event_balances w x.0 x.1 h run.0 in
    let rest = events_balance d.world xs (kept w x.0 x.1 h run.0) run.1 in
    omega (arith, a, b, c, one, rest)

-- ---- the calls that got a number
start_number : (s : ℕ) (lane : Option ℕ) (call : Call) (o : Outcome) → bit (numbers_call o) ≡ length (call_numbered (event.Start s lane call) o)
start_number s lane call outcome.Nothing = refl
start_number s lane call outcome.Acted = refl
start_number s lane call (outcome.Numbered number) = refl
start_number s lane call outcome.Busy = refl
start_number s lane call outcome.Closed = refl
start_number s lane call (outcome.Answered t number a given) = refl
start_number s lane call (outcome.GivenUp t number) = refl
start_number s lane call (outcome.Ordered a) = refl
start_number s lane call outcome.MonitorBusy = refl
start_number s lane call (outcome.Tended a) = refl
start_number s lane call (outcome.Added n) = refl
start_number s lane call outcome.LanesFull = refl
start_number s lane call outcome.NoLane = refl
start_number s lane call (outcome.Merged turn) = refl
start_number s lane call (outcome.Fault actor) = refl

plain_number : (o : Outcome) → IsPlain o → bit (numbers_call o) ≡ 0
plain_number outcome.Nothing p = refl
plain_number outcome.Acted p = refl
plain_number (outcome.Numbered number) p = absurd p
plain_number outcome.Busy p = refl
plain_number outcome.Closed p = refl
plain_number (outcome.Answered t number a given) p = refl
plain_number (outcome.GivenUp t number) p = refl
plain_number (outcome.Ordered a) p = refl
plain_number outcome.MonitorBusy p = refl
plain_number (outcome.Tended a) p = refl
plain_number (outcome.Added n) p = refl
plain_number outcome.LanesFull p = refl
plain_number outcome.NoLane p = refl
plain_number (outcome.Merged turn) p = refl
plain_number (outcome.Fault actor) p = refl

event_number : (w : World) (e : Event) (heirs : List ℕ) → bit (numbers_call (does w e heirs).outcome) ≡ length (call_numbered e (does w e heirs).outcome)
event_number w (event.Start s lane call) heirs = start_number s lane call (does w (event.Start s lane call) heirs).outcome
event_number w (event.Step n) heirs = plain_number (does w (event.Step n) heirs).outcome (plain w (event.Step n) heirs tt)
event_number w (event.Flow n index) heirs = plain_number (does w (event.Flow n index) heirs).outcome (plain w (event.Flow n index) heirs tt)
event_number w (event.Merge n) heirs = plain_number (does w (event.Merge n) heirs).outcome (plain w (event.Merge n) heirs tt)
event_number w event.Monitor heirs = plain_number (does w event.Monitor heirs).outcome (plain w event.Monitor heirs tt)
event_number w (event.Refresh s) heirs = plain_number (does w (event.Refresh s) heirs).outcome (plain w (event.Refresh s) heirs tt)
event_number w (event.Give o) heirs = plain_number (does w (event.Give o) heirs).outcome (plain w (event.Give o) heirs tt)
event_number w event.DropOrder heirs = plain_number (does w event.DropOrder heirs).outcome (plain w event.DropOrder heirs tt)
event_number w (event.Queue n t) heirs = plain_number (does w (event.Queue n t) heirs).outcome (plain w (event.Queue n t) heirs tt)
event_number w event.Add heirs = plain_number (does w event.Add heirs).outcome (plain w event.Add heirs tt)
event_number w (event.Tell s t) heirs = plain_number (does w (event.Tell s t) heirs).outcome (plain w (event.Tell s t) heirs tt)

events_number : (w : World) (es : List (Event × List ℕ)) → numbered (happenings w es) ≡ length (calls_numbered (happenings w es))
events_number w [] = refl
events_number w (x ∷ xs) =
    let d : Done = does w x.0 x.1 in
    let ys : List Happening = happenings d.world xs in
    let a = count_more (λ (z : Happening). numbers_call z.outcome) (happening x.0 d) ys in
    let one = event_number w x.0 x.1 in
    let rest = events_number d.world xs in
    let sum = length-append (call_numbered x.0 d.outcome) (calls_numbered ys) in
    omega (arith, a, one, rest, sum)

-- ---- a run
none_open : (w : World) → IsUncalled w → open_at w ≡ 0
none_open w u = sym (same_opens [] w.waiting.calls (λ k. sym (ap has (u.calls k))))

adds_up_over : (w : World) (lines : List Line) (r : Run) → IsWorld w → IsUncalled w → IsGoing w lines r → AddsUp r
adds_up_over w lines r h u g =
    let es : List (Event × List ℕ) = g.of.es in
    let past : List Happening = happenings w es in
    let sum = events_balance w es h g.of.may in
    let none = none_open w u in
    let all_open = waiting_opens 0 r.world.waiting.calls in
    let last : open_at r.world ≡ open_at (after w es) = ap (λ (x : World). open_at x) g.of.world in
    let a : numbered r.past ≡ numbered past = ap (λ (xs : List Happening). numbered xs) g.of.past in
    let b : made r.past ≡ made past = ap (λ (xs : List Happening). made xs) g.of.past in
    let c : given_up r.past ≡ given_up past = ap (λ (xs : List Happening). given_up xs) g.of.past in record {
      calls = a ∙ events_number w es ∙ ap (λ (xs : List Happening). length (calls_numbered xs)) (sym g.of.past);
      sum = omega (arith, sum, none, all_open, last, a, b, c);
    }

pub adds_up : (w : World) (lines : List Line) (n : ℕ) → IsWorld w → IsUncalled w → All IsLine lines → AddsUp (after_steps n (run_of w lines))
adds_up w lines n h u fit = adds_up_over w lines (after_steps n (run_of w lines)) h u (goes w lines n h (uncalled w u) fit)
