use Rattle.std.proofs.Common.{ℕ, ◌≡◌, ◌-◌, ◌+◌, inl, inr, Bool, true, false, List, [], ◌∷◌, ◌++◌, Option, Some, None, Contains, All, map, length, slice_get, if◌then◌else◌, refl, sym, ◌∙◌, ap, subst, append_assoc, append-nil, arith}
use Rattle.std.specs.List.{cons_option, range_with_len}
use Rattle.std.specs.List.Sorted.{IsPermutation}
use Rattle.std.proofs.lemmas.List.{map-append, length-append}
use Rattle.std.proofs.lemmas.List.Elements.{All-nil, All-cons, All-push}
use Rattle.std.proofs.lemmas.List.Sorted.{Contains-permutation, All-permutation, IsPermutation-sym, IsPermutation-map}
use Rattle.dn_hist.specs.Calls.{Bytes}
use Rattle.dn_hist.specs.Receipt.{IsInOrder}
use Rattle.dn_hist.specs.Replay.{map_left}
use Rattle.dn_hist.specs.declared.calls.Call.{Call}
use Rattle.dn_hist.specs.declared.receipts.Receipt.{Receipt}
use Rattle.dn_callers.specs.Callers.{Standing, receipts_of}
use Rattle.dn_machine.specs.Histories.{IsHistory}
use Rattle.dn_machine.proofs.Histories as machine
use Rattle.dn_model.specs.PoolMap.{HoldsMap}
use Rattle.dn_script.specs.Fit.{IsLine}
use Rattle.dn_script.specs.declared.scripts.Line.{Line}
use Rattle.dn_waiting.specs.State.{call_of}
use Rattle.dn_waiting.specs.declared.calls.OpenCall.{OpenCall}
use Rattle.dn_outcomes.specs.Accounts as accounts
use Rattle.dn_outcomes.specs.Accounts.{Asked, Ended, HasReceipt, open_in, asked_by, asked_in, asked_for, ended_as, ended_in, numbers_asked, numbers_ended}
use Rattle.dn_outcomes.specs.Does.{does}
use Rattle.dn_outcomes.specs.Runs.{after, IsRun, made_in}
use Rattle.dn_outcomes.specs.Sound.{IsWorld, MayHappen}
use Rattle.dn_outcomes.specs.Starts.{start_unless, start_beside, start}
use Rattle.dn_outcomes.specs.State.{World, Done, done, may_name}
use Rattle.dn_outcomes.specs.Told.{IsQuiet, Joins, Stands as StandsBy, starts, is_end}
use Rattle.dn_outcomes.specs.declared.events.Event.{Event}
use Rattle.dn_outcomes.specs.declared.outcomes.CallAnswer.{CallAnswer}
use Rattle.dn_outcomes.specs.declared.outcomes.CallAnswer.TheVariants as answer
use Rattle.dn_outcomes.specs.declared.outcomes.Outcome.{Outcome}
use Rattle.dn_outcomes.specs.declared.outcomes.Outcome.TheVariants as outcome
use Rattle.dn_outcomes.specs.declared.outcomes.Outcome.TheVariants.{NoLane}
use Rattle.dn_outcomes.proofs.Accounts.{all_accounted}
use Rattle.dn_outcomes.proofs.Counted.{numbers_counted}
use Rattle.dn_outcomes.proofs.Joined.{joined}
use Rattle.dn_outcomes.proofs.Kept.{kept}
use Rattle.dn_outcomes.proofs.Owners.{looked}
use Rattle.dn_outcomes.proofs.Past.{no_receipt, stands_nowhere}
use Rattle.dn_outcomes.proofs.Accounts.{no_element}
use Rattle.dn_outcomes.proofs.ToldEvents.{receipts_so}
use Rattle.dn_run.specs.Happening.{Happening, happening, makes_call, receipt_of, receipt_if}
use Rattle.dn_run.specs.Headline.{receipts_in, call_by, TellsReceipt, Stands, LooksSo, asked_of, ended_of, IsStarted, StartsSo, IsHeadline}
use Rattle.dn_run.specs.Run.{Run, run_of, after_steps, happenings}
use Rattle.dn_run.specs.Uncalled.{IsUncalled}
use Rattle.dn_run.specs.Going.{IsGoing}
use Rattle.dn_run.proofs.Going.{goes, uncalled}

-- What is so of every run.

abbrev AllAnswered : List Standing → Type 0
AllAnswered xs = All (λ (x : Standing). x.answered ≡ true) xs

-- ---- one event: its receipt, and what is told of it
at_end : (xs : List Standing) (x : Standing) → slice_get (xs ++ x ∷ []) (length xs) ≡ Some x
at_end [] x = refl
at_end (y ∷ xs) x = at_end xs x

last_one : (xs : List Standing) (x : Standing) → slice_get (xs ++ x ∷ []) (length (xs ++ x ∷ []) - 1) ≡ Some x
last_one xs x =
    let sum = length-append xs (x ∷ []) in
    ap (λ (k : ℕ). slice_get (xs ++ x ∷ []) k) (omega (arith, sum)) ∙ at_end xs x

pub record ToldAs (w now : World) (o : Outcome) (receipt : Option Receipt) : Type 0 where
  pub joins : receipts_of now.machine.callers.receipts ≡ receipts_of w.machine.callers.receipts ++ cons_option receipt []
  pub answered : AllAnswered w.machine.callers.receipts → AllAnswered now.machine.callers.receipts
  pub tells : call_by receipt ≡ made_in o

quiet_told : (w now : World) (o : Outcome) → IsQuiet w now → made_in o ≡ [] → ToldAs w now o None
quiet_told w now o h none = record {
  joins = ap receipts_of h ∙ sym (append-nil (receipts_of w.machine.callers.receipts));
  answered = λ all. subst AllAnswered (sym h) all;
  tells = sym none;
}

made_told : (w now : World) (s number : ℕ) (a : CallAnswer) (given : Bool) → Joins w now s number a
    → ToldAs w now (outcome.Answered s number a given) (receipt_if (makes_call (outcome.Answered s number a given)) now.machine.callers.receipts)
made_told w now s number (answer.Made way) given h =
    let x : Standing = record { receipt = h.receipt; answered = true } in
    let olds : List Standing = w.machine.callers.receipts in
    let is : receipt_of (slice_get now.machine.callers.receipts (length now.machine.callers.receipts - 1)) ≡ Some h.receipt =
    ap (λ (xs : List Standing). receipt_of (slice_get xs (length xs - 1))) h.joins ∙ ap receipt_of (last_one olds x) in record {
      joins = ap receipts_of h.joins ∙ map-append (λ (y : Standing). y.receipt) olds (x ∷ [])
          ∙ ap (λ (o : Option Receipt). receipts_of olds ++ cons_option o []) (sym is);
      answered = λ all. subst AllAnswered (sym h.joins) (All-push (λ (y : Standing). y.answered ≡ true) olds x all refl);
      tells = ap call_by is ∙ ap (λ (k : ℕ). (k, h.receipt.number) ∷ []) h.session ∙ ap (λ (k : ℕ). (s, k) ∷ []) h.its;
    }
made_told w now s number (answer.NotOwner look cell) given h = quiet_told w now (outcome.Answered s number (answer.NotOwner look cell) given) h refl
made_told w now s number (answer.Fenced word) given h = quiet_told w now (outcome.Answered s number (answer.Fenced word) given) h refl
made_told w now s number (answer.Full counter segments) given h = quiet_told w now (outcome.Answered s number (answer.Full counter segments) given) h refl
made_told w now s number (answer.Worn stamp) given h = quiet_told w now (outcome.Answered s number (answer.Worn stamp) given) h refl

outcome_told : (w now : World) (o : Outcome) → StandsBy w now o → ToldAs w now o (receipt_if (makes_call o) now.machine.callers.receipts)
outcome_told w now outcome.Nothing h = quiet_told w now outcome.Nothing h refl
outcome_told w now outcome.Acted h = quiet_told w now outcome.Acted h refl
outcome_told w now (outcome.Numbered number) h = quiet_told w now (outcome.Numbered number) h refl
outcome_told w now outcome.Busy h = quiet_told w now outcome.Busy h refl
outcome_told w now outcome.Closed h = quiet_told w now outcome.Closed h refl
outcome_told w now (outcome.Answered s number a given) h = made_told w now s number a given h
outcome_told w now (outcome.GivenUp s number) h = quiet_told w now (outcome.GivenUp s number) h refl
outcome_told w now (outcome.Ordered a) h = quiet_told w now (outcome.Ordered a) h refl
outcome_told w now outcome.MonitorBusy h = quiet_told w now outcome.MonitorBusy h refl
outcome_told w now (outcome.Tended a) h = quiet_told w now (outcome.Tended a) h refl
outcome_told w now (outcome.Added lane) h = quiet_told w now (outcome.Added lane) h refl
outcome_told w now outcome.LanesFull h = quiet_told w now outcome.LanesFull h refl
outcome_told w now outcome.NoLane h = quiet_told w now outcome.NoLane h refl
outcome_told w now (outcome.Merged turn) h = quiet_told w now (outcome.Merged turn) h refl
outcome_told w now (outcome.Fault actor) h = quiet_told w now (outcome.Fault actor) h refl

pub event_told : (w : World) (e : Event) (heirs : List ℕ) → IsWorld w → MayHappen w e heirs
    → ToldAs w (does w e heirs).world (does w e heirs).outcome (happening e (does w e heirs)).receipt
event_told w e heirs h may = outcome_told w (does w e heirs).world (does w e heirs).outcome (receipts_so w e heirs h may)

-- ---- looks
event_looks : (w : World) (e : Event) (heirs : List ℕ) → IsWorld w → LooksSo (happening e (does w e heirs))
event_looks w e heirs h n s number look cell given is told =
    (looked w n heirs s number look cell given h (ap (λ (x : Event). (does w x heirs).outcome) (sym is) ∙ told)).other

-- ---- starts
pub start_started : (w : World) (s : ℕ) (named : Option ℕ) (call : Call) → IsStarted (start w s named call).outcome
start_started w s named call = by_name (may_name w named) where
  by_closed : (b : Bool) → IsStarted (start_unless w s named call b).outcome
  by_closed true = tt
  by_closed false = tt

  by_call : (o : Option OpenCall) → IsStarted (start_beside w s named call o).outcome
  by_call None = by_closed (w.machine.callers.closed s)
  by_call (Some c) = tt

  by_name : (b : Bool) → IsStarted (if b then start_beside w s named call (call_of w.waiting s) else done w NoLane).outcome
  by_name true = by_call (call_of w.waiting s)
  by_name false = tt

event_starts : (w : World) (e : Event) (heirs : List ℕ) → StartsSo (happening e (does w e heirs))
event_starts w e heirs s lane call is =
    subst (λ (x : Event). IsStarted (does w x heirs).outcome) (sym is) (start_started w s lane call)

-- ---- all events
pub record AreTold (w : World) (es : List (Event × List ℕ)) : Type 0 where
  pub joins : receipts_of (after w es).machine.callers.receipts ≡ receipts_of w.machine.callers.receipts ++ receipts_in (happenings w es)
  pub answered : AllAnswered w.machine.callers.receipts → AllAnswered (after w es).machine.callers.receipts
  pub tells : All TellsReceipt (happenings w es)
  pub looks : All LooksSo (happenings w es)
  pub started : All StartsSo (happenings w es)

-- the receipts of an event, and of those behind it
first_in : (o : Option Receipt) (rest : List Receipt) → cons_option o [] ++ rest ≡ cons_option o rest
first_in None rest = refl
first_in (Some r) rest = refl

are_told : (w : World) (es : List (Event × List ℕ)) → IsWorld w → IsRun w es → AreTold w es
are_told w [] h run = record {
  joins = sym (append-nil (receipts_of w.machine.callers.receipts));
  answered = λ all. all;
  tells = All-nil TellsReceipt;
  looks = All-nil LooksSo;
  started = All-nil StartsSo;
}
are_told w (x ∷ xs) h run =
    let d : Done = does w x.0 x.1 in
    let first = event_told w x.0 x.1 h run.0 in
    let rest : AreTold d.world xs = are_told d.world xs (kept w x.0 x.1 h run.0) run.1 in
    let olds : List Receipt = receipts_of w.machine.callers.receipts in
    let one : List Receipt = cons_option (happening x.0 d).receipt [] in
    let more : List Receipt = receipts_in (happenings d.world xs) in record {
      joins = rest.joins ∙ ap (λ (ys : List Receipt). ys ++ more) first.joins ∙ append_assoc olds one more
          ∙ ap (λ (ys : List Receipt). olds ++ ys) (first_in (happening x.0 d).receipt more);
      answered = λ all. rest.answered (first.answered all);
      tells = All-cons TellsReceipt (happening x.0 d) (happenings d.world xs) first.tells rest.tells;
      looks = All-cons LooksSo (happening x.0 d) (happenings d.world xs) (event_looks w x.0 x.1 h) rest.looks;
      started = All-cons StartsSo (happening x.0 d) (happenings d.world xs) (event_starts w x.0 x.1) rest.started;
    }

-- ---- accounts, of what has happened
asked_same : (s : ℕ) (w : World) (es : List (Event × List ℕ)) → asked_of s (happenings w es) ≡ asked_in s w es
asked_same s w [] = refl
asked_same s w (x ∷ xs) = ap (λ (ys : List Asked). (if starts x.0 s then asked_by x.0 (does w x.0 x.1).outcome else []) ++ ys) (asked_same s (does w x.0 x.1).world xs)

ended_same : (s : ℕ) (w : World) (es : List (Event × List ℕ)) → ended_of s (happenings w es) ≡ ended_in s w es
ended_same s w [] = refl
ended_same s w (x ∷ xs) = ap (λ (ys : List Ended). (if is_end (does w x.0 x.1).outcome s then ended_as (does w x.0 x.1).outcome else []) ++ ys) (ended_same s (does w x.0 x.1).world xs)

none_open : (w : World) (s : ℕ) → IsUncalled w → open_in w s ≡ []
none_open w s u = ap accounts.asked_of (u.calls s)

-- ---- a history
has_receipt : (w : World) (history : List Standing) (s number : ℕ) → IsPermutation w.machine.callers.receipts history → Stands history s number → HasReceipt w s number
has_receipt w history s number once h = record {
  standing = h.standing;
  stands = Contains-permutation history w.machine.callers.receipts h.standing (IsPermutation-sym w.machine.callers.receipts history once) h.stands;
  session = h.session;
  its = h.its;
}

asked_so : (w : World) (es : List (Event × List ℕ)) (history : List Standing) (x : Standing) → IsWorld w → IsUncalled w → IsRun w es
    → IsPermutation (after w es).machine.callers.receipts history → Contains history x → Contains (asked_in x.receipt.position.session w es) (asked_for x.receipt)
asked_so w es history x h u run once there =
    let s : ℕ = x.receipt.position.session in
    let stands : List Standing = (after w es).machine.callers.receipts in
    elim (joined w es x h run (Contains-permutation history stands x (IsPermutation-sym stands history once) there)) [
      | inl before ↦ absurd (no_element x (subst (λ (xs : List Standing). Contains xs x) u.receipts before))
      | inr asked ↦ subst (λ (xs : List Asked). Contains (xs ++ asked_in s w es) (asked_for x.receipt)) (none_open w s u) asked
    ]

-- ---- all of it
pub record IsHeld (r : Run) (words : List ℕ) (history : List Standing) : Type 0 where
  pub once : IsPermutation r.world.machine.callers.receipts history
  pub sorted : IsInOrder (receipts_of history)
  pub map : (held : Bytes) → HoldsMap r.world.machine.words held → HoldsMap words held

heads_over : (w : World) (lines : List Line) (r : Run) (words : List ℕ) (history : List Standing) (es : List (Event × List ℕ)) → IsWorld w → IsUncalled w → IsGoing w lines r
    → IsRun w es → r.world ≡ after w es → r.past ≡ happenings w es → IsHeld r words history → IsHeadline lines r words history
heads_over w lines r words history es h u g run world past held =
    let v : World = after w es in
    let all : AreTold w es = are_told w es h run in
    let hs = receipts_of history in
    let is : IsHistory r.world.machine hs = record {
      once = IsPermutation-map (λ (x : Standing). x.receipt) r.world.machine.callers.receipts history held.once;
      order = held.sorted;
    } in
    let once : IsPermutation v.machine.callers.receipts history = subst (λ (y : World). IsPermutation y.machine.callers.receipts history) world held.once in record {
      once = held.once;
      sorted = held.sorted;
      legal = machine.legal r.world.segments r.world.machine hs g.sound.machine is;
      order = machine.callers_order r.world.segments r.world.machine hs g.sound.machine is;
      map = held.map (map_left hs) (machine.map_is r.world.segments r.world.machine hs g.sound.machine is);
      made = ap receipts_in past ∙ ap (λ (xs : List Standing). receipts_of xs ++ receipts_in (happenings w es)) (sym u.receipts) ∙ sym all.joins
          ∙ ap (λ (x : World). receipts_of x.machine.callers.receipts) (sym world);
      tells = subst (All TellsReceipt) (sym past) all.tells;
      answered = All-permutation (λ (x : Standing). x.answered ≡ true) v.machine.callers.receipts history once
          (all.answered (subst AllAnswered (sym u.receipts) (All-nil (λ (x : Standing). x.answered ≡ true))));
      starts = g.starts;
      started = subst (All StartsSo) (sym past) all.started;
      numbers = λ s. ap (λ (xs : List Happening). numbers_asked (asked_of s xs)) past ∙ ap numbers_asked (asked_same s w es) ∙ numbers_counted w es s h run
          ∙ ap (λ (k : ℕ). range_with_len (k + 1) (length (asked_in s w es))) (u.numbers s)
          ∙ ap (λ (xs : List Asked). range_with_len 1 (length xs)) (sym (asked_same s w es))
          ∙ ap (λ (xs : List Happening). range_with_len 1 (length (asked_of s xs))) (sym past);
      asked = λ x there. subst (λ (xs : List Happening). Contains (asked_of x.receipt.position.session xs) (asked_for x.receipt)) (sym past)
          (subst (λ (xs : List Asked). Contains xs (asked_for x.receipt)) (sym (asked_same x.receipt.position.session w es))
          (asked_so w es history x h u run once there));
      all = λ s. ap (λ (xs : List Happening). numbers_asked (asked_of s xs)) past ∙ ap numbers_asked (asked_same s w es)
          ∙ ap (λ (xs : List Asked). numbers_asked (xs ++ asked_in s w es)) (sym (none_open w s u)) ∙ all_accounted w es s h run
          ∙ ap (λ (xs : List Ended). numbers_ended xs ++ numbers_asked (open_in v s)) (sym (ended_same s w es))
          ∙ ap (λ (xs : List Happening). numbers_ended (ended_of s xs) ++ numbers_asked (open_in v s)) (sym past)
          ∙ ap (λ (x : World). numbers_ended (ended_of s r.past) ++ numbers_asked (open_in x s)) (sym world);
      given_up = λ s x i there not has. no_receipt w es s x h run i
          (subst (λ (xs : List Ended). Contains xs x) (ended_same s w es) (subst (λ (xs : List Happening). Contains (ended_of s xs) x) past there)) not
          (has_receipt v history s x.number once has);
      unanswered = λ s x i there has. stands_nowhere r.world s x g.sound i there (has_receipt r.world history s x.number held.once has);
      looks = subst (All LooksSo) (sym past) all.looks;
    }

pub heads : (w : World) (lines : List Line) (n : ℕ) (words : List ℕ) (history : List Standing) → IsWorld w → IsUncalled w → All IsLine lines
    → IsPermutation (after_steps n (run_of w lines)).world.machine.callers.receipts history → IsInOrder (receipts_of history)
    → ((held : Bytes) → HoldsMap (after_steps n (run_of w lines)).world.machine.words held → HoldsMap words held)
    → IsHeadline lines (after_steps n (run_of w lines)) words history
heads w lines n words history h u fit once sorted map =
    let r : Run = after_steps n (run_of w lines) in
    let g : IsGoing w lines r = goes w lines n h (uncalled w u) fit in
    heads_over w lines r words history g.of.es h u g g.of.may g.of.world g.of.past (record { once = once; sorted = sorted; map = map })
