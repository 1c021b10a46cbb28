use Rattle.std.proofs.Common.{ℕ, zero, suc, ◌≡◌, ◌==◌, inl, inr, Bool, true, false, List, [], ◌∷◌, ◌++◌, Option, Some, None, All, if◌then◌else◌, refl, sym, ◌∙◌, ap, subst, append_assoc, append-nil, arith}
use Rattle.std.proofs.lemmas.Bool.{cases_lt, eqb-true, false≢true}
use Rattle.std.proofs.lemmas.Grind.{flat_map-append}
use Rattle.std.proofs.lemmas.List.Elements.{All-head, All-tail}
use Rattle.std.proofs.lemmas.Option.{none-some}
use Rattle.dn_hist.specs.declared.calls.Call.{Call}
use Rattle.dn_hist.specs.declared.calls.Call.TheVariants.{Get, Put, Delete}
use Rattle.dn_callers.specs.Sessions.{IsSession}
use Rattle.dn_lanes.specs.Calls.{IsCall}
use Rattle.dn_script.specs.Fit.{IsLine, IsAskable}
use Rattle.dn_script.specs.declared.scripts.Line.{Line}
use Rattle.dn_script.specs.declared.scripts.Line.TheVariants as line
use Rattle.dn_waiting.specs.State.{call_of}
use Rattle.dn_waiting.specs.declared.calls.OpenCall.{OpenCall}
use Rattle.dn_waiting.specs.declared.calls.Place.{Place}
use Rattle.dn_waiting.specs.declared.calls.Place.TheVariants.{Loading, Queued, Begun}
use Rattle.dn_merge.specs.declared.mergers.MergeTurn.{MergeTurn}
use Rattle.dn_merge.specs.declared.mergers.MergeTurn.TheVariants as turn
use Rattle.dn_model.specs.Regions.{slot_of}
use Rattle.dn_model.proofs.HashLaws.{slot_below}
use Rattle.dn_monitor.specs.Heirs.{no_heirs}
use Rattle.dn_monitor.specs.Monitor.{IsOrder}
use Rattle.dn_monitor.specs.declared.orders.Order.TheVariants.{Move}
use Rattle.dn_monitor.specs.declared.orders.MonitorAnswer.{MonitorAnswer}
use Rattle.dn_monitor.specs.declared.orders.MonitorAnswer.TheVariants as told
use Rattle.dn_outcomes.specs.Awaited.{is_releasing, marked}
use Rattle.dn_outcomes.specs.Does.{does}
use Rattle.dn_outcomes.specs.Runs.{after, IsRun}
use Rattle.dn_outcomes.specs.Sound.{IsWorld, MayHappen}
use Rattle.dn_outcomes.specs.State.{World}
use Rattle.dn_outcomes.specs.Told.{starts, is_end, GoesOn}
use Rattle.dn_outcomes.specs.declared.events.Event.{Event}
use Rattle.dn_outcomes.specs.declared.events.Event.TheVariants as event
use Rattle.dn_outcomes.specs.declared.outcomes.Outcome.{Outcome}
use Rattle.dn_outcomes.specs.declared.outcomes.Outcome.TheVariants as outcome
use Rattle.dn_outcomes.proofs.Kept.{kept}
use Rattle.dn_outcomes.proofs.ToldEvents.{calls_so}
use Rattle.dn_run.specs.Doing.{Doing, Rest, Start, Finish, Repeat, Give, Order, Merge, Drop, doing_of, moves_at, moves, acts_for, next_of, numbered_left, given_left, told_left, monitor_left, order_left, turn_left, merge_left, left_of, finds_nothing}
use Rattle.dn_run.specs.Going.{HaveCalls, IsDoing, IsGoing}
use Rattle.dn_run.specs.Happening.{Happening, happening, loads_of, loads}
use Rattle.dn_run.specs.Headline.{CallLine, call_left, calls_left, call_started, calls_started}
use Rattle.dn_run.specs.Run.{Run, run_of, loader_if, loader_of, loader, with_event, loads_deed, begins, acts, steps, step, after_steps, happenings, IsRunOf}
use Rattle.dn_run.specs.Uncalled.{IsUncalled}

-- A run is a run of events.

-- ---- one event more
after_push : (w : World) (es : List (Event × List ℕ)) (x : Event × List ℕ) → after w (es ++ x ∷ []) ≡ (does (after w es) x.0 x.1).world
after_push w [] x = refl
after_push w (e ∷ es) x = after_push (does w e.0 e.1).world es x

run_push : (w : World) (es : List (Event × List ℕ)) (x : Event × List ℕ) → IsRun w es → MayHappen (after w es) x.0 x.1 → IsRun w (es ++ x ∷ [])
run_push w [] x run may = (may, tt)
run_push w (e ∷ es) x run may = (run.0, run_push (does w e.0 e.1).world es x run.1 may)

past_push : (w : World) (es : List (Event × List ℕ)) (x : Event × List ℕ) → happenings w (es ++ x ∷ []) ≡ happenings w es ++ happening x.0 (does (after w es) x.0 x.1) ∷ []
past_push w [] x = refl
past_push w (e ∷ es) x = ap (λ (xs : List Happening). happening e.0 (does w e.0 e.1) ∷ xs) (past_push (does w e.0 e.1).world es x)

-- ---- sessions alone have calls
not_zero : (s : ℕ) (o : Option OpenCall) (c : OpenCall) → o ≡ Some c → ((IsSession s → ⊥) → o ≡ None) → IsSession s
not_zero s o c e none = elim (cases_lt s 1) [
  | inl low ↦ absurd (none-some c (sym (none (λ h. omega (arith, h.least, low))) ∙ e))
  | inr least ↦ elim (cases_lt 1000 s) [
    | inl high ↦ absurd (none-some c (sym (none (λ h. omega (arith, h.most, high))) ∙ e))
    | inr most ↦ record { least = omega (arith, least); most = omega (arith, most) }
  ]
]

pub session_of_call : (w : World) (s : ℕ) (c : OpenCall) → HaveCalls w → call_of w.waiting s ≡ Some c → IsSession s
session_of_call w s c own e = not_zero s (call_of w.waiting s) c e (own s)

starts_other : (w : World) (e : Event) (s : ℕ) → MayHappen w e no_heirs → (IsSession s → ⊥) → starts e s ≡ false
starts_other w (event.Start t lane call) s may none = by (t == s) refl where
  by : (b : Bool) → (t == s) ≡ b → b ≡ false
  by true e = absurd (none (subst IsSession (eqb-true t s e) may.0))
  by false e = refl
starts_other w (event.Step n) s may none = refl
starts_other w (event.Flow n index) s may none = refl
starts_other w (event.Merge n) s may none = refl
starts_other w event.Monitor s may none = refl
starts_other w (event.Refresh t) s may none = refl
starts_other w (event.Give o) s may none = refl
starts_other w event.DropOrder s may none = refl
starts_other w (event.Queue n t) s may none = refl
starts_other w event.Add s may none = refl
starts_other w (event.Tell t u) s may none = refl

goes_from : (b : Bool) (o now : Option OpenCall) → o ≡ None → GoesOn b o now → now ≡ None
goes_from b None now e h = h
goes_from b (Some c) now e h = absurd (none-some c (sym e))

calls_kept : (w : World) (e : Event) → IsWorld w → MayHappen w e no_heirs → HaveCalls w → HaveCalls (does w e no_heirs).world
calls_kept w e h may own s none =
    goes_from (is_end (does w e no_heirs).outcome s) (call_of w.waiting s) (call_of (does w e no_heirs).world.waiting s) (own s none) (calls_so w e no_heirs s h may (starts_other w e s may none))

-- ---- what a line asks may be left to do
pub callable : (call : Call) → IsAskable call → IsCall call
callable (Get key) h = h.0
callable (Put key value) h = (h.0.0, record { is_short = h.1.short; are_bytes = h.1.bytes })
callable (Delete key) h = h.0

pub line_doing : (l : Line) → IsLine l → IsDoing (doing_of l)
line_doing (line.Call s lane start call) h = (record { least = h.0.least_of; most = h.0.most_of }, callable call h.2)
line_doing (line.Step n count) h = (λ w. tt, refl)
line_doing (line.Flow n index) h = (λ w. tt, refl)
line_doing (line.Merge n count) h = (λ w. tt, refl)
line_doing (line.Monitor count) h = (λ w. tt, refl)
line_doing line.Add h = (λ w. tt, refl)
line_doing (line.Move start key lane) h = (let least = h.1.least_of in let most = h.1.most_of in (slot_below key, omega (arith, least), omega (arith, most)))
line_doing (line.Fence lane) h = tt
line_doing (line.Takeover start lane) h = tt
line_doing line.Balance h = tt
line_doing (line.Remove lane) h = tt
line_doing (line.Stop lane) h = tt
line_doing (line.Fuse lane actions) h = tt
line_doing (line.Fail lane) h = tt
line_doing (line.Share key) h = tt
line_doing (line.Unshare key) h = tt
line_doing (line.Trim lane) h = (λ w. tt, refl)
line_doing (line.Tell s t) h = (λ w. (record { least = h.0.least_of; most = h.0.most_of }, record { least = h.1.least_of; most = h.1.most_of }), refl)
line_doing (line.Mix seed turns) h = tt
line_doing (line.Policy hot cold high low) h = tt

-- ---- the next event may happen, and starts the call that is left to be started
moves_may : (w : World) (s : ℕ) (p : Place) (e : Event) → IsSession s → moves_at s p ≡ e → MayHappen w e no_heirs × (call_started e ≡ [])
moves_may w s (Loading named) e h is = subst (λ (x : Event). MayHappen w x no_heirs × (call_started x ≡ [])) is (h, refl)
moves_may w s (Queued lane) e h is = subst (λ (x : Event). MayHappen w x no_heirs × (call_started x ≡ [])) is (tt, refl)
moves_may w s (Begun lane) e h is = subst (λ (x : Event). MayHappen w x no_heirs × (call_started x ≡ [])) is (tt, refl)

pub record MayGo (w : World) (d : Doing) (e : Event) : Type 0 where
  pub may : MayHappen w e no_heirs
  pub starts : (o : Outcome) → call_started e ++ call_left (left_of w d o) ≡ call_left d
  pub left : (o : Outcome) → IsDoing (left_of w d o)

-- nothing is started by what is left once a call was started
pub record IsQuiet (d : Doing) : Type 0 where
  pub none : call_left d ≡ []
  pub fits : IsDoing d

quiet_if : (s : ℕ) (b : Bool) → IsQuiet (if b then Rest else Finish s)
quiet_if s true = record { none = refl; fits = tt }
quiet_if s false = record { none = refl; fits = tt }

quiet_numbered : (s : ℕ) (b : Bool) (o : Outcome) → IsQuiet (numbered_left s b o)
quiet_numbered s b outcome.Nothing = record { none = refl; fits = tt }
quiet_numbered s b outcome.Acted = record { none = refl; fits = tt }
quiet_numbered s b (outcome.Numbered number) = quiet_if s b
quiet_numbered s b outcome.Busy = record { none = refl; fits = tt }
quiet_numbered s b outcome.Closed = record { none = refl; fits = tt }
quiet_numbered s b (outcome.Answered t number answer given) = record { none = refl; fits = tt }
quiet_numbered s b (outcome.GivenUp t number) = record { none = refl; fits = tt }
quiet_numbered s b (outcome.Ordered answer) = record { none = refl; fits = tt }
quiet_numbered s b outcome.MonitorBusy = record { none = refl; fits = tt }
quiet_numbered s b (outcome.Tended answer) = record { none = refl; fits = tt }
quiet_numbered s b (outcome.Added lane) = record { none = refl; fits = tt }
quiet_numbered s b outcome.LanesFull = record { none = refl; fits = tt }
quiet_numbered s b outcome.NoLane = record { none = refl; fits = tt }
quiet_numbered s b (outcome.Merged turn) = record { none = refl; fits = tt }
quiet_numbered s b (outcome.Fault actor) = record { none = refl; fits = tt }

start_goes : (w : World) (s : ℕ) (lane : Option ℕ) (b : Bool) (call : Call) (e : Event) → IsSession s → IsCall call → event.Start s lane call ≡ e → MayGo w (Start s lane b call) e
start_goes w s lane b call e i h is = subst (λ (x : Event). MayGo w (Start s lane b call) x) is (record {
  may = (i, h);
  starts = λ o. ap (λ (xs : List CallLine). (record { session = s; lane = lane; call = call }) ∷ xs) (quiet_numbered s b o).none;
  left = λ o. (quiet_numbered s b o).fits;
})

finish_goes : (w : World) (s : ℕ) (c : Option OpenCall) (e : Event) → call_of w.waiting s ≡ c → HaveCalls w → moves s c ≡ Some e → MayGo w (Finish s) e
finish_goes w s None e is own next = absurd (none-some e next)
finish_goes w s (Some c) e is own next =
    let both = moves_may w s c.place e (session_of_call w s c own is) (cc) in record {
      may = both.0;
      starts = λ o. ap (λ (xs : List CallLine). xs ++ []) both.1;
      left = λ o. tt;
    }

again_fits : (e : Event) (k : ℕ) (b : Bool) → IsDoing (Repeat e k) → IsDoing (if b then Rest else Repeat e k)
again_fits e k true h = tt
again_fits e k false h = h

again_none : (e : Event) (k : ℕ) (b : Bool) → call_left (if b then Rest else Repeat e k) ≡ []
again_none e k true = refl
again_none e k false = refl

repeat_goes : (w : World) (e : Event) (k : ℕ) (x : Event) → IsDoing (Repeat e k) → e ≡ x → MayGo w (Repeat e (suc k)) x
repeat_goes w e k x h is = subst (λ (y : Event). MayGo w (Repeat e (suc k)) y) is (record {
  may = h.0 w;
  starts = λ o. ap (λ (xs : List CallLine). call_started e ++ xs) (again_none e k (finds_nothing o)) ∙ append-nil (call_started e) ∙ h.1;
  left = λ o. again_fits e k (finds_nothing o) h;
})

-- the order of a move starts none
quiet_whole : (key : ℕ) (b : Bool) → IsQuiet (if b then Order (slot_of key) 0 else Rest)
quiet_whole key true = record { none = refl; fits = tt }
quiet_whole key false = record { none = refl; fits = tt }

quiet_given : (key : ℕ) (b : Bool) (o : Outcome) → IsQuiet (given_left key b o)
quiet_given key b outcome.Nothing = record { none = refl; fits = tt }
quiet_given key b outcome.Acted = quiet_whole key b
quiet_given key b (outcome.Numbered number) = record { none = refl; fits = tt }
quiet_given key b outcome.Busy = record { none = refl; fits = tt }
quiet_given key b outcome.Closed = record { none = refl; fits = tt }
quiet_given key b (outcome.Answered t number answer given) = record { none = refl; fits = tt }
quiet_given key b (outcome.GivenUp t number) = record { none = refl; fits = tt }
quiet_given key b (outcome.Ordered answer) = record { none = refl; fits = tt }
quiet_given key b outcome.MonitorBusy = record { none = refl; fits = tt }
quiet_given key b (outcome.Tended answer) = record { none = refl; fits = tt }
quiet_given key b (outcome.Added lane) = record { none = refl; fits = tt }
quiet_given key b outcome.LanesFull = record { none = refl; fits = tt }
quiet_given key b outcome.NoLane = record { none = refl; fits = tt }
quiet_given key b (outcome.Merged turn) = record { none = refl; fits = tt }
quiet_given key b (outcome.Fault actor) = record { none = refl; fits = tt }

quiet_told : (slot : ℕ) (answer : MonitorAnswer) → IsQuiet (told_left slot answer)
quiet_told slot (told.Formatted old) = record { none = refl; fits = tt }
quiet_told slot (told.Looked deed) = record { none = refl; fits = tt }
quiet_told slot (told.Granted deed) = record { none = refl; fits = tt }
quiet_told slot (told.Barred old) = record { none = refl; fits = tt }
quiet_told slot (told.Taken slots) = record { none = refl; fits = tt }
quiet_told slot (told.Held deed) = record { none = refl; fits = tt }
quiet_told slot (told.Waiting mark need) = record { none = refl; fits = tt }
quiet_told slot (told.NotFenced word) = record { none = refl; fits = tt }
quiet_told slot (told.Worn epoch) = record { none = refl; fits = tt }

quiet_monitor : (slot : ℕ) (o : Outcome) → IsQuiet (monitor_left slot o)
quiet_monitor slot outcome.Nothing = record { none = refl; fits = tt }
quiet_monitor slot outcome.Acted = record { none = refl; fits = tt }
quiet_monitor slot (outcome.Numbered number) = record { none = refl; fits = tt }
quiet_monitor slot outcome.Busy = record { none = refl; fits = tt }
quiet_monitor slot outcome.Closed = record { none = refl; fits = tt }
quiet_monitor slot (outcome.Answered t number answer given) = record { none = refl; fits = tt }
quiet_monitor slot (outcome.GivenUp t number) = record { none = refl; fits = tt }
quiet_monitor slot (outcome.Ordered answer) = quiet_told slot answer
quiet_monitor slot outcome.MonitorBusy = record { none = refl; fits = tt }
quiet_monitor slot (outcome.Tended answer) = record { none = refl; fits = tt }
quiet_monitor slot (outcome.Added lane) = record { none = refl; fits = tt }
quiet_monitor slot outcome.LanesFull = record { none = refl; fits = tt }
quiet_monitor slot outcome.NoLane = record { none = refl; fits = tt }
quiet_monitor slot (outcome.Merged turn) = record { none = refl; fits = tt }
quiet_monitor slot (outcome.Fault actor) = record { none = refl; fits = tt }

quiet_order : (slot n : ℕ) (b : Bool) (o : Outcome) → IsQuiet (order_left slot n b o)
quiet_order slot n true o = record { none = refl; fits = tt }
quiet_order slot n false o = quiet_monitor slot o

quiet_turn : (slot : ℕ) (t : MergeTurn) → IsQuiet (turn_left slot t)
quiet_turn slot turn.More = record { none = refl; fits = tt }
quiet_turn slot (turn.Idle gate mark) = record { none = refl; fits = tt }
quiet_turn slot (turn.IndexFull counter) = record { none = refl; fits = tt }

quiet_merge : (slot : ℕ) (o : Outcome) → IsQuiet (merge_left slot o)
quiet_merge slot outcome.Nothing = record { none = refl; fits = tt }
quiet_merge slot outcome.Acted = record { none = refl; fits = tt }
quiet_merge slot (outcome.Numbered number) = record { none = refl; fits = tt }
quiet_merge slot outcome.Busy = record { none = refl; fits = tt }
quiet_merge slot outcome.Closed = record { none = refl; fits = tt }
quiet_merge slot (outcome.Answered t number answer given) = record { none = refl; fits = tt }
quiet_merge slot (outcome.GivenUp t number) = record { none = refl; fits = tt }
quiet_merge slot (outcome.Ordered answer) = record { none = refl; fits = tt }
quiet_merge slot outcome.MonitorBusy = record { none = refl; fits = tt }
quiet_merge slot (outcome.Tended answer) = record { none = refl; fits = tt }
quiet_merge slot (outcome.Added lane) = record { none = refl; fits = tt }
quiet_merge slot outcome.LanesFull = record { none = refl; fits = tt }
quiet_merge slot outcome.NoLane = record { none = refl; fits = tt }
quiet_merge slot (outcome.Merged turn) = quiet_turn slot turn
quiet_merge slot (outcome.Fault actor) = record { none = refl; fits = tt }

give_goes : (w : World) (key n : ℕ) (b : Bool) (e : Event) → IsOrder (Move (slot_of key) n) → event.Give (Move (slot_of key) n) ≡ e → MayGo w (Give key n b) e
give_goes w key n b e h is = subst (λ (x : Event). MayGo w (Give key n b) x) is (record {
  may = (h, λ may none. refl);
  starts = λ o. (quiet_given key b o).none;
  left = λ o. (quiet_given key b o).fits;
})

acts_may : (w : World) (n : ℕ) (b : Bool) → MayHappen w (acts_for n b) no_heirs × (call_started (acts_for n b) ≡ [])
acts_may w n true = (tt, refl)
acts_may w n false = (tt, refl)

order_goes : (w : World) (slot n : ℕ) (e : Event) → acts_for n (is_releasing w n slot) ≡ e → MayGo w (Order slot n) e
order_goes w slot n e is =
    let b : Bool = is_releasing w n slot in
    let both = acts_may w n b in
    subst (λ (x : Event). MayGo w (Order slot n) x) is (record {
      may = both.0;
      starts = λ o. ap (λ (xs : List CallLine). xs ++ call_left (order_left slot n b o)) both.1 ∙ (quiet_order slot n b o).none;
      left = λ o. (quiet_order slot n b o).fits;
    })

merge_goes : (w : World) (slot : ℕ) (e : Event) → event.Merge (marked w) ≡ e → MayGo w (Merge slot) e
merge_goes w slot e is = subst (λ (x : Event). MayGo w (Merge slot) x) is (record {
  may = tt;
  starts = λ o. (quiet_merge slot o).none;
  left = λ o. (quiet_merge slot o).fits;
})

drop_goes : (w : World) (e : Event) → event.DropOrder ≡ e → MayGo w Drop e
drop_goes w e is = subst (λ (x : Event). MayGo w Drop x) is (record { may = tt; starts = λ o. refl; left = λ o. tt })

pub may_go : (w : World) (d : Doing) (e : Event) → IsDoing d → HaveCalls w → next_of w d ≡ Some e → MayGo w d e
may_go w Rest e i own next = absurd (none-some e next)
may_go w (Start s lane b call) e i own next = start_goes w s lane b call e i.0 i.1 (cc)
may_go w (Finish s) e i own next = finish_goes w s (call_of w.waiting s) e refl own next
may_go w (Repeat x zero) e i own next = absurd (none-some e next)
may_go w (Repeat x (suc k)) e i own next = repeat_goes w x k e i (cc)
may_go w (Give key n b) e i own next = give_goes w key n b e i (cc)
may_go w (Order slot n) e i own next = order_goes w slot n e (cc)
may_go w (Merge slot) e i own next = merge_goes w slot e (cc)
may_go w Drop e i own next = drop_goes w e (cc)

-- what isn't to be done starts nothing
pub no_start : (w : World) (d : Doing) → next_of w d ≡ None → call_left d ≡ []
no_start w Rest e = refl
no_start w (Start s lane b call) e = absurd (none-some (event.Start s lane call) (sym e))
no_start w (Finish s) e = refl
no_start w (Repeat x k) e = refl
no_start w (Give key n b) e = refl
no_start w (Order slot n) e = refl
no_start w (Merge slot) e = refl
no_start w Drop e = refl

-- ---- an event
event_of : (w : World) (r : Run) (e : Event) (d : Doing) → IsRunOf w r → MayHappen r.world e no_heirs → IsRunOf w (with_event r e (does r.world e no_heirs) d)
event_of w r e d h may = record {
  es = h.es ++ (e, no_heirs) ∷ [];
  may = run_push w h.es (e, no_heirs) h.may (subst (λ (v : World). MayHappen v e no_heirs) h.world may);
  world = ap (λ (v : World). (does v e no_heirs).world) h.world ∙ sym (after_push w h.es (e, no_heirs));
  past = ap (λ (xs : List Happening). xs ++ happening e (does r.world e no_heirs) ∷ []) h.past
      ∙ ap (λ (v : World). happenings w h.es ++ happening e (does v e no_heirs) ∷ []) h.world
      ∙ sym (past_push w h.es (e, no_heirs));
}

started_more : (xs : List Happening) (x : Happening) → calls_started (xs ++ x ∷ []) ≡ calls_started xs ++ call_started x.event
started_more xs x =
    flat_map-append (λ (y : Happening). call_started y.event) xs (x ∷ []) ∙ ap (λ (ys : List CallLine). calls_started xs ++ ys) (append-nil (call_started x.event))

pub event_going : (w : World) (lines : List Line) (r : Run) (e : Event) (d : Doing) → IsGoing w lines r → MayHappen r.world e no_heirs → IsDoing d
    → call_started e ++ call_left d ≡ call_left r.doing → IsGoing w lines (with_event r e (does r.world e no_heirs) d)
event_going w lines r e d g may fits starts =
    let a : List CallLine = calls_started r.past in
    let b : List CallLine = call_started e in
    let c : List CallLine = calls_left r.lines in record {
      of = event_of w r e d g.of may;
      sound = kept r.world e no_heirs g.sound may;
      own = calls_kept r.world e g.sound may g.own;
      doing = fits;
      left = g.left;
      starts = ap (λ (xs : List CallLine). xs ++ (call_left d ++ c)) (started_more r.past (happening e (does r.world e no_heirs)))
          ∙ append_assoc a b (call_left d ++ c)
          ∙ ap (λ (xs : List CallLine). a ++ xs) (sym (append_assoc b (call_left d) c))
          ∙ ap (λ (xs : List CallLine). a ++ (xs ++ c)) starts
          ∙ g.starts;
    }

loader_loads : (w : World) (s t : ℕ) (b : Bool) → loads w s ≡ b → loader_if s b ≡ Some t → (s ≡ t) × (loads w s ≡ true)
loader_loads w s t true e is = (cc, e)
loader_loads w s t false e is = absurd (none-some t is)

has_call : (w : World) (s : ℕ) (c : Option OpenCall) → call_of w.waiting s ≡ c → HaveCalls w → loads w s ≡ true → IsSession s
has_call w s None is own e = absurd (false≢true (ap loads_of (sym is) ∙ e))
has_call w s (Some c) is own e = session_of_call w s c own is

pub loading_session : (w : World) (s : ℕ) → HaveCalls w → loads w s ≡ true → IsSession s
loading_session w s own e = has_call w s (call_of w.waiting s) refl own e

pub loader_session : (w : World) (m : Option ℕ) (t : ℕ) → HaveCalls w → loader_of w m ≡ Some t → IsSession t
loader_session w None t own e = absurd (none-some t e)
loader_session w (Some s) t own e =
    (let both = loader_loads w s t (loads w s) refl e in subst IsSession both.0 (loading_session w s own both.1))

load_going : (w : World) (lines : List Line) (r : Run) (s : ℕ) → IsGoing w lines r → IsSession s → IsGoing w lines (loads_deed r s)
load_going w lines r s g i = event_going w lines r (event.Refresh s) r.doing g i g.doing refl

-- the next line
begins_going : (w : World) (lines : List Line) (r : Run) (ls : List Line) → r.lines ≡ ls → next_of r.world r.doing ≡ None → IsGoing w lines r → IsGoing w lines (begins r ls)
begins_going w lines r [] e none g = g
begins_going w lines r (l ∷ ls) e none g =
    let fit : All IsLine (l ∷ ls) = subst (All IsLine) e g.left in record {
      of = record { es = g.of.es; may = g.of.may; world = g.of.world; past = g.of.past };
      sound = g.sound;
      own = g.own;
      doing = line_doing l (All-head IsLine l ls fit);
      left = All-tail IsLine l ls fit;
      starts = ap (λ (ys : List Line). calls_started r.past ++ calls_left ys) (sym e)
          ∙ ap (λ (xs : List CallLine). calls_started r.past ++ (xs ++ calls_left r.lines)) (sym (no_start r.world r.doing none)) ∙ g.starts;
    }

-- a step
acts_going : (w : World) (lines : List Line) (r : Run) (n : Option Event) → next_of r.world r.doing ≡ n → IsGoing w lines r → IsGoing w lines (acts r n)
acts_going w lines r None e g = begins_going w lines r r.lines refl e g
acts_going w lines r (Some x) e g =
    let may : MayGo r.world r.doing x = may_go r.world r.doing x g.doing g.own e in
    event_going w lines r x (left_of r.world r.doing (does r.world x no_heirs).outcome) g may.may (may.left (does r.world x no_heirs).outcome) (may.starts (does r.world x no_heirs).outcome)

steps_going : (w : World) (lines : List Line) (r : Run) (s : Option ℕ) → loader r ≡ s → IsGoing w lines r → IsGoing w lines (steps r s)
steps_going w lines r None e g = acts_going w lines r (next_of r.world r.doing) refl g
steps_going w lines r (Some s) e g = load_going w lines r s g (loader_session r.world r.mover s g.own e)

pub step_going : (w : World) (lines : List Line) (r : Run) → IsGoing w lines r → IsGoing w lines (step r)
step_going w lines r g = steps_going w lines r (loader r) refl g

pub start_going : (w : World) (lines : List Line) → IsWorld w → HaveCalls w → All IsLine lines → IsGoing w lines (run_of w lines)
start_going w lines h own fit = record {
  of = record { es = []; may = tt; world = refl; past = refl };
  sound = h;
  own = own;
  doing = tt;
  left = fit;
  starts = refl;
}

pub goes : (w : World) (lines : List Line) (n : ℕ) → IsWorld w → HaveCalls w → All IsLine lines → IsGoing w lines (after_steps n (run_of w lines))
goes w lines zero h own fit = start_going w lines h own fit
goes w lines (suc n) h own fit = step_going w lines (after_steps n (run_of w lines)) (goes w lines n h own fit)

pub uncalled : (w : World) → IsUncalled w → HaveCalls w
uncalled w u s none = u.calls s
