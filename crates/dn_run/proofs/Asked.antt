use Rattle.std.proofs.Common.{ℕ, suc, ◌≡◌, ◌+◌, ◌==◌, Bool, true, false, cond, List, [], ◌∷◌, ◌++◌, Option, All, map, length, if◌then◌else◌, refl, sym, ◌∙◌, ap, append_assoc, append-nil, arith}
use Rattle.std.proofs.lemmas.List.{map-append}
use Rattle.std.proofs.lemmas.List.Sums.{sum_by-append}
use Rattle.dn_hist.specs.declared.calls.Call.{Call}
use Rattle.dn_outcomes.specs.Accounts as accounts
use Rattle.dn_outcomes.specs.Accounts.{Asked, numbered_by}
use Rattle.dn_outcomes.specs.Does.{does}
use Rattle.dn_outcomes.specs.Runs.{IsRun}
use Rattle.dn_outcomes.specs.Sound.{IsWorld, MayHappen}
use Rattle.dn_outcomes.specs.State.{World, Done}
use Rattle.dn_outcomes.specs.Told.{Starts, starts}
use Rattle.dn_outcomes.specs.declared.events.Event.{Event}
use Rattle.dn_outcomes.specs.declared.events.Event.TheVariants as event
use Rattle.dn_outcomes.specs.declared.outcomes.Outcome.{Outcome}
use Rattle.dn_outcomes.specs.declared.outcomes.Outcome.TheVariants as outcome
use Rattle.dn_outcomes.proofs.Counted.{event_counted}
use Rattle.dn_outcomes.proofs.Kept.{kept}
use Rattle.dn_outcomes.proofs.ToldEvents.{starts_so}
use Rattle.dn_script.specs.Asked.{calls_of, with_line, asked_behind}
use Rattle.dn_script.specs.Fit.{IsLine}
use Rattle.dn_script.specs.declared.asked.AskedCall.{AskedCall}
use Rattle.dn_script.specs.declared.scripts.Line.{Line}
use Rattle.dn_script.specs.declared.scripts.Line.TheVariants as line
use Rattle.dn_run.specs.Asked.{PlayedLine, played_by, played_in, line_played, lines_played, call_numbered, calls_numbered, IsAsked}
use Rattle.dn_run.specs.Doing.{Doing, Rest, Start, Finish, Repeat, Give, Order, Merge, Drop, doing_of}
use Rattle.dn_run.specs.Going.{IsGoing}
use Rattle.dn_run.specs.Happening.{Happening}
use Rattle.dn_run.specs.Headline.{CallLine, call_left, calls_left, call_started, calls_started}
use Rattle.dn_run.specs.Run.{Run, IsOver, happenings, run_of, after_steps}
use Rattle.dn_run.specs.Uncalled.{IsUncalled}
use Rattle.dn_run.proofs.Going.{goes, uncalled, no_start}

-- The calls that a run has had are those that its script asks.

-- ---- calls, one line after the other
abbrev with_played : List AskedCall → PlayedLine → List AskedCall
with_played asked x =
    if x.taken then asked ++ (record { session = x.line.session; number = calls_of x.line.session asked + 1; call = x.line.call }) ∷ [] else asked

abbrev with_all : List AskedCall → List PlayedLine → List AskedCall
with_all asked [] = asked
with_all asked (x ∷ xs) = with_all (with_played asked x) xs

all_append : (asked : List AskedCall) (xs ys : List PlayedLine) → with_all asked (xs ++ ys) ≡ with_all (with_all asked xs) ys
all_append asked [] ys = refl
all_append asked (x ∷ xs) ys = all_append (with_played asked x) xs ys

-- ---- as lines
same_if : (b : Bool) (asked : List AskedCall) → (if b then asked else asked) ≡ asked
same_if true asked = refl
same_if false asked = refl

line_all : (asked : List AskedCall) (l : Line) (b : Bool) → (if b then with_line asked l else asked) ≡ with_all asked (line_played l b)
line_all asked (line.Call s lane start call) b = refl
line_all asked (line.Step n count) b = same_if b asked
line_all asked (line.Flow n index) b = same_if b asked
line_all asked (line.Merge n count) b = same_if b asked
line_all asked (line.Monitor count) b = same_if b asked
line_all asked line.Add b = same_if b asked
line_all asked (line.Move start key lane) b = same_if b asked
line_all asked (line.Fence lane) b = same_if b asked
line_all asked (line.Takeover start lane) b = same_if b asked
line_all asked line.Balance b = same_if b asked
line_all asked (line.Remove lane) b = same_if b asked
line_all asked (line.Stop lane) b = same_if b asked
line_all asked (line.Fuse lane actions) b = same_if b asked
line_all asked (line.Fail lane) b = same_if b asked
line_all asked (line.Share key) b = same_if b asked
line_all asked (line.Unshare key) b = same_if b asked
line_all asked (line.Trim lane) b = same_if b asked
line_all asked (line.Tell s t) b = same_if b asked
line_all asked (line.Mix seed turns) b = same_if b asked
line_all asked (line.Policy hot cold high low) b = same_if b asked

lines_all : (asked : List AskedCall) (lines : List Line) (taken : List Bool) → asked_behind asked lines taken ≡ with_all asked (lines_played lines taken)
lines_all asked [] taken = refl
lines_all asked (l ∷ ls) [] = refl
lines_all asked (l ∷ ls) (b ∷ bs) =
    lines_all (if b then with_line asked l else asked) ls bs
    ∙ ap (λ (xs : List AskedCall). with_all xs (lines_played ls bs)) (line_all asked l b)
    ∙ sym (all_append asked (line_played l b) (lines_played ls bs))

-- ---- as events: each session's last call has the number that the calls before tell
abbrev pub AreNumbered : World → List AskedCall → Type 0
AreNumbered w asked = (s : ℕ) → (w.machine.callers.sessions s).number ≡ calls_of s asked

count_two : (s : ℕ) (xs ys : List AskedCall) → calls_of s (xs ++ ys) ≡ calls_of s xs + calls_of s ys
count_two s xs ys = sum_by-append (λ (x : AskedCall). cond (x.session == s) 1 0) xs ys

abbrev bit : Bool → ℕ
bit b = cond b 1 0

abbrev asked_if : Bool → List Asked → List Asked
asked_if b xs = if b then xs else []

count_own : (s t number : ℕ) (call : Call) (b : Bool) → (t == s) ≡ b
    → calls_of s ((record { session = t; number = number; call = call }) ∷ []) ≡ length (asked_if b ((record { number = number; call = call }) ∷ []))
count_own s t number call true e = (let one : bit (t == s) ≡ bit true = ap bit e in omega (arith, one))
count_own s t number call false e = (let none : bit (t == s) ≡ bit false = ap bit e in omega (arith, none))

none_if : (b : Bool) → 0 ≡ length (asked_if b [])
none_if true = refl
none_if false = refl

count_start : (s t : ℕ) (lane : Option ℕ) (call : Call) (o : Outcome)
    → calls_of s (call_numbered (event.Start t lane call) o) ≡ length (asked_if (t == s) (numbered_by call o))
count_start s t lane call outcome.Nothing = none_if (t == s)
count_start s t lane call outcome.Acted = none_if (t == s)
count_start s t lane call (outcome.Numbered number) = count_own s t number call (t == s) refl
count_start s t lane call outcome.Busy = none_if (t == s)
count_start s t lane call outcome.Closed = none_if (t == s)
count_start s t lane call (outcome.Answered k number answer given) = none_if (t == s)
count_start s t lane call (outcome.GivenUp k number) = none_if (t == s)
count_start s t lane call (outcome.Ordered answer) = none_if (t == s)
count_start s t lane call outcome.MonitorBusy = none_if (t == s)
count_start s t lane call (outcome.Tended answer) = none_if (t == s)
count_start s t lane call (outcome.Added n) = none_if (t == s)
count_start s t lane call outcome.LanesFull = none_if (t == s)
count_start s t lane call outcome.NoLane = none_if (t == s)
count_start s t lane call (outcome.Merged turn) = none_if (t == s)
count_start s t lane call (outcome.Fault actor) = none_if (t == s)

count_event : (s : ℕ) (e : Event) (o : Outcome) → calls_of s (call_numbered e o) ≡ length (asked_if (starts e s) (accounts.asked_by e o))
count_event s (event.Start t lane call) o = count_start s t lane call o
count_event s (event.Step n) o = refl
count_event s (event.Flow n index) o = refl
count_event s (event.Merge n) o = refl
count_event s event.Monitor o = refl
count_event s (event.Refresh t) o = refl
count_event s (event.Give order) o = refl
count_event s event.DropOrder o = refl
count_event s (event.Queue n t) o = refl
count_event s event.Add o = refl
count_event s (event.Tell t u) o = refl

pub numbers_on : (w : World) (e : Event) (heirs : List ℕ) (asked : List AskedCall) → IsWorld w → MayHappen w e heirs → AreNumbered w asked
    → AreNumbered (does w e heirs).world (asked ++ call_numbered e (does w e heirs).outcome)
numbers_on w e heirs asked h may are s =
    let last = (event_counted w e heirs s h may).last in
    let sum = count_two s asked (call_numbered e (does w e heirs).outcome) in
    let one = count_event s e (does w e heirs).outcome in
    let was = are s in
    omega (arith, last, sum, one, was)

-- what an event adds
start_all : (w now : World) (s : ℕ) (lane : Option ℕ) (call : Call) (o : Outcome) (asked : List AskedCall) → Starts w now s call o → AreNumbered w asked
    → asked ++ call_numbered (event.Start s lane call) o ≡ with_all asked (played_by (event.Start s lane call) o)
start_all w now s lane call outcome.Nothing asked h are = append-nil asked
start_all w now s lane call outcome.Acted asked h are = append-nil asked
start_all w now s lane call (outcome.Numbered number) asked h are =
    ap (λ (k : ℕ). asked ++ (record { session = s; number = k; call = call }) ∷ []) (h.next ∙ ap (λ (k : ℕ). k + 1) (are s))
start_all w now s lane call outcome.Busy asked h are = append-nil asked
start_all w now s lane call outcome.Closed asked h are = append-nil asked
start_all w now s lane call (outcome.Answered t number answer given) asked h are = append-nil asked
start_all w now s lane call (outcome.GivenUp t number) asked h are = append-nil asked
start_all w now s lane call (outcome.Ordered answer) asked h are = append-nil asked
start_all w now s lane call outcome.MonitorBusy asked h are = append-nil asked
start_all w now s lane call (outcome.Tended answer) asked h are = append-nil asked
start_all w now s lane call (outcome.Added n) asked h are = append-nil asked
start_all w now s lane call outcome.LanesFull asked h are = append-nil asked
start_all w now s lane call outcome.NoLane asked h are = append-nil asked
start_all w now s lane call (outcome.Merged turn) asked h are = append-nil asked
start_all w now s lane call (outcome.Fault actor) asked h are = append-nil asked

event_all : (w : World) (e : Event) (heirs : List ℕ) (asked : List AskedCall) → IsWorld w → MayHappen w e heirs → AreNumbered w asked
    → asked ++ call_numbered e (does w e heirs).outcome ≡ with_all asked (played_by e (does w e heirs).outcome)
event_all w (event.Start s lane call) heirs asked h may are =
    let d : Done = does w (event.Start s lane call) heirs in
    start_all w d.world s lane call d.outcome asked (starts_so w s lane call heirs h may.0) are
event_all w (event.Step n) heirs asked h may are = append-nil asked
event_all w (event.Flow n index) heirs asked h may are = append-nil asked
event_all w (event.Merge n) heirs asked h may are = append-nil asked
event_all w event.Monitor heirs asked h may are = append-nil asked
event_all w (event.Refresh t) heirs asked h may are = append-nil asked
event_all w (event.Give o) heirs asked h may are = append-nil asked
event_all w event.DropOrder heirs asked h may are = append-nil asked
event_all w (event.Queue n t) heirs asked h may are = append-nil asked
event_all w event.Add heirs asked h may are = append-nil asked
event_all w (event.Tell s t) heirs asked h may are = append-nil asked

events_all : (w : World) (es : List (Event × List ℕ)) (asked : List AskedCall) → IsWorld w → IsRun w es → AreNumbered w asked
    → asked ++ calls_numbered (happenings w es) ≡ with_all asked (played_in (happenings w es))
events_all w [] asked h run are = append-nil asked
events_all w (x ∷ xs) asked h run are =
    let d : Done = does w x.0 x.1 in
    let one : List AskedCall = call_numbered x.0 d.outcome in
    let more : List PlayedLine = played_in (happenings d.world xs) in
    sym (append_assoc asked one (calls_numbered (happenings d.world xs)))
    ∙ events_all d.world xs (asked ++ one) (kept w x.0 x.1 h run.0) run.1 (numbers_on w x.0 x.1 asked h run.0 are)
    ∙ ap (λ (ys : List AskedCall). with_all ys more) (event_all w x.0 x.1 asked h run.0 are)
    ∙ sym (all_append asked (played_by x.0 d.outcome) more)

-- ---- which lines were taken
event_line : (e : Event) (o : Outcome) → map (λ (x : PlayedLine). x.line) (played_by e o) ≡ call_started e
event_line (event.Start s lane call) o = refl
event_line (event.Step n) o = refl
event_line (event.Flow n index) o = refl
event_line (event.Merge n) o = refl
event_line event.Monitor o = refl
event_line (event.Refresh t) o = refl
event_line (event.Give order) o = refl
event_line event.DropOrder o = refl
event_line (event.Queue n t) o = refl
event_line event.Add o = refl
event_line (event.Tell s t) o = refl

events_lines : (past : List Happening) → map (λ (x : PlayedLine). x.line) (played_in past) ≡ calls_started past
events_lines [] = refl
events_lines (x ∷ xs) =
    map-append (λ (y : PlayedLine). y.line) (played_by x.event x.outcome) (played_in xs)
    ∙ ap (λ (ys : List CallLine). ys ++ map (λ (y : PlayedLine). y.line) (played_in xs)) (event_line x.event x.outcome)
    ∙ ap (λ (ys : List CallLine). call_started x.event ++ ys) (events_lines xs)

pub record HasTaken (lines : List Line) (xs : List PlayedLine) : Type 0 where
  pub taken : List Bool
  pub each : length taken ≡ length lines
  pub played : xs ≡ lines_played lines taken

no_lines : (xs : List PlayedLine) → map (λ (x : PlayedLine). x.line) xs ≡ [] → xs ≡ []
no_lines [] e = refl
no_lines (x ∷ xs) e = absurd (cc e)

-- a line without a call
quiet_line : (l : Line) (ls : List Line) (xs : List PlayedLine) → call_left (doing_of l) ≡ [] → HasTaken ls xs → HasTaken (l ∷ ls) xs
quiet_line l ls xs e h = record {
  taken = true ∷ h.taken;
  each = ap (λ (k : ℕ). suc k) h.each;
  played = h.played ∙ sym (ap (λ (cs : List CallLine). map (λ (c : CallLine). record { line = c; taken = true }) cs ++ lines_played ls h.taken) e);
}

-- a line with one
call_line : (l : Line) (ls : List Line) (x : PlayedLine) (xs : List PlayedLine) → call_left (doing_of l) ≡ x.line ∷ [] → HasTaken ls xs → HasTaken (l ∷ ls) (x ∷ xs)
call_line l ls x xs e h = record {
  taken = x.taken ∷ h.taken;
  each = ap (λ (k : ℕ). suc k) h.each;
  played = ap (λ (ys : List PlayedLine). x ∷ ys) h.played
      ∙ sym (ap (λ (cs : List CallLine). map (λ (c : CallLine). record { line = c; taken = x.taken }) cs ++ lines_played ls h.taken) e);
}

one_line : (l : Line) (ls : List Line) (c : CallLine) (xs : List PlayedLine) → call_left (doing_of l) ≡ c ∷ [] → map (λ (x : PlayedLine). x.line) xs ≡ c ∷ calls_left ls
    → ((ys : List PlayedLine) → map (λ (x : PlayedLine). x.line) ys ≡ calls_left ls → HasTaken ls ys) → HasTaken (l ∷ ls) xs
one_line l ls c [] is e rest = absurd (cc e)
one_line l ls c (x ∷ xs) is e rest =
    let first : x.line ≡ c = cc in
    let more : map (λ (y : PlayedLine). y.line) xs ≡ calls_left ls = cc in
    call_line l ls x xs (is ∙ ap (λ (k : CallLine). k ∷ []) (sym first)) (rest xs more)

line_taken : (l : Line) (d : Doing) (ls : List Line) (xs : List PlayedLine) → doing_of l ≡ d → map (λ (x : PlayedLine). x.line) xs ≡ call_left d ++ calls_left ls
    → ((ys : List PlayedLine) → map (λ (x : PlayedLine). x.line) ys ≡ calls_left ls → HasTaken ls ys) → HasTaken (l ∷ ls) xs
line_taken l Rest ls xs is e rest = quiet_line l ls xs (ap call_left is) (rest xs e)
line_taken l (Start s lane b call) ls xs is e rest = one_line l ls (record { session = s; lane = lane; call = call }) xs (ap call_left is) e rest
line_taken l (Finish s) ls xs is e rest = quiet_line l ls xs (ap call_left is) (rest xs e)
line_taken l (Repeat x k) ls xs is e rest = quiet_line l ls xs (ap call_left is) (rest xs e)
line_taken l (Give key n b) ls xs is e rest = quiet_line l ls xs (ap call_left is) (rest xs e)
line_taken l (Order slot n) ls xs is e rest = quiet_line l ls xs (ap call_left is) (rest xs e)
line_taken l (Merge slot) ls xs is e rest = quiet_line l ls xs (ap call_left is) (rest xs e)
line_taken l Drop ls xs is e rest = quiet_line l ls xs (ap call_left is) (rest xs e)

has_taken : (lines : List Line) (xs : List PlayedLine) → map (λ (x : PlayedLine). x.line) xs ≡ calls_left lines → HasTaken lines xs
has_taken [] xs e = record { taken = []; each = refl; played = no_lines xs e }
has_taken (l ∷ ls) xs e = line_taken l (doing_of l) ls xs refl e (λ ys is. has_taken ls ys is)

-- ---- a run that is over
all_started : (w : World) (lines : List Line) (r : Run) → IsGoing w lines r → IsOver r → calls_started r.past ≡ calls_left lines
all_started w lines r g over =
    sym (append-nil (calls_started r.past))
    ∙ ap (λ (xs : List CallLine). calls_started r.past ++ xs) (sym (ap (λ (xs : List CallLine). xs ++ []) (no_start r.world r.doing over.between.doing)))
    ∙ ap (λ (ls : List Line). calls_started r.past ++ (call_left r.doing ++ calls_left ls)) (sym over.lines)
    ∙ g.starts

asked_over : (w : World) (lines : List Line) (r : Run) → IsWorld w → IsUncalled w → IsGoing w lines r → IsOver r → IsAsked lines r.past
asked_over w lines r h u g over =
    let t : HasTaken lines (played_in r.past) = has_taken lines (played_in r.past) (events_lines r.past ∙ all_started w lines r g over) in record {
      taken = t.taken;
      each = t.each;
      played = t.played;
      calls = ap calls_numbered g.of.past ∙ events_all w g.of.es [] h g.of.may u.numbers
          ∙ ap (λ (past : List Happening). with_all [] (played_in past)) (sym g.of.past)
          ∙ ap (λ (xs : List PlayedLine). with_all [] xs) t.played
          ∙ sym (lines_all [] lines t.taken);
    }

pub asked : (w : World) (lines : List Line) (n : ℕ) → IsWorld w → IsUncalled w → All IsLine lines → IsOver (after_steps n (run_of w lines)) → IsAsked lines (after_steps n (run_of w lines)).past
asked w lines n h u fit over = asked_over w lines (after_steps n (run_of w lines)) h u (goes w lines n h (uncalled w u) fit) over
