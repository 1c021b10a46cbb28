use Rattle.std.proofs.Common.{ℕ, ◌≡◌, ◌≤◌, Bool, true, false, List, [], ◌∷◌, length, if◌then◌else◌, ap, arith}
use Rattle.std.proofs.lemmas.List.{length-append}
use Rattle.dn_hist.specs.declared.calls.Call.{Call}
use Rattle.dn_outcomes.specs.Accounts.{numbered_by, asked_by, asked_in}
use Rattle.dn_monitor.specs.Heirs.{no_heirs}
use Rattle.dn_monitor.specs.declared.orders.Order.{Order}
use Rattle.dn_monitor.specs.declared.orders.Order.TheVariants.{Format, Look, Move, Fence, Takeover}
use Rattle.dn_outcomes.specs.Does.{does}
use Rattle.dn_outcomes.specs.Sound.{MayHappen}
use Rattle.dn_outcomes.specs.State.{World, Done}
use Rattle.dn_outcomes.specs.Told.{starts}
use Rattle.dn_outcomes.specs.declared.events.Event.{Event}
use Rattle.dn_outcomes.specs.declared.events.Event.TheVariants as event
use Rattle.dn_outcomes.specs.declared.outcomes.Outcome.{Outcome}
use Rattle.dn_outcomes.specs.declared.outcomes.Outcome.TheVariants as outcome
use Rattle.dn_outcomes.proofs.Counted.{run_counted}
use Rattle.dn_script.specs.declared.scripts.Line.{Line}
use Rattle.dn_world.specs.Happens.{MayBeGiven, IsNoFormat}
use Rattle.dn_run.specs.Happening.{Happening}
use Rattle.dn_run.specs.Run.{Run, happenings}
use Rattle.dn_play.specs.At.{IsAt, is_move, is_plain}
use Rattle.dn_play.specs.declared.players.Player.{Player}

-- A session has numbered no more calls than there were events.

one_numbered : (call : Call) (o : Outcome) → length (numbered_by call o) ≤ 1
one_numbered call outcome.Nothing = omega arith
one_numbered call outcome.Acted = omega arith
one_numbered call (outcome.Numbered number) = omega arith
one_numbered call outcome.Busy = omega arith
one_numbered call outcome.Closed = omega arith
one_numbered call (outcome.Answered s number answer given) = omega arith
one_numbered call (outcome.GivenUp s number) = omega arith
one_numbered call (outcome.Ordered answer) = omega arith
one_numbered call outcome.MonitorBusy = omega arith
one_numbered call (outcome.Tended answer) = omega arith
one_numbered call (outcome.Added lane) = omega arith
one_numbered call outcome.LanesFull = omega arith
one_numbered call outcome.NoLane = omega arith
one_numbered call (outcome.Merged turn) = omega arith
one_numbered call (outcome.Fault actor) = omega arith

one_asked : (e : Event) (o : Outcome) → length (asked_by e o) ≤ 1
one_asked (event.Start s lane call) o = one_numbered call o
one_asked (event.Step n) o = omega arith
one_asked (event.Flow n index) o = omega arith
one_asked (event.Merge n) o = omega arith
one_asked event.Monitor o = omega arith
one_asked (event.Refresh s) o = omega arith
one_asked (event.Give order) o = omega arith
one_asked event.DropOrder o = omega arith
one_asked (event.Queue n t) o = omega arith
one_asked event.Add o = omega arith
one_asked (event.Tell s t) o = omega arith

one_if_starts : (b : Bool) (e : Event) (o : Outcome) → length (if b then asked_by e o else []) ≤ 1
one_if_starts true e o = one_asked e o
one_if_starts false e o = omega arith

asked_few : (s : ℕ) (w : World) (es : List (Event × List ℕ)) → length (asked_in s w es) ≤ length (happenings w es)
asked_few s w [] = omega arith
asked_few s w (x ∷ xs) =
    let d : Done = does w x.0 x.1 in
    let one = one_if_starts (starts x.0 s) x.0 d.outcome in
    let rest = asked_few s d.world xs in
    let sum = length-append (if starts x.0 s then asked_by x.0 d.outcome else []) (asked_in s d.world xs) in
    omega (arith, one, rest, sum)

number_few : (w : World) (lines : List Line) (words : List ℕ) (p : Player) (out : List ℕ) (r : Run) (s : ℕ) → IsAt w lines words p out r → (r.world.machine.callers.sessions s).number ≤ length r.past
number_few w lines words p out r s at =
    let of = at.going.of in
    let counted = run_counted w of.es s at.start of.may in
    let few = asked_few s w of.es in
    let none = at.fresh.numbers s in
    let same = ap (λ (v : World). (v.machine.callers.sessions s).number) of.world in
    let past = ap (λ (xs : List Happening). length xs) of.past in
    omega (arith, counted.last, few, none, same, past)

-- so it may be given what may happen
no_format : (o : Order) → is_move o ≡ true → IsNoFormat o
no_format (Move slot to) move segments e = absurd (cc e)
no_format (Format n) move segments e = absurd (cc)
no_format (Look slot) move segments e = absurd (cc e)
no_format (Fence lane) move segments e = absurd (cc e)
no_format (Takeover lane) move segments e = absurd (cc e)

pub may_give : (w : World) (lines : List Line) (words : List ℕ) (p : Player) (out : List ℕ) (r : Run) (e : Event) → IsAt w lines words p out r → MayHappen r.world e no_heirs → is_plain e ≡ true
    → MayBeGiven p.world e
may_give w lines words p out r (event.Start s lane call) at may plain =
    let few = number_few w lines words p out r s at in
    let same = ap (λ (v : World). (v.machine.callers.sessions s).number) at.world in
    (may.0, may.1, omega (arith, few, same, at.events, at.few))
may_give w lines words p out r (event.Step n) at may plain = tt
may_give w lines words p out r (event.Flow n index) at may plain = tt
may_give w lines words p out r (event.Merge n) at may plain = tt
may_give w lines words p out r event.Monitor at may plain = tt
may_give w lines words p out r (event.Refresh s) at may plain = may
may_give w lines words p out r (event.Give o) at may plain = (may.0, no_format o plain)
may_give w lines words p out r event.DropOrder at may plain = may
may_give w lines words p out r (event.Queue n t) at may plain = may
may_give w lines words p out r event.Add at may plain = tt
may_give w lines words p out r (event.Tell s t) at may plain = may
