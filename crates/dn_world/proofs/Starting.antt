use Rattle.std.proofs.Common.{ℕ, ◌≡◌, Bool, true, false, List, Option, Some, None, nat_lt, nat_le, Bor, refl, sym, ◌∙◌, ap, arith}
use Rattle.std.specs.Option.{is_some, option_copied}
use Rattle.std.proofs.lemmas.Bool.{and_parts, ltb-true, leb-true}
use Rattle.dn_hist.specs.Calls.{key_of}
use Rattle.dn_hist.specs.declared.calls.Call.{Call}
use Rattle.dn_hist.specs.declared.receipts.SessionView.{SessionView}
use Rattle.dn_model.specs.Regions.{slot_of}
use Rattle.dn_route.specs.CallersOrder.{Told}
use Rattle.dn_route.specs.SessionState.{SessionState, view_of}
use Rattle.dn_callers.specs.Callers.{Standing}
use Rattle.dn_callers.specs.Sessions.{IsSession}
use Rattle.dn_machine.specs.Events.{Numbers}
use Rattle.dn_machine.specs.Sound.{IsSound}
use Rattle.dn_cluster.specs.Does.{Does}
use Rattle.dn_cluster.specs.Machine.{machine_of, session_at}
use Rattle.dn_cluster.specs.State.{ClusterState}
use Rattle.dn_cluster.proofs.Given.{given_sound}
use Rattle.dn_waiting.specs.Attempts.{started, at_first, course_to}
use Rattle.dn_waiting.specs.Sound.{IsLaneOrNone}
use Rattle.dn_waiting.specs.State.{call_of}
use Rattle.dn_waiting.specs.declared.calls.Course.{Course}
use Rattle.dn_waiting.specs.declared.calls.OpenCall.{OpenCall}
use Rattle.dn_outcomes.specs.Going.{goes_on}
use Rattle.dn_outcomes.specs.Sound.{IsWorld}
use Rattle.dn_outcomes.specs.Starts.{route_in, starts_by, starts, start_unless, start_beside, start}
use Rattle.dn_outcomes.specs.State.{World, done, with_event, may_name}
use Rattle.dn_outcomes.specs.declared.outcomes.Outcome.TheVariants.{Numbered, Busy, Closed, NoLane}
use Rattle.dn_world.specs.State.{CrewState, world_of}
use Rattle.dn_world.specs.Comes.{Turns}
use Rattle.dn_world.proofs.Changes.{where_true, where_false}

-- A session starts a call.

-- ---- it is refused
pub named_badly : (w : World) (s : ℕ) (lane : Option ℕ) (call : Call) → may_name w lane ≡ false → start w s lane call ≡ done w NoLane
named_badly w s lane call e = where_false (may_name w lane) (start_beside w s lane call (call_of w.waiting s)) (done w NoLane) e

pub named_well : (w : World) (s : ℕ) (lane : Option ℕ) (call : Call) → may_name w lane ≡ true → start w s lane call ≡ start_beside w s lane call (call_of w.waiting s)
named_well w s lane call e = where_true (may_name w lane) (start_beside w s lane call (call_of w.waiting s)) (done w NoLane) e

beside : (w : World) (s : ℕ) (lane : Option ℕ) (call : Call) (o : Option OpenCall) → is_some o ≡ true → start_beside w s lane call o ≡ done w Busy
beside w s lane call None e = absurd (cc e)
beside w s lane call (Some x) e = refl

pub busy : (w : World) (s : ℕ) (lane : Option ℕ) (call : Call) → may_name w lane ≡ true → is_some (call_of w.waiting s) ≡ true → start w s lane call ≡ done w Busy
busy w s lane call named e = named_well w s lane call named ∙ beside w s lane call (call_of w.waiting s) e

pub alone : (w : World) (s : ℕ) (lane : Option ℕ) (call : Call) → may_name w lane ≡ true → call_of w.waiting s ≡ None
    → start w s lane call ≡ start_unless w s lane call (w.machine.callers.closed s)
alone w s lane call named e = named_well w s lane call named ∙ ap (λ (o : Option OpenCall). start_beside w s lane call o) e

pub closed_now : (w : World) (s : ℕ) (lane : Option ℕ) (call : Call) → may_name w lane ≡ true → call_of w.waiting s ≡ None → w.machine.callers.closed s ≡ true
    → start w s lane call ≡ done w Closed
closed_now w s lane call named e closed = alone w s lane call named e ∙ ap (λ (b : Bool). start_unless w s lane call b) closed

-- ---- it starts
pub record IsStarting (x a y : CrewState) (s : ℕ) (lane : Option ℕ) (call : Call) (view : SessionView) (route : ℕ) (course : Course) : Type 0 where
  pub numbered : Turns x a (λ w. with_event w (Numbers s))
  pub view_is : view ≡ view_of (session_at a.cluster s) (key_of call)
  pub route_is : route ≡ route_in (session_at a.cluster s) (slot_of (key_of call))
  pub course_is : course ≡ course_to (at_first lane route)
  pub goes : Turns (record a { waiting = started a.waiting call view lane route }) y (λ w. goes_on w s course)

pub starting : (x a y : CrewState) (s : ℕ) (lane : Option ℕ) (call : Call) (view : SessionView) (route : ℕ) (course : Course) → IsStarting x a y s lane call view route course
    → (words : List ℕ) (told : List Told) (receipts : List Standing) → starts (with_event (world_of words x told receipts) (Numbers s)) s lane call ≡ done (world_of words y told receipts) (Numbered view.number)
starting x a y s lane call view route course h words told receipts =
    let b : World = world_of words a told receipts in
    let there : (v : SessionView) (r : ℕ) (k : Course) → World = λ v r k. goes_on (world_of words (record a { waiting = started a.waiting call v lane r }) told receipts) s k in
    let n : SessionState = session_at a.cluster s in
    let r : ℕ = route_in n (slot_of (key_of call)) in
    let e : starts_by b s lane call r ≡ world_of words y told receipts =
    ap (λ (v : SessionView). there v r (course_to (at_first lane r))) (sym h.view_is) ∙ ap (λ (k : ℕ). there view k (course_to (at_first lane k))) (sym h.route_is)
    ∙ ap (λ (k : Course). there view route k) (sym h.course_is) ∙ sym (h.goes.is words told receipts) in
    ap (λ (w : World). starts w s lane call) (sym (h.numbered.is words told receipts))
    ∙ ap (λ (w : World). done w (Numbered n.number)) e ∙ ap (λ (v : SessionView). done (world_of words y told receipts) (Numbered v.number)) (sym h.view_is)

pub numbered_one : (x a y : CrewState) (s : ℕ) (lane : Option ℕ) (call : Call) (view : SessionView) (route : ℕ) (course : Course) → IsStarting x a y s lane call view route course
    → (words : List ℕ) (told : List Told) (receipts : List Standing) → may_name (world_of words x told receipts) lane ≡ true → call_of x.waiting s ≡ None → (machine_of words x.cluster told receipts).callers.closed s ≡ false
    → start (world_of words x told receipts) s lane call ≡ done (world_of words y told receipts) (Numbered view.number)
numbered_one x a y s lane call view route course h words told receipts named e unclosed =
    let w : World = world_of words x told receipts in
    alone w s lane call named e ∙ ap (λ (b : Bool). start_unless w s lane call b) unclosed ∙ starting x a y s lane call view route course h words told receipts

-- ---- what it asks for
-- a session has its own number
pub session_is : (words : List ℕ) (c : ClusterState) (told : List Told) (receipts : List Standing) (s : ℕ) → IsSound c.segments (machine_of words c told receipts) → IsSession s → (session_at c s).session ≡ s
session_is words c told receipts s h is = h.at.callers.numbers s is

pub numbered_session : (words : List ℕ) (c d : ClusterState) (told : List Told) (receipts : List Standing) (s : ℕ) → Does c d (Numbers s) → d.segments ≡ c.segments → IsSound c.segments (machine_of words c told receipts) → IsSession s
    → (session_at d s).session ≡ s
numbered_session words c d told receipts s does same h is = (given_sound words c d (Numbers s) told receipts does h tt).at.callers.numbers s is

pub named_lane : (w : World) (lane : Option ℕ) → IsWorld w → may_name w lane ≡ true → IsLaneOrNone lane
named_lane w None h e = tt
named_lane w (Some n) h e =
    let both = and_parts (nat_lt 0 n) (nat_le n w.made) e in
    (omega (arith, ltb-true 0 n both.0), omega (arith, leb-true n w.made both.1, h.made.most))

pub none_of : (o : Option OpenCall) → is_some o ≡ false → o ≡ None
none_of None e = refl
none_of (Some x) e = absurd (cc e)

pub copied : (o : Option (Bor OpenCall)) → is_some (option_copied o) ≡ is_some o
copied None = refl
copied (Some x) = refl
