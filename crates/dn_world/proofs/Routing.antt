use Rattle.std.proofs.Common.{ℕ, ◌≡◌, ◌⊎◌, inl, inr, List, Option, Some, Bor, sym, ◌∙◌, ap}
use Rattle.std.specs.Option.{option_copied}
use Rattle.dn_hist.specs.Calls.{key_of}
use Rattle.dn_hist.specs.declared.receipts.SessionView.{SessionView}
use Rattle.dn_model.specs.Regions.{slot_of}
use Rattle.dn_route.specs.CallersOrder.{Told}
use Rattle.dn_route.specs.SessionState.{SessionState, view_of}
use Rattle.dn_callers.specs.Callers.{Standing}
use Rattle.dn_cluster.specs.Machine.{session_at}
use Rattle.dn_waiting.specs.Attempts.{loaded, after_load, named_in, course_loaded}
use Rattle.dn_waiting.specs.State.{call_of}
use Rattle.dn_waiting.specs.declared.calls.Course.{Course}
use Rattle.dn_waiting.specs.declared.calls.Course.TheVariants.{Load, Wait, Answered}
use Rattle.dn_outcomes.specs.declared.outcomes.Outcome.TheVariants.{Acted}
use Rattle.dn_waiting.specs.declared.calls.OpenCall.{OpenCall}
use Rattle.dn_outcomes.specs.Going.{goes_on}
use Rattle.dn_outcomes.specs.Starts.{route_in, routes, given_by}
use Rattle.dn_outcomes.specs.State.{World, Done, done}
use Rattle.dn_world.specs.State.{CrewState, world_of}
use Rattle.dn_world.specs.Comes.{Turns}

-- A session has loaded the deed that its call waits for.

pub record IsRouting (x y : CrewState) (s : ℕ) (call : OpenCall) (view : SessionView) (route : ℕ) (course : Course) : Type 0 where
  pub has : call_of x.waiting s ≡ Some call
  pub itself : view.session ≡ s
  pub view_is : view ≡ view_of (session_at x.cluster s) (key_of call.call)
  pub route_is : route ≡ route_in (session_at x.cluster s) (slot_of (key_of call.call))
  pub course_is : course ≡ course_loaded (call_of x.waiting view.session) (after_load (named_in (call_of x.waiting view.session)) route)
  pub goes : Turns (record x { waiting = loaded x.waiting view route }) y (λ w. goes_on w s course)

pub routing : (x y : CrewState) (s : ℕ) (call : OpenCall) (view : SessionView) (route : ℕ) (course : Course) → IsRouting x y s call view route course
    → (words : List ℕ) (told : List Told) (receipts : List Standing) → routes (world_of words x told receipts) s (call_of x.waiting s) ≡ done (world_of words y told receipts) (given_by call s course)
routing x y s call view route course h words told receipts =
    let w : World = world_of words x told receipts in
    let n : SessionState = session_at x.cluster s in
    let r : ℕ = route_in n (slot_of (key_of call.call)) in
    let there : (v : SessionView) (k : ℕ) (o : Course) → Done = λ v k o. record {
      world = goes_on (world_of words (record x { waiting = loaded x.waiting v k }) told receipts) s o;
      outcome = given_by call s o;
    } in
    let way : (k : ℕ) → Course = λ k. course_loaded (Some call) (after_load (named_in (Some call)) k) in
    let here : call_of x.waiting view.session ≡ Some call = ap (λ (k : ℕ). call_of x.waiting k) h.itself ∙ h.has in
    ap (λ (o : Option OpenCall). routes w s o) h.has
    ∙ ap (λ (v : SessionView). there v r (way r)) (sym h.view_is) ∙ ap (λ (k : ℕ). there view k (way k)) (sym h.route_is)
    ∙ ap (λ (o : Option OpenCall). there view route (course_loaded o (after_load (named_in o) route))) (sym here)
    ∙ ap (λ (o : Course). there view route o) (sym h.course_is)
    ∙ ap (λ (k : World). done k (given_by call s course)) (sym (h.goes.is words told receipts))

pub copied_some : (o : Option (Bor OpenCall)) (x : Bor OpenCall) (p : Option OpenCall) → option_copied o ≡ p → o ≡ Some x → p ≡ Some x.now
copied_some o x p e is = sym e ∙ ap (option_copied {T = OpenCall}) is

-- a call that isn't given up
pub goes_on_so : (call : OpenCall) (s : ℕ) (course : Course) → (course ≡ Load) ⊎ (((lane : ℕ) × (course ≡ Wait lane)) ⊎ (course ≡ Answered)) → given_by call s course ≡ Acted
goes_on_so call s course h = elim h [
  | inl e ↦ ap (λ (o : Course). given_by call s o) e
  | inr more ↦ elim more [
    | inl w ↦ ap (λ (o : Course). given_by call s o) w.1
    | inr e ↦ ap (λ (o : Course). given_by call s o) e
  ]
]
