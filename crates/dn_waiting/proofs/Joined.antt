use Rattle.std.proofs.Common.{ℕ, ◌≡◌, ◌<◌, ◌≤◌, List, [], ◌∷◌, Option, Some, None, set, get_or, refl, sym, ap, subst, ◌∙◌, arith, Contains}
use Rattle.std.proofs.lemmas.List.{get_or_default}
use Rattle.dn_hist.specs.declared.receipts.SessionView.{SessionView}
use Rattle.dn_tend.specs.declared.tasks.Task.{Task}
use Rattle.dn_waiting.specs.declared.calls.OpenCall.{OpenCall}
use Rattle.dn_waiting.specs.declared.calls.Place.TheVariants.{Queued, Begun}
use Rattle.dn_waiting.specs.declared.calls.AttemptEnd.{AttemptEnd}
use Rattle.dn_waiting.specs.declared.calls.Next.TheVariants.{Try}
use Rattle.dn_waiting.specs.Queues.{AtLane, idle, with_attempt}
use Rattle.dn_waiting.specs.State.{WaitingState, call_of, at_lane}
use Rattle.dn_waiting.specs.Attempts.{placed, settled}
use Rattle.dn_waiting.specs.Turns.{next_of, next_at, left_of, left_at}
use Rattle.dn_waiting.specs.Sound.{IsSound, IsLane, IsLoading, Shows}
use Rattle.dn_waiting.proofs.Counts.{contained_first}
use Rattle.dn_waiting.proofs.Ranges.{shown_inside}
use Rattle.dn_waiting.proofs.Steps.{stepped}
use Rattle.dn_waiting.proofs.Kept.{tasks_sound, queued_sound, begun_sound, first_begun, settled_sound}

-- The changes as the calls make them: a list of calls and what is then at one lane.

abbrev pub made_of : List (Option OpenCall) → List AtLane → WaitingState
made_of calls lanes = record { calls = calls; lanes = lanes }

-- what was read at a lane is what there is
pub lane_is : (w : WaitingState) (l : ℕ) (q : AtLane) → IsSound w → IsLane l → q ≡ get_or w.lanes l q → q ≡ at_lane w l
lane_is w l q sound h e = e ∙ get_or_default w.lanes l q idle (omega (arith, sound.made, h.1))

pub settled_joined : (w : WaitingState) (l : ℕ) (q r : AtLane) (v : SessionView) (end : AttemptEnd) (calls : List (Option OpenCall)) → IsSound w → IsLane l → q ≡ get_or w.lanes l q
    → q.begun ≡ Some v → calls ≡ set w.calls v.session (settled end (call_of w v.session)) → r ≡ record q { begun = None } → IsSound (made_of calls (set w.lanes l r))
settled_joined w l q r v end calls sound h there begun e f =
    let is : q ≡ at_lane w l = lane_is w l q sound h there in
    let after : r ≡ record (at_lane w l) { begun = None } = f ∙ ap (λ (p : AtLane). let n : AtLane = record p { begun = None } in n) is in
    subst (λ cs. IsSound (made_of cs (set w.lanes l r))) (sym e)
    (subst (λ (p : AtLane). IsSound (made_of (set w.calls v.session (settled end (call_of w v.session))) (set w.lanes l p))) (sym after)
    (settled_sound w l v end sound (omega (arith, h.1)) (ap (λ (p : AtLane). p.begun) (sym is) ∙ begun)))

pub queued_joined : (w : WaitingState) (l : ℕ) (q r : AtLane) (v : SessionView) (calls : List (Option OpenCall)) → IsSound w → IsLane l → q ≡ get_or w.lanes l q
    → v.session ≤ 1000 → IsLoading (call_of w v.session) → Shows v (call_of w v.session)
    → calls ≡ set w.calls v.session (placed (call_of w v.session) (Queued l)) → r ≡ with_attempt q v → IsSound (made_of calls (set w.lanes l r))
queued_joined w l q r v calls sound h there inside loading shows e f =
    let after : r ≡ with_attempt (at_lane w l) v = f ∙ ap (λ (p : AtLane). with_attempt p v) (lane_is w l q sound h there) in
    subst (λ cs. IsSound (made_of cs (set w.lanes l r))) (sym e)
    (subst (λ (p : AtLane). IsSound (made_of (set w.calls v.session (placed (call_of w v.session) (Queued l))) (set w.lanes l p))) (sym after)
    (queued_sound w v l sound inside (omega (arith, h.1)) loading shows))

pub tasks_joined : (w : WaitingState) (l : ℕ) (q r : AtLane) (tasks : List Task) → IsSound w → IsLane l → q ≡ get_or w.lanes l q → r ≡ record q { tasks = tasks }
    → IsSound (made_of w.calls (set w.lanes l r))
tasks_joined w l q r tasks sound h there f =
    let after : r ≡ record (at_lane w l) { tasks = tasks } = f ∙ ap (λ (p : AtLane). let n : AtLane = record p { tasks = tasks } in n) (lane_is w l q sound h there) in
    subst (λ (p : AtLane). IsSound (made_of w.calls (set w.lanes l p))) (sym after) (tasks_sound w l tasks sound (omega (arith, h.1)))

-- ---- what a lane takes up
try_by : (w : WaitingState) (l : ℕ) (v : SessionView) (tasks : List Task) (queue : List SessionView) → IsSound w → l < 64 → (at_lane w l).queue ≡ queue → (at_lane w l).begun ≡ None
    → next_of tasks queue ≡ Try v → IsSound (stepped w v.session l (placed (call_of w v.session) (Begun l)) (left_of (at_lane w l) tasks queue))
try_by w l v (task ∷ tasks) queue sound h e free is = cc
try_by w l v [] [] sound h e free is = cc
try_by w l v [] (u ∷ rest) sound h e free is =
    let same : u ≡ v = cc in
    subst (λ (n : SessionView). IsSound (stepped w n.session l (placed (call_of w n.session) (Begun l)) (first_begun (at_lane w l) u rest))) same
    (begun_sound w l u rest sound h e free)

pub try_joined : (w : WaitingState) (l : ℕ) (q r : AtLane) (v : SessionView) (calls : List (Option OpenCall)) → IsSound w → IsLane l → q ≡ get_or w.lanes l q → (at_lane w l).begun ≡ None
    → next_at q ≡ Try v → calls ≡ set w.calls v.session (placed (call_of w v.session) (Begun l)) → r ≡ left_at q → IsSound (made_of calls (set w.lanes l r))
try_joined w l q r v calls sound h there free is e f =
    let same : q ≡ at_lane w l = lane_is w l q sound h there in
    subst (λ cs. IsSound (made_of cs (set w.lanes l r))) (sym e)
    (subst (λ (p : AtLane). IsSound (made_of (set w.calls v.session (placed (call_of w v.session) (Begun l))) (set w.lanes l p))) (sym (f ∙ ap left_at same))
    (try_by w l v (at_lane w l).tasks (at_lane w l).queue sound (omega (arith, h.1)) refl free (ap next_at (sym same) ∙ is)))

first_of : (w : WaitingState) (l : ℕ) (v : SessionView) (tasks : List Task) (queue : List SessionView) → (at_lane w l).queue ≡ queue → next_of tasks queue ≡ Try v
    → (rest : List SessionView) × ((at_lane w l).queue ≡ v ∷ rest)
first_of w l v (task ∷ tasks) queue e is = cc
first_of w l v [] [] e is = cc
first_of w l v [] (u ∷ rest) e is = let same : u ≡ v = cc in (rest, e ∙ ap (λ (n : SessionView). n ∷ rest) same)

-- the attempt that is taken up is of a session that there is
pub try_inside : (w : WaitingState) (l : ℕ) (q : AtLane) (v : SessionView) → IsSound w → IsLane l → q ≡ get_or w.lanes l q → next_at q ≡ Try v → v.session < 1001
try_inside w l q v sound h there is =
    let same : q ≡ at_lane w l = lane_is w l q sound h there in
    by_first (first_of w l v (at_lane w l).tasks (at_lane w l).queue refl (ap next_at (sym same) ∙ is))
  where
    by_first : (rest : List SessionView) × ((at_lane w l).queue ≡ v ∷ rest) → v.session < 1001
    by_first (rest, e) = shown_inside w v sound (sound.numbers l v (subst (λ vs. Contains vs v) (sym e) (contained_first v rest)))

no_try_by : (w : WaitingState) (l : ℕ) (tasks : List Task) (queue : List SessionView) → IsSound w → l < 64 → ((v : SessionView) → next_of tasks queue ≡ Try v → ⊥)
    → IsSound (made_of w.calls (set w.lanes l (left_of (at_lane w l) tasks queue)))
no_try_by w l (task ∷ tasks) queue sound h none = tasks_sound w l tasks sound h
no_try_by w l [] [] sound h none = tasks_sound w l (at_lane w l).tasks sound h
no_try_by w l [] (v ∷ queue) sound h none = absurd (none v refl)

pub no_try_joined : (w : WaitingState) (l : ℕ) (q r : AtLane) → IsSound w → IsLane l → q ≡ get_or w.lanes l q → ((v : SessionView) → next_at q ≡ Try v → ⊥) → r ≡ left_at q
    → IsSound (made_of w.calls (set w.lanes l r))
no_try_joined w l q r sound h there none f =
    let same : q ≡ at_lane w l = lane_is w l q sound h there in
    subst (λ (p : AtLane). IsSound (made_of w.calls (set w.lanes l p))) (sym (f ∙ ap left_at same))
    (no_try_by w l (at_lane w l).tasks (at_lane w l).queue sound (omega (arith, h.1)) (λ v e. none v (ap next_at same ∙ e)))
