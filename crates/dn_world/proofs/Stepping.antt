use Rattle.std.specs.Prelude.{IfOk}
use Rattle.std.proofs.Common.{ℕ, ◌≡◌, Result, Ok, Err, Bool, true, false, List, Option, Some, None, nat_lt, nat_le, length, refl, sym, ◌∙◌, ap, subst, arith}
use Rattle.std.proofs.lemmas.Bool.{and_parts, ltb-true, leb-true}
use Rattle.dn_model.specs.Regions.{IsLane}
use Rattle.dn_route.specs.CallersOrder.{Told}
use Rattle.dn_lane.specs.Left.{is_working}
use Rattle.dn_lane.specs.State.{LaneState}
use Rattle.dn_lane.specs.declared.asked.Asked.{Asked}
use Rattle.dn_lane.specs.declared.asked.Asked.TheVariants as asked
use Rattle.dn_callers.specs.Callers.{Standing, Callers}
use Rattle.dn_machine.specs.Sound.{IsCallOf}
use Rattle.dn_cluster.specs.Does.{CanBeSound}
use Rattle.dn_cluster.specs.Machine.{IsMade}
use Rattle.dn_waiting.specs.State.{at_lane}
use Rattle.dn_waiting.specs.Sound.{IsLane as IsNumber}
use Rattle.dn_waiting.specs.Turns.{next_at}
use Rattle.dn_waiting.specs.declared.calls.Next.{Next}
use Rattle.dn_outcomes.specs.Sound.{IsWorld, view_at, view_by}
use Rattle.dn_outcomes.specs.State.{World, Done, done, is_made, on_lane}
use Rattle.dn_outcomes.specs.Steps.{acts_of, acts, begins, steps_by, steps_of, step}
use Rattle.dn_outcomes.specs.declared.outcomes.Outcome.TheVariants.{Nothing, NoLane}
use Rattle.dn_world.specs.Comes.{Came, Comes, CanBeWorld}
use Rattle.dn_world.specs.State.{CrewState, world_of}
use Rattle.dn_world.specs.Takes.{barred_by, IsSessionOf}
use Rattle.dn_world.proofs.Changes.{is_done, where_true, where_false}

-- A lane makes its next action, or takes up what waits.

-- ---- the same said of another function with the same values there
pub comes_eq : (words : List ℕ) (x : CrewState) (now : List ℕ) (y : CrewState) (came : Came) (f g : World → Done)
    → ((told : List Told) (receipts : List Standing) → g (world_of words x told receipts) ≡ f (world_of words x told receipts)) → Comes words x now y came f → Comes words x now y came g
comes_eq words x now y came f g e h = record {
  is = λ told receipts sound.
      let d = h.is told receipts sound in
      is_done words x now y came g told receipts (f (world_of words x told receipts)).world.machine.callers.told
      (ap (λ (k : Done). k.world) (e told receipts) ∙ d.world) (d.outcome ∙ sym (ap (λ (k : Done). k.outcome) (e told receipts)));
}

-- ---- lanes that were made
pub unmade : (w : World) (n : ℕ) (d : Done) → is_made w n ≡ false → on_lane w n d ≡ done w NoLane
unmade w n d e = where_false (is_made w n) d (done w NoLane) e

pub on_made : (w : World) (n : ℕ) (d : Done) → is_made w n ≡ true → on_lane w n d ≡ d
on_made w n d e = where_true (is_made w n) d (done w NoLane) e

pub made_of : (words : List ℕ) (x : CrewState) (told : List Told) (receipts : List Standing) (n : ℕ) → is_made (world_of words x told receipts) n ≡ true → IsMade x.cluster n
made_of words x told receipts n e =
    let both = and_parts (nat_lt 0 n) (nat_le n (length x.cluster.nodes)) e in
    (omega (arith, ltb-true 0 n both.0), leb-true n (length x.cluster.nodes) both.1)

pub number_of : (words : List ℕ) (x : CrewState) (n : ℕ) → CanBeWorld words x → IsMade x.cluster n → IsNumber n
number_of words x n can made = (made.0, omega (arith, made.1, can.sound.made.most))

pub some_of : (o : Option LaneState) → (o ≡ None → ⊥) → (l : LaneState) × (o ≡ Some l)
some_of None h = absurd (h refl)
some_of (Some l) h = (l, refl)

-- ---- its step
pub step_stopped : (w : World) (n : ℕ) → w.machine.lanes n ≡ None → step w n ≡ done w Nothing
step_stopped w n e = ap (λ (o : Option LaneState). steps_of w n o) e

pub step_working : (w : World) (n : ℕ) (l : LaneState) → w.machine.lanes n ≡ Some l → is_working l.mode ≡ true → step w n ≡ acts w n
step_working w n l is e = ap (λ (o : Option LaneState). steps_of w n o) is ∙ ap (λ (b : Bool). steps_by w n l b) e ∙ sym (ap (λ (o : Option LaneState). acts_of w n o) is)

pub step_resting : (w : World) (n : ℕ) (l : LaneState) (next : Next) → w.machine.lanes n ≡ Some l → is_working l.mode ≡ false → next_at (at_lane w.waiting n) ≡ next
    → step w n ≡ begins w n (barred_by (w.machine.lanes n)) next
step_resting w n l next is e there = ap (λ (o : Option LaneState). steps_of w n o) is ∙ ap (λ (b : Bool). steps_by w n l b) e ∙ ap (λ (k : Next). begins w n l.base.known.barred k) there
    ∙ sym (ap (λ (o : Option LaneState). begins w n (barred_by o) next) is)

-- ---- the attempt under way is of a session
asked_session : (c : Callers) (a : Asked) → IsCallOf c a → IsSessionOf (view_by a)
asked_session c asked.Nothing h = tt
asked_session c (asked.Call call view room) h = h.0.session
asked_session c asked.Task h = tt

pub begun_session : (w : World) (n : ℕ) → IsWorld w → IsLane n → IsSessionOf (at_lane w.waiting n).begun
begun_session w n h lane = subst IsSessionOf (sym (h.asked.begun n lane)) (by (w.machine.lanes n) refl) where
  by : (o : Option LaneState) → w.machine.lanes n ≡ o → IsSessionOf (view_at o)
  by None e = tt
  by (Some l) e = asked_session w.machine.callers l.asked (h.machine.at.actors.calls n l e)

pub can_be_sound : (words : List ℕ) (x : CrewState) → CanBeWorld words x → CanBeSound words x.cluster
can_be_sound words x can = record { told = can.told; receipts = can.receipts; sound = can.sound.machine }

pub if_ok : {T E : Type 0} (r : Result T E) (P Q : T → Type 0) → ((t : T) → P t → Q t) → IfOk r P → IfOk r Q
if_ok (Ok t) P Q f h = f t h
if_ok (Err e) P Q f h = h

pub not_both : (b : Bool) → b ≡ true → b ≡ false → ⊥
not_both b t f = (let e : true ≡ false = sym t ∙ f in cc e)
