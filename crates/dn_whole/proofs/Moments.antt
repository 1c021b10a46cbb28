use Rattle.std.proofs.Common.{ℕ, zero, suc, ◌+◌, ◌<◌, ◌≤◌, ◌≡◌, inl, inr, List, [], ◌∷◌, Option, Some, None, length, refl, sym, ◌∙◌, ap, subst, arith}
use Rattle.std.proofs.lemmas.Bool.{cases_eq, cases_lt}
use Rattle.std.proofs.lemmas.List.{length_push}
use Rattle.std.proofs.lemmas.Option.{none-some}
use Rattle.dn_act.specs.Words.{IsZeros}
use Rattle.dn_monitor.specs.Heirs.{no_heirs}
use Rattle.dn_outcomes.specs.Does.{does}
use Rattle.dn_outcomes.specs.State.{World, Done}
use Rattle.dn_outcomes.specs.declared.events.Event.{Event}
use Rattle.dn_outcomes.specs.declared.events.Event.TheVariants.{Refresh}
use Rattle.dn_play.specs.At.{HasNext}
use Rattle.dn_run.specs.Doing.{Doing, next_of, left_of}
use Rattle.dn_run.specs.Happening.{Happening, happening}
use Rattle.dn_run.specs.Run.{Run, run_of, IsOver, loader, with_event, begins, acts, steps, step, after_steps}
use Rattle.dn_script.specs.declared.scripts.Line.{Line}
use Rattle.dn_script.specs.declared.scripts.Script.{Script}
use Rattle.dn_world.specs.State.{world_of}
use Rattle.dn_world.proofs.Determined.{one_opening}
use Rattle.dn_whole.specs.Whole.{IsMoment}

-- A run is over at one moment alone, and has had so many events at one alone that has a next.

-- ---- a run that is over stays
over_step : (r : Run) → IsOver r → step r ≡ r
over_step r h = ap (steps r) h.between.loads ∙ ap (acts r) h.between.doing ∙ ap (begins r) h.lines

over_on : (m n : ℕ) (r : Run) → n ≤ m → IsOver (after_steps n r) → after_steps m r ≡ after_steps n r
over_on zero n r le h = (let e : zero ≡ n = omega (arith, le) in ap (λ (i : ℕ). after_steps i r) e)
over_on (suc m) n r le h = elim (cases_eq n (suc m)) [
  | inl e ↦ ap (λ (i : ℕ). after_steps i r) (sym e)
  | inr d ↦ ap step (over_on m n r (omega (arith, le, d)) h) ∙ over_step (after_steps n r) h
]

one_over : (m n : ℕ) (r : Run) → IsOver (after_steps m r) → IsOver (after_steps n r) → after_steps m r ≡ after_steps n r
one_over m n r h k = elim (cases_lt m n) [
  | inl lt ↦ sym (over_on n m r (omega (arith, lt)) h)
  | inr le ↦ over_on m n r le k
]

-- ---- what has happened stays
pushed : (r : Run) (e : Event) (d : Done) (left : Doing) → length (with_event r e d left).past ≡ length r.past + 1
pushed r e d left = length_push r.past (happening e d)

begins_past : (r : Run) (ls : List Line) → (begins r ls).past ≡ r.past
begins_past r [] = refl
begins_past r (l ∷ ls) = refl

acts_past : (r : Run) (e : Option Event) → length r.past ≤ length (acts r e).past
acts_past r None = (let same = ap (λ (xs : List Happening). length xs) (begins_past r r.lines) in omega (arith, same))
acts_past r (Some e) = (let more = pushed r e (does r.world e no_heirs) (left_of r.world r.doing (does r.world e no_heirs).outcome) in omega (arith, more))

steps_past : (r : Run) (s : Option ℕ) → length r.past ≤ length (steps r s).past
steps_past r None = acts_past r (next_of r.world r.doing)
steps_past r (Some s) = (let more = pushed r (Refresh s) (does r.world (Refresh s) no_heirs) r.doing in omega (arith, more))

past_on : (m n : ℕ) (r : Run) → n ≤ m → length (after_steps n r).past ≤ length (after_steps m r).past
past_on zero n r le = (let e : n ≡ zero = omega (arith, le) in let same = ap (λ (i : ℕ). length (after_steps i r).past) e in omega (arith, same))
past_on (suc m) n r le = elim (cases_eq n (suc m)) [
  | inl e ↦ (let same = ap (λ (i : ℕ). length (after_steps i r).past) e in omega (arith, same))
  | inr d ↦ (let rest = past_on m n r (omega (arith, le, d)) in let one = steps_past (after_steps m r) (loader (after_steps m r)) in omega (arith, rest, one))
]

-- ---- an event that is next happens
next_past : (r : Run) (s : Option ℕ) → loader r ≡ s → HasNext r → length r.past < length (steps r s).past
next_past r None e more =
    let x = more e in
    let by : length (acts r (Some x.0)).past ≡ length r.past + 1 = pushed r x.0 (does r.world x.0 no_heirs) (left_of r.world r.doing (does r.world x.0 no_heirs).outcome) in
    let same = ap (λ (o : Option Event). length (acts r o).past) x.1 in
    omega (arith, by, same)
next_past r (Some s) e more = (let by = pushed r (Refresh s) (does r.world (Refresh s) no_heirs) r.doing in omega (arith, by))

grows : (m n : ℕ) (r : Run) → m < n → HasNext (after_steps m r) → length (after_steps m r).past < length (after_steps n r).past
grows m n r lt more =
    let one = next_past (after_steps m r) (loader (after_steps m r)) refl more in
    let rest = past_on n (suc m) r (omega (arith, lt)) in
    omega (arith, one, rest)

no_next : (r : Run) → IsOver r → HasNext r → ⊥
no_next r h more = (let x = more h.between.loads in none-some x.0 (sym h.between.doing ∙ x.1))

one_long : (m n : ℕ) (r : Run) → length (after_steps m r).past ≡ length (after_steps n r).past → HasNext (after_steps m r) → HasNext (after_steps n r) → after_steps m r ≡ after_steps n r
one_long m n r same h k = elim (cases_eq m n) [
  | inl e ↦ ap (λ (i : ℕ). after_steps i r) e
  | inr d ↦ elim (cases_lt m n) [
    | inl lt ↦ absurd (let up = grows m n r lt h in omega (arith, up, same))
    | inr le ↦ absurd (let up = grows n m r (omega (arith, le, d)) k in omega (arith, up, same))
  ]
]

-- one that is over hasn't had more, and so none is long
not_long : (m n : ℕ) (r : Run) → length (after_steps m r).past ≤ length (after_steps n r).past → IsOver (after_steps m r) → HasNext (after_steps n r) → ⊥
not_long m n r few h more = elim (cases_lt n m) [
  | inl lt ↦ (let up = grows n m r lt more in omega (arith, up, few))
  | inr le ↦ no_next (after_steps m r) h (subst HasNext (over_on n m r le h) more)
]

-- ---- two moments of one run
pub record AreOfOne (r q : Run) : Type 0 where
  pub start : Run
  pub before : ℕ
  pub after : ℕ
  pub first : r ≡ after_steps before start
  pub second : q ≡ after_steps after start

pub are_of_one : (script : Script) (before other : List ℕ) (r q : Run) → IsZeros before → IsZeros other → length before ≡ length other → IsMoment script before r → IsMoment script other q → AreOfOne r q
are_of_one script before other r q zeros others size h k = record {
  start = run_of (world_of k.words k.opening.crew [] []) script.lines;
  before = h.count;
  after = k.count;
  first = h.is ∙ ap (λ (w : World). after_steps h.count (run_of w script.lines))
      (one_opening before other h.words k.words h.opening k.opening script.segments script.nodes zeros others size h.opened k.opened);
  second = k.is;
}

pub same_over : (r q : Run) → AreOfOne r q → IsOver r → IsOver q → r ≡ q
same_over r q one h k = one.first ∙ one_over one.before one.after one.start (subst IsOver one.first h) (subst IsOver one.second k) ∙ sym one.second

pub same_long : (r q : Run) → AreOfOne r q → length r.past ≡ length q.past → HasNext r → HasNext q → r ≡ q
same_long r q one same h k =
    let past : length (after_steps one.before one.start).past ≡ length (after_steps one.after one.start).past =
    ap (λ (x : Run). length x.past) (sym one.first) ∙ same ∙ ap (λ (x : Run). length x.past) one.second in
    one.first ∙ one_long one.before one.after one.start past (subst HasNext one.first h) (subst HasNext one.second k) ∙ sym one.second

pub not_either : (r q : Run) → AreOfOne r q → length r.past ≤ length q.past → IsOver r → HasNext q → ⊥
not_either r q one few h more =
    let a = ap (λ (x : Run). length x.past) one.first in
    let b = ap (λ (x : Run). length x.past) one.second in
    not_long one.before one.after one.start (omega (arith, few, a, b)) (subst IsOver one.first h) (subst HasNext one.second more)

pub turned : (r q : Run) → AreOfOne r q → AreOfOne q r
turned r q one = record { start = one.start; before = one.after; after = one.before; first = one.second; second = one.first }
