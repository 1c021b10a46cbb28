use Rattle.std.proofs.Common.{ℕ, zero, suc, ◌+◌, ◌≡◌, ◌<◌, ◌≤◌, ◌++◌, ◌∷◌, [], Bool, true, false, nat_lt, if◌then◌else◌, List, Option, Some, None, refl, sym, ◌∙◌, ap, subst, arith}
use Rattle.std.proofs.lemmas.Bool.{lt-ltb}
use Rattle.std.proofs.lemmas.Option.{none-some, same_Some}
use Rattle.dn_lane.specs.State.{LaneState, fresh}
use Rattle.dn_lane.specs.declared.modes.Mode.TheVariants.{Idle}
use Rattle.dn_route.specs.CallersOrder.{Told}
use Rattle.dn_store.proofs.At.{at_by}
use Rattle.dn_waiting.specs.State.{nothing_waits}
use Rattle.dn_outcomes.specs.Does.{adds, adds_lane}
use Rattle.dn_outcomes.specs.Runs.{after}
use Rattle.dn_outcomes.specs.Sound.{IsWorld}
use Rattle.dn_outcomes.specs.State.{World, Done, done, opened}
use Rattle.dn_outcomes.specs.declared.outcomes.Outcome.{Outcome}
use Rattle.dn_outcomes.specs.declared.outcomes.Outcome.TheVariants.{LanesFull}
use Rattle.dn_outcomes.proofs.Others.{adds_kept}
use Rattle.dn_world.specs.Comes.{Moves, bare}
use Rattle.dn_world.specs.Opening.{adds_for, lanes_to}
use Rattle.dn_world.specs.State.{CrewState, world_of}
use Rattle.dn_world.proofs.Changes.{where_true}

-- Lanes are added to a world, one after the other.

-- ---- as the crew's calls
told_still : (w : World) → (adds w).world.machine.callers.told ≡ w.machine.callers.told
told_still w = by_test (nat_lt w.made 63) where
  by_test : (b : Bool) → (if b then adds_lane w (w.made + 1) else done w LanesFull).world.machine.callers.told ≡ w.machine.callers.told
  by_test true = refl
  by_test false = refl

one_added : (words : List ℕ) (x y : CrewState) (o : Outcome) → Moves words x words y (bare o) adds → world_of words y [] [] ≡ (adds (world_of words x [] [])).world
one_added words x y o h = sym ((h.is [] []).world ∙ ap (λ (ts : List Told). world_of words y ts []) (told_still (world_of words x [] [])))

added_last : (w : World) (n : ℕ) → after w (adds_for (suc n)) ≡ (adds (after w (adds_for n))).world
added_last w zero = refl
added_last w (suc n) = added_last (adds w).world n

pub one_more_added : (words : List ℕ) (x z y : CrewState) (o : Outcome) (n : ℕ) → world_of words z [] [] ≡ after (world_of words x [] []) (adds_for n) → Moves words z words y (bare o) adds
    → world_of words y [] [] ≡ after (world_of words x [] []) (adds_for (n + 1))
one_more_added words x z y o n so h =
    let more : suc n ≡ n + 1 = omega arith in
    subst (λ (k : ℕ). world_of words y [] [] ≡ after (world_of words x [] []) (adds_for k)) more
    (one_added words z y o h ∙ ap (λ (w : World). (adds w).world) so ∙ sym (added_last (world_of words x [] []) n))

-- ---- what they lead to
pub record HasAdded (segments : ℕ) (words : List ℕ) (n : ℕ) (w : World) : Type 0 where
  pub segments_are : w.segments ≡ segments
  pub words_are : w.machine.words ≡ words
  pub made : w.made ≡ n
  pub live : w.live ≡ lanes_to n
  pub waits : w.waiting ≡ nothing_waits
  pub order : w.machine.monitor ≡ None
  pub idle : (k : ℕ) (l : LaneState) → w.machine.lanes k ≡ Some l → l.mode ≡ Idle

one_has : (segments : ℕ) (words : List ℕ) (n : ℕ) (w : World) → n < 63 → HasAdded segments words n w → HasAdded segments words (suc n) (adds w).world
one_has segments words n w lt h =
    subst (λ (d : Done). HasAdded segments words (suc n) d.world) (sym (where_true (nat_lt w.made 63) (adds_lane w (w.made + 1)) (done w LanesFull) (lt-ltb w.made 63 (omega (arith, lt, h.made)))))
    (let number : w.made + 1 ≡ suc n = omega (arith, h.made) in record {
      segments_are = h.segments_are;
      words_are = h.words_are;
      made = number;
      live = ap (λ (ns : List ℕ). ns ++ (w.made + 1) ∷ []) h.live ∙ ap (λ (k : ℕ). lanes_to n ++ k ∷ []) number;
      waits = h.waits;
      order = h.order;
      idle = λ k l is. at_by (λ (o : Option LaneState). o ≡ Some l → l.mode ≡ Idle) w.machine.lanes (w.made + 1) (Some (fresh (w.made + 1) w.segments)) k
          (λ e some. ap (λ (x : LaneState). x.mode) (sym (same_Some _ _ some))) (λ d some. h.idle k l some) is;
    })

pub has_added : (segments : ℕ) (words : List ℕ) (n : ℕ) → n ≤ 63 → HasAdded segments words n (after (opened segments words) (adds_for n))
has_added segments words zero le = record {
  segments_are = refl;
  words_are = refl;
  made = refl;
  live = refl;
  waits = refl;
  order = refl;
  idle = λ k l is. absurd (none-some l is);
}
has_added segments words (suc n) le = subst (λ (w : World). HasAdded segments words (suc n) w) (sym (added_last (opened segments words) n))
    (one_has segments words n (after (opened segments words) (adds_for n)) (omega (arith, le)) (has_added segments words n (omega (arith, le))))

pub added_sound : (w : World) (n : ℕ) → IsWorld w → IsWorld (after w (adds_for n))
added_sound w zero h = h
added_sound w (suc n) h = added_sound (adds w).world n (adds_kept w h)
