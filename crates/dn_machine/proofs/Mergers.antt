use Rattle.std.proofs.Common.{ℕ, ◌+◌, ◌≤◌, ◌≡◌, Bool, true, false, List, Option, Some, None, refl, sym, subst, arith}
use Rattle.std.proofs.lemmas.Option.{same_Some, none-some}
use Rattle.dn_act.specs.Action.{words_after, MayPerform}
use Rattle.dn_act.specs.declared.actions.Action.{Action}
use Rattle.dn_model.specs.Regions.{IsLane}
use Rattle.dn_store.specs.State.{with_at}
use Rattle.dn_store.proofs.At.{at_by}
use Rattle.dn_merge.specs.Merge.{Merging, started, merge_next, merge_after}
use Rattle.dn_beside.specs.Pool.{Pool, store_in}
use Rattle.dn_beside.specs.Step.{IsStepBy, by_merger}
use Rattle.dn_turns.specs.Claims.{asking}
use Rattle.dn_turns.specs.Knows.{IsMergerAt}
use Rattle.dn_turns.specs.Steps.{IsMergerStep, MergerStepped}
use Rattle.dn_lanes.specs.Unmade.{IsUnmade}
use Rattle.dn_turns.proofs.Room.{room_steps, room_fails}
use Rattle.dn_turns.proofs.Steps.{IsTurn, merger_steps, merger_fails}
use Rattle.dn_machine.specs.State.{Machine}
use Rattle.dn_machine.specs.Events.{Merger, Acts, Fails, Renews, found, acted, acted_if, with_merger, of_merger, happens}
use Rattle.dn_machine.specs.Sound.{AreActors, KnowPool, IsMachineAt}
use Rattle.dn_machine.specs.Kept.{IsKept}
use Rattle.dn_machine.proofs.Others.{mergers_last, monitor_lasts}
use Rattle.dn_machine.proofs.Rest.{performs, was_done, was_not_done, stays, Rest, rest}

-- What mergers do to a machine.

-- the machine whose words are these, and whose merger n is at x
abbrev pub merged : Machine → List ℕ → ℕ → Merging → Machine
merged m words n x = with_merger (record m { words = words }) n (Some x)

-- merger n of it
pub record HasMerger (m : Machine) (n : ℕ) (x : Merging) : Type 0 where
  pub is : m.mergers n ≡ Some x
  pub lane : IsLane n

-- ---- who acts
made_still : (m : Machine) (n : ℕ) (y : Merging) (k : ℕ) → (z : Merging) × (m.mergers k ≡ Some z) → (z : Merging) × (with_at m.mergers n (Some y) k ≡ Some z)
made_still m n y k made = at_by (λ (v : Option Merging). (z : Merging) × (v ≡ Some z)) m.mergers n (Some y) k (λ e. (y, refl)) (λ d. made)

actors_by : (m : Machine) (words : List ℕ) (n : ℕ) (x y : Merging) → HasMerger m n x → AreActors m → AreActors (merged m words n y)
actors_by m words n x y by h = record {
  made = λ k l e. made_still m n y k (h.made k l e);
  numbers = λ k z. at_by (λ (v : Option Merging). v ≡ Some z → IsLane k) m.mergers n (Some y) k
      (λ e f. let P : ℕ → Type 0 = λ i. IsLane i in subst P (sym e) by.lane)
      (λ d f. h.numbers k z f);
  loads = h.loads;
  calls = h.calls;
  alone = h.alone;
}

-- ---- what they know
its_own : (q : Pool) (n k : ℕ) (y z : Merging) → IsMergerAt n y q → k ≡ n → Some y ≡ Some z → IsMergerAt k z q
its_own q n k y z at e f =
    let P : ℕ → Type 0 = λ i. IsMergerAt i z q in
    let Q : Merging → Type 0 = λ v. IsMergerAt n v q in subst P (sym e) (subst Q (same_Some y z f) at)

know_by : (p q : Pool) (m : Machine) (words : List ℕ) (n : ℕ) (y : Merging) → IsMachineAt p m → IsStepBy (by_merger n) p q → Rest q m → IsMergerAt n y q → KnowPool q (merged m words n y)
know_by p q m words n y h s r at = record {
  lanes = r.lanes;
  mergers = λ k z. at_by (λ (v : Option Merging). v ≡ Some z → IsMergerAt k z q) m.mergers n (Some y) k
      (λ e f. its_own q n k y z at e f)
      (λ d f. mergers_last (by_merger n) p q m k z h s f d);
  monitor = λ x is. monitor_lasts (by_merger n) p q m x h s is refl;
  unmade = λ k lane. at_by (λ (v : Option Merging). v ≡ None → IsUnmade q k) m.mergers n (Some y) k
      (λ e f. absurd (none-some y (sym f)))
      (λ d f. r.unmade k lane f);
}

-- ---- a step of merger n, which is at y then
merger_kept : (p : Pool) (m : Machine) (words : List ℕ) (n : ℕ) (x y : Merging) → IsMachineAt p m → HasMerger m n x → (s : IsMergerStep n x p words) → IsMergerAt n y s.q
    → (store_in s.q).bucket_count + asking (with_at m.mergers n (Some y)) ≤ 4159 → IsKept p (merged m words n y)
merger_kept p m words n x y h by s at few =
    let r : Rest s.q m = rest (by_merger n) p s.q m h s.step s.quiet refl in record {
      q = s.q;
      at = record {
        words = s.words;
        whole = s.step.whole;
        actors = actors_by m words n x y by h.actors;
        know = know_by p s.q m words n y h s.step r at;
        room = record { pool = r.size; buckets = few; segments = r.segments };
        receipts = r.receipts;
        callers = h.callers;
      };
      grows = s.step.grows;
    }

-- ---- what it rests on
its_turn : (p : Pool) (m : Machine) (n : ℕ) → IsMachineAt p m → IsLane n → IsTurn n p
its_turn p m n h lane = record { whole = h.whole; lane = lane; few = omega (arith, h.room.buckets) }

-- an action
does : (p : Pool) (m : Machine) (n : ℕ) → IsMachineAt p m → (o : Option Merging) → m.mergers n ≡ o
    → IsKept p (of_merger m o (λ x. with_merger (acted m (merge_next x)) n (Some (merge_after x (found m (merge_next x))))))
does p m n h None is = stays p m h
does p m n h (Some x) is =
    let lane : IsLane n = h.actors.numbers n x is in
    let action : Action = merge_next x in
    let word : ℕ = found m action in
    let s : MergerStepped n x p word (words_after action m.words) = merger_steps n x p word (words_after action m.words) (its_turn p m n h lane) (h.know.mergers n x is) (performs p m action h.words) in
    merger_kept p m (words_after action m.words) n x (merge_after x word) h (record { is = is; lane = lane }) s.left s.knows
    (room_steps n x p word (words_after action m.words) m.mergers s lane is h.room.buckets)

-- an action that was done or not done, after which the merger begins anew
begins_anew : (p : Pool) (m : Machine) (n : ℕ) (x : Merging) (words : List ℕ) → IsMachineAt p m → m.mergers n ≡ Some x → MayPerform (merge_next x) p.words words → IsKept p (merged m words n (started n))
begins_anew p m n x words h is may =
    let lane : IsLane n = h.actors.numbers n x is in
    let s : IsMergerStep n x p words = merger_fails n x p words (its_turn p m n h lane) (h.know.mergers n x is) may in
    merger_kept p m words n x (started n) h (record { is = is; lane = lane }) s (record { number = refl; knows = record {} })
    (room_fails n x p words m.mergers s lane is h.room.buckets)

gives_up : (p : Pool) (m : Machine) (n : ℕ) (done : Bool) → IsMachineAt p m → (o : Option Merging) → m.mergers n ≡ o
    → IsKept p (of_merger m o (λ x. with_merger (acted_if m (merge_next x) done) n (Some (started n))))
gives_up p m n done h None is = stays p m h
gives_up p m n true h (Some x) is = begins_anew p m n x (words_after (merge_next x) m.words) h is (was_done p m (merge_next x) h.words)
gives_up p m n false h (Some x) is = begins_anew p m n x m.words h is (was_not_done p m (merge_next x) h.words)

-- ---- the events
pub merger_acts : (p : Pool) (m : Machine) (n : ℕ) → IsMachineAt p m → IsKept p (happens m (Acts (Merger n)))
merger_acts p m n h = does p m n h (m.mergers n) refl

pub merger_gives_up : (p : Pool) (m : Machine) (n : ℕ) (done : Bool) → IsMachineAt p m → IsKept p (happens m (Fails (Merger n) done))
merger_gives_up p m n done h = gives_up p m n done h (m.mergers n) refl

-- to begin anew is to fail without an action
pub merger_renews : (p : Pool) (m : Machine) (n : ℕ) → IsMachineAt p m → IsKept p (happens m (Renews n))
merger_renews p m n h = gives_up p m n false h (m.mergers n) refl
