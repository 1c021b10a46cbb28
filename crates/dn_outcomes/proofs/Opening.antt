use Rattle.std.proofs.Common.{ℕ, ◌≡◌, inl, inr, List, [], None, Contains, get_or, replicate, length, refl, sym, ◌∙◌, ap, arith}
use Rattle.std.proofs.lemmas.Bool.{cases_lt}
use Rattle.std.proofs.lemmas.List.{get_or-replicate, get_or_past, length-replicate}
use Rattle.std.proofs.lemmas.Option.{none-some}
use Rattle.dn_machine.specs.Sound.{IsSound}
use Rattle.dn_machine.specs.State.{resting}
use Rattle.dn_waiting.specs.Queues.{AtLane, idle}
use Rattle.dn_waiting.specs.State.{nothing_waits, call_of, at_lane}
use Rattle.dn_waiting.proofs.Changes.{nothing_sound}
use Rattle.dn_outcomes.specs.Sound.{load_of, IsWorld}
use Rattle.dn_outcomes.specs.State.{opened}

-- The first world is sound.

reads_only : {A : Type 0} (n k : ℕ) (a : A) → get_or (replicate n a) k a ≡ a
reads_only n k a = elim (cases_lt k n) [
  | inl lt ↦ get_or-replicate n k a a lt
  | inr le ↦ get_or_past (replicate n a) k a (omega (arith, le, length-replicate n a))
]

no_call : (s : ℕ) → call_of nothing_waits s ≡ None
unfolding nothing_waits
no_call s = reads_only 1001 s None

idle_lane : (n : ℕ) → at_lane nothing_waits n ≡ idle
unfolding nothing_waits
idle_lane n = reads_only 64 n idle

none_in : {A : Type 0} (x : A) (xs : List A) → xs ≡ [] → Contains xs x → ⊥
none_in x xs e has = absurd (omega (arith, has.1, ap length e))

pub opening : (segments : ℕ) (words : List ℕ) → IsSound segments (resting words) → IsWorld (opened segments words)
opening segments words h = record {
  machine = h;
  waiting = nothing_sound;
  calls = record {
    callers = λ s i. record { hints = refl; stamp = omega arith };
    calls = λ s x i is. absurd (none-some x (sym (no_call s) ∙ is));
    loads_are = λ s i. ap load_of (sym (no_call s));
    queued = λ n view lane has. absurd (none_in view (at_lane nothing_waits n).queue (ap (λ (y : AtLane). y.queue) (idle_lane n)) has);
    tasks = λ n t lane has. absurd (none_in t (at_lane nothing_waits n).tasks (ap (λ (y : AtLane). y.tasks) (idle_lane n)) has);
  };
  asked = record {
    begun = λ n lane. ap (λ (y : AtLane). y.begun) (idle_lane n);
    calls = λ n l lane is. absurd (none-some l is);
    plans = λ n l lane is. absurd (none-some l is);
  };
  made = record {
    most = omega arith;
    yes_made = λ n one most. absurd (omega (arith, one, most));
    not_made = λ n above. refl;
  };
  live = record {
    rising = λ k lt. absurd (omega (arith, lt));
    lanes = λ k d lt. absurd (omega (arith, lt));
  };
}
