use Rattle.std.proofs.Common.{ℕ, ◌≤◌, List, None, refl, arith}
use Rattle.std.proofs.lemmas.Option.{none-some}
use Rattle.dn_store.specs.Fresh.{IsFreshPool}
use Rattle.dn_turns.proofs.Claims.{asking_most}
use Rattle.dn_turns.proofs.Sums.{sum_most}
use Rattle.dn_receipts.specs.Fresh.{fresh_pool}
use Rattle.dn_receipts.proofs.Opened.{fresh_whole, no_receipts}
use Rattle.dn_callers.proofs.Keeping.{fresh}
use Rattle.dn_machine.specs.State.{resting}
use Rattle.dn_machine.specs.Sound.{claims, IsSound}
use Rattle.dn_lanes.proofs.Unmade.{unmade_fresh}

-- The words that an opening leaves, before anybody acts.

pub opened : (words : List ℕ) (pool lanes : ℕ) (owners : ℕ → ℕ) → IsFreshPool words pool lanes owners → pool ≤ 8192 → IsSound pool (resting words)
opened words pool lanes owners h most = record {
  p = fresh_pool words pool lanes owners;
  at = record {
    words = refl;
    whole = fresh_whole words pool lanes owners h;
    actors = record {
      made = λ n l e. absurd (none-some l e);
      numbers = λ n x e. absurd (none-some x e);
      loads = λ s slot e. absurd (none-some slot e);
      calls = λ n l e. absurd (none-some l e);
      alone = λ n k s l x e. absurd (none-some l e);
    };
    know = record {
      lanes = λ n l e. absurd (none-some l e);
      mergers = λ n x e. absurd (none-some x e);
      monitor = λ x e. absurd (none-some x e);
      unmade = λ n lane none. unmade_fresh (fresh_pool words pool lanes owners) n pool lanes owners h refl;
    };
    room = record {
      pool = most;
      buckets = omega (arith, asking_most (λ n. None));
      segments = omega (arith, sum_most 63 (λ n. claims None) (λ i. omega arith));
    };
    receipts = no_receipts words pool lanes owners;
    callers = fresh;
  };
  pool = refl;
}
