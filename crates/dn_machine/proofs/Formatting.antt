use Rattle.std.proofs.Common.{ℕ, ◌≤◌, ◌≡◌, List, length, Some, ◌∙◌, arith, slice_set}
use Rattle.dn_word.specs.Format.{format_word}
use Rattle.dn_word.specs.Regions.{format_at}
use Rattle.dn_act.specs.Words.{pool_size, IsZeros}
use Rattle.dn_act.proofs.Words.{word_at-set_same, word_at-set_other, length-set}
use Rattle.dn_store.specs.Fresh.{IsFreshPool}
use Rattle.dn_monitor.specs.Monitor.{begun}
use Rattle.dn_monitor.specs.declared.orders.Order.TheVariants.{Format}
use Rattle.dn_machine.specs.State.{resting}
use Rattle.dn_machine.specs.Events.{Monitor, Acts, happens}
use Rattle.dn_machine.specs.Sound.{IsSound}
use Rattle.dn_machine.proofs.Opening.{opened}

-- A pool of zeros is formatted, and nobody owns a slot.

abbrev pub formatted : ℕ → List ℕ → List ℕ
formatted segments words = slice_set words format_at (format_word (record { segments = segments; number = 1 }))

fresh_words : (words : List ℕ) (segments : ℕ) → IsZeros words → pool_size segments ≤ length words → IsFreshPool (formatted segments words) segments 1 (λ t. 0)
fresh_words words segments zeros size =
    let word : ℕ = format_word (record { segments = segments; number = 1 }) in
    record {
      some = omega arith;
      few = omega arith;
      size = omega (arith, size, length-set words format_at word);
      format = word_at-set_same words format_at word (omega (arith, size));
      known = λ t lt. omega arith;
      deeds = λ t lt. word_at-set_other words format_at _ word (λ e. absurd (omega (arith, e))) ∙ zeros.each _;
      zeros = λ at d low. word_at-set_other words format_at at word d ∙ zeros.each at;
    }

pub formats : (words : List ℕ) (segments : ℕ) (heirs : List ℕ) → IsZeros words → pool_size segments ≤ length words → segments ≤ 8192
    → IsSound segments (happens (record (resting words) { monitor = Some (begun (Format segments) heirs) }) (Acts Monitor))
formats words segments heirs zeros size most = opened (formatted segments words) segments 1 (λ t. 0) (fresh_words words segments zeros size) most
