use Rattle.std.specs.Prelude.{◌≡◌, ◌≤◌, ◌<◌, ◌^◌, ℕ, false, List}
use Rattle.dn_word.specs.Gate.{gate_of, gate_word}
use Rattle.dn_word.specs.Regions.{gate_at}
use Rattle.dn_word.specs.declared.packed.gate.Gate.{Gate}
use Rattle.dn_act.specs.Action.{Performs}
use Rattle.dn_act.specs.declared.actions.Action.TheVariants.{Cas}
use Rattle.dn_beside.specs.Pool.{Pool}

-- The exchange of a gate.

-- a gate without the bit
abbrev pub open_gate : ℕ → ℕ → Gate
open_gate stamp len = record { fenced = false; stamp = stamp; len = len }

-- Lane n's exchange finds the gate from which it began, which has no bit; the stamp doesn't fall.
pub record IsExchanged (p : Pool) (n old stamp len : ℕ) (now : List ℕ) : Type 0 where
  pub unfenced : (gate_of old).fenced ≡ false
  pub rises : (gate_of old).stamp ≤ stamp
  pub low : stamp < 2 ^ 31
  pub performs : Performs (Cas (gate_at n) old (gate_word (open_gate stamp len))) old p.words now
