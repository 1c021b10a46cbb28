use Rattle.std.specs.Prelude.{◌≡◌, ◌++◌, ◌∷◌, [], true, List}
use Rattle.dn_hist.specs.Calls.{Bytes, reply_of, map_after}
use Rattle.dn_hist.specs.declared.receipts.Receipt.{Receipt}
use Rattle.dn_model.specs.PoolMap.{HoldsMap}
use Rattle.dn_callers.specs.Callers.{Standing}
use Rattle.dn_outcomes.specs.State.{World}
use Rattle.dn_outcomes.specs.declared.outcomes.CallAnswer.{CallAnswer}
use Rattle.dn_outcomes.specs.declared.outcomes.CallAnswer.TheVariants as answer
use Rattle.dn_outcomes.specs.declared.outcomes.Outcome.{Outcome}
use Rattle.dn_outcomes.specs.declared.outcomes.Outcome.TheVariants as outcome

-- What an event does to the map that the words hold, where they held this one, and these receipts stood.

-- a call is made: it is answered what the plain map answers, and leaves what that leaves
pub record IsEffect (before : List Standing) (now : World) (held : Bytes) : Type 0 where
  pub receipt : Receipt
  pub joins : now.machine.callers.receipts ≡ before ++ (record { receipt = receipt; answered = true }) ∷ []
  pub reply : receipt.reply ≡ reply_of receipt.call held
  pub leaves : HoldsMap now.machine.words (map_after receipt.call held)

-- any other event leaves the map
abbrev pub EffectBy : List Standing → World → Bytes → CallAnswer → Type 0
EffectBy before now held (answer.Made way) = IsEffect before now held
EffectBy before now held (answer.NotOwner look cell) = HoldsMap now.machine.words held
EffectBy before now held (answer.Fenced word) = HoldsMap now.machine.words held
EffectBy before now held (answer.Full counter segments) = HoldsMap now.machine.words held
EffectBy before now held (answer.Worn stamp) = HoldsMap now.machine.words held

abbrev pub Effect : List Standing → World → Bytes → Outcome → Type 0
Effect before now held outcome.Nothing = HoldsMap now.machine.words held
Effect before now held outcome.Acted = HoldsMap now.machine.words held
Effect before now held (outcome.Numbered number) = HoldsMap now.machine.words held
Effect before now held outcome.Busy = HoldsMap now.machine.words held
Effect before now held outcome.Closed = HoldsMap now.machine.words held
Effect before now held (outcome.Answered s number answer given) = EffectBy before now held answer
Effect before now held (outcome.GivenUp s number) = HoldsMap now.machine.words held
Effect before now held (outcome.Ordered answer) = HoldsMap now.machine.words held
Effect before now held outcome.MonitorBusy = HoldsMap now.machine.words held
Effect before now held (outcome.Tended answer) = HoldsMap now.machine.words held
Effect before now held (outcome.Added lane) = HoldsMap now.machine.words held
Effect before now held outcome.LanesFull = HoldsMap now.machine.words held
Effect before now held outcome.NoLane = HoldsMap now.machine.words held
Effect before now held (outcome.Merged turn) = HoldsMap now.machine.words held
Effect before now held (outcome.Fault actor) = HoldsMap now.machine.words held
