use Rattle.std.proofs.Common.{ℕ, ◌≡◌, List, None, refl, ◌∙◌, sym, arith}
use Rattle.std.proofs.lemmas.List.{set-get_or}
use Rattle.dn_act.specs.Action.{Performs}
use Rattle.dn_act.specs.declared.actions.Action.TheVariants.{Load}
use Rattle.dn_plan.specs.declared.results.Ending.TheVariants.{NotOwner, Fenced, Worn}
use Rattle.dn_ask.specs.declared.asks.End.TheVariants as end
use Rattle.dn_lane.specs.Ends.{turn_by}
use Rattle.dn_lane.specs.declared.asked.Asked.{Asked}
use Rattle.dn_lane.specs.declared.asked.Asked.TheVariants as asked
use Rattle.dn_lane.specs.State.{LaneState}
use Rattle.dn_beside.specs.Pool.{Pool, IsWhole}
use Rattle.dn_beside.specs.Step.{IsStepBy, IsQuiet, by_lane}
use Rattle.dn_beside.proofs.Still.{learning_step, quiet_still}
use Rattle.dn_lanes.specs.Lane.{IsLaneAt}
use Rattle.dn_lanes.specs.Stepped.{receipt_by}
use Rattle.dn_lanes.proofs.Ends.{HasDone}

-- An action of a lane that only loads.

pub loads : (at word : ℕ) (words now : List ℕ) → Performs (Load at) word words now → now ≡ words
loads at word words now a = a.change ∙ set-get_or words at 0

-- ---- the pool is the same after it
pub same_step : (n : ℕ) (p : Pool) → IsWhole p → IsStepBy (by_lane n) p p
same_step n p h = learning_step (by_lane n) p p.owners refl h (λ k. omega arith) (λ m d. refl) (λ f. refl)

pub same_quiet : (p : Pool) → IsQuiet p p
same_quiet p = quiet_still p p.owners refl (λ k. refl)

pub done_same : (p : Pool) (n : ℕ) (l : LaneState) (now : List ℕ) → IsWhole p → now ≡ p.words → IsLaneAt n l p → HasDone p n now l.base p
done_same p n l now h same at = record { words = sym same; by = same_step n p h; log = at.log; learns = at.learns; fetch = at.fetch }

-- ---- a call that ends so has no receipt
pub not_owner_untold : (a : Asked) (look : ℕ) → receipt_by (turn_by a (end.Call (NotOwner look))) ≡ None
not_owner_untold asked.Nothing look = refl
not_owner_untold (asked.Call call view room) look = refl
not_owner_untold asked.Task look = refl

pub fenced_untold : (a : Asked) (gate : ℕ) → receipt_by (turn_by a (end.Call (Fenced gate))) ≡ None
fenced_untold asked.Nothing gate = refl
fenced_untold (asked.Call call view room) gate = refl
fenced_untold asked.Task gate = refl

pub worn_untold : (a : Asked) (stamp : ℕ) → receipt_by (turn_by a (end.Call (Worn stamp))) ≡ None
worn_untold asked.Nothing stamp = refl
worn_untold (asked.Call call view room) stamp = refl
worn_untold asked.Task stamp = refl
