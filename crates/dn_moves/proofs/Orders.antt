use Rattle.std.proofs.Common.{ℕ, ◌≡◌, Bool, true, false, List, Option, Some, None, if◌then◌else◌, refl, sym, ◌∙◌, subst}
use Rattle.std.proofs.lemmas.Option.{none-some}
use Rattle.dn_act.specs.declared.actions.Action.{Action}
use Rattle.dn_monitor.specs.Monitor.{Monitoring, monitor_next, monitor_turn, monitor_after, is_last}
use Rattle.dn_monitor.specs.declared.orders.MonitorTurn.{MonitorTurn}
use Rattle.dn_monitor.specs.declared.orders.MonitorTurn.TheVariants as turn
use Rattle.dn_monitor.specs.declared.orders.Order.{Order}
use Rattle.dn_machine.specs.Events.{found}
use Rattle.dn_outcomes.specs.Does.{does}
use Rattle.dn_outcomes.specs.Orders.{told_by, orders_by, orders_of, monitor, may_order, gives_beside, give}
use Rattle.dn_outcomes.specs.Sound.{IsWorld}
use Rattle.dn_outcomes.specs.State.{World, done}
use Rattle.dn_outcomes.specs.declared.events.Event.{Event}
use Rattle.dn_outcomes.specs.declared.events.Event.TheVariants as event
use Rattle.dn_outcomes.specs.declared.outcomes.Outcome.TheVariants.{NoLane}
use Rattle.dn_moves.specs.Orders.{moves_order, ends_order, OrderAfter}
use Rattle.dn_moves.proofs.Events.{Still, start_at, refresh_at, tells_at, adds_at, same_deeds, step_event, flow_event, merge_event, queue_event, acted_at}

-- An order is under way until its last answer, and moves by the monitor alone.

-- ---- other events leave it
give_leaves : (w : World) (o : Order) (heirs : List ℕ) (x : Monitoring) → w.machine.monitor ≡ Some x → (give w o heirs).world.machine.monitor ≡ w.machine.monitor
give_leaves w o heirs x is = by_may (may_order w o) where
  by_order : (y : Option Monitoring) → w.machine.monitor ≡ y → (gives_beside w o heirs y).world.machine.monitor ≡ w.machine.monitor
  by_order None e = absurd (none-some x (sym e ∙ is))
  by_order (Some y) e = refl

  by_may : (b : Bool) → (if b then gives_beside w o heirs w.machine.monitor else done w NoLane).world.machine.monitor ≡ w.machine.monitor
  by_may true = by_order w.machine.monitor refl
  by_may false = refl

pub order_stays : (w : World) (e : Event) (heirs : List ℕ) (x : Monitoring) → IsWorld w → w.machine.monitor ≡ Some x → moves_order e ≡ false → (does w e heirs).world.machine.monitor ≡ Some x
order_stays w (event.Start s lane call) heirs x h is other = (start_at (Still w) w s lane call (same_deeds w.machine)).order ∙ is
order_stays w (event.Step n) heirs x h is other = (step_event w n heirs h).order ∙ is
order_stays w (event.Flow n index) heirs x h is other = (flow_event w n index heirs h).order ∙ is
order_stays w (event.Merge n) heirs x h is other = (merge_event w n heirs h).order ∙ is
order_stays w event.Monitor heirs x h is other = absurd (cc other)
order_stays w (event.Refresh s) heirs x h is other = (refresh_at (Still w) w s (same_deeds w.machine)).order ∙ is
order_stays w (event.Give o) heirs x h is other = give_leaves w o heirs x is ∙ is
order_stays w event.DropOrder heirs x h is other = absurd (cc other)
order_stays w (event.Queue n task) heirs x h is other = (queue_event w n task heirs).order ∙ is
order_stays w event.Add heirs x h is other = (adds_at (Still w) w (same_deeds w.machine)).order ∙ is
order_stays w (event.Tell s k) heirs x h is other = (tells_at (Still w) w s k (same_deeds w.machine)).order ∙ is

-- ---- and the monitor's event ends it by its last answer
ended_by : (last : Bool) (y : Monitoring) → OrderAfter last (if last then None else Some y)
ended_by true y = refl
ended_by false y = (y, refl)

last_told : (t : MonitorTurn) → ends_order (told_by t) ≡ is_last t
last_told turn.More = refl
last_told (turn.Answered answer) = refl

pub order_ends : (w : World) (x : Monitoring) → w.machine.monitor ≡ Some x → OrderAfter (ends_order (monitor w).outcome) (monitor w).world.machine.monitor
order_ends w x is = by_order w.machine.monitor refl where
  by_action : (y : Monitoring) (o : Option Action) → w.machine.monitor ≡ Some y → monitor_next y ≡ o → OrderAfter (ends_order (orders_by w y o).outcome) (orders_by w y o).world.machine.monitor
  by_action y None there e = (y, there)
  by_action y (Some action) there e =
      let word : ℕ = found w.machine action in
      let last : Bool = is_last (monitor_turn y word) in
      subst (λ b. OrderAfter b (orders_by w y (Some action)).world.machine.monitor) (sym (last_told (monitor_turn y word)))
      (acted_at (λ now order. OrderAfter last order) w y action there e (ended_by last (monitor_after y word)))

  by_order : (o : Option Monitoring) → w.machine.monitor ≡ o → OrderAfter (ends_order (orders_of w o).outcome) (orders_of w o).world.machine.monitor
  by_order None there = absurd (none-some x (sym there ∙ is))
  by_order (Some y) there = by_action y (monitor_next y) there refl
