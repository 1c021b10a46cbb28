use Rattle.std.proofs.Common.{ℕ, ◌≡◌, Bool, true, false, List, Option, Some, None, refl, subst, arith, if◌then◌else◌}
use Rattle.std.proofs.lemmas.Option.{same_Some, none-some}
use Rattle.dn_act.specs.Action.{words_after, MayPerform}
use Rattle.dn_act.specs.declared.actions.Action.{Action}
use Rattle.dn_model.specs.Regions.{IsLane}
use Rattle.dn_monitor.specs.Monitor.{Monitoring, begun, monitor_next, monitor_turn, monitor_after, is_last}
use Rattle.dn_monitor.specs.declared.orders.Order.{Order}
use Rattle.dn_beside.specs.Pool.{Pool}
use Rattle.dn_beside.specs.Step.{IsStepBy, IsQuiet, by_monitor}
use Rattle.dn_orders.specs.Knowing.{KnowsOrder}
use Rattle.dn_orders.proofs.Lasting.{begins}
use Rattle.dn_orders.proofs.Steps.{step, failed}
use Rattle.dn_beside.proofs.Still.{learning_step, quiet_still}
use Rattle.dn_machine.specs.State.{Machine}
use Rattle.dn_machine.specs.Events.{Monitor, Acts, Fails, Orders, Drops, found, ordered, monitor_does, monitor_fails, of_monitor, happens}
use Rattle.dn_machine.specs.Given.{MayOrder}
use Rattle.dn_machine.specs.Sound.{IsMachineAt}
use Rattle.dn_machine.specs.Kept.{IsKept}
use Rattle.dn_machine.proofs.Others.{mergers_last}
use Rattle.dn_machine.proofs.Rest.{performs, was_done, was_not_done, stays, Rest, rest}

-- What the monitor does to a machine.

-- the machine whose words are these, and whose monitor is at this order, if any
abbrev pub monitored : Machine → List ℕ → Option Monitoring → Machine
monitored m words x = record m { words = words; monitor = x }

-- ---- a step of the monitor
record Monitored (p q : Pool) (words : List ℕ) (o : Option Monitoring) : Type 0 where
  pub now : q.words ≡ words
  pub step : IsStepBy by_monitor p q
  pub quiet : IsQuiet p q
  pub knows : (y : Monitoring) → o ≡ Some y → KnowsOrder q y

monitor_kept : (p q : Pool) (m : Machine) (words : List ℕ) (o : Option Monitoring) → IsMachineAt p m → Monitored p q words o → IsKept p (monitored m words o)
monitor_kept p q m words o h s =
    let r : Rest q m = rest by_monitor p q m h s.step s.quiet refl in record {
      q = q;
      at = record {
        words = s.now;
        whole = s.step.whole;
        actors = record {
          made = h.actors.made;
          numbers = h.actors.numbers;
          loads = h.actors.loads;
          calls = h.actors.calls;
          alone = h.actors.alone;
        };
        know = record {
          lanes = r.lanes;
          mergers = λ n x is.
              let lane : IsLane n = h.actors.numbers n x is in
              mergers_last by_monitor p q m n x h s.step is (λ e. absurd (omega (arith, e, lane.positive)));
          monitor = s.knows;
          unmade = r.unmade;
        };
        room = record { pool = r.size; buckets = omega (arith, h.room.buckets, s.step.bucket_count refl); segments = r.segments };
        receipts = r.receipts;
        callers = h.callers;
      };
      grows = s.step.grows;
    }

-- an order begins or is dropped: the pool stays
pub order_given : (p : Pool) (m : Machine) (o : Option Monitoring) → IsMachineAt p m → ((y : Monitoring) → o ≡ Some y → KnowsOrder p y) → IsKept p (record m { monitor = o })
order_given p m o h knows = monitor_kept p p m m.words o h (record {
  now = h.words;
  step = learning_step by_monitor p p.owners refl h.whole (λ k. omega arith) (λ j d. refl) (λ f. refl);
  quiet = quiet_still p p.owners refl (λ k. refl);
  knows = knows;
})

-- ---- an action
-- the order's last answer ends it
order_after : (q : Pool) (x : Monitoring) (last : Bool) → KnowsOrder q x → (y : Monitoring) → (if last then None else Some x) ≡ Some y → KnowsOrder q y
order_after q x true k y e = absurd (none-some y e)
order_after q x false k y e = subst (λ z. KnowsOrder q z) (same_Some x y e) k

does_next : (p : Pool) (m : Machine) (x : Monitoring) → IsMachineAt p m → m.monitor ≡ Some x → (o : Option Action) → monitor_next x ≡ o → IsKept p (monitor_does m x o)
does_next p m x h is None e = stays p m h
does_next p m x h is (Some action) e =
    let word : ℕ = found m action in
    let words : List ℕ = words_after action m.words in
    let s = step p x action word words h.whole (h.know.monitor x is) e (performs p m action h.words) in
    monitor_kept p s.0 m words (ordered x word) h (record {
      now = s.1.words;
      step = s.1.step;
      quiet = s.1.quiet;
      knows = order_after s.0 (monitor_after x word) (is_last (monitor_turn x word)) s.2;
    })

does : (p : Pool) (m : Machine) → IsMachineAt p m → (o : Option Monitoring) → m.monitor ≡ o → IsKept p (of_monitor m o (λ x. monitor_does m x (monitor_next x)))
does p m h None is = stays p m h
does p m h (Some x) is = does_next p m x h is (monitor_next x) refl

-- ---- one that was done or not done, after which the order is dropped
drops : (p : Pool) (m : Machine) (x : Monitoring) (action : Action) (words : List ℕ) → IsMachineAt p m → m.monitor ≡ Some x → monitor_next x ≡ Some action → MayPerform action p.words words
    → IsKept p (monitored m words None)
drops p m x action words h is e may =
    let s = failed p x action words h.whole (h.know.monitor x is) e may in
    monitor_kept p s.0 m words None h (record { now = s.1.words; step = s.1.step; quiet = s.1.quiet; knows = λ y n. absurd (none-some y n) })

fails_next : (p : Pool) (m : Machine) (x : Monitoring) (done : Bool) → IsMachineAt p m → m.monitor ≡ Some x → (o : Option Action) → monitor_next x ≡ o → IsKept p (monitor_fails m done o)
fails_next p m x done h is None e = stays p m h
fails_next p m x true h is (Some action) e = drops p m x action (words_after action m.words) h is e (was_done p m action h.words)
fails_next p m x false h is (Some action) e = drops p m x action m.words h is e (was_not_done p m action h.words)

fails_at : (p : Pool) (m : Machine) (done : Bool) → IsMachineAt p m → (o : Option Monitoring) → m.monitor ≡ o → IsKept p (of_monitor m o (λ x. monitor_fails m done (monitor_next x)))
fails_at p m done h None is = stays p m h
fails_at p m done h (Some x) is = fails_next p m x done h is (monitor_next x) refl

-- ---- the events
pub monitor_acts : (p : Pool) (m : Machine) → IsMachineAt p m → IsKept p (happens m (Acts Monitor))
monitor_acts p m h = does p m h m.monitor refl

pub monitor_gives_up : (p : Pool) (m : Machine) (done : Bool) → IsMachineAt p m → IsKept p (happens m (Fails Monitor done))
monitor_gives_up p m done h = fails_at p m done h m.monitor refl

pub order_begins : (p : Pool) (m : Machine) (order : Order) (heirs : List ℕ) → IsMachineAt p m → MayOrder m order heirs → IsKept p (happens m (Orders order heirs))
order_begins p m order heirs h may =
    order_given p m (Some (begun order heirs)) h
    (λ y e. subst (λ z. KnowsOrder p z) (same_Some (begun order heirs) y e) (begins p order heirs may.fits may.formatted may.lanes))

pub order_drops : (p : Pool) (m : Machine) → IsMachineAt p m → IsKept p (happens m Drops)
order_drops p m h = order_given p m None h (λ y e. absurd (none-some y e))
