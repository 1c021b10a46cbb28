use Rattle.std.proofs.Common.{ℕ, ◌≡◌, ◌≤◌, ◌<◌, ◌+◌, ◌++◌, ◌∷◌, [], nat_lt, length, Bool, true, false, List, Option, Some, None, Bor, All, refl, sym, ◌∙◌, ap, arith}
use Rattle.std.specs.Option.{is_some, option_copied}
use Rattle.std.specs.Prelude.{IsSome}
use Rattle.dn_monitor.specs.Heirs.{AreHeirs, no_heirs}
use Rattle.dn_monitor.specs.Monitor.{Monitoring}
use Rattle.dn_monitor.specs.declared.orders.Order.{Order}
use Rattle.dn_monitor.specs.declared.orders.Order.TheVariants as order
use Rattle.dn_tend.specs.declared.tasks.Task.{Task}
use Rattle.dn_lane.specs.State.{LaneState}
use Rattle.std.proofs.lemmas.Bool.{lt-ltb, le-ltb}
use Rattle.dn_word.specs.declared.positions.Position.{Position}
use Rattle.dn_route.specs.CallersOrder.{Told, told_now}
use Rattle.dn_callers.specs.Callers.{Standing}
use Rattle.dn_machine.specs.Events.{Orders, Adds, Tells}
use Rattle.dn_cluster.specs.Does.{Does, IsTold}
use Rattle.dn_cluster.specs.Machine.{session_at, closed_in}
use Rattle.dn_cluster.specs.State.{ClusterState, numbered}
use Rattle.dn_waiting.specs.Turns.{tasked}
use Rattle.dn_outcomes.specs.Does.{queues, adds, adds_lane, tells, tells_unless}
use Rattle.dn_outcomes.specs.Orders.{may_order, gives_beside, give}
use Rattle.dn_outcomes.specs.Sound.{IsTake, AreLive}
use Rattle.dn_outcomes.specs.State.{World, done, with_event, with_waiting}
use Rattle.dn_outcomes.specs.declared.outcomes.Outcome.TheVariants.{Nothing, Acted, Added, LanesFull, MonitorBusy, NoLane}
use Rattle.dn_world.specs.Comes.{Moves, bare}
use Rattle.dn_world.specs.State.{CrewState, world_of}
use Rattle.dn_world.proofs.Changes.{same_world, no_receipt, where_true, where_false}

-- The monitor is given an order, and a lane a task.

pub may_not : (w : World) (o : Order) (heirs : List ℕ) → may_order w o ≡ false → give w o heirs ≡ done w NoLane
may_not w o heirs e = where_false (may_order w o) (gives_beside w o heirs w.machine.monitor) (done w NoLane) e

pub may_well : (w : World) (o : Order) (heirs : List ℕ) → may_order w o ≡ true → give w o heirs ≡ gives_beside w o heirs w.machine.monitor
may_well w o heirs e = where_true (may_order w o) (gives_beside w o heirs w.machine.monitor) (done w NoLane) e

beside : (w : World) (o : Order) (heirs : List ℕ) (m : Option Monitoring) → is_some m ≡ true → gives_beside w o heirs m ≡ done w MonitorBusy
beside w o heirs None e = absurd (cc e)
beside w o heirs (Some x) e = refl

alone : (w : World) (o : Order) (heirs : List ℕ) (m : Option Monitoring) → is_some m ≡ false → gives_beside w o heirs m ≡ done (with_event w (Orders o heirs)) Acted
alone w o heirs None e = refl
alone w o heirs (Some x) e = absurd (cc e)

pub busy : (w : World) (o : Order) (heirs : List ℕ) → may_order w o ≡ true → is_some w.machine.monitor ≡ true → give w o heirs ≡ done w MonitorBusy
busy w o heirs may e = may_well w o heirs may ∙ beside w o heirs w.machine.monitor e

pub given : (w : World) (o : Order) (heirs : List ℕ) → may_order w o ≡ true → is_some w.machine.monitor ≡ false → give w o heirs ≡ done (with_event w (Orders o heirs)) Acted
given w o heirs may e = may_well w o heirs may ∙ alone w o heirs w.machine.monitor e

pub copied_order : (o : Option (Bor Monitoring)) → is_some (option_copied o) ≡ is_some o
copied_order None = refl
copied_order (Some x) = refl

pub some_now : (o : Option Monitoring) → IsSome o → (x : Monitoring) × (o ≡ Some x)
some_now None e = absurd (cc e)
some_now (Some x) e = (x, refl)

pub is_take : (live : List ℕ) (o : Order) (heirs : List ℕ) → ((segments : ℕ) → o ≡ order.Format segments → ⊥) → ((lane : ℕ) → o ≡ order.Takeover lane → AreHeirs live heirs)
    → (((lane : ℕ) → o ≡ order.Takeover lane → ⊥) → heirs ≡ no_heirs) → IsTake live o heirs
is_take live (order.Format segments) heirs h k none = h segments refl
is_take live (order.Look slot) heirs h k none = none (λ lane e. absurd (cc e))
is_take live (order.Move slot to) heirs h k none = none (λ lane e. absurd (cc e))
is_take live (order.Fence at) heirs h k none = none (λ lane e. absurd (cc e))
is_take live (order.Takeover lane) heirs h k none = k lane refl

pub live_lanes : (made : ℕ) (live : List ℕ) → made ≤ 63 → AreLive made live → All (λ (n : ℕ). (1 ≤ n) × (n < 64)) live
live_lanes made live most h k d lt = (let both = h.lanes k d lt in (both.0, omega (arith, both.1, most)))

-- ---- a task arrives
pub queued_stopped : (w : World) (n : ℕ) (t : Task) (o : Option LaneState) → o ≡ None → queues w n t o ≡ done w Nothing
queued_stopped w n t o e = ap (λ (p : Option LaneState). queues w n t p) e

pub queued_runs : (w : World) (n : ℕ) (t : Task) (o : Option LaneState) (l : LaneState) → o ≡ Some l → queues w n t o ≡ done (with_waiting w (tasked w.waiting n t)) Acted
queued_runs w n t o l e = ap (λ (p : Option LaneState). queues w n t p) e

-- ---- a lane is added
pub record IsAdded (x y : CrewState) (n : ℕ) : Type 0 where
  pub number : n ≡ length x.cluster.nodes + 1
  pub does : Does x.cluster y.cluster (Adds n x.cluster.segments)
  pub segments : y.cluster.segments ≡ x.cluster.segments
  pub lanes : length y.cluster.nodes ≡ length x.cluster.nodes + 1
  pub room : length x.cluster.nodes < 63
  pub waiting : y.waiting ≡ x.waiting
  pub live : y.live ≡ x.live ++ n ∷ []

adds_so : (x y : CrewState) (n : ℕ) → IsAdded x y n → (words : List ℕ) (told : List Told) (receipts : List Standing)
    → world_of words y told receipts ≡ record (with_event (world_of words x told receipts) (Adds n x.cluster.segments)) { made = n; live = x.live ++ n ∷ [] }
adds_so x y n h words told receipts = same_world _ _ (record {
  segments = h.segments;
  made = h.lanes ∙ sym h.number;
  machine = h.does.is words told receipts;
  waiting = h.waiting;
  live = h.live;
})

pub added : (words : List ℕ) (x y : CrewState) (n : ℕ) → IsAdded x y n → Moves words x words y (bare (Added n)) adds
added words x y n h = record {
  is = λ told receipts.
      let w : World = world_of words x told receipts in
      no_receipt words x words y (Added n) adds told receipts told
      (where_true (nat_lt (length x.cluster.nodes) 63) (adds_lane w (length x.cluster.nodes + 1)) (done w LanesFull) (lt-ltb (length x.cluster.nodes) 63 h.room)
      ∙ ap (λ (k : ℕ). adds_lane w k) (sym h.number) ∙ ap (λ (z : World). done z (Added n)) (sym (adds_so x y n h words told receipts)));
}

pub added_none : (w : World) → w.made ≡ 63 → adds w ≡ done w LanesFull
added_none w e = where_false (nat_lt w.made 63) (adds_lane w (w.made + 1)) (done w LanesFull) (le-ltb w.made 63 (omega (arith, e)))

-- ---- a session is told a position
pub told_so : (words : List ℕ) (x : CrewState) (k : ClusterState) (s t : ℕ) (position : Position) → IsTold x.cluster k t position → k.segments ≡ x.cluster.segments → length k.nodes ≡ length x.cluster.nodes
    → position ≡ (session_at x.cluster s).last → closed_in (numbered x.cluster.clients t) ≡ false → Moves words x words (record x { cluster = k }) (bare Acted) (λ w. tells w s t)
told_so words x k s t position h segments lanes at unclosed = record {
  is = λ told receipts.
      let w : World = world_of words x told receipts in
      let heard : List Told = told ++ told_now (session_at x.cluster t) position ∷ [] in
      let e : world_of words (record x { cluster = k }) heard receipts ≡ with_event w (Tells t position) = same_world _ _ (record {
        segments = segments;
        made = lanes;
        machine = h.is words told receipts;
        waiting = refl;
        live = refl;
      }) in
      no_receipt words x words (record x { cluster = k }) Acted (λ z. tells z s t) told receipts heard
      (ap (λ (b : Bool). tells_unless w s t b) unclosed ∙ ap (λ (p : Position). done (with_event w (Tells t p)) Acted) (sym at) ∙ ap (λ (z : World). done z Acted) (sym e));
}

pub told_none : (w : World) (s t : ℕ) → w.machine.callers.closed t ≡ true → tells w s t ≡ done w Acted
told_none w s t e = ap (λ (b : Bool). tells_unless w s t b) e
