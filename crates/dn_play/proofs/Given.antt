use Rattle.std.proofs.Common.{ℕ, ◌≡◌, ◌<◌, ◌^◌, ◌+◌, Bool, true, false, List, Option, Some, None, if◌then◌else◌, Result, Ok, Err, IfOk, IfErr, OnOk, refl, sym, ◌∙◌, ap, subst, arith}
use Rattle.std.proofs.lemmas.Option.{none-some}
use Rattle.dn_callers.specs.Sessions.{IsSession}
use Rattle.dn_monitor.specs.Heirs.{no_heirs}
use Rattle.dn_monitor.specs.Monitor.{Monitoring}
use Rattle.dn_monitor.specs.declared.orders.Order.{Order}
use Rattle.dn_monitor.specs.declared.orders.Order.TheVariants as order
use Rattle.dn_outcomes.specs.Does.{does}
use Rattle.dn_outcomes.specs.Orders.{may_order, gives_beside, give}
use Rattle.dn_outcomes.specs.Sound.{IsWorld, IsTake, TakesSo, MayHappen}
use Rattle.dn_outcomes.specs.State.{World, Done, done}
use Rattle.dn_outcomes.specs.declared.events.Event.{Event}
use Rattle.dn_outcomes.specs.declared.events.Event.TheVariants as event
use Rattle.dn_outcomes.specs.declared.outcomes.Outcome.{Outcome}
use Rattle.dn_outcomes.specs.declared.outcomes.Outcome.TheVariants as outcome
use Rattle.dn_route.specs.CallersOrder.{Told}
use Rattle.dn_script.specs.declared.scripts.Line.{Line}
use Rattle.dn_world.specs.Comes.{OnDone, CountsFault, has_failed}
use Rattle.dn_world.specs.Happens.{Happens, CanBeSound}
use Rattle.dn_world.specs.State.{WorldState, world_of}
use Rattle.dn_hist.specs.declared.receipts.Receipt.{Receipt}
use Rattle.dn_run.specs.Counts.{is_of_get}
use Rattle.dn_run.specs.Happening.{happening, receipt_if, makes_call, refuses, refuses_load}
use Rattle.dn_run.specs.Run.{Run}
use Rattle.dn_run.specs.declared.counts.Counts.{Counts}
use Rattle.dn_play.specs.Tally.{added}
use Rattle.dn_play.specs.At.{IsAt, IsCounted, IsGiven, Gives, CountsStop, is_move, is_plain, loads_by, refused_load, refused_by}
use Rattle.dn_play.specs.declared.stops.Stop.{Stop}
use Rattle.dn_play.specs.declared.stops.Stop.TheVariants.{Pool}
use Rattle.dn_play.specs.declared.players.Player.{Player}

-- A player's world does an event of the run.

give_heirs : (w : World) (o : Order) (heirs : List ℕ) → IsTake w.live o heirs → is_move o ≡ true → heirs ≡ no_heirs
give_heirs w (order.Format segments) heirs take move = absurd (cc)
give_heirs w (order.Look slot) heirs take move = take
give_heirs w (order.Move slot to) heirs take move = take
give_heirs w (order.Fence lane) heirs take move = take
give_heirs w (order.Takeover lane) heirs take move = absurd (cc)

move_heirs : (w : World) (o : Order) (heirs : List ℕ) → TakesSo w o heirs → is_move o ≡ true → give w o heirs ≡ give w o no_heirs
move_heirs w o heirs takes move = by_may (may_order w o) refl where
  by_order : may_order w o ≡ true → (x : Option Monitoring) → w.machine.monitor ≡ x → gives_beside w o heirs x ≡ gives_beside w o no_heirs x
  by_order may None e = ap (λ (hs : List ℕ). gives_beside w o hs None) (give_heirs w o heirs (takes may e) move)
  by_order may (Some x) e = refl

  by_may : (b : Bool) → may_order w o ≡ b → (if b then gives_beside w o heirs w.machine.monitor else done w outcome.NoLane) ≡ (if b then gives_beside w o no_heirs w.machine.monitor else done w outcome.NoLane)
  by_may true e = by_order e w.machine.monitor refl
  by_may false e = refl

plain_heirs : (w : World) (e : Event) (heirs : List ℕ) → is_plain e ≡ true → MayHappen w e heirs → does w e heirs ≡ does w e no_heirs
plain_heirs w (event.Start s lane call) heirs plain may = refl
plain_heirs w (event.Step n) heirs plain may = refl
plain_heirs w (event.Flow n index) heirs plain may = refl
plain_heirs w (event.Merge n) heirs plain may = refl
plain_heirs w event.Monitor heirs plain may = refl
plain_heirs w (event.Refresh s) heirs plain may = refl
plain_heirs w (event.Give o) heirs plain may = move_heirs w o heirs may.1 plain
plain_heirs w event.DropOrder heirs plain may = refl
plain_heirs w (event.Queue n t) heirs plain may = refl
plain_heirs w event.Add heirs plain may = refl
plain_heirs w (event.Tell s t) heirs plain may = refl

-- some told positions make the world sound
pub at_sound : (w : World) (lines : List Line) (words : List ℕ) (p : Player) (out : List ℕ) (r : Run) → IsAt w lines words p out r → CanBeSound words p.world
at_sound w lines words p out r at = record { told = r.world.machine.callers.told; sound = subst IsWorld (sym at.world) at.going.sound }

-- what the player counts by its world is what the run counts
refused_same : (w : World) (e : Event) (o : Outcome) → refused_by (loads_by e) w.waiting o ≡ refuses w e o
refused_same w e outcome.Nothing = refl
refused_same w e outcome.Acted = by e where
  by : (x : Event) → refused_load (loads_by x) w.waiting ≡ refuses_load w x
  by (event.Start s lane call) = refl
  by (event.Step n) = refl
  by (event.Flow n index) = refl
  by (event.Merge n) = refl
  by event.Monitor = refl
  by (event.Refresh s) = refl
  by (event.Give order) = refl
  by event.DropOrder = refl
  by (event.Queue n t) = refl
  by event.Add = refl
  by (event.Tell s t) = refl
refused_same w e (outcome.Numbered number) = refl
refused_same w e outcome.Busy = refl
refused_same w e outcome.Closed = refl
refused_same w e (outcome.Answered s number answer given) = refl
refused_same w e (outcome.GivenUp s number) = refl
refused_same w e (outcome.Ordered answer) = refl
refused_same w e outcome.MonitorBusy = refl
refused_same w e (outcome.Tended answer) = refl
refused_same w e (outcome.Added lane) = refl
refused_same w e outcome.LanesFull = refl
refused_same w e outcome.NoLane = refl
refused_same w e (outcome.Merged turn) = refl
refused_same w e (outcome.Fault actor) = refl

counts_so : (e : Event) (d : Done) (now : List ℕ) (v : WorldState) (o : Outcome) (c : Counts) (told : List Told) → world_of now v.crew told v.history ≡ d.world → o ≡ d.outcome
    → added c o (is_of_get (receipt_if (makes_call o) v.history)) (refused_by (loads_by e) v.crew.waiting o) ≡ added c o (is_of_get (happening e d).receipt) (happening e d).refused
counts_so e d now v o c told is same =
    let receipt : receipt_if (makes_call o) v.history ≡ (happening e d).receipt =
    ap (λ (w : World). receipt_if (makes_call o) w.machine.callers.receipts) is ∙ ap (λ (x : Outcome). receipt_if (makes_call x) d.world.machine.callers.receipts) same in
    let refused : refused_by (loads_by e) v.crew.waiting o ≡ (happening e d).refused =
    ap (λ (w : World). refused_by (loads_by e) w.waiting o) is ∙ refused_same d.world e o ∙ ap (λ (x : Outcome). refuses d.world e x) same in
    ap (λ (x : Option Receipt). added c o (is_of_get x) (refused_by (loads_by e) v.crew.waiting o)) receipt ∙ ap (λ (b : Bool). added c o (is_of_get (happening e d).receipt) b) refused

pub given_so : (w : World) (lines : List Line) (words : List ℕ) (p : Player) (out : List ℕ) (r : Run) (now : List ℕ) (v : WorldState) (e : Event) (o : Outcome)
    → IsAt w lines words p out r → is_plain e ≡ true → p.events < 2 ^ 22 → Happens words p.world now v e o
    → IsGiven r now p (record { world = v; counts = added p.counts o (is_of_get (receipt_if (makes_call o) v.history)) (refused_by (loads_by e) v.crew.waiting o); events = p.events + 1; order = p.order }) e o
given_so w lines words p out r now v e o at plain few h =
    let told : List Told = r.world.machine.callers.told in
    let before : World = world_of words p.world.crew told p.world.history in
    let it = h.is told (subst IsWorld (sym at.world) at.going.sound) in
    let same : does before e h.heirs ≡ does r.world e no_heirs = ap (λ (x : World). does x e h.heirs) at.world ∙ plain_heirs r.world e h.heirs plain (subst (λ (x : World). MayHappen x e h.heirs) at.world it.may) in
    let d : Done = does r.world e no_heirs in
    let world : world_of now v.crew d.world.machine.callers.told v.history ≡ d.world =
    subst (λ (x : Done). world_of now v.crew x.world.machine.callers.told v.history ≡ x.world) same (sym it.world) in
    let outcome : o ≡ d.outcome = it.outcome_is ∙ ap (λ (x : Done). x.outcome) same in record {
      world = world;
      outcome = outcome;
      counts = counts_so e d now v o p.counts d.world.machine.callers.told world outcome;
      events = refl;
      few = omega (arith, few);
      order = refl;
    }

pub load_session : (w : World) (e : Event) (s : ℕ) → MayHappen w e no_heirs → loads_by e ≡ Some s → IsSession s
load_session w (event.Start t lane call) s may is = absurd (none-some s is)
load_session w (event.Step n) s may is = absurd (none-some s is)
load_session w (event.Flow n index) s may is = absurd (none-some s is)
load_session w (event.Merge n) s may is = absurd (none-some s is)
load_session w event.Monitor s may is = absurd (none-some s is)
load_session w (event.Refresh t) s may is = subst IsSession (cc) may
load_session w (event.Give order) s may is = absurd (none-some s is)
load_session w event.DropOrder s may is = absurd (none-some s is)
load_session w (event.Queue n t) s may is = absurd (none-some s is)
load_session w event.Add s may is = absurd (none-some s is)
load_session w (event.Tell t u) s may is = absurd (none-some s is)

-- ---- what a player answers
counted_given : (words : List ℕ) (p : Player) (now : List ℕ) (v : WorldState) (q : Player) (e : Event) (loader : Option ℕ) (outcome o : Outcome) → is_plain e ≡ true → p.events < 2 ^ 22
    → loader ≡ loads_by e → OnDone outcome (Happens words p.world now v e outcome) → IsCounted (record { world = v; counts = p.counts; events = p.events; order = p.order }) q loader outcome o → Gives words p now q e o
counted_given words p now v q e loader outcome o plain few is h counted = record {
  is = λ w lines out r at may.
      subst (λ (x : Outcome). IsGiven r now p q e x) (sym counted.outcome_is)
      (subst (λ (x : Player). IsGiven r now p x e outcome) (sym counted.player)
      (subst (λ (l : Option ℕ). IsGiven r now p (record { world = v; counts = added p.counts outcome (is_of_get (receipt_if (makes_call outcome) v.history)) (refused_by l v.crew.waiting outcome); events = p.events + 1; order = p.order }) e outcome) (sym is)
      (given_so w lines words p out r now v e outcome at plain few (h counted.fine))));
}

pub gives_so : (words : List ℕ) (p : Player) (now : List ℕ) (v : WorldState) (q : Player) (e : Event) (loader : Option ℕ) (outcome : Outcome) (result : Result Outcome Stop) → is_plain e ≡ true
    → p.events < 2 ^ 22 → loader ≡ loads_by e → OnDone outcome (Happens words p.world now v e outcome)
    → IfOk result (λ o. IsCounted (record { world = v; counts = p.counts; events = p.events; order = p.order }) q loader outcome o) → IfOk result (Gives words p now q e)
gives_so words p now v q e loader outcome (Ok o) plain few is h counted = counted_given words p now v q e loader outcome o plain few is h counted
gives_so words p now v q e loader outcome (Err stop) plain few is h counted = tt

pub on_counted : (p q : Player) (loader : Option ℕ) (outcome : Outcome) (old new : ℕ) (result : Result Outcome Stop) → CountsFault outcome old new → IfOk result (λ o. IsCounted p q loader outcome o) → OnOk result (new ≡ old)
on_counted p q loader outcome old new (Ok o) h counted = h.done counted.fine
on_counted p q loader outcome old new (Err stop) h counted = tt

pub if_pool : (outcome : Outcome) (result : Result Outcome Stop) (P : Stop → Type 0) → P Pool → IfErr result (λ stop. (stop ≡ Pool) × (has_failed outcome ≡ true)) → IfErr result P
if_pool outcome (Ok o) P p h = tt
if_pool outcome (Err stop) P p h = subst P (sym h.0) p

pub faults_pool : (outcome : Outcome) (old new : ℕ) (result : Result Outcome Stop) → CountsFault outcome old new → IfErr result (λ stop. (stop ≡ Pool) × (has_failed outcome ≡ true)) → IfErr result (CountsStop old new)
faults_pool outcome old new (Ok o) count h = tt
faults_pool outcome old new (Err stop) count h = subst (CountsStop old new) (sym h.0) (count.fault h.1)
