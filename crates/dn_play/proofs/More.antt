use Rattle.std.proofs.Common.{ℕ, ◌≡◌, ◌≤◌, ◌^◌, ◌+◌, List, [], ◌∷◌, ◌++◌, Option, sym, ◌∙◌, ap, arith}
use Rattle.std.proofs.lemmas.List.{length-append}
use Rattle.dn_monitor.specs.Heirs.{no_heirs}
use Rattle.dn_outcomes.specs.Does.{does}
use Rattle.dn_outcomes.specs.Sound.{MayHappen}
use Rattle.dn_outcomes.specs.State.{World}
use Rattle.dn_outcomes.specs.declared.events.Event.{Event}
use Rattle.dn_outcomes.specs.declared.outcomes.Outcome.{Outcome}
use Rattle.dn_script.specs.declared.scripts.Line.{Line}
use Rattle.dn_world.specs.State.{world_of}
use Rattle.dn_run.specs.Counts.{is_of_get}
use Rattle.dn_run.specs.Doing.{Doing, left_of, order_after}
use Rattle.dn_run.specs.Going.{IsDoing}
use Rattle.dn_run.specs.Happening.{Happening, happening, receipt_if, makes_call}
use Rattle.dn_run.specs.Headline.{call_left, call_started}
use Rattle.dn_run.specs.Run.{Run, with_event, goes_on}
use Rattle.dn_run.specs.Text.{text_of, happening_text}
use Rattle.dn_run.specs.declared.counts.Counts.{Counts}
use Rattle.dn_run.specs.declared.orders.MoveOrder.{MoveOrder}
use Rattle.dn_run.proofs.Going.{MayGo, may_go, event_going}
use Rattle.dn_play.specs.At.{IsAt, IsGiven, IsNext}
use Rattle.dn_play.specs.declared.players.Player.{Player}
use Rattle.dn_play.specs.Tally.{added}
use Rattle.dn_play.proofs.Added.{counts_more}

-- A player has carried out one event more.

pub record HasMore (r : Run) (p : Player) (old now : List ℕ) (q : Player) (out : List ℕ) (e : Event) : Type 0 where
  pub world : world_of now q.world.crew (does r.world e no_heirs).world.machine.callers.told q.world.history ≡ (does r.world e no_heirs).world
  pub counts : q.counts ≡ added p.counts (happening e (does r.world e no_heirs)).outcome (is_of_get (happening e (does r.world e no_heirs)).receipt) (happening e (does r.world e no_heirs)).refused
  pub events : q.events ≡ p.events + 1
  pub few : q.events ≤ 2 ^ 22
  pub order : q.order ≡ order_after r.doing r.order e (does r.world e no_heirs).outcome
  pub printed : out ≡ old ++ happening_text r.order (happening e (does r.world e no_heirs))

pub at_more : (w : World) (lines : List Line) (words : List ℕ) (p : Player) (old : List ℕ) (r : Run) (e : Event) (d : Doing) (now : List ℕ) (q : Player) (out : List ℕ)
    → IsAt w lines words p old r → MayHappen r.world e no_heirs → IsDoing d → call_started e ++ call_left d ≡ call_left r.doing → HasMore r p old now q out e
    → IsAt w lines now q out (with_event r e (does r.world e no_heirs) d)
at_more w lines words p old r e d now q out at may fits starts h =
    let x : Happening = happening e (does r.world e no_heirs) in
    let long = length-append r.past (x ∷ []) in record {
      start = at.start;
      fresh = at.fresh;
      going = event_going w lines r e d at.going may fits starts;
      world = h.world;
      counts = h.counts ∙ ap (λ (c : Counts). added c x.outcome (is_of_get x.receipt) x.refused) at.counts ∙ sym (counts_more r.past x);
      events = omega (arith, h.events, at.events, long);
      few = h.few;
      order = h.order;
      printed = h.printed ∙ ap (λ (ys : List ℕ). ys ++ happening_text r.order x) at.printed;
    }

-- what the event is told as is printed, and what is known of the order now
pub at_given : (w : World) (lines : List Line) (words : List ℕ) (p : Player) (old : List ℕ) (r : Run) (e : Event) (d : Doing) (now : List ℕ) (q : Player) (m : Option MoveOrder) (out : List ℕ) (o : Outcome)
    → IsAt w lines words p old r → MayHappen r.world e no_heirs → IsDoing d → call_started e ++ call_left d ≡ call_left r.doing → IsGiven r now p q e o
    → m ≡ order_after r.doing r.order e o → out ≡ old ++ text_of r.order e (happening e (does r.world e no_heirs)).receipt o
    → IsAt w lines now (record q { order = m }) out (with_event r e (does r.world e no_heirs) d)
at_given w lines words p old r e d now q m out o at may fits starts h known printed =
    let x : Happening = happening e (does r.world e no_heirs) in
    at_more w lines words p old r e d now (record q { order = m }) out at may fits starts (record {
      world = h.world;
      counts = h.counts ∙ ap (λ (k : Outcome). added p.counts k (is_of_get x.receipt) x.refused) h.outcome;
      events = h.events;
      few = h.few;
      order = known ∙ ap (order_after r.doing r.order e) h.outcome;
      printed = printed ∙ ap (λ (k : Outcome). old ++ text_of r.order e x.receipt k) h.outcome;
    })

-- the event was next
pub at_ordered : (w : World) (lines : List Line) (words : List ℕ) (p : Player) (old : List ℕ) (r : Run) (e : Event) (now : List ℕ) (q : Player) (m : Option MoveOrder) (out : List ℕ) (o : Outcome)
    → IsAt w lines words p old r → IsNext r e → IsGiven r now p q e o → m ≡ order_after r.doing r.order e o → out ≡ old ++ text_of r.order e (happening e (does r.world e no_heirs)).receipt o
    → IsAt w lines now (record q { order = m }) out (goes_on r e (does r.world e no_heirs))
at_ordered w lines words p old r e now q m out o at next given known printed =
    let d : Outcome = (does r.world e no_heirs).outcome in
    let go : MayGo r.world r.doing e = may_go r.world r.doing e at.going.doing at.going.own next.next in
    at_given w lines words p old r e (left_of r.world r.doing d) now q m out o at go.may (go.left d) (go.starts d) given known printed

-- and changes nothing of the order
pub order_kept : (w : World) (lines : List Line) (words : List ℕ) (p : Player) (old : List ℕ) (r : Run) (e : Event) (now : List ℕ) (q : Player) (o : Outcome)
    → IsAt w lines words p old r → IsGiven r now p q e o → order_after r.doing r.order e o ≡ r.order → q.order ≡ order_after r.doing r.order e o
order_kept w lines words p old r e now q o at given keeps = given.order ∙ at.order ∙ sym keeps

pub at_next : (w : World) (lines : List Line) (words : List ℕ) (p : Player) (old : List ℕ) (r : Run) (e : Event) (now : List ℕ) (q : Player) (out : List ℕ) (o : Outcome)
    → IsAt w lines words p old r → IsNext r e → IsGiven r now p q e o → order_after r.doing r.order e o ≡ r.order → out ≡ old ++ text_of r.order e (happening e (does r.world e no_heirs)).receipt o
    → IsAt w lines now q out (goes_on r e (does r.world e no_heirs))
at_next w lines words p old r e now q out o at next given keeps printed =
    at_ordered w lines words p old r e now q q.order out o at next given (order_kept w lines words p old r e now q o at given keeps) printed

-- the receipt of what happened is the player's last one
pub receipt_same : (r : Run) (now : List ℕ) (p q : Player) (e : Event) (o : Outcome) → IsGiven r now p q e o → receipt_if (makes_call o) q.world.history ≡ (happening e (does r.world e no_heirs)).receipt
receipt_same r now p q e o h =
    ap (λ (v : World). receipt_if (makes_call o) v.machine.callers.receipts) h.world ∙ ap (λ (k : Outcome). receipt_if (makes_call k) (does r.world e no_heirs).world.machine.callers.receipts) h.outcome
