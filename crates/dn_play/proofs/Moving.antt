use Rattle.std.proofs.Common.{ℕ, ◌≡◌, ◌++◌, Bool, true, false, List, Option, Some, None, refl, sym, ◌∙◌, ap, subst}
use Rattle.dn_callers.specs.Callers.{Standing}
use Rattle.dn_model.specs.Regions.{slot_of}
use Rattle.dn_monitor.specs.Heirs.{no_heirs}
use Rattle.dn_monitor.specs.declared.orders.Order.TheVariants.{Move}
use Rattle.dn_outcomes.specs.Awaited.{is_releasing, marked}
use Rattle.dn_outcomes.specs.Sound.{MayHappen}
use Rattle.dn_outcomes.specs.State.{World}
use Rattle.dn_outcomes.specs.declared.events.Event.{Event}
use Rattle.dn_outcomes.specs.declared.events.Event.TheVariants as event
use Rattle.dn_outcomes.specs.declared.outcomes.Outcome.{Outcome}
use Rattle.dn_outcomes.specs.declared.outcomes.Outcome.TheVariants as outcome
use Rattle.dn_route.specs.CallersOrder.{Told}
use Rattle.dn_script.specs.declared.scripts.Line.{Line}
use Rattle.dn_world.specs.State.{world_of}
use Rattle.dn_run.specs.Doing.{Doing, Rest, Give, Order, Merge, Drop, acts_for, next_of, left_of, given_left, order_left, order_given}
use Rattle.dn_run.specs.Moving.{order_told, monitor_text, dropped_text}
use Rattle.dn_run.specs.Run.{Run, after_steps}
use Rattle.dn_run.specs.Text.{give_text}
use Rattle.dn_run.specs.declared.orders.MoveOrder.{MoveOrder}
use Rattle.dn_play.specs.At.{IsAt, IsGiven, Gives, CanGive, IsNext, CanGo, Goes, Halts, Leads, Awaits, Undone, EndsLine, Ends, Stops, left_by, moves_on}
use Rattle.dn_play.specs.declared.players.Player.{Player}
use Rattle.dn_play.specs.declared.stops.Stop.{Stop}
use Rattle.dn_play.proofs.Leading.{leads_ordered, next_may}
use Rattle.dn_play.proofs.Lines.{ends_behind}
use Rattle.dn_play.proofs.Repeating.{leads_behind, ends_so}
use Rattle.dn_play.proofs.Stopping.{stops_behind}

-- The order of a move is given, and goes on.

-- ---- the monitor's action, and an order that is given up
pub monitored : (w : World) (lines : List Line) (words : List ℕ) (p : Player) (old : List ℕ) (r : Run) (now : List ℕ) (q : Player) (m : Option MoveOrder) (out : List ℕ) (o : Outcome)
    → IsAt w lines words p old r → IsNext r event.Monitor → IsGiven r now p q event.Monitor o → m ≡ order_told q.order o → out ≡ old ++ monitor_text q.order o
    → Leads w lines now (record q { order = m }) out r (left_of r.world r.doing o)
monitored w lines words p old r now q m out o at may given known printed =
    let same : q.order ≡ r.order = given.order ∙ at.order in
    leads_ordered w lines words p old r event.Monitor now q m out o at may given refl (known ∙ ap (λ (x : Option MoveOrder). order_told x o) same)
    (printed ∙ ap (λ (x : Option MoveOrder). old ++ monitor_text x o) same)

pub dropped : (w : World) (lines : List Line) (words : List ℕ) (p : Player) (old : List ℕ) (r : Run) (now : List ℕ) (q : Player) (out : List ℕ) (o : Outcome)
    → IsAt w lines words p old r → IsNext r event.DropOrder → IsGiven r now p q event.DropOrder o → out ≡ old ++ dropped_text q.order
    → Leads w lines now (record q { order = None }) out r (left_of r.world r.doing o)
dropped w lines words p old r now q out o at may given printed =
    leads_ordered w lines words p old r event.DropOrder now q None out o at may given refl refl
    (printed ∙ ap (λ (x : Option MoveOrder). old ++ dropped_text x) (given.order ∙ at.order))

-- ---- an order is given
pub give_next : (r : Run) (key n : ℕ) (whole : Bool) → Undone (Give key n whole) r → IsNext r (event.Give (Move (slot_of key) n))
give_next r key n whole h = record { loads = h.loads; next = ap (λ (d : Doing). next_of r.world d) h.doing }

pub gave : (w : World) (lines : List Line) (words : List ℕ) (p : Player) (old : List ℕ) (r : Run) (key n : ℕ) (whole : Bool) (now : List ℕ) (q : Player) (m : Option MoveOrder) (out : List ℕ) (o : Outcome)
    → IsAt w lines words p old r → Undone (Give key n whole) r → IsGiven r now p q (event.Give (Move (slot_of key) n)) o → m ≡ order_given (Give key n whole) q.order o
    → out ≡ old ++ give_text (Move (slot_of key) n) o → Leads w lines now (record q { order = m }) out r (left_of r.world r.doing o)
gave w lines words p old r key n whole now q m out o at may given known printed =
    leads_ordered w lines words p old r (event.Give (Move (slot_of key) n)) now q m out o at (give_next r key n whole may) given refl
    (known ∙ ap (λ (x : Option MoveOrder). order_given (Give key n whole) x o) (given.order ∙ at.order) ∙ ap (λ (d : Doing). order_given d r.order o) (sym may.doing)) printed

pub can_give : (words : List ℕ) (p : Player) (old : List ℕ) (key n slot : ℕ) (whole : Bool) → slot ≡ slot_of key → CanGo words p old (Undone (Give key n whole)) → CanGive words p (event.Give (Move slot n))
can_give words p old key n slot whole is h = record {
  out = old;
  start = h.start;
  lines = h.lines;
  run = h.run;
  at = h.at;
  may = subst (λ (s : ℕ). MayHappen h.run.world (event.Give (Move s n)) no_heirs) (sym is)
      (next_may h.start h.lines words p old h.run (event.Give (Move (slot_of key) n)) h.at (give_next h.run key n whole h.may_go));
  plain = refl;
}

-- as the event was told with this slot
pub given_move : (w : World) (lines : List Line) (words : List ℕ) (p : Player) (old : List ℕ) (r : Run) (key n slot : ℕ) (whole : Bool) (now : List ℕ) (q : Player) (o : Outcome) → slot ≡ slot_of key
    → IsAt w lines words p old r → Undone (Give key n whole) r → Gives words p now q (event.Give (Move slot n)) o → IsGiven r now p q (event.Give (Move (slot_of key) n)) o
given_move w lines words p old r key n slot whole now q o is at may gives =
    let e : Event = event.Give (Move (slot_of key) n) in
    (subst (λ (s : ℕ). Gives words p now q (event.Give (Move s n)) o) is gives).is w lines old r at (next_may w lines words p old r e at (give_next r key n whole may))

-- ---- what is left of a line goes on by an event
-- the event is next, and leaves this
abbrev pub GoesBy : List ℕ → Player → List ℕ → Doing → Event → Type 0
GoesBy words p old d e = (w : World) (lines : List Line) (r : Run) → IsAt w lines words p old r → Undone d r → IsNext r e

abbrev pub LeftBy : List ℕ → Player → List ℕ → Doing → Outcome → Doing → Type 0
LeftBy words p old d o left = (w : World) (lines : List Line) (r : Run) → IsAt w lines words p old r → Undone d r → left_of r.world r.doing o ≡ left

pub can_by : (words : List ℕ) (p : Player) (old : List ℕ) (d : Doing) (e : Event) → GoesBy words p old d e → CanGo words p old (Undone d) → CanGo words p old (Awaits e)
can_by words p old d e by h = record { start = h.start; lines = h.lines; run = h.run; at = h.at; may_go = by h.start h.lines h.run h.at h.may_go }

pub goes_by : (words now : List ℕ) (p q : Player) (old out : List ℕ) (d left : Doing) (e : Event) (o : Outcome) → GoesBy words p old d e → LeftBy words p old d o left
    → Goes words p old now q out (Awaits e) (left_by o) → Goes words p old now q out (Undone d) (λ r. left)
goes_by words now p q old out d left e o by lefts goes = record {
  is = λ w lines r at may. subst (λ (k : Doing). Leads w lines now q out r k) (lefts w lines r at may) (goes.is w lines r at (by w lines r at may));
}

pub halts_by : (words now : List ℕ) (p q : Player) (old out : List ℕ) (d : Doing) (e : Event) (stop : Stop) → GoesBy words p old d e → Halts words p old now q out (Awaits e) stop
    → Halts words p old now q out (Undone d) stop
halts_by words now p q old out d e stop by halts = record { is = λ w lines r at may. halts.is w lines r at (by w lines r at may) }

-- ---- the lane that has the release before it, and the monitor
releasing_same : (w : World) (lines : List Line) (words : List ℕ) (p : Player) (old : List ℕ) (r : Run) (n slot : ℕ) (b : Bool) → IsAt w lines words p old r
    → ((ws : List ℕ) (told : List Told) (receipts : List Standing) → b ≡ is_releasing (world_of ws p.world.crew told receipts) n slot) → b ≡ is_releasing r.world n slot
releasing_same w lines words p old r n slot b at is = is words r.world.machine.callers.told p.world.history ∙ ap (λ (v : World). is_releasing v n slot) at.world

pub order_goes : (words : List ℕ) (p : Player) (old : List ℕ) (slot n : ℕ) (b : Bool) → ((ws : List ℕ) (told : List Told) (receipts : List Standing) → b ≡ is_releasing (world_of ws p.world.crew told receipts) n slot)
    → GoesBy words p old (Order slot n) (acts_for n b)
order_goes words p old slot n b is w lines r at may = record {
  loads = may.loads;
  next = ap (λ (d : Doing). next_of r.world d) may.doing ∙ ap (λ (k : Bool). Some (acts_for n k)) (sym (releasing_same w lines words p old r n slot b at is));
}

pub order_leaves : (words : List ℕ) (p : Player) (old : List ℕ) (slot n : ℕ) (b : Bool) (o : Outcome) → ((ws : List ℕ) (told : List Told) (receipts : List Standing) → b ≡ is_releasing (world_of ws p.world.crew told receipts) n slot)
    → LeftBy words p old (Order slot n) o (order_left slot n b o)
order_leaves words p old slot n b o is w lines r at may =
    ap (λ (d : Doing). left_of r.world d o) may.doing ∙ ap (λ (k : Bool). order_left slot n k o) (sym (releasing_same w lines words p old r n slot b at is))

-- ---- the merger, and an order that can't go on
pub merge_goes : (words : List ℕ) (p : Player) (old : List ℕ) (slot n : ℕ) → ((ws : List ℕ) (told : List Told) (receipts : List Standing) → n ≡ marked (world_of ws p.world.crew told receipts))
    → GoesBy words p old (Merge slot) (event.Merge n)
merge_goes words p old slot n is w lines r at may = record {
  loads = may.loads;
  next = ap (λ (d : Doing). next_of r.world d) may.doing ∙ ap (λ (k : ℕ). Some (event.Merge k)) (sym (is words r.world.machine.callers.told p.world.history ∙ ap marked at.world));
}

pub drop_goes : (words : List ℕ) (p : Player) (old : List ℕ) → GoesBy words p old Drop event.DropOrder
drop_goes words p old w lines r at may = record { loads = may.loads; next = ap (λ (d : Doing). next_of r.world d) may.doing }

pub leaves : (words : List ℕ) (p : Player) (old : List ℕ) (d : Doing) (o : Outcome) (left : Doing) → ((v : World) → left_of v d o ≡ left) → LeftBy words p old d o left
leaves words p old d o left is w lines r at may = ap (λ (k : Doing). left_of r.world k o) may.doing ∙ is r.world

-- ---- one event more
pub leads_by : (w : World) (lines : List Line) (words now : List ℕ) (p q : Player) (old out : List ℕ) (r : Run) (d left : Doing) → Leads w lines words p old r d → Goes words p old now q out (Undone d) (λ x. left) → Leads w lines now q out r left
leads_by w lines words now p q old out r d left h goes =
    leads_behind w lines words now p q old out r d left h (goes.is w lines (after_steps h.count r) h.at (record { loads = h.loads; doing = h.doing }))

pub stops_by : (w : World) (lines : List Line) (words now : List ℕ) (p q : Player) (old out : List ℕ) (r : Run) (d : Doing) (stop : Stop) → Leads w lines words p old r d → Halts words p old now q out (Undone d) stop → Stops w lines now q out r stop
stops_by w lines words now p q old out r d stop h halts =
    stops_behind w lines now q out r h.count stop (halts.is w lines (after_steps h.count r) h.at (record { loads = h.loads; doing = h.doing }))

pub can_behind : (words now : List ℕ) (p q : Player) (old out : List ℕ) (d left : Doing) → CanGo words p old (Undone d) → Goes words p old now q out (Undone d) (λ x. left) → CanGo now q out (Undone left)
can_behind words now p q old out d left h goes =
    let l : Leads h.start h.lines now q out h.run left = goes.is h.start h.lines h.run h.at h.may_go in record {
      start = h.start;
      lines = h.lines;
      run = after_steps l.count h.run;
      at = l.at;
      may_go = record { loads = l.loads; doing = l.doing };
    }

pub ends_by : (w : World) (lines : List Line) (words now : List ℕ) (p q : Player) (old out : List ℕ) (r : Run) (d : Doing) → Leads w lines words p old r d → Ends words p old now q out (Undone d) → EndsLine w lines now q out r
ends_by w lines words now p q old out r d h ends =
    ends_behind w lines words now p q old out r d h (ends.is w lines (after_steps h.count r) h.at (record { loads = h.loads; doing = h.doing }))

pub ends_rest : (w : World) (lines : List Line) (now : List ℕ) (q : Player) (out : List ℕ) (r : Run) (d : Doing) → d ≡ Rest → Leads w lines now q out r d → EndsLine w lines now q out r
ends_rest w lines now q out r d is h = ends_so w lines now q out r Rest (λ v. refl) (subst (λ (k : Doing). Leads w lines now q out r k) is h)

-- the same said of another name of what is left
pub leads_as : (w : World) (lines : List Line) (now : List ℕ) (q : Player) (out : List ℕ) (r : Run) {d k : Doing} → d ≡ k → Leads w lines now q out r d → Leads w lines now q out r k
leads_as w lines now q out r is h = subst (λ (x : Doing). Leads w lines now q out r x) is h

pub can_as : (words : List ℕ) (p : Player) (old : List ℕ) {d k : Doing} → d ≡ k → CanGo words p old (Undone d) → CanGo words p old (Undone k)
can_as words p old is h = subst (λ (x : Doing). CanGo words p old (Undone x)) is h

-- ---- once it was given
given_on : (key : ℕ) (whole : Bool) (o : Outcome) → moves_on whole o ≡ true → given_left key whole o ≡ Order (slot_of key) 0
given_on key true outcome.Acted e = refl
given_on key false outcome.Acted e = absurd (cc)
given_on key whole outcome.Nothing e = absurd (cc)
given_on key whole (outcome.Numbered number) e = absurd (cc)
given_on key whole outcome.Busy e = absurd (cc)
given_on key whole outcome.Closed e = absurd (cc)
given_on key whole (outcome.Answered s number answer given) e = absurd (cc)
given_on key whole (outcome.GivenUp s number) e = absurd (cc)
given_on key whole (outcome.Ordered answer) e = absurd (cc)
given_on key whole outcome.MonitorBusy e = absurd (cc)
given_on key whole (outcome.Tended answer) e = absurd (cc)
given_on key whole (outcome.Added lane) e = absurd (cc)
given_on key whole outcome.LanesFull e = absurd (cc)
given_on key whole outcome.NoLane e = absurd (cc)
given_on key whole (outcome.Merged turn) e = absurd (cc)
given_on key whole (outcome.Fault actor) e = absurd (cc)

given_off : (key : ℕ) (whole : Bool) (o : Outcome) → moves_on whole o ≡ false → given_left key whole o ≡ Rest
given_off key true outcome.Acted e = absurd (cc)
given_off key false outcome.Acted e = refl
given_off key whole outcome.Nothing e = refl
given_off key whole (outcome.Numbered number) e = refl
given_off key whole outcome.Busy e = refl
given_off key whole outcome.Closed e = refl
given_off key whole (outcome.Answered s number answer given) e = refl
given_off key whole (outcome.GivenUp s number) e = refl
given_off key whole (outcome.Ordered answer) e = refl
given_off key whole outcome.MonitorBusy e = refl
given_off key whole (outcome.Tended answer) e = refl
given_off key whole (outcome.Added lane) e = refl
given_off key whole outcome.LanesFull e = refl
given_off key whole outcome.NoLane e = refl
given_off key whole (outcome.Merged turn) e = refl
given_off key whole (outcome.Fault actor) e = refl

-- with what is left by it
pub goes_given : (words now : List ℕ) (p q : Player) (old out : List ℕ) (key n : ℕ) (whole : Bool) (o : Outcome) (left : Doing) → given_left key whole o ≡ left
    → Goes words p old now q out (Undone (Give key n whole)) (left_by o) → Goes words p old now q out (Undone (Give key n whole)) (λ r. left)
goes_given words now p q old out key n whole o left is goes = record {
  is = λ w lines r at may. subst (λ (k : Doing). Leads w lines now q out r k) (ap (λ (d : Doing). left_of r.world d o) may.doing ∙ is) (goes.is w lines r at may);
}

pub gives_order : (words now : List ℕ) (p q : Player) (old out : List ℕ) (key n : ℕ) (whole : Bool) (o : Outcome) → moves_on whole o ≡ true
    → Goes words p old now q out (Undone (Give key n whole)) (left_by o) → Goes words p old now q out (Undone (Give key n whole)) (λ r. Order (slot_of key) 0)
gives_order words now p q old out key n whole o on goes = goes_given words now p q old out key n whole o (Order (slot_of key) 0) (given_on key whole o on) goes

pub gives_none : (words now : List ℕ) (p q : Player) (old out : List ℕ) (key n : ℕ) (whole : Bool) (o : Outcome) → moves_on whole o ≡ false
    → Goes words p old now q out (Undone (Give key n whole)) (left_by o) → Goes words p old now q out (Undone (Give key n whole)) (λ r. Rest)
gives_none words now p q old out key n whole o off goes = goes_given words now p q old out key n whole o Rest (given_off key whole o off) goes
