use Rattle.std.proofs.Common.{ℕ, ◌≡◌, ◌+◌, Bool, true, false, List, Option, refl, sym, ◌∙◌, ap, subst}
use Rattle.dn_callers.specs.Sessions.{IsSession}
use Rattle.dn_hist.specs.declared.calls.Call.{Call}
use Rattle.dn_outcomes.specs.State.{World}
use Rattle.dn_outcomes.specs.declared.events.Event.TheVariants as event
use Rattle.dn_outcomes.specs.declared.outcomes.Outcome.{Outcome}
use Rattle.dn_outcomes.specs.declared.outcomes.Outcome.TheVariants as outcome
use Rattle.dn_script.specs.declared.scripts.Line.{Line}
use Rattle.dn_script.specs.declared.scripts.Line.TheVariants as line
use Rattle.dn_run.specs.Doing.{Doing, doing_of, Rest, Start, Finish, next_of, left_of, numbered_left}
use Rattle.dn_run.specs.Going.{IsDoing}
use Rattle.dn_run.specs.Run.{Run, IsBetween, after_steps}
use Rattle.dn_play.specs.At.{IsAt, CanGo, Ends, EndsLine, Finishes, Goes, Halts, IsNext, Leads, Stops, Undone, left_by, runs_on}
use Rattle.dn_play.specs.declared.players.Player.{Player}
use Rattle.dn_play.specs.declared.stops.Stop.{Stop}
use Rattle.dn_play.proofs.Repeating.{ends_so}
use Rattle.dn_play.proofs.Stopping.{after_sum, stops_behind}

-- A line is done.

-- ---- a call is started
pub start_next : (r : Run) (s : ℕ) (lane : Option ℕ) (only : Bool) (call : Call) → Undone (Start s lane only call) r → IsNext r (event.Start s lane call)
start_next r s lane only call h = record { loads = h.loads; next = ap (λ (d : Doing). next_of r.world d) h.doing }

pub can_start : (words : List ℕ) (p : Player) (out : List ℕ) (s : ℕ) (lane : Option ℕ) (only : Bool) (call : Call) → CanGo words p out (Undone (Start s lane only call)) → CanGo words p out (λ r. IsNext r (event.Start s lane call))
can_start words p out s lane only call h = record { start = h.start; lines = h.lines; run = h.run; at = h.at; may_go = start_next h.run s lane only call h.may_go }

left_on : (s : ℕ) (only : Bool) (o : Outcome) → runs_on only o ≡ true → numbered_left s only o ≡ Finish s
left_on s true (outcome.Numbered number) e = absurd (cc)
left_on s false (outcome.Numbered number) e = refl
left_on s only outcome.Nothing e = absurd (cc)
left_on s only outcome.Acted e = absurd (cc)
left_on s only outcome.Busy e = absurd (cc)
left_on s only outcome.Closed e = absurd (cc)
left_on s only (outcome.Answered t number answer given) e = absurd (cc)
left_on s only (outcome.GivenUp t number) e = absurd (cc)
left_on s only (outcome.Ordered answer) e = absurd (cc)
left_on s only outcome.MonitorBusy e = absurd (cc)
left_on s only (outcome.Tended answer) e = absurd (cc)
left_on s only (outcome.Added lane) e = absurd (cc)
left_on s only outcome.LanesFull e = absurd (cc)
left_on s only outcome.NoLane e = absurd (cc)
left_on s only (outcome.Merged turn) e = absurd (cc)
left_on s only (outcome.Fault actor) e = absurd (cc)

left_off : (s : ℕ) (only : Bool) (o : Outcome) → runs_on only o ≡ false → numbered_left s only o ≡ Rest
left_off s true (outcome.Numbered number) e = refl
left_off s false (outcome.Numbered number) e = absurd (cc)
left_off s only outcome.Nothing e = refl
left_off s only outcome.Acted e = refl
left_off s only outcome.Busy e = refl
left_off s only outcome.Closed e = refl
left_off s only (outcome.Answered t number answer given) e = refl
left_off s only (outcome.GivenUp t number) e = refl
left_off s only (outcome.Ordered answer) e = refl
left_off s only outcome.MonitorBusy e = refl
left_off s only (outcome.Tended answer) e = refl
left_off s only (outcome.Added lane) e = refl
left_off s only outcome.LanesFull e = refl
left_off s only outcome.NoLane e = refl
left_off s only (outcome.Merged turn) e = refl
left_off s only (outcome.Fault actor) e = refl

pub leads_call : (w : World) (lines : List Line) (words now : List ℕ) (p q : Player) (old out : List ℕ) (r : Run) (s : ℕ) (lane : Option ℕ) (only : Bool) (call : Call) (o : Outcome) → runs_on only o ≡ true
    → IsAt w lines words p old r → Undone (Start s lane only call) r → Goes words p old now q out (λ x. IsNext x (event.Start s lane call)) (left_by o) → Leads w lines now q out r (Finish s)
leads_call w lines words now p q old out r s lane only call o on at may goes =
    subst (λ (d : Doing). Leads w lines now q out r d) (ap (λ (d : Doing). left_of r.world d o) may.doing ∙ left_on s only o on)
    (goes.is w lines r at (start_next r s lane only call may))

pub can_finish : (words now : List ℕ) (p q : Player) (old out : List ℕ) (s : ℕ) (lane : Option ℕ) (only : Bool) (call : Call) (o : Outcome) → runs_on only o ≡ true
    → CanGo words p old (Undone (Start s lane only call)) → Goes words p old now q out (λ x. IsNext x (event.Start s lane call)) (left_by o) → CanGo now q out (Finishes s)
can_finish words now p q old out s lane only call o on h goes =
    let l : Leads h.start h.lines now q out h.run (Finish s) = leads_call h.start h.lines words now p q old out h.run s lane only call o on h.at h.may_go goes in record {
      start = h.start;
      lines = h.lines;
      run = after_steps l.count h.run;
      at = l.at;
      may_go = record { loads = l.loads; doing = l.doing };
    }

pub ends_behind : (w : World) (lines : List Line) (words now : List ℕ) (p q : Player) (old out : List ℕ) (r : Run) (d : Doing) → (h : Leads w lines words p old r d) → EndsLine w lines now q out (after_steps h.count r) → EndsLine w lines now q out r
ends_behind w lines words now p q old out r d h l =
    let next = after_sum l.count h.count r in record {
      count = l.count + h.count;
      at = subst (λ (y : Run). IsAt w lines now q out y) next l.at;
      between = subst (λ (y : Run). IsBetween y) next l.between;
      left = ap (λ (y : Run). y.lines) (sym next) ∙ l.left ∙ h.left;
    }

pub ends_started : (w : World) (lines : List Line) (words mid now : List ℕ) (p m q : Player) (old at_mid out : List ℕ) (r : Run) (s : ℕ) → Leads w lines mid m at_mid r (Finish s) → Ends mid m at_mid now q out (Finishes s) → EndsLine w lines now q out r
ends_started w lines words mid now p m q old at_mid out r s l ends =
    ends_behind w lines mid now m q at_mid out r (Finish s) l (ends.is w lines (after_steps l.count r) l.at (record { loads = l.loads; doing = l.doing }))

pub halts_started : (w : World) (lines : List Line) (mid now : List ℕ) (m q : Player) (at_mid out : List ℕ) (r : Run) (s : ℕ) (stop : Stop) → Leads w lines mid m at_mid r (Finish s) → Halts mid m at_mid now q out (Finishes s) stop → Stops w lines now q out r stop
halts_started w lines mid now m q at_mid out r s stop l halts =
    stops_behind w lines now q out r l.count stop (halts.is w lines (after_steps l.count r) l.at (record { loads = l.loads; doing = l.doing }))

pub ends_only : (w : World) (lines : List Line) (words now : List ℕ) (p q : Player) (old out : List ℕ) (r : Run) (s : ℕ) (lane : Option ℕ) (only : Bool) (call : Call) (o : Outcome) → runs_on only o ≡ false
    → IsAt w lines words p old r → Undone (Start s lane only call) r → Goes words p old now q out (λ x. IsNext x (event.Start s lane call)) (left_by o) → EndsLine w lines now q out r
ends_only w lines words now p q old out r s lane only call o off at may goes =
    ends_so w lines now q out r Rest (λ v. refl) (subst (λ (d : Doing). Leads w lines now q out r d) (ap (λ (d : Doing). left_of r.world d o) may.doing ∙ left_off s only o off)
    (goes.is w lines r at (start_next r s lane only call may)))

-- ---- a session of the script
pub call_session : (words : List ℕ) (p : Player) (out : List ℕ) (s : ℕ) (lane : Option ℕ) (only : Bool) (call : Call) → CanGo words p out (Undone (Start s lane only call)) → IsSession s
call_session words p out s lane only call h = by h.run.doing h.may_go.doing h.at.going.doing where
  by : (d : Doing) → d ≡ Start s lane only call → IsDoing d → IsSession s
  by d is h = (subst IsDoing is h).0

-- ---- a line that isn't played yet
pub record IsUnplayed (l : Line) : Type 0 where
  pub call : (s : ℕ) (lane : Option ℕ) (only : Bool) (call : Call) → l ≡ line.Call s lane only call → ⊥
  pub step : (n count : ℕ) → l ≡ line.Step n count → ⊥
  pub merge : (n count : ℕ) → l ≡ line.Merge n count → ⊥
  pub flow : (n index : ℕ) → l ≡ line.Flow n index → ⊥
  pub add : l ≡ line.Add → ⊥
  pub tell : (s t : ℕ) → l ≡ line.Tell s t → ⊥
  pub trim : (n : ℕ) → l ≡ line.Trim n → ⊥
  pub monitor : (count : ℕ) → l ≡ line.Monitor count → ⊥
  pub move : (only : Bool) (key n : ℕ) → l ≡ line.Move only key n → ⊥

unplayed : (l : Line) → IsUnplayed l → doing_of l ≡ Rest
unplayed (line.Call s lane only call) h = absurd (h.call s lane only call refl)
unplayed (line.Step n count) h = absurd (h.step n count refl)
unplayed (line.Flow n index) h = absurd (h.flow n index refl)
unplayed (line.Merge n count) h = absurd (h.merge n count refl)
unplayed (line.Monitor count) h = absurd (h.monitor count refl)
unplayed line.Add h = absurd (h.add refl)
unplayed (line.Move only key n) h = absurd (h.move only key n refl)
unplayed (line.Fence n) h = refl
unplayed (line.Takeover only n) h = refl
unplayed line.Balance h = refl
unplayed (line.Remove n) h = refl
unplayed (line.Stop n) h = refl
unplayed (line.Fuse n actions) h = refl
unplayed (line.Fail n) h = refl
unplayed (line.Share key) h = refl
unplayed (line.Unshare key) h = refl
unplayed (line.Trim n) h = absurd (h.trim n refl)
unplayed (line.Tell s t) h = absurd (h.tell s t refl)
unplayed (line.Mix seed turns) h = refl
unplayed (line.Policy hot cold high low) h = refl

pub ends_unplayed : (w : World) (lines : List Line) (now : List ℕ) (q : Player) (out : List ℕ) (r : Run) (l : Line) → IsUnplayed l → IsAt w lines now q out r → Undone (doing_of l) r → EndsLine w lines now q out r
ends_unplayed w lines now q out r l h at may = ends_so w lines now q out r Rest (λ v. refl) (record { count = 0; at = at; loads = may.loads; doing = may.doing ∙ unplayed l h; left = refl })
