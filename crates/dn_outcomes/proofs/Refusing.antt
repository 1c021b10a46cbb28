use Rattle.std.proofs.Common.{ℕ, ◌≡◌, ◌==◌, Bool, true, false, Option, Some, None, if◌then◌else◌, refl, sym, ◌∙◌}
use Rattle.std.proofs.lemmas.Option.{same_Some, none-some}
use Rattle.dn_word.specs.Deed.{deed_of}
use Rattle.dn_word.specs.Gate.{gate_of}
use Rattle.dn_word.specs.Hash.{slot_of}
use Rattle.dn_word.specs.Need.{quiet_of, raised_of}
use Rattle.dn_word.specs.declared.positions.Position.{Position}
use Rattle.dn_plan.specs.Plan.{is_owner, need_of, goes, ends as call_ends, learns, raises, reads, writes, opened, barred}
use Rattle.dn_plan.specs.declared.phases.ActPhase.TheVariants as phase
use Rattle.dn_plan.specs.declared.phases.Brief.{Brief}
use Rattle.dn_plan.specs.declared.phases.Kind.{Kind}
use Rattle.dn_plan.specs.declared.phases.Kind.TheVariants.{Get, Put, Delete}
use Rattle.dn_plan.specs.declared.phases.Located.{Located}
use Rattle.dn_plan.specs.declared.phases.LocatePhase.{LocatePhase}
use Rattle.dn_plan.specs.declared.phases.LocatePhase.TheVariants as locating
use Rattle.dn_plan.specs.declared.phases.Room.TheVariants as rooms
use Rattle.dn_plan.specs.declared.phases.RoomPhase.{RoomPhase}
use Rattle.dn_plan.specs.declared.phases.RoomPhase.TheVariants as rooming
use Rattle.dn_plan.specs.declared.phases.SealPhase.{SealPhase}
use Rattle.dn_plan.specs.declared.phases.SealPhase.TheVariants as sealed
use Rattle.dn_plan.specs.declared.results.Effect.TheVariants.{Epoch}
use Rattle.dn_plan.specs.declared.results.Ending.{Ending}
use Rattle.dn_plan.specs.declared.results.Ending.TheVariants as ending
use Rattle.dn_plan.specs.declared.results.Next.TheVariants as cnext
use Rattle.dn_ask.specs.Ask.{call_after, call_step}
use Rattle.dn_ask.specs.declared.asks.Act.TheVariants as act
use Rattle.dn_ask.specs.declared.asks.End.TheVariants as end
use Rattle.dn_ask.specs.declared.asks.FindRoom.TheVariants as room
use Rattle.dn_ask.specs.declared.asks.Locate.TheVariants as locate
use Rattle.dn_ask.specs.declared.asks.Seal.TheVariants as seal
use Rattle.dn_find.specs.declared.finds.Found.{Found}
use Rattle.dn_find.specs.declared.finds.Found.TheVariants as found
use Rattle.dn_services.specs.Room.{looked_for}
use Rattle.dn_services.specs.declared.rooms.RoomTurn.{RoomTurn}
use Rattle.dn_services.specs.declared.rooms.RoomTurn.TheVariants as turn
use Rattle.dn_services.specs.declared.seals.Seal.{Seal}
use Rattle.dn_services.specs.declared.seals.SealTurn.{SealTurn}
use Rattle.dn_services.specs.declared.seals.SealTurn.TheVariants as sealing
use Rattle.dn_lane.specs.Asked.{brief_of, words_in}
use Rattle.dn_lane.specs.Taken.{roomed_by, entered_after, entered, sought_by, sealed_by, taken_by}
use Rattle.dn_lane.specs.declared.asked.Asked.{Asked}
use Rattle.dn_lane.specs.declared.base.Base.{Base}
use Rattle.dn_lane.specs.declared.modes.Going.{Going}
use Rattle.dn_lane.specs.declared.modes.Going.TheVariants.{On, End}
use Rattle.dn_lane.specs.declared.modes.Mode.{Mode}
use Rattle.dn_lane.specs.declared.modes.Mode.TheVariants as mode
use Rattle.dn_outcomes.specs.Sound.{is_calling}

-- A call's plan ends as not owner at its look alone.

abbrev pub refusal_of : Ending → Option ℕ
refusal_of (ending.Made to place located) = None
refusal_of (ending.NotOwner look) = Some look
refusal_of (ending.Fenced gate) = None
refusal_of (ending.Full counter segments) = None
refusal_of (ending.Worn stamp) = None

abbrev pub refusal : Going → Option ℕ
refusal (On m) = None
refusal (End (end.Call e)) = refusal_of e
refusal (End (end.Task answer)) = None

-- ---- where it is never so
room_never : (g : Base) (a : Asked) (p : RoomPhase) (x : RoomTurn) → refusal (roomed_by g a (room.Call p) x).going ≡ None
room_never g a p (turn.More claim) = refl
room_never g a (rooming.Write r) (turn.Told rooms.Found) = refl
room_never g a (rooming.Write r) (turn.Told (rooms.Full counter segments)) = refl

raises_never : (g : Base) (a : Asked) (look : ℕ) (located : Located) (gate : ℕ) (r : Option Position) → refusal (entered_after g a (call_after (raises look located gate r))).going ≡ None
raises_never g a look located gate None = refl
raises_never g a look located gate (Some to) = refl

reads_never : (g : Base) (a : Asked) (look : ℕ) (located : Located) (gate : ℕ) (q r : Option Position) → refusal (entered_after g a (call_after (reads look located gate q r))).going ≡ None
reads_never g a look located gate None r = raises_never g a look located gate r
reads_never g a look located gate (Some to) r = refl

writes_never : (g : Base) (a : Asked) (look : ℕ) (located : Located) (gate : ℕ) (r : Option Position) → refusal (entered_after g a (call_after (writes look located gate r))).going ≡ None
writes_never g a look located gate None = refl
writes_never g a look located gate (Some to) = room_never g a _ (looked_for g.known (words_in a))

opened_never : (g : Base) (a : Asked) (b : Brief) (look : ℕ) (located : Located) (gate : ℕ) (k : Kind) → refusal (entered_after g a (call_after (opened b look located gate k))).going ≡ None
opened_never g a b look located gate Get = reads_never g a look located gate (quiet_of (need_of b look) (gate_of gate).stamp) (raised_of (need_of b look) (gate_of gate).stamp)
opened_never g a b look located gate Put = writes_never g a look located gate (raised_of (need_of b look) (gate_of gate).stamp)
opened_never g a b look located gate Delete = writes_never g a look located gate (raised_of (need_of b look) (gate_of gate).stamp)

gated_never : (g : Base) (a : Asked) (b : Brief) (look : ℕ) (located : Located) (gate : ℕ) (t : Bool)
    → refusal (entered g a (call_step (if t then barred gate else goes (cnext.After (opened b look located gate b.kind))))).going ≡ None
gated_never g a b look located gate true = refl
gated_never g a b look located gate false = opened_never g a b look located gate b.kind

exchanged_never : (g : Base) (a : Asked) (word : ℕ) (e : Ending) (t : Bool) → refusal_of e ≡ None → refusal (entered g a (call_step (if t then goes (call_ends e) else barred word))).going ≡ None
exchanged_never g a word e true h = h
exchanged_never g a word e false h = refl

sought_never : (g : Base) (a : Asked) (p : LocatePhase) (x : Found) → refusal (sought_by g a (locate.Call p) x).going ≡ None
sought_never g a (locating.Owner look) (found.More find) = refl
sought_never g a (locating.Owner look) (found.Here way there) = refl

sealed_never : (g : Base) (a : Asked) (p : SealPhase) (s : Seal) (word : ℕ) (x : SealTurn) → refusal (sealed_by g a (seal.Call p) s word x).going ≡ None
sealed_never g a p s word sealing.More = refl
sealed_never g a (sealed.Write r) s word (sealing.Sealed place) = exchanged_never g a word (ending.Made r.to (Some place) r.located) (word == r.gate) refl
sealed_never g a (sealed.Write r) s word (sealing.Shut place) = exchanged_never g a word (ending.Made r.to (Some place) r.located) (word == r.gate) refl

-- ---- where it is so
pub record LooksBy (g : Base) (m : Mode) (word look : ℕ) : Type 0 where
  pub mode_is : m ≡ mode.Acting (act.Call phase.Look)
  pub word_is : look ≡ word
  pub other : is_owner g.known.log.lane word ≡ false

never : (g : Base) (m : Mode) (word look : ℕ) (o : Option ℕ) → o ≡ None → o ≡ Some look → LooksBy g m word look
never g m word look o n e = absurd (none-some look (sym n ∙ e))

looks_by : (g : Base) (a : Asked) (word look : ℕ) (t : Bool) → is_owner g.known.log.lane word ≡ t
    → refusal (entered g a (call_step (learns (Epoch (slot_of (brief_of g.known.log.lane a).key) (deed_of word).epoch) (if t then cnext.Locate (locating.Owner word) else call_ends (ending.NotOwner word))))).going ≡ Some look
    → LooksBy g (mode.Acting (act.Call phase.Look)) word look
looks_by g a word look true t e = absurd (none-some look e)
looks_by g a word look false t e = record { mode_is = refl; word_is = sym (same_Some word look e); other = t }

pub refuses_by : (g : Base) (a : Asked) (m : Mode) (word look : ℕ) → is_calling m ≡ true → refusal (taken_by g a m word).going ≡ Some look → LooksBy g m word look
refuses_by g a mode.Idle word look h e = absurd (none-some look e)
refuses_by g a (mode.Acting (act.Call phase.Look)) word look h e = looks_by g a word look (is_owner g.known.log.lane word) refl e
refuses_by g a (mode.Acting (act.Call (phase.Gate deed located))) word look h e =
    never g _ word look _ (gated_never g a (brief_of g.known.log.lane a) deed located word (gate_of word).fenced) e
refuses_by g a (mode.Acting (act.Call (phase.Raise r))) word look h e =
    never g _ word look _ (exchanged_never g a word (ending.Made r.to None r.located) (word == r.gate) refl) e
refuses_by g a (mode.Acting (act.Task p)) word look h e = absurd (cc h)
refuses_by g a (mode.Finding (locate.Call p) find) word look h e = never g _ word look _ (sought_never _ a p _) e
refuses_by g a (mode.Finding (locate.Task p) find) word look h e = absurd (cc h)
refuses_by g a (mode.Claiming (room.Call p) claim) word look h e = never g _ word look _ (room_never _ a p _) e
refuses_by g a (mode.Claiming (room.Task p) claim) word look h e = absurd (cc h)
refuses_by g a (mode.Sealing (seal.Call p) s) word look h e = never g _ word look _ (sealed_never _ a p s word _) e
refuses_by g a (mode.Sealing (seal.Task p) s) word look h e = absurd (cc h)
