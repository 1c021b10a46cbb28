use Rattle.std.proofs.Common.{◌≡◌, ◌≢◌, ◌≤◌, ℕ, ◌+◌, ◌-◌, ◌^◌, ◌==◌, nat_lt, Bool, true, false, length, List, [], ◌∷◌, Option, Some, inl, inr, if◌then◌else◌, refl, subst, ap, ◌∙◌, arith}
use Rattle.std.proofs.lemmas.Bool.Decides.{nat_tests}
use Rattle.dn_word.specs.Deed.{deed_of}
use Rattle.dn_word.specs.Gate.{gate_of}
use Rattle.dn_word.specs.Regions.{gate_at, deed_at, cell_at, segment_counter_at, cell_counter_at}
use Rattle.dn_word.specs.declared.packed.place.Ref.{Ref}
use Rattle.dn_act.specs.declared.actions.Action.{Action}
use Rattle.dn_act.specs.declared.actions.Action.TheVariants.{Load, Cas, Add}
use Rattle.dn_index.specs.Footprint.{Finds, purpose_at}
use Rattle.dn_index.specs.Walk as walks
use Rattle.dn_index.specs.declared.places.Errand.TheVariants as errand
use Rattle.dn_index.specs.declared.places.WalkPlace.{WalkPlace}
use Rattle.dn_index.specs.declared.places.WalkPlace.TheVariants as walk
use Rattle.dn_locate.specs.Fetch as fetches
use Rattle.dn_locate.specs.Fetch.{Fetching}
use Rattle.dn_locate.specs.declared.fetches.FetchPlace.{FetchPlace}
use Rattle.dn_locate.specs.declared.fetches.FetchPlace.TheVariants as fetch
use Rattle.dn_log.specs.Claim.{claim_after}
use Rattle.dn_log.specs.Log.{plan_of}
use Rattle.dn_log.specs.declared.claims.Claim.{Claim}
use Rattle.dn_log.specs.declared.claims.Claim.TheVariants as claim
use Rattle.dn_log.specs.declared.claims.ClaimTurn.TheVariants as claimed
use Rattle.dn_log.specs.declared.staging.Staged.{Staged}
use Rattle.dn_model.specs.Regions.{slot_of}
use Rattle.dn_plan.specs.Plan.{is_owner, taken_of, located_of, roomed_of, sealed_of}
use Rattle.dn_plan.specs.declared.phases.Room.TheVariants as room
use Rattle.dn_plan.specs.declared.results.Effect.TheVariants.{Epoch}
use Rattle.dn_plan.specs.declared.results.Ending.{Ending}
use Rattle.dn_plan.specs.declared.results.Then.{Then as CallThen}
use Rattle.dn_plan.specs.declared.results.Then.TheVariants as cthen
use Rattle.dn_plan.specs.declared.results.After.{After as CallAfter}
use Rattle.dn_plan.specs.declared.results.After.TheVariants as cafter
use Rattle.dn_plan.specs.declared.results.Next.{Next as CallNext}
use Rattle.dn_plan.specs.declared.results.Next.TheVariants as cnext
use Rattle.dn_plan.specs.declared.results.Step.{Step as CallStep}
use Rattle.dn_plan.specs.declared.phases.RoomPhase.{RoomPhase}
use Rattle.dn_plan.specs.declared.phases.Way.{Way}
use Rattle.dn_tend.specs.Fit.{FitsAct as FitsTaskAct}
use Rattle.dn_tend.specs.Tend.{acts, rooms, seals, ends, goes, learns, barred, taken_in, located_in, roomed_in, sealed_in, seal_in, asks_to_leave, given_up, closed_word, cell_in, share_stamp, shares, opening_word, unshare_stamp, unshare_seal, closes}
use Rattle.dn_tend.specs.declared.phases.Share.{Share}
use Rattle.dn_tend.specs.declared.phases.Unshare.{Unshare}
use Rattle.dn_tend.specs.declared.phases.TendAct.{TendAct}
use Rattle.dn_tend.specs.declared.phases.TendAct.TheVariants as at
use Rattle.dn_tend.specs.declared.phases.TendLocate.{TendLocate}
use Rattle.dn_tend.specs.declared.phases.TendLocate.TheVariants as locate
use Rattle.dn_tend.specs.declared.phases.TendNext.TheVariants as next
use Rattle.dn_tend.specs.declared.phases.TendRoom.{TendRoom}
use Rattle.dn_tend.specs.declared.phases.TendRoom.TheVariants as find
use Rattle.dn_tend.specs.declared.phases.TendSealing.{TendSealing}
use Rattle.dn_tend.specs.declared.phases.TendSealing.TheVariants as seal
use Rattle.dn_tend.specs.declared.phases.TendTurn.{TendTurn}
use Rattle.dn_tend.specs.declared.tasks.TaskAnswer.{TaskAnswer}
use Rattle.dn_tend.specs.declared.tasks.TaskAnswer.TheVariants.{Released, NotLeaving, NotOwner, Again, NoCell, Worn}
use Rattle.dn_tend.specs.declared.tasks.TendFound.{TendFound}
use Rattle.dn_tend.specs.declared.tasks.TendFound.TheVariants as said
use Rattle.dn_ask.specs.Ask.{call_then, call_after, call_next, call_step, task_then, task_after, task_next, task_step, task_gate, record_in, action_in as asked_action, sealed_in as asked_sealed, goes as goes_on, barred as shut}
use Rattle.dn_ask.specs.declared.asks.Act.TheVariants as act
use Rattle.dn_ask.specs.declared.asks.FindRoom.TheVariants as asks_room
use Rattle.dn_ask.specs.declared.asks.Locate.{Locate}
use Rattle.dn_ask.specs.declared.asks.Locate.TheVariants as asks_place
use Rattle.dn_ask.specs.declared.asks.Seal.{Seal as SealWait}
use Rattle.dn_ask.specs.declared.asks.Seal.TheVariants as asks_seal
use Rattle.dn_find.specs.Find.{find_next}
use Rattle.dn_find.specs.Fit.{IsReady}
use Rattle.dn_find.specs.declared.finds.Find.{Find}
use Rattle.dn_find.specs.declared.finds.Find.TheVariants as finds
use Rattle.dn_find.specs.declared.finds.Found.{Found}
use Rattle.dn_find.specs.declared.finds.Found.TheVariants as found
use Rattle.dn_services.specs.Room.{turn_by as room_turn, IsClaimFor}
use Rattle.dn_services.specs.Sealing.{turn_of as seal_turn, next_of as seal_next, new_gate}
use Rattle.dn_services.specs.declared.rooms.RoomTurn.{RoomTurn}
use Rattle.dn_services.specs.declared.rooms.RoomTurn.TheVariants as turn
use Rattle.dn_services.specs.declared.seals.Seal.{Seal}
use Rattle.dn_services.specs.declared.seals.SealTurn.{SealTurn}
use Rattle.dn_services.specs.declared.seals.SealTurn.TheVariants as sealed
use Rattle.dn_lane.specs.Asked.{brief_of, words_in}
use Rattle.dn_lane.specs.Ends.{called}
use Rattle.dn_lane.specs.Fit.{FitsMode}
use Rattle.dn_lane.proofs.StepLemmas.{gate_in, seal_gate}
use Rattle.dn_lane.specs.Found.{said_in, kept_in, value_in}
use Rattle.dn_lane.specs.Next.{next_in}
use Rattle.dn_lane.specs.State.{LaneState}
use Rattle.dn_lane.specs.Taken.{by, entered, entered_then, entered_after, entered_next, roomed_by, sought_by, sealed_by, taken_by, learnt_by}
use Rattle.dn_lane.specs.TaskCauses.{lane_of, IsAt, Seeks, Seals, Looks, said_by, told_in, TaskCause}
use Rattle.dn_lane.specs.CallCauses.{Does, FindsGate}
use Rattle.dn_lane.specs.Turns.{turned, turn_of}
use Rattle.dn_lane.specs.declared.answers.Turn.{Turn}
use Rattle.dn_lane.specs.declared.answers.Turn.TheVariants.{More, Done, Tended}
use Rattle.dn_lane.specs.declared.asked.Asked.{Asked}
use Rattle.dn_lane.specs.declared.asked.Asked.TheVariants as asked
use Rattle.dn_lane.specs.declared.base.Base.{Base}
use Rattle.dn_lane.specs.declared.modes.Mode.{Mode}
use Rattle.dn_lane.specs.declared.modes.Mode.TheVariants as mode

-- Each answer of a task has its cause.

same_words : (a b : ℕ) → (a == b) ≡ true → a ≡ b
same_words a b e = grind (arith, nat_tests)

other_words : (a b : ℕ) → (a == b) ≡ false → a ≢ b
other_words a b e = grind (arith, nat_tests)

at_least : (word most : ℕ) → nat_lt word most ≡ false → most ≤ word
at_least word most e = grind (arith, nat_tests)

-- a turn that answers a task has the answer's cause
abbrev pub Caused : LaneState → ℕ → Turn → Type 0
Caused l word More = Unit {0}
Caused l word (Done answer) = Unit {0}
Caused l word (Tended answer) = TaskCause l word answer

-- ---- the plan of a call answers no task
called_caused : (l : LaneState) (word : ℕ) (a : Asked) (e : Ending) → Caused l word (called a e)
called_caused l word asked.Nothing e = tt
called_caused l word (asked.Call call view room) e = tt
called_caused l word asked.Task e = tt

call_then_caused : (l : LaneState) (word : ℕ) (g : Base) (a : Asked) (to : CallThen) → Caused l word (turned (by a (entered_then g a (call_then to))))
call_then_caused l word g a (cthen.Act phase) = tt
call_then_caused l word g a (cthen.Seal phase) = tt
call_then_caused l word g a (cthen.End e) = called_caused l word a e

call_room_caused : (l : LaneState) (word : ℕ) (g : Base) (a : Asked) (phase : RoomPhase) (r : RoomTurn)
    → Caused l word (turned (by a (roomed_by g a (asks_room.Call phase) r)))
call_room_caused l word g a phase (turn.More claim) = tt
call_room_caused l word g a phase (turn.Told there) = call_then_caused l word g a (roomed_of phase there)

call_after_caused : (l : LaneState) (word : ℕ) (g : Base) (a : Asked) (to : CallAfter) → Caused l word (turned (by a (entered_after g a (call_after to))))
call_after_caused l word g a (cafter.Room phase) = call_room_caused l word g a phase _
call_after_caused l word g a (cafter.Then to) = call_then_caused l word g a to

call_next_caused : (l : LaneState) (word : ℕ) (g : Base) (a : Asked) (to : CallNext) → Caused l word (turned (by a (entered_next g a (call_next to))))
call_next_caused l word g a (cnext.Locate phase) = tt
call_next_caused l word g a (cnext.After to) = call_after_caused l word g a to

call_caused : (l : LaneState) (word : ℕ) (g : Base) (a : Asked) (step : CallStep) → Caused l word (turned (by a (entered g a (call_step step))))
call_caused l word g a step = call_next_caused l word (record g { known = learnt_by g.known step.effect }) a step.next

-- ---- an action of a task's own
-- what the lane answers where the task goes on so
abbrev told : LaneState → TendTurn → Turn
told l step = turned (by l.asked (entered l.base l.asked (task_step step)))

deed_by : (l : LaneState) (word slot : ℕ) (b : Bool) → IsAt l (at.Deed slot) → Does l (Load (deed_at slot)) → asks_to_leave (lane_of l) word ≡ b
    → Caused l word (told l (learns (Epoch slot (deed_of word).epoch) (if b then acts (at.GiveUp slot word) else ends (NotLeaving word))))
deed_by l word slot true m d e = tt
deed_by l word slot false m d e = (slot, m, d, refl, e)

give_up_by : (l : LaneState) (word slot deed : ℕ) (b : Bool) → IsAt l (at.GiveUp slot deed) → asks_to_leave (lane_of l) deed ≡ true → Does l (Cas (deed_at slot) deed (given_up deed)) → (word == deed) ≡ b
    → Caused l word (told l (goes (if b then ends Released else ends (Again deed word))))
give_up_by l word slot deed true m leaves d e = (slot, deed, m, d, leaves, same_words word deed e)
give_up_by l word slot deed false m leaves d e = (refl, other_words word deed e, inl (slot, m, d))

look_by : (l : LaneState) (word key : ℕ) (phase : TendLocate) (b : Bool) → Looks l key → is_owner (lane_of l) word ≡ b
    → Caused l word (told l (learns (Epoch (slot_of key) (deed_of word).epoch) (if b then next.Locate phase else ends (NotOwner word))))
look_by l word key phase true d e = tt
look_by l word key phase false d e = (key, d, refl, e)

-- ---- room
found_caused : (l : LaneState) (word : ℕ) (g : Base) (a : Asked) (phase : TendRoom) → Caused l word (turned (by a (entered_then g a (task_then (roomed_in phase)))))
found_caused l word g a (find.Share share) = tt
found_caused l word g a (find.Unshare unshare gate) = tt

room_by : (l : LaneState) (word : ℕ) (g : Base) (phase : TendRoom) (need all : Bool) → (plan_of l.base.known.log (words_in l.asked)).need_segment ≡ need
    → (length l.base.known.log.segments == 256) ≡ all → FindsGate l word false
    → Caused l word (turned (by l.asked (roomed_by g l.asked (asks_room.Task phase)
    (if need then (if all then turn.Told (room.Full 0 256) else turn.More (claim.Reading l.base.known.log.pool (length l.base.known.log.segments))) else turn.Told room.Found))))
room_by l word g phase true true e h d = inl (d, record { needs = e; all = same_words (length l.base.known.log.segments) 256 h; none_read = refl; told = refl })
room_by l word g phase true false e h d = tt
room_by l word g phase false all e h d = found_caused l word g l.asked phase

gate_room : (l : LaneState) (word : ℕ) (phase : TendRoom) → FindsGate l word false → Caused l word (told l (goes (rooms phase)))
gate_room l word phase d =
    room_by l word _ phase (plan_of l.base.known.log (words_in l.asked)).need_segment (length l.base.known.log.segments == 256) refl refl d

read_by : (l : LaneState) (word : ℕ) (g : Base) (phase : TendRoom) (after : Claim) (pool segments : ℕ) (b : Bool) → nat_lt word pool ≡ b → pool ≡ l.base.known.log.pool
    → segments ≡ length l.base.known.log.segments → Does l (Load segment_counter_at)
    → Caused l word (turned (by l.asked (roomed_by g l.asked (asks_room.Task phase) (room_turn after (if b then claimed.More else claimed.Full word segments)))))
read_by l word g phase after pool segments true e p s d = tt
read_by l word g phase after pool segments false e p s d = inr (inl d, record { full = subst (λ n. n ≤ word) p (at_least word pool e); read = refl; told = s })

added_by : (l : LaneState) (word : ℕ) (g : Base) (phase : TendRoom) (after : Claim) (pool segments : ℕ) (b : Bool) → nat_lt word pool ≡ b → pool ≡ l.base.known.log.pool
    → segments ≡ length l.base.known.log.segments → Does l (Add segment_counter_at 1)
    → Caused l word (turned (by l.asked (roomed_by g l.asked (asks_room.Task phase) (room_turn after (if b then claimed.Got word else claimed.Full word segments)))))
added_by l word g phase after pool segments true e p s d = found_caused l word g l.asked phase
added_by l word g phase after pool segments false e p s d = inr (inr d, record { full = subst (λ n. n ≤ word) p (at_least word pool e); read = refl; told = s })

claim_caused : (l : LaneState) (word : ℕ) (phase : TendRoom) (c : Claim) → IsClaimFor l.base.known.log c → l.mode ≡ mode.Claiming (asks_room.Task phase) c
    → Caused l word (turned (taken_by l.base l.asked (mode.Claiming (asks_room.Task phase) c) word))
claim_caused l word phase (claim.Reading pool segments) f m =
    read_by l word _ phase (claim_after (claim.Reading pool segments) word) pool segments (nat_lt word pool) refl f.pool f.segments (ap (λ (x : Mode). next_in l.base l.asked x) m)
claim_caused l word phase (claim.Taking pool segments) f m =
    added_by l word _ phase (claim_after (claim.Taking pool segments) word) pool segments (nat_lt word pool) refl f.pool f.segments (ap (λ (x : Mode). next_in l.base l.asked x) m)

-- ---- the gate
share_worn_by : (l : LaneState) (word key look : ℕ) (place : Option Ref) (b : Bool) → l.mode ≡ mode.Acting (act.Task (at.ShareGate key look place))
    → Does l (Load (gate_at (lane_of l))) → (gate_of word).fenced ≡ false → (share_stamp look word == 2 ^ 31 - 1) ≡ b
    → Caused l word (told l (goes (if b then ends (Worn (2 ^ 31 - 1))
    else rooms (find.Share (record { key = key; look = look; gate = word; opening = opening_word (share_stamp look word + 1) place })))))
share_worn_by l word key look place true m d free e = (refl, inl (key, look, place, m, d, free, same_words (share_stamp look word) (2 ^ 31 - 1) e))
share_worn_by l word key look place false m d free e =
    gate_room l word (find.Share (record { key = key; look = look; gate = word; opening = opening_word (share_stamp look word + 1) place })) (d, free)

share_gate_by : (l : LaneState) (word key look : ℕ) (place : Option Ref) (b : Bool) → l.mode ≡ mode.Acting (act.Task (at.ShareGate key look place))
    → Does l (Load (gate_at (lane_of l))) → (gate_of word).fenced ≡ b
    → Caused l word (told l (if b then barred word else goes (shares key look (share_stamp look word) place word)))
share_gate_by l word key look place true m d e = (refl, inl (d, e))
share_gate_by l word key look place false m d e = share_worn_by l word key look place (share_stamp look word == 2 ^ 31 - 1) m d e refl

unshare_gate_by : (l : LaneState) (word : ℕ) (unshare : Unshare) (b : Bool) → Does l (Load (gate_at (lane_of l))) → (gate_of word).fenced ≡ b
    → Caused l word (told l (if b then barred word else goes (rooms (find.Unshare unshare word))))
unshare_gate_by l word unshare true d e = (refl, inl (d, e))
unshare_gate_by l word unshare false d e = gate_room l word (find.Unshare unshare word) (d, e)

-- ---- cells
count_by : (l : LaneState) (word : ℕ) (share : Share) (b : Bool) → Does l (Load cell_counter_at) → nat_lt word 256 ≡ b
    → Caused l word (told l (goes (if b then acts (at.Claim share) else ends (NoCell word))))
count_by l word share true d e = tt
count_by l word share false d e = (inl d, refl, at_least word 256 e)

claim_by : (l : LaneState) (word : ℕ) (share : Share) (b : Bool) → Does l (Add cell_counter_at 1) → nat_lt word 256 ≡ b
    → Caused l word (told l (goes (if b then acts (at.Name share word) else ends (NoCell word))))
claim_by l word share true d e = tt
claim_by l word share false d e = (inr d, refl, at_least word 256 e)

closes_by : (l : LaneState) (word : ℕ) (phase : TendSealing) (then_act : TendAct) (b : Bool) → Caused l word (told l (goes (if b then seals phase else acts then_act)))
closes_by l word phase then_act true = tt
closes_by l word phase then_act false = tt

cell_by : (l : LaneState) (word : ℕ) (unshare : Unshare) (gate : ℕ) (b : Bool) → l.mode ≡ mode.Acting (act.Task (at.Cell unshare gate))
    → Does l (Load (cell_at unshare.cell)) → (unshare_stamp unshare gate word == 2 ^ 31 - 1) ≡ b
    → Caused l word (told l (goes (if b then ends (Worn (2 ^ 31 - 1)) else closes unshare gate word (unshare_stamp unshare gate word + 1))))
cell_by l word unshare gate true m d e = (refl, inr (unshare, gate, m, d, same_words (unshare_stamp unshare gate word) (2 ^ 31 - 1) e))
cell_by l word unshare gate false m d e =
    closes_by l word (unshare_seal unshare gate word (unshare_stamp unshare gate word + 1)) (at.Close unshare gate word (unshare_stamp unshare gate word + 1)) (cell_in unshare.opening word).closed

close_by : (l : LaneState) (word : ℕ) (unshare : Unshare) (gate stamp seen : ℕ) (phase : TendSealing) (b : Bool) → IsAt l (at.Close unshare gate seen stamp) → Does l (Cas (cell_at unshare.cell) seen (closed_word unshare.opening seen))
    → (word == seen) ≡ b → Caused l word (told l (goes (if b then seals phase else ends (Again seen word))))
close_by l word unshare gate stamp seen phase true m d e = tt
close_by l word unshare gate stamp seen phase false m d e = (refl, other_words word seen e, inr (unshare, gate, stamp, m, d))

-- ---- each action
does : (l : LaneState) (phase : TendAct) → l.mode ≡ mode.Acting (act.Task phase) → Does l (asked_action (brief_of (lane_of l) l.asked) (act.Task phase))
does l phase m = ap (λ (x : Mode). next_in l.base l.asked x) m

act_caused : (l : LaneState) (word : ℕ) (phase : TendAct) → FitsTaskAct (lane_of l) phase → l.mode ≡ mode.Acting (act.Task phase)
    → Caused l word (told l (taken_in (lane_of l) phase word))
act_caused l word (at.Deed slot) f m = deed_by l word slot (asks_to_leave (lane_of l) word) m (does l _ m) refl
act_caused l word (at.GiveUp slot deed) f m = give_up_by l word slot deed (word == deed) m f.1 (does l _ m) refl
act_caused l word at.Mark f m = (m, does l _ m, refl)
act_caused l word (at.ShareLook key) f m = look_by l word key (locate.Share key word) (is_owner (lane_of l) word) (inl m, does l _ m) refl
act_caused l word (at.ShareGate key look place) f m = share_gate_by l word key look place (gate_of word).fenced m (does l _ m) refl
act_caused l word (at.Count share) f m = count_by l word share (nat_lt word 256) (does l _ m) refl
act_caused l word (at.Claim share) f m = claim_by l word share (nat_lt word 256) (does l _ m) refl
act_caused l word (at.Name share cell) f m = tt
act_caused l word (at.Open share cell) f m = inr (share, m, does l _ m)
act_caused l word (at.UnshareLook key) f m = look_by l word key (locate.Unshare key word) (is_owner (lane_of l) word) (inr m, does l _ m) refl
act_caused l word (at.UnshareGate unshare) f m = unshare_gate_by l word unshare (gate_of word).fenced (does l _ m) refl
act_caused l word (at.Cell unshare gate) f m = cell_by l word unshare gate (unshare_stamp unshare gate word == 2 ^ 31 - 1) m (does l _ m) refl
act_caused l word (at.Close unshare gate seen stamp) f m = close_by l word unshare gate stamp seen (unshare_seal unshare gate seen stamp) (word == seen) m (does l _ m) refl

-- ---- the location of the key
-- it only loads
pub record IsLoadOf (action : Action) : Type 0 where
  pub at : ℕ
  pub is : action ≡ Load at

walk_loads : (key : ℕ) (p : WalkPlace) → purpose_at p ≡ Finds → IsLoadOf (walks.next_at key p)
walk_loads key (walk.Key errand t number) e = record { at = _; is = refl }
walk_loads key (walk.Next errand t) e = record { at = _; is = refl }
walk_loads key (walk.Match errand.Find s) e = record { at = _; is = refl }
walk_loads key (walk.Match (errand.Set at) s) e = absurd cc
walk_loads key (walk.Match errand.Remove s) e = absurd cc
walk_loads key (walk.Counter at last) e = absurd cc
walk_loads key (walk.Claim at last) e = absurd cc
walk_loads key (walk.FillPlace at s from) e = absurd cc
walk_loads key (walk.FillKey s from) e = absurd cc
walk_loads key (walk.Link last new) e = absurd cc

fetch_loads : (f : Fetching) (p : FetchPlace) → IsLoadOf (fetches.next_at f p)
fetch_loads f fetch.Idle = record { at = _; is = refl }
fetch_loads f fetch.Directory = record { at = _; is = refl }
fetch_loads f (fetch.Header from) = record { at = _; is = refl }
fetch_loads f (fetch.Content from count) = record { at = _; is = refl }
fetch_loads f (fetch.Link from) = record { at = _; is = refl }

find_loads : (f : Fetching) (s : Find) → IsReady f s → IsLoadOf (find_next f s)
find_loads f (finds.Walk w) h = walk_loads w.key w.place h
find_loads f (finds.Fetch way) h = fetch_loads f f.place

located_caused : (l : LaneState) (word : ℕ) (g : Base) (a : Asked) (phase : TendLocate) (s : TendFound) (at : ℕ) → Seeks l phase → Does l (Load at) → told_in l l.mode word ≡ Some s
    → Caused l word (turned (by a (entered_after g a (task_after (located_in phase s)))))
located_caused l word g a (locate.Share key look) said.Nothing at q d e = tt
located_caused l word g a (locate.Share key look) (said.At place) at q d e = tt
located_caused l word g a (locate.Share key look) (said.Shared cell opening) at q d e = inl (key, look, opening, q, (at, d, e))
located_caused l word g a (locate.Unshare key look) said.Nothing at q d e = (key, look, q, inl (at, d, e))
located_caused l word g a (locate.Unshare key look) (said.At place) at q d e = (key, look, q, inr (place, (at, d, e)))
located_caused l word g a (locate.Unshare key look) (said.Shared cell opening) at q d e = tt

here_caused : (l : LaneState) (word : ℕ) (g : Base) (phase : TendLocate) (way : Way) (there : Bool) (at : ℕ) → Seeks l phase → Does l (Load at)
    → told_in l l.mode word ≡ said_by (found.Here way there) g.fetch
    → Caused l word (turned (sought_by g l.asked (asks_place.Task phase) (found.Here way there)))
here_caused l word g phase way true at q d e = located_caused l word g (kept_in l.asked (value_in g.fetch.words)).asked phase (said_in g.fetch.words g.fetch.at) at q d e
here_caused l word g phase way false at q d e = located_caused l word g l.asked phase said.Nothing at q d e

sought_caused : (l : LaneState) (word : ℕ) (g : Base) (wait : Locate) (f : Found) (at : ℕ) → ((find : Find) × (l.mode ≡ mode.Finding wait find)) → Does l (Load at) → told_in l l.mode word ≡ said_by f g.fetch
    → Caused l word (turned (sought_by g l.asked wait f))
sought_caused l word g wait (found.More s) at q d e = tt
sought_caused l word g (asks_place.Call phase) (found.Here way there) at q d e = call_after_caused l word g _ (located_of phase _)
sought_caused l word g (asks_place.Task phase) (found.Here way there) at q d e = here_caused l word g phase way there at q d e

-- ---- the seal
exchanged_by : (l : LaneState) (word : ℕ) (g : Base) (phase : TendSealing) (new : ℕ) (b : Bool) → let old = task_gate (seal_in phase) in Seals l phase → Does l (Cas (gate_at (lane_of l)) old new) → (word == old) ≡ b
    → Caused l word (turned (by l.asked (entered g l.asked (if b then goes_on (task_next (sealed_in phase)) else shut word))))
exchanged_by l word g (seal.Share share cell) new true q d e = tt
exchanged_by l word g (seal.Unshare unshare place stamp gate) new true q d e = (unshare, place, stamp, gate, q, (new, d), same_words word gate e)
exchanged_by l word g phase new false q d e = (refl, inr (task_gate (seal_in phase), (new, d), other_words word (task_gate (seal_in phase)) e))

sealed_caused : (l : LaneState) (word : ℕ) (g : Base) (wait : SealWait) (place : Ref) (new : ℕ) → ((s : Seal) × (l.mode ≡ mode.Sealing wait s)) → Does l (Cas (gate_at (lane_of l)) (gate_in (record_in wait)) new)
    → Caused l word (turned (by l.asked (entered g l.asked (asked_sealed place word wait))))
sealed_caused l word g (asks_seal.Call phase) place new q d = call_caused l word g l.asked (sealed_of phase place word)
sealed_caused l word g (asks_seal.Task phase) place new q d = exchanged_by l word g phase new (word == task_gate (seal_in phase)) q d refl

seal_turn_caused : (l : LaneState) (word : ℕ) (g : Base) (wait : SealWait) (s : Seal) (t : SealTurn) (new : ℕ) → l.mode ≡ mode.Sealing wait s → Does l (Cas (gate_at (lane_of l)) (gate_in (record_in wait)) new)
    → Caused l word (turned (by l.asked (sealed_by g l.asked wait s word t)))
seal_turn_caused l word g wait s sealed.More new m d = tt
seal_turn_caused l word g wait s (sealed.Sealed place) new m d = sealed_caused l word g wait place new (s, m) d
seal_turn_caused l word g wait s (sealed.Shut place) new m d = sealed_caused l word g wait place new (s, m) d

seal_caused : (l : LaneState) (word : ℕ) (g : Base) (wait : SealWait) (s : Seal) (waits : List Staged) → s.gate ≡ gate_in (record_in wait) → l.mode ≡ mode.Sealing wait s
    → Does l (seal_next l.base.known s waits)
    → Caused l word (turned (by l.asked (sealed_by g l.asked wait s word (seal_turn l.base.known s word waits))))
seal_caused l word g wait s [] same m d =
    seal_turn_caused l word g wait s (seal_turn l.base.known s word []) (new_gate l.base.known s) m
    (subst (λ (n : ℕ). Does l (Cas (gate_at (lane_of l)) n (new_gate l.base.known s))) same d)
seal_caused l word g wait s (w ∷ ws) same m d = tt

-- ---- each mode
mode_caused : (l : LaneState) (word : ℕ) (m : Mode) → FitsMode l.base l.asked m → l.mode ≡ m → Caused l word (turned (taken_by l.base l.asked m word))
mode_caused l word mode.Idle f e = tt
mode_caused l word (mode.Acting (act.Call phase)) f e = call_caused l word l.base l.asked (taken_of (brief_of (lane_of l) l.asked) phase word)
mode_caused l word (mode.Acting (act.Task phase)) f e = act_caused l word phase f.1.1 e
mode_caused l word (mode.Finding wait s) f e =
    let load : IsLoadOf (find_next l.base.fetch s) = find_loads l.base.fetch s f.3.ready in
    sought_caused l word _ wait _ load.at (s, e) (ap (λ (x : Mode). next_in l.base l.asked x) e ∙ ap (λ (x : Action). Some x) load.is) (ap (λ (x : Mode). told_in l x word) e)
mode_caused l word (mode.Claiming (asks_room.Call phase) c) f e = call_room_caused l word _ l.asked phase _
mode_caused l word (mode.Claiming (asks_room.Task phase) c) f e = claim_caused l word phase c f.3 e
mode_caused l word (mode.Sealing wait s) f e = seal_caused l word _ wait s l.base.staging (seal_gate l.asked s (record_in wait) f.3) e (ap (λ (x : Mode). next_in l.base l.asked x) e)

pub task_cause : (l : LaneState) (word : ℕ) (answer : TaskAnswer) → FitsMode l.base l.asked l.mode → turn_of l word ≡ Tended answer → TaskCause l word answer
task_cause l word answer f e = subst (λ (t : Turn). Caused l word t) e (mode_caused l word l.mode f refl)
