use Rattle.std.proofs.Common.{◌≡◌, ◌≢◌, inl, inr, ℕ, ◌-◌, ◌^◌, ◌≤◌, ◌==◌, List, [], ◌∷◌, Bool, true, false, nat_lt, length, Option, Some, None, refl, sym, subst, ap, arith, if◌then◌else◌}
use Rattle.std.proofs.lemmas.Bool.Decides.{nat_tests}
use Rattle.dn_word.specs.Gate.{gate_of}
use Rattle.dn_word.specs.Need.{quiet_of, raised_of}
use Rattle.dn_word.specs.declared.packed.place.Ref.{Ref}
use Rattle.dn_word.specs.declared.positions.Position.{Position}
use Rattle.dn_hist.specs.declared.calls.Call.{Call}
use Rattle.dn_hist.specs.declared.calls.Call.TheVariants.{Get, Put, Delete}
use Rattle.dn_hist.specs.declared.receipts.SessionView.{SessionView}
use Rattle.dn_locate.specs.Fetch.{Fetching}
use Rattle.dn_log.specs.Claim.{turn_of as claim_turn, claim_after}
use Rattle.dn_log.specs.Log.{plan_of}
use Rattle.dn_log.specs.declared.claims.Claim.{Claim}
use Rattle.dn_log.specs.declared.claims.Claim.TheVariants as claim
use Rattle.dn_log.specs.declared.claims.ClaimTurn.TheVariants as told_as
use Rattle.dn_known.specs.State.{KnownState}
use Rattle.dn_log.specs.declared.staging.Staged.{Staged}
use Rattle.dn_plan.specs.Causes.{HasToRaise}
use Rattle.dn_plan.specs.Fit.{FitsRaised}
use Rattle.dn_plan.specs.Plan.{is_owner, need_of, looked, barred, goes, ends as call_ends, opened, reads, raises, writes, raised_at, sealing_of}
use Rattle.dn_plan.specs.declared.phases.Brief.{Brief}
use Rattle.dn_plan.specs.declared.phases.Located.{Located}
use Rattle.dn_plan.specs.declared.phases.Raised.{Raised}
use Rattle.dn_plan.specs.declared.phases.ActPhase.TheVariants as phase
use Rattle.dn_plan.specs.declared.phases.LocatePhase.TheVariants as owner_phase
use Rattle.dn_plan.specs.declared.phases.Room.TheVariants.{Found, Full as NoRoom}
use Rattle.dn_plan.specs.declared.phases.RoomPhase.TheVariants as room_phase
use Rattle.dn_plan.specs.declared.phases.SealPhase.TheVariants as seal_phase
use Rattle.dn_plan.specs.declared.results.Ending.TheVariants.{Made as MadeEnd, NotOwner as NotOwnerEnd}
use Rattle.dn_plan.specs.declared.results.Next.TheVariants as cnext
use Rattle.dn_plan.specs.declared.results.Step.{Step as CallStep}
use Rattle.dn_tend.specs.Tend.{taken_in as task_taken, located_in as task_located, roomed_in as task_roomed, seal_in, sealed_in as task_seal_next}
use Rattle.dn_tend.specs.declared.tasks.TendFound.{TendFound}
use Rattle.dn_tend.specs.declared.tasks.TendFound.TheVariants as said
use Rattle.dn_tend.specs.declared.phases.TendLocate.{TendLocate}
use Rattle.dn_tend.specs.declared.phases.TendLocate.TheVariants as tlocate
use Rattle.dn_tend.specs.declared.phases.TendRoom.{TendRoom}
use Rattle.dn_tend.specs.declared.phases.TendSealing.{TendSealing}
use Rattle.dn_tend.specs.declared.phases.TendThen.{TendThen}
use Rattle.dn_tend.specs.declared.phases.TendThen.TheVariants as tthen
use Rattle.dn_tend.specs.declared.phases.TendAfter.TheVariants as tafter
use Rattle.dn_tend.specs.declared.phases.TendNext.{TendNext}
use Rattle.dn_tend.specs.declared.phases.TendNext.TheVariants as tnext
use Rattle.dn_tend.specs.declared.phases.TendTurn.{TendTurn}
use Rattle.dn_ask.specs.Ask.{key_in, wish_in, record_in, sealed_in, task_gate, goes as goes_on, barred as barred_task, call_step, task_then, task_after, task_next, task_step}
use Rattle.dn_ask.specs.Fit.{FitsAct, FitsRoom, FitsSeal}
use Rattle.dn_ask.specs.declared.asks.Act.{Act}
use Rattle.dn_ask.specs.declared.asks.Act.TheVariants as act
use Rattle.dn_ask.specs.declared.asks.FindRoom.{FindRoom}
use Rattle.dn_ask.specs.declared.asks.FindRoom.TheVariants as find
use Rattle.dn_ask.specs.declared.asks.Locate.{Locate}
use Rattle.dn_ask.specs.declared.asks.Locate.TheVariants as locate
use Rattle.dn_ask.specs.declared.asks.Seal.{Seal as SealWait}
use Rattle.dn_ask.specs.declared.asks.Seal.TheVariants as seal
use Rattle.dn_find.specs.Find.{Sought, found_of}
use Rattle.dn_find.specs.declared.finds.Find.{Find}
use Rattle.dn_find.specs.declared.finds.Found.{Found as FoundOf}
use Rattle.dn_find.specs.declared.finds.Found.TheVariants as found
use Rattle.dn_services.specs.Room.{looked_for, claimed_by, turn_by as room_turn, IsClaimFor}
use Rattle.dn_services.specs.declared.rooms.RoomTurn.{RoomTurn}
use Rattle.dn_services.specs.declared.rooms.RoomTurn.TheVariants as room
use Rattle.dn_services.specs.Sealing.{call_seal, known_after, place_in}
use Rattle.dn_services.specs.declared.seals.Seal.{Seal}
use Rattle.dn_services.specs.declared.seals.SealTurn.TheVariants as turn
use Rattle.dn_lane.specs.Asked.{brief_of, kind_of, words_in}
use Rattle.dn_lane.specs.CallCauses.{Counts, Exchanges, WaitsForExchange, IsRaised, CallCause}
use Rattle.dn_lane.specs.Fit.{FitsMode}
use Rattle.dn_lane.specs.State.{LaneState}
use Rattle.dn_lane.specs.Taken.{Arrived, learnt_by, entered, entered_then, entered_next, entered_after, roomed_by, sought_by, arrived_at, here_of, sealing_by, sealed_by}
use Rattle.dn_lane.specs.Turns.{turn_of, turned, turn_going}
use Rattle.dn_lane.specs.Ends.{receipt_of}
use Rattle.dn_lane.specs.declared.answers.Answer.{Answer}
use Rattle.dn_lane.specs.declared.answers.Answer.TheVariants.{Made, NotOwner, Fenced, Full, Worn}
use Rattle.dn_lane.specs.declared.answers.Turn.{Turn}
use Rattle.dn_lane.specs.declared.answers.Turn.TheVariants.{More, Done, Tended}
use Rattle.dn_lane.specs.declared.asked.Asked.{Asked}
use Rattle.dn_lane.specs.declared.asked.Asked.TheVariants as asked
use Rattle.dn_lane.specs.declared.base.Base.{Base}
use Rattle.dn_lane.specs.declared.modes.Mode.{Mode}
use Rattle.dn_lane.specs.declared.modes.Mode.TheVariants as mode

-- Each answer of a call comes by its cause.

abbrev pub lane_of : Base → Asked → Mode → LaneState
lane_of g a m = record { base = g; asked = a; mode = m }

abbrev answer_in : Answer → Turn → Answer
answer_in d More = d
answer_in d (Done answer) = answer
answer_in d (Tended answer) = d

-- the answer that is given has this cause
due : (l : LaneState) (word : ℕ) (given answer : Answer) → Done given ≡ Done answer → CallCause l word given → CallCause l word answer
due l word given answer e h = subst (λ x. CallCause l word x) (ap (answer_in given) e) h

pub not_more : (answer : Answer) → More ≡ Done answer → ⊥
not_more answer e = cc

-- ---- a task gives no answer of a call
then_never : (g : Base) (a : Asked) (t : TendThen) (answer : Answer) → turn_going a (entered_then g a (task_then t)).going ≡ Done answer → ⊥
then_never g a (tthen.Act phase) answer e = cc
then_never g a (tthen.Seal phase) answer e = cc
then_never g a (tthen.Done told) answer e = cc

room_never : (g : Base) (a : Asked) (p : TendRoom) (t : RoomTurn) (answer : Answer) → turn_going a (roomed_by g a (find.Task p) t).going ≡ Done answer → ⊥
room_never g a p (room.Told Found) answer e = then_never g a (task_roomed p) answer e
room_never g a p (room.Told (NoRoom counter segments)) answer e = cc
room_never g a p (room.More claim) answer e = cc

next_never : (g : Base) (a : Asked) (n : TendNext) (answer : Answer) → turn_going a (entered_next g a (task_next n)).going ≡ Done answer → ⊥
next_never g a (tnext.Locate p) answer e = cc
next_never g a (tnext.After (tafter.Room p)) answer e = room_never g a p (looked_for g.known (words_in a)) answer e
next_never g a (tnext.After (tafter.Then t)) answer e = then_never g a t answer e

step_never : (g : Base) (a : Asked) (t : TendTurn) (answer : Answer) → turn_going a (entered g a (task_step t)).going ≡ Done answer → ⊥
step_never g a t answer e = next_never (record g { known = learnt_by g.known t.effect }) a t.next answer e

located_never : (g : Base) (a : Asked) (p : TendLocate) (f : TendFound) (answer : Answer) → turn_going a (entered_after g a (task_after (task_located p f))).going ≡ Done answer → ⊥
located_never g a (tlocate.Share key look) said.Nothing answer e = cc
located_never g a (tlocate.Share key look) (said.At place) answer e = cc
located_never g a (tlocate.Share key look) (said.Shared cell opening) answer e = cc
located_never g a (tlocate.Unshare key look) said.Nothing answer e = cc
located_never g a (tlocate.Unshare key look) (said.At place) answer e = cc
located_never g a (tlocate.Unshare key look) (said.Shared cell opening) answer e = cc

-- nor does a location
arrived_never : (g : Base) (wait : Locate) (r : Arrived) (answer : Answer) → turned (arrived_at g wait r) ≡ Done answer → ⊥
arrived_never g (locate.Call (owner_phase.Owner look)) r answer e = not_more answer e
arrived_never g (locate.Task p) r answer e = located_never g r.asked p r.here.found answer e

sought_never : (g : Base) (a : Asked) (wait : Locate) (n : FoundOf) (answer : Answer) → turned (sought_by g a wait n) ≡ Done answer → ⊥
sought_never g a wait (found.More more) answer e = not_more answer e
sought_never g a wait (found.Here way there) answer e = arrived_never g wait (here_of a g.fetch way there) answer e

find_never : (g : Base) (a : Asked) (wait : Locate) (n : Find) (word : ℕ) (answer : Answer) → turn_of (lane_of g a (mode.Finding wait n)) word ≡ Done answer → ⊥
find_never g a wait n word answer e =
    let b : Brief = brief_of g.known.log.lane a in
    let s : Sought = found_of g.fetch (key_in b wait) (wish_in b wait) n word in
    sought_never (record g { fetch = s.fetch }) a wait s.found answer e

-- ---- tests
eq_true : (n m : ℕ) → (n == m) ≡ true → n ≡ m
eq_true n m t = grind (arith, nat_tests, t)

eq_false : (n m : ℕ) → (n == m) ≡ false → n ≢ m
eq_false n m t e = grind (arith, nat_tests, t, e)

not_below : (pool most word : ℕ) → most ≡ pool → nat_lt word most ≡ false → pool ≤ word
not_below pool most word same t = grind (arith, nat_tests, same, t)

-- ---- a call
abbrev pub call_of : Call → SessionView → List ℕ → Asked
call_of call view room = asked.Call call view room

-- what is answered by a step of the plan
abbrev pub told : Base → Asked → CallStep → Turn
told g a step = turn_going a (entered g a (call_step step)).going

look_by : (g : Base) (call : Call) (view : SessionView) (kept : List ℕ) (word : ℕ) (answer : Answer) (b : Bool) → let a = call_of call view kept in
    is_owner g.known.log.lane word ≡ b
    → told g a (record (looked (brief_of g.known.log.lane a) word) { next = if b then cnext.Locate (owner_phase.Owner word) else call_ends (NotOwnerEnd word) }) ≡ Done answer
    → CallCause (lane_of g a (mode.Acting (act.Call phase.Look))) word answer
look_by g call view kept word answer true t e = absurd (not_more answer e)
look_by g call view kept word answer false t e = due _ word (NotOwner word None) answer e (refl, refl, t, refl)

raise_by : (g : Base) (call : Call) (view : SessionView) (kept : List ℕ) (look : ℕ) (found : Located) (word : ℕ) (answer : Answer) (r : Option Position) → let a = call_of call view kept in
    HasToRaise (brief_of g.known.log.lane a) look (gate_of word).stamp (kind_of call) → (gate_of word).fenced ≡ false
    → raised_of (need_of (brief_of g.known.log.lane a) look) (gate_of word).stamp ≡ r
    → told g a (goes (cnext.After (raises look found word r))) ≡ Done answer
    → CallCause (lane_of g a (mode.Acting (act.Call (phase.Gate look found)))) word answer
raise_by g call view kept look found word answer (Some to) needed free rule e = absurd (not_more answer e)
raise_by g call view kept look found word answer None needed free rule e =
    due _ word (Worn (2 ^ 31 - 1)) answer e
    (record { look = look; found = found; waits = refl; loads = (refl, free); raise = needed; last = refl; none = rule })

read_by : (g : Base) (key : ℕ) (view : SessionView) (kept : List ℕ) (look : ℕ) (found : Located) (word : ℕ) (answer : Answer) (q : Option Position) → let a = call_of (Get key) view kept in
    is_owner g.known.log.lane look ≡ true → (gate_of word).fenced ≡ false
    → quiet_of (need_of (brief_of g.known.log.lane a) look) (gate_of word).stamp ≡ q
    → told g a (goes (cnext.After (reads look found word q (raised_of (need_of (brief_of g.known.log.lane a) look) (gate_of word).stamp)))) ≡ Done answer
    → CallCause (lane_of g a (mode.Acting (act.Call (phase.Gate look found)))) word answer
read_by g key view kept look found word answer (Some to) owner free rule e =
    due _ word (Made (receipt_of (Get key) view kept to None found.held) found.way) answer e
    (inl (record {
      look = look;
      found = found;
      waits = refl;
      loads = (refl, free);
      get = refl;
      owner = owner;
      rule = rule;
      where_from = refl;
      its = record { call = refl; number = refl };
    }))
read_by g key view kept look found word answer None owner free rule e =
    raise_by g (Get key) view kept look found word answer (raised_of (need_of (brief_of g.known.log.lane (call_of (Get key) view kept)) look) (gate_of word).stamp)
    rule free refl e

-- a put or delete needs room
all_by : (g : Base) (call : Call) (view : SessionView) (kept : List ℕ) (look : ℕ) (found : Located) (r : Raised) (word : ℕ) (answer : Answer) (b : Bool) → let a = call_of call view kept in
    (gate_of word).fenced ≡ false → (plan_of g.known.log (words_in a)).need_segment ≡ true → (length g.known.log.segments == 256) ≡ b
    → turn_going a (roomed_by g a (find.Call (room_phase.Write r)) (if b then room.Told (NoRoom 0 256) else room.More (claim.Reading g.known.log.pool (length g.known.log.segments)))).going ≡ Done answer
    → CallCause (lane_of g a (mode.Acting (act.Call (phase.Gate look found)))) word answer
all_by g call view kept look found r word answer true free needs t e =
    due _ word (Full 0 256) answer e
    (inl ((refl, free), record { needs = needs; all = eq_true (length g.known.log.segments) 256 t; none_read = refl; told = refl }))
all_by g call view kept look found r word answer false free needs t e = absurd (not_more answer e)

room_by : (g : Base) (call : Call) (view : SessionView) (kept : List ℕ) (look : ℕ) (found : Located) (r : Raised) (word : ℕ) (answer : Answer) (b : Bool) → let a = call_of call view kept in
    (gate_of word).fenced ≡ false → (plan_of g.known.log (words_in a)).need_segment ≡ b
    → turn_going a (roomed_by g a (find.Call (room_phase.Write r)) (if b then (if length g.known.log.segments == 256 then room.Told (NoRoom 0 256)
    else room.More (claim.Reading g.known.log.pool (length g.known.log.segments))) else room.Told Found)).going ≡ Done answer
    → CallCause (lane_of g a (mode.Acting (act.Call (phase.Gate look found)))) word answer
room_by g call view kept look found r word answer true free needs e =
    all_by g call view kept look found r word answer (length g.known.log.segments == 256) free needs refl e
room_by g call view kept look found r word answer false free needs e = absurd (not_more answer e)

write_by : (g : Base) (call : Call) (view : SessionView) (kept : List ℕ) (look : ℕ) (found : Located) (word : ℕ) (answer : Answer) (r : Option Position) → let a = call_of call view kept in
    HasToRaise (brief_of g.known.log.lane a) look (gate_of word).stamp (kind_of call) → (gate_of word).fenced ≡ false
    → raised_of (need_of (brief_of g.known.log.lane a) look) (gate_of word).stamp ≡ r
    → told g a (goes (cnext.After (writes look found word r))) ≡ Done answer
    → CallCause (lane_of g a (mode.Acting (act.Call (phase.Gate look found)))) word answer
write_by g call view kept look found word answer (Some to) needed free rule e =
    room_by g call view kept look found (raised_at look found word to) word answer (plan_of g.known.log (words_in (call_of call view kept))).need_segment free refl e
write_by g call view kept look found word answer None needed free rule e =
    due _ word (Worn (2 ^ 31 - 1)) answer e
    (record { look = look; found = found; waits = refl; loads = (refl, free); raise = needed; last = refl; none = rule })

open_by : (g : Base) (call : Call) (view : SessionView) (kept : List ℕ) (look : ℕ) (found : Located) (word : ℕ) (answer : Answer) → let a = call_of call view kept in
    is_owner g.known.log.lane look ≡ true → (gate_of word).fenced ≡ false
    → told g a (goes (cnext.After (opened (brief_of g.known.log.lane a) look found word (kind_of call)))) ≡ Done answer
    → CallCause (lane_of g a (mode.Acting (act.Call (phase.Gate look found)))) word answer
open_by g (Get key) view kept look found word answer owner free e =
    read_by g key view kept look found word answer (quiet_of (need_of (brief_of g.known.log.lane (call_of (Get key) view kept)) look) (gate_of word).stamp) owner free refl e
open_by g (Put key value) view kept look found word answer owner free e =
    write_by g (Put key value) view kept look found word answer
    (raised_of (need_of (brief_of g.known.log.lane (call_of (Put key value) view kept)) look) (gate_of word).stamp) tt free refl e
open_by g (Delete key) view kept look found word answer owner free e =
    write_by g (Delete key) view kept look found word answer
    (raised_of (need_of (brief_of g.known.log.lane (call_of (Delete key) view kept)) look) (gate_of word).stamp) tt free refl e

gate_by : (g : Base) (call : Call) (view : SessionView) (kept : List ℕ) (look : ℕ) (found : Located) (word : ℕ) (answer : Answer) (b : Bool) → let a = call_of call view kept in
    is_owner g.known.log.lane look ≡ true → (gate_of word).fenced ≡ b
    → told g a (if b then barred word else goes (cnext.After (opened (brief_of g.known.log.lane a) look found word (kind_of call)))) ≡ Done answer
    → CallCause (lane_of g a (mode.Acting (act.Call (phase.Gate look found)))) word answer
gate_by g call view kept look found word answer true owner t e = due _ word (Fenced word) answer e (refl, inl (refl, t))
gate_by g call view kept look found word answer false owner t e = open_by g call view kept look found word answer owner t e

raised_is : (g : Base) (call : Call) (view : SessionView) (kept : List ℕ) (r : Raised) (place : Option Ref) (word : ℕ) (m : Mode) → let a = call_of call view kept in
    word ≡ r.gate → FitsRaised (brief_of g.known.log.lane a) r → WaitsForExchange (lane_of g a m) r → Exchanges (lane_of g a m) r.gate
    → IsRaised (lane_of g a m) word (receipt_of call view kept r.to place r.located.held) r.located.way
raised_is g call view kept r place word m same f w h =
    subst (λ n. IsRaised (lane_of g (call_of call view kept) m) n (receipt_of call view kept r.to place r.located.held) r.located.way) (sym same)
    (record {
      raised = r;
      waits = w;
      exchanges = h;
      owner = f.owner;
      rule = f.rule;
      where_from = refl;
      its = record { call = refl; number = refl };
    })

raised_by : (g : Base) (call : Call) (view : SessionView) (kept : List ℕ) (r : Raised) (word : ℕ) (answer : Answer) (b : Bool) → let a = call_of call view kept in
    FitsRaised (brief_of g.known.log.lane a) r → (word == r.gate) ≡ b
    → told g a (if b then goes (call_ends (MadeEnd r.to None r.located)) else barred word) ≡ Done answer
    → CallCause (lane_of g a (mode.Acting (act.Call (phase.Raise r)))) word answer
raised_by g call view kept r word answer true f t e =
    due _ word (Made (receipt_of call view kept r.to None r.located.held) r.located.way) answer e
    (inr (raised_is g call view kept r None word (mode.Acting (act.Call (phase.Raise r))) (eq_true word r.gate t) f (inl refl) (_, refl)))
raised_by g call view kept r word answer false f t e = due _ word (Fenced word) answer e (refl, inr (r.gate, (_, refl), eq_false word r.gate t))

acts_by : (g : Base) (a : Asked) (wait : Act) (word : ℕ) (answer : Answer) → FitsAct (brief_of g.known.log.lane a) wait
    → turn_of (lane_of g a (mode.Acting wait)) word ≡ Done answer → CallCause (lane_of g a (mode.Acting wait)) word answer
acts_by g a (act.Task p) word answer f e =
    absurd (step_never g a (task_taken g.known.log.lane p word) answer e)
acts_by g asked.Nothing (act.Call p) word answer f e = absurd (f.0.named refl)
acts_by g asked.Task (act.Call p) word answer f e = absurd (f.0.named refl)
acts_by g (asked.Call call view kept) (act.Call phase.Look) word answer f e = look_by g call view kept word answer (is_owner g.known.log.lane word) refl e
acts_by g (asked.Call call view kept) (act.Call (phase.Gate look found)) word answer f e =
    gate_by g call view kept look found word answer (gate_of word).fenced f.1 refl e
acts_by g (asked.Call call view kept) (act.Call (phase.Raise r)) word answer f e = raised_by g call view kept r word answer (word == r.gate) f.1.0 refl e

-- ---- the claim of a segment
counted_by : (g : Base) (call : Call) (view : SessionView) (kept : List ℕ) (r : Raised) (c : Claim) (word : ℕ) (answer : Answer) → let a = call_of call view kept in
    let m = mode.Claiming (find.Call (room_phase.Write r)) c in
    (segments : ℕ) → segments ≡ length g.known.log.segments → g.known.log.pool ≤ word → Counts (lane_of g a m)
    → Done (Full word segments) ≡ Done answer → CallCause (lane_of g a m) word answer
counted_by g call view kept r c word answer segments same full counts e =
    due _ word (Full word segments) answer e (inr (counts, record { full = full; read = refl; told = same }))

reading_by : (g : Base) (call : Call) (view : SessionView) (kept : List ℕ) (r : Raised) (pool segments word : ℕ) (answer : Answer) (b : Bool) → let a = call_of call view kept in
    let m = mode.Claiming (find.Call (room_phase.Write r)) (claim.Reading pool segments) in
    IsClaimFor g.known.log (claim.Reading pool segments) → nat_lt word pool ≡ b
    → turn_going a (roomed_by (record g { known = claimed_by g.known (if b then told_as.More else told_as.Full word segments) }) a (find.Call (room_phase.Write r))
    (room_turn (claim_after (claim.Reading pool segments) word) (if b then told_as.More else told_as.Full word segments))).going ≡ Done answer
    → CallCause (lane_of g a m) word answer
reading_by g call view kept r pool segments word answer true f t e = absurd (not_more answer e)
reading_by g call view kept r pool segments word answer false f t e =
    counted_by g call view kept r (claim.Reading pool segments) word answer segments f.segments (not_below g.known.log.pool pool word f.pool t) (inl refl) e

taking_by : (g : Base) (call : Call) (view : SessionView) (kept : List ℕ) (r : Raised) (pool segments word : ℕ) (answer : Answer) (b : Bool) → let a = call_of call view kept in
    let m = mode.Claiming (find.Call (room_phase.Write r)) (claim.Taking pool segments) in
    IsClaimFor g.known.log (claim.Taking pool segments) → nat_lt word pool ≡ b
    → turn_going a (roomed_by (record g { known = claimed_by g.known (if b then told_as.Got word else told_as.Full word segments) }) a (find.Call (room_phase.Write r))
    (room_turn (claim_after (claim.Taking pool segments) word) (if b then told_as.Got word else told_as.Full word segments))).going ≡ Done answer
    → CallCause (lane_of g a m) word answer
taking_by g call view kept r pool segments word answer true f t e = absurd (not_more answer e)
taking_by g call view kept r pool segments word answer false f t e =
    counted_by g call view kept r (claim.Taking pool segments) word answer segments f.segments (not_below g.known.log.pool pool word f.pool t) (inr refl) e

claims_by : (g : Base) (a : Asked) (wait : FindRoom) (c : Claim) (word : ℕ) (answer : Answer) → FitsRoom (brief_of g.known.log.lane a) wait → IsClaimFor g.known.log c
    → turn_of (lane_of g a (mode.Claiming wait c)) word ≡ Done answer → CallCause (lane_of g a (mode.Claiming wait c)) word answer
claims_by g a (find.Task p) c word answer f h e =
    absurd (room_never (record g { known = claimed_by g.known (claim_turn c word) }) a p (room_turn (claim_after c word) (claim_turn c word)) answer e)
claims_by g asked.Nothing (find.Call p) c word answer f h e = absurd (f.0.named refl)
claims_by g asked.Task (find.Call p) c word answer f h e = absurd (f.0.named refl)
claims_by g (asked.Call call view kept) (find.Call (room_phase.Write r)) (claim.Reading pool segments) word answer f h e =
    reading_by g call view kept r pool segments word answer (nat_lt word pool) h refl e
claims_by g (asked.Call call view kept) (find.Call (room_phase.Write r)) (claim.Taking pool segments) word answer f h e =
    taking_by g call view kept r pool segments word answer (nat_lt word pool) h refl e

-- ---- the seal
-- a step is taken after the exchange, whatever it found
pub stepped_by : (g : Base) (a : Asked) (wait : SealWait) (s : Seal) (place : Ref) (word : ℕ) (answer : Answer) (b : Bool)
    → turn_going a (sealed_by g a wait s word (if b then turn.Sealed place else turn.Shut place)).going ≡ Done answer
    → turn_going a (entered g a (sealed_in place word wait)).going ≡ Done answer
stepped_by g a wait s place word answer true e = e
stepped_by g a wait s place word answer false e = e

shut_by : (k : KnownState) (f : Fetching) (after : Base) (call : Call) (view : SessionView) (kept : List ℕ) (r : Raised) (place : Ref) (word : ℕ) (answer : Answer) (b : Bool) →
    let a = call_of call view kept in
    let m = mode.Sealing (seal.Call (seal_phase.Write r)) (call_seal call (sealing_of (seal_phase.Write r))) in
    FitsRaised (brief_of k.log.lane a) r → (word == r.gate) ≡ b
    → told after a (if b then goes (call_ends (MadeEnd r.to (Some place) r.located)) else barred word) ≡ Done answer
    → CallCause (lane_of (record { known = k; staging = []; fetch = f }) a m) word answer
shut_by k f after call view kept r place word answer true fits t e =
    due _ word (Made (receipt_of call view kept r.to (Some place) r.located.held) r.located.way) answer e
    (inr (raised_is (record { known = k; staging = []; fetch = f }) call view kept r (Some place) word
    (mode.Sealing (seal.Call (seal_phase.Write r)) (call_seal call (sealing_of (seal_phase.Write r)))) (eq_true word r.gate t) fits (inr (_, refl)) (_, refl)))
shut_by k f after call view kept r place word answer false fits t e =
    due _ word (Fenced word) answer e (refl, inr (r.gate, (_, refl), eq_false word r.gate t))

sealed_of_call : (k : KnownState) (f : Fetching) (waits : List Staged) (call : Call) (view : SessionView) (kept : List ℕ) (r : Raised) (word : ℕ) (answer : Answer) →
    let a = call_of call view kept in
    let m = mode.Sealing (seal.Call (seal_phase.Write r)) (call_seal call (sealing_of (seal_phase.Write r))) in
    FitsRaised (brief_of k.log.lane a) r
    → turn_of (lane_of (record { known = k; staging = waits; fetch = f }) a m) word ≡ Done answer
    → CallCause (lane_of (record { known = k; staging = waits; fetch = f }) a m) word answer
sealed_of_call k f (w ∷ ws) call view kept r word answer fits e = absurd (not_more answer e)
sealed_of_call k f [] call view kept r word answer fits e =
    let a : Asked = call_of call view kept in
    let s : Seal = call_seal call (sealing_of (seal_phase.Write r)) in
    let after : Base = record { known = known_after k s word []; staging = []; fetch = f } in
    shut_by k f after call view kept r (place_in k s) word answer (word == r.gate) fits refl
    (stepped_by after a (seal.Call (seal_phase.Write r)) s (place_in k s) word answer (word == r.gate) e)

task_sealed : (g : Base) (a : Asked) (p : TendSealing) (word : ℕ) (answer : Answer) (b : Bool)
    → turn_going a (entered g a (if b then goes_on (task_next (task_seal_next p)) else barred_task word)).going ≡ Done answer → ⊥
task_sealed g a p word answer true e = next_never g a (task_seal_next p) answer e
task_sealed g a p word answer false e = cc

pub task_waits : (k : KnownState) (f : Fetching) (waits : List Staged) (a : Asked) (p : TendSealing) (s : Seal) (word : ℕ) (answer : Answer)
    → turn_of (lane_of (record { known = k; staging = waits; fetch = f }) a (mode.Sealing (seal.Task p) s)) word ≡ Done answer → ⊥
task_waits k f (w ∷ ws) a p s word answer e = not_more answer e
task_waits k f [] a p s word answer e =
    let after : Base = record { known = known_after k s word []; staging = []; fetch = f } in
    task_sealed after a p word answer (word == task_gate (seal_in p))
    (stepped_by after a (seal.Task p) s (place_in k s) word answer (word == s.gate) e)

seals_by : (g : Base) (a : Asked) (wait : SealWait) (s : Seal) (word : ℕ) (answer : Answer) → FitsSeal (brief_of g.known.log.lane a) wait → s ≡ sealing_by a (record_in wait)
    → turn_of (lane_of g a (mode.Sealing wait s)) word ≡ Done answer → CallCause (lane_of g a (mode.Sealing wait s)) word answer
seals_by g a (seal.Task p) s word answer f same e = absurd (task_waits g.known g.fetch g.staging a p s word answer e)
seals_by g asked.Nothing (seal.Call p) s word answer f same e = absurd (f.0.named refl)
seals_by g asked.Task (seal.Call p) s word answer f same e = absurd (f.0.named refl)
seals_by g (asked.Call call view kept) (seal.Call (seal_phase.Write r)) s word answer f same e =
    let a : Asked = call_of call view kept in
    subst (λ x. CallCause (lane_of g a (mode.Sealing (seal.Call (seal_phase.Write r)) x)) word answer) (sym same)
    (sealed_of_call g.known g.fetch g.staging call view kept r word answer f.1.0
    (subst (λ x. turn_of (lane_of g a (mode.Sealing (seal.Call (seal_phase.Write r)) x)) word ≡ Done answer) same e))

-- ---- a lane
by_mode : (g : Base) (a : Asked) (m : Mode) (word : ℕ) (answer : Answer) → FitsMode g a m → turn_of (lane_of g a m) word ≡ Done answer
    → CallCause (lane_of g a m) word answer
by_mode g a mode.Idle word answer f e = absurd (not_more answer e)
by_mode g a (mode.Acting wait) word answer f e = acts_by g a wait word answer f.1 e
by_mode g a (mode.Finding wait n) word answer f e = absurd (find_never g a wait n word answer e)
by_mode g a (mode.Claiming wait c) word answer f e = claims_by g a wait c word answer f.1 f.3 e
by_mode g a (mode.Sealing wait s) word answer f e = seals_by g a wait s word answer f.0 f.3 e

pub call_cause : (l : LaneState) (word : ℕ) (answer : Answer) → FitsMode l.base l.asked l.mode → turn_of l word ≡ Done answer → CallCause l word answer
call_cause l word answer f e = by_mode l.base l.asked l.mode word answer f e
