use Rattle.std.proofs.Common.{ℕ, ◌+◌, ◌==◌, ◌<◌, ◌≤◌, ◌≡◌, inl, Bool, true, false, List, [], length, None, if◌then◌else◌, refl, sym, ap, subst, arith}
use Rattle.std.proofs.lemmas.Bool.Decides.{nat_tests}
use Rattle.dn_hist.specs.declared.calls.Call.{Call}
use Rattle.dn_hist.specs.declared.calls.Call.TheVariants.{Get, Put, Delete}
use Rattle.dn_record.specs.Record.{length_in_words}
use Rattle.dn_log.specs.Log.{Log, plan_of}
use Rattle.dn_log.specs.declared.staging.Staged.{Staged}
use Rattle.dn_log.specs.declared.claims.Claim.{Claim}
use Rattle.dn_log.specs.declared.claims.Claim.TheVariants.{Reading}
use Rattle.dn_reach.proofs.Within.{few_segments}
use Rattle.dn_plan.specs.Fit.{IsWrite}
use Rattle.dn_plan.specs.declared.phases.Raised.{Raised}
use Rattle.dn_plan.specs.declared.phases.Room.TheVariants.{Found, Full}
use Rattle.dn_plan.specs.declared.phases.RoomPhase.TheVariants as rooming
use Rattle.dn_plan.specs.declared.phases.SealPhase.TheVariants as sealing
use Rattle.dn_plan.specs.declared.results.Ending.TheVariants as ending
use Rattle.dn_ask.specs.Ask.{record_in}
use Rattle.dn_ask.specs.declared.asks.End.TheVariants as end
use Rattle.dn_ask.specs.declared.asks.FindRoom.TheVariants as room
use Rattle.dn_ask.specs.declared.asks.Seal.TheVariants as seal
use Rattle.dn_services.specs.Spelled.{call_words, call_spelling}
use Rattle.dn_services.specs.Staged.{staged_of}
use Rattle.dn_services.specs.declared.rooms.RoomTurn.TheVariants as turn
use Rattle.dn_lane.specs.Asked.{brief_of, kind_of, call_in, words_in}
use Rattle.dn_lane.specs.Ends.{turn_by}
use Rattle.dn_lane.specs.State.{LaneState}
use Rattle.dn_lane.specs.Taken.{by, waits_by, sealing_by, entered_seal, entered_room, roomed_by}
use Rattle.dn_lane.specs.declared.asked.Asked.{Asked}
use Rattle.dn_lane.specs.declared.asked.Asked.TheVariants as asked
use Rattle.dn_lane.specs.declared.base.Base.{Base}
use Rattle.dn_lane.specs.declared.modes.Mode.TheVariants as mode
use Rattle.dn_beside.specs.Pool.{Pool, store_in}
use Rattle.dn_beside.specs.Step.{IsQuiet}
use Rattle.dn_reach.specs.Placing.{plan_for, staged_for}
use Rattle.dn_reach.specs.Staging.{MayStageAll, AreFlowing}
use Rattle.dn_reach.proofs.Lasts.{all_staged}
use Rattle.dn_reach.proofs.Rooms.{no_spare}
use Rattle.dn_reach.proofs.Stages.{staged_may}
use Rattle.dn_receipts.specs.Sealing.{record_of}
use Rattle.dn_lanes.specs.Calls.{key_in, HasRaised}
use Rattle.dn_lanes.specs.Phases.{KnowsGate}
use Rattle.dn_lanes.specs.Stepped.{receipt_by, claims_in, ComesTo}
use Rattle.dn_lanes.proofs.Called.{is_call, call_record, call_key}
use Rattle.dn_lanes.proofs.Ends.{HasDone, ends_so, goes_so}

-- Whether a put or delete has room, and how its lane goes on then.

-- ---- the words of its record
words_are : (log : Log) (call : Call) → IsWrite (kind_of call) → staged_of log (call_words call) (call_spelling call) ≡ staged_for log (record_of call)
words_are log (Get key) h = absurd h
words_are log (Put key value) h = refl
words_are log (Delete key) h = refl

pub call_count : (call : Call) → IsWrite (kind_of call) → call_words call ≡ length_in_words (record_of call)
call_count (Get key) h = absurd h
call_count (Put key value) h = refl
call_count (Delete key) h = refl

pub count_is : (a : Asked) → IsWrite (brief_of 0 a).kind → words_in a ≡ length_in_words (record_of (call_in a))
count_is asked.Nothing h = absurd h
count_is (asked.Call call view value) h = call_count call h
count_is asked.Task h = absurd h

-- ---- an end without a receipt
pub full_untold : (a : Asked) (counter segments : ℕ) → receipt_by (turn_by a (end.Call (ending.Full counter segments))) ≡ None
full_untold asked.Nothing counter segments = refl
full_untold (asked.Call call view value) counter segments = refl
full_untold asked.Task counter segments = refl

-- ---- what the lane of a put or delete knows behind its gate
pub record IsWriting (q : Pool) (n : ℕ) (g : Base) (a : Asked) (r : Raised) : Type 0 where
  pub raised : HasRaised (q.owners.knows n).look n a r
  pub write : IsWrite (brief_of n a).kind
  pub knows : ((store_in q).gates n).fenced ≡ false → KnowsGate q n r

-- ---- it has room: its words are staged
abbrev pub staging_in : Base → Asked → Raised → Base
staging_in g a r = record g { staging = waits_by g.known a (record_in (seal.Call (sealing.Write r))) }

staged_done : (p q : Pool) (n : ℕ) (now : List ℕ) (g : Base) (a : Asked) (r : Raised) → HasDone p n now g q → HasDone p n now (staging_in g a r) q
staged_done p q n now g a r h = record { words = h.words; by = h.by; log = h.log; learns = h.learns; fetch = h.fetch }

pub seals_from : (p q : Pool) (n : ℕ) (l : LaneState) (now : List ℕ) (g : Base) (a : Asked) (r : Raised) → HasDone p n now g q → IsQuiet p q → IsWriting q n g a r
    → (plan_for g.known.log (record_of (call_in a))).need_segment ≡ false → (store_in q).segment_count ≤ (store_in p).segment_count + claims_in l.mode
    → ComesTo p n l now (by a (entered_seal g a (seal.Call (sealing.Write r)) (record_in (seal.Call (sealing.Write r)))))
seals_from p q n l now g a r h quiet w space count =
    let is : staged_for g.known.log (record_of (call_in a)) ≡ (staging_in g a r).staging = sym (words_are g.known.log (call_in a) w.write) in
    let may : MayStageAll g.known.log (staged_for g.known.log (record_of (call_in a))) =
    staged_may g.known.log (record_of (call_in a)) (call_record (call_in a) (is_call a w.raised.look.called)) space in
    goes_so p q n l now (staging_in g a r) a (mode.Sealing (seal.Call (sealing.Write r)) (sealing_by a (record_in (seal.Call (sealing.Write r))))) (staged_done p q n now g a r h) quiet
    (record { raised = w.raised; write = w.write; is = refl; room = space; stages = subst (λ (xs : List Staged). MayStageAll g.known.log xs) is may })
    (λ clear. (w.knows clear, subst (λ (xs : List Staged). AreFlowing q.words xs (staged_for g.known.log (record_of (call_in a)))) is (all_staged q.words (staged_for g.known.log (record_of (call_in a))))))
    (inl (omega (arith, count)))

-- ---- it needs a segment: the lane claims one, unless it has all that it may have
few_left : (segments : ℕ) → segments ≤ 256 → (segments == 256) ≡ false → segments < 256
few_left segments le e = grind (arith, nat_tests, le, e)

claims_from : (p q : Pool) (n : ℕ) (l : LaneState) (now : List ℕ) (g : Base) (a : Asked) (r : Raised) (all : Bool) → (length g.known.log.segments == 256) ≡ all → HasDone p n now g q → IsQuiet p q → IsWriting q n g a r
    → g.staging ≡ [] → (plan_for g.known.log (record_of (call_in a))).need_segment ≡ true → (store_in q).segment_count ≤ (store_in p).segment_count + claims_in l.mode
    → ComesTo p n l now (by a (roomed_by g a (room.Call (rooming.Write r)) (if all then turn.Told (Full 0 256) else turn.More (Reading g.known.log.pool (length g.known.log.segments)))))
claims_from p q n l now g a r true e h quiet w empty need count = ends_so p q n l now g a (end.Call (ending.Full 0 256)) h quiet empty (full_untold a 0 256) count
claims_from p q n l now g a r false e h quiet w empty need count =
    let c : Claim = Reading g.known.log.pool (length g.known.log.segments) in
    let call : Call = call_in a in
    let none : g.known.log.spare ≡ None = no_spare g.known.log (record_of call) (key_in a) h.log.fit (call_record call (is_call a w.raised.look.called)) (call_key call) need in
    goes_so p q n l now g a (mode.Claiming (room.Call (rooming.Write r)) c) h quiet (
      empty,
      record {
        raised = w.raised;
        write = w.write;
        needs = need;
        claims = record { pool = refl; segments = refl; count = few_left (length g.known.log.segments) (few_segments g.known.log h.log.fit) e; spare = none };
      },
    )
    (λ clear. w.knows clear) (inl (omega (arith, count)))

-- ---- either
rooms_by : (p q : Pool) (n : ℕ) (l : LaneState) (now : List ℕ) (g : Base) (a : Asked) (r : Raised) (need : Bool) → (plan_for g.known.log (record_of (call_in a))).need_segment ≡ need → HasDone p n now g q → IsQuiet p q
    → IsWriting q n g a r → g.staging ≡ [] → (store_in q).segment_count ≤ (store_in p).segment_count + claims_in l.mode
    → ComesTo p n l now (by a (roomed_by g a (room.Call (rooming.Write r)) (if need then (if length g.known.log.segments == 256 then turn.Told (Full 0 256) else turn.More (Reading g.known.log.pool (length g.known.log.segments))) else turn.Told Found)))
rooms_by p q n l now g a r true e h quiet w empty count = claims_from p q n l now g a r (length g.known.log.segments == 256) refl h quiet w empty e count
rooms_by p q n l now g a r false e h quiet w empty count = seals_from p q n l now g a r h quiet w e count

pub rooms_from : (p q : Pool) (n : ℕ) (l : LaneState) (now : List ℕ) (g : Base) (a : Asked) (r : Raised) → HasDone p n now g q → IsQuiet p q → IsWriting q n g a r → g.staging ≡ []
    → (store_in q).segment_count ≤ (store_in p).segment_count + claims_in l.mode → ComesTo p n l now (by a (entered_room g a (room.Call (rooming.Write r))))
rooms_from p q n l now g a r h quiet w empty count =
    rooms_by p q n l now g a r (plan_of g.known.log (words_in a)).need_segment (ap (λ m. (plan_of g.known.log m).need_segment) (sym (count_is a w.write))) h quiet w empty count
