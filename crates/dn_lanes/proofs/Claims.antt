use Rattle.std.proofs.Common.{ℕ, ◌+◌, ◌-◌, ◌^◌, ◌%◌, ◌<◌, ◌≡◌, inr, nat_lt, Bool, true, false, List, Some, if◌then◌else◌, refl, ◌∙◌, ap, arith}
use Rattle.std.proofs.lemmas.Bool.Decides.{nat_tests}
use Rattle.std.proofs.lemmas.List.{set-get_or}
use Rattle.dn_word.specs.Regions.{segment_counter_at}
use Rattle.dn_act.specs.Words.{word_at}
use Rattle.dn_act.specs.Action.{Performs}
use Rattle.dn_act.specs.declared.actions.Action.TheVariants.{Load, Add}
use Rattle.dn_act.proofs.Words.{word_at-set_other}
use Rattle.dn_hist.specs.declared.calls.Call.{Call}
use Rattle.dn_log.specs.Claim.{next_of as claim_next}
use Rattle.dn_log.specs.declared.claims.Claim.{Claim}
use Rattle.dn_log.specs.declared.claims.Claim.TheVariants.{Reading, Taking}
use Rattle.dn_log.specs.declared.claims.ClaimTurn.TheVariants as told
use Rattle.dn_model.specs.Regions.{gate_at, IsLane}
use Rattle.dn_plan.specs.declared.phases.Raised.{Raised}
use Rattle.dn_plan.specs.declared.phases.RoomPhase.TheVariants as rooming
use Rattle.dn_plan.specs.declared.results.Ending.TheVariants as ending
use Rattle.dn_ask.specs.declared.asks.End.TheVariants as end
use Rattle.dn_ask.specs.declared.asks.FindRoom.TheVariants as room
use Rattle.dn_services.specs.Room.{turn_by, claimed_by}
use Rattle.dn_lane.specs.Asked.{call_in}
use Rattle.dn_lane.specs.State.{LaneState}
use Rattle.dn_lane.specs.Taken.{by, roomed_by, taken_by}
use Rattle.dn_lane.specs.declared.asked.Asked.{Asked}
use Rattle.dn_lane.specs.declared.base.Base.{Base}
use Rattle.dn_lane.specs.declared.modes.Mode.TheVariants as mode
use Rattle.dn_beside.specs.Pool.{Pool, store_in, IsWhole}
use Rattle.dn_reach.specs.OwnLog.{IsLaneOf}
use Rattle.dn_reach.specs.Steps.{after_claim, after_miss}
use Rattle.dn_reach.proofs.Claims.{claim_step, claim_quiet, claim_log, miss_step, miss_quiet, miss_log}
use Rattle.dn_reach.proofs.Rooms.{spare_reaches}
use Rattle.dn_receipts.specs.Sealing.{record_of}
use Rattle.dn_lanes.specs.Calls.{key_in}
use Rattle.dn_lanes.specs.Phases.{IsClaiming}
use Rattle.dn_lanes.specs.Lane.{IsLaneAt}
use Rattle.dn_lanes.specs.Stepped.{ComesTo}
use Rattle.dn_lanes.proofs.Called.{is_call, call_record, call_key}
use Rattle.dn_lanes.proofs.Ends.{HasDone, ends_so, goes_so}
use Rattle.dn_lanes.proofs.Rooms.{full_untold, seals_from}
use Rattle.dn_lanes.proofs.Exchanges.{still_quiet, still_done}

-- A put or delete claims a segment for its record.

abbrev pub claiming_lane : Base → Asked → Raised → Claim → LaneState
claiming_lane g a r claim = record { base = g; asked = a; mode = mode.Claiming (room.Call (rooming.Write r)) claim }

-- a load leaves all words
loaded : (words now : List ℕ) (at word : ℕ) → Performs (Load at) word words now → now ≡ words
loaded words now at word f = f.change ∙ set-get_or words at 0

-- a counter that was found below the pool's number of segments
below : (word pool most : ℕ) → pool ≡ most → nat_lt word pool ≡ true → word < most
below word pool most e t = grind (arith, nat_tests, e, t)

-- ---- the counter is loaded
reading_by : (p : Pool) (g : Base) (a : Asked) (r : Raised) (pool segments word : ℕ) (now : List ℕ) (b : Bool) → let n = g.known.log.lane in nat_lt word pool ≡ b → IsWhole p
    → IsLaneAt n (claiming_lane g a r (Reading pool segments)) p → Performs (Load segment_counter_at) word p.words now
    → ComesTo p n (claiming_lane g a r (Reading pool segments)) now
    (by a (roomed_by (record g { known = claimed_by g.known (if b then told.More else told.Full word segments) }) a (room.Call (rooming.Write r))
    (turn_by (if b then Taking pool segments else Reading pool segments) (if b then told.More else told.Full word segments))))
reading_by p g a r pool segments word now true e h is f =
    let n : ℕ = g.known.log.lane in
    let c : IsClaiming (p.owners.knows n).look n g a r (Reading pool segments) = is.at.1 in
    let count : word ≡ (store_in p).segment_count = f.answer ∙ h.represents.table.segment_count in
    let most : pool ≡ (store_in p).pool = c.claims.pool ∙ is.log.pool in
    goes_so p p n (claiming_lane g a r (Reading pool segments)) now g a (mode.Claiming (room.Call (rooming.Write r)) (Taking pool segments))
    (still_done p n now g h (loaded p.words now segment_counter_at word f) is.log is.learns is.fetch) (still_quiet p) (
      is.at.0,
      record {
        raised = c.raised;
        write = c.write;
        needs = c.needs;
        claims = record { pool = c.claims.pool; segments = c.claims.segments; count = c.claims.count; spare = c.claims.spare };
      },
    )
    is.knows (inr (omega (arith, count, below word pool (store_in p).pool most e), refl, refl, refl))
reading_by p g a r pool segments word now false e h is f =
    let n : ℕ = g.known.log.lane in
    ends_so p p n (claiming_lane g a r (Reading pool segments)) now g a (end.Call (ending.Full word segments))
    (still_done p n now g h (loaded p.words now segment_counter_at word f) is.log is.learns is.fetch) (still_quiet p) is.at.0 (full_untold a word segments) (omega arith)

-- ---- the add: the counter's word is no gate
gate_kept : (words now : List ℕ) (n word : ℕ) → 0 < n → n < 64 → Performs (Add segment_counter_at 1) word words now → word_at now (gate_at n) ≡ word_at words (gate_at n)
gate_kept words now n word pos lt f =
    ap (λ ws. word_at ws (gate_at n)) f.change ∙ word_at-set_other words segment_counter_at (gate_at n) ((word_at words segment_counter_at + 1) % 2 ^ 64) (λ e. absurd (omega (arith, e, pos, lt)))

-- the segment that it finds is the lane's spare
abbrev spared : Base → ℕ → Base
spared g word = record g { known = record g.known { log = record g.known.log { spare = Some word } } }

pub record IsTaking (p : Pool) (g : Base) (a : Asked) (r : Raised) (pool segments : ℕ) : Type 0 where
  pub whole : IsWhole p
  pub lane : IsLane g.known.log.lane
  pub few : (store_in p).segment_count < 2 ^ 64 - 1
  pub is : IsLaneAt g.known.log.lane (claiming_lane g a r (Taking pool segments)) p

claim_done : (p : Pool) (g : Base) (a : Asked) (r : Raised) (pool segments word : ℕ) (now : List ℕ) → IsTaking p g a r pool segments → Performs (Add segment_counter_at 1) word p.words now → word < (store_in p).pool
    → HasDone p g.known.log.lane now (spared g word) (after_claim p g.known.log.lane now)
claim_done p g a r pool segments word now h f low =
    let n : ℕ = g.known.log.lane in
    let l : IsLaneOf p n g.known.log = record { whole = h.whole; lane = h.lane; own = h.is.log } in
    record {
      words = refl;
      by = claim_step p n word now h.whole h.lane h.few f low;
      log = claim_log p n g.known.log word now l h.few h.is.at.1.claims.spare h.is.at.1.claims.count f low;
      learns = record { running = h.is.learns.running; epochs = h.is.learns.epochs; counts = h.is.learns.counts; met = h.is.learns.met; pending = h.is.learns.pending };
      fetch = h.is.fetch;
    }

taking_by : (p : Pool) (g : Base) (a : Asked) (r : Raised) (pool segments word : ℕ) (now : List ℕ) (b : Bool) → let n = g.known.log.lane in nat_lt word pool ≡ b → IsTaking p g a r pool segments
    → Performs (Add segment_counter_at 1) word p.words now
    → ComesTo p n (claiming_lane g a r (Taking pool segments)) now
    (by a (roomed_by (record g { known = claimed_by g.known (if b then told.Got word else told.Full word segments) }) a (room.Call (rooming.Write r))
    (turn_by (Taking pool segments) (if b then told.Got word else told.Full word segments))))
taking_by p g a r pool segments word now true e h f =
    let n : ℕ = g.known.log.lane in
    let c : IsClaiming (p.owners.knows n).look n g a r (Taking pool segments) = h.is.at.1 in
    let low : word < (store_in p).pool = below word pool (store_in p).pool (c.claims.pool ∙ h.is.log.pool) e in
    let d : HasDone p n now (spared g word) (after_claim p n now) = claim_done p g a r pool segments word now h f low in
    let call : Call = call_in a in
    seals_from p (after_claim p n now) n (claiming_lane g a r (Taking pool segments)) now (spared g word) a r d (claim_quiet p n now)
    (record { raised = c.raised; write = c.write; knows = λ clear. gate_kept p.words now n word h.lane.positive h.lane.below f ∙ h.is.knows clear })
    (spare_reaches (spared g word).known.log (record_of call) (key_in a) word d.log.fit (call_record call (is_call a c.raised.look.called)) (call_key call) refl)
    (omega arith)
taking_by p g a r pool segments word now false e h f =
    let n : ℕ = g.known.log.lane in
    let l : IsLaneOf p n g.known.log = record { whole = h.whole; lane = h.lane; own = h.is.log } in
    ends_so p (after_miss p now) n (claiming_lane g a r (Taking pool segments)) now g a (end.Call (ending.Full word segments))
    (record { words = refl; by = miss_step p n word now h.whole h.lane h.few f; log = miss_log p n g.known.log word now l f; learns = h.is.learns; fetch = h.is.fetch })
    (miss_quiet p now) h.is.at.0 (full_untold a word segments) (omega arith)

-- ---- the phase, while the counter can count on
pub claims : (p : Pool) (g : Base) (a : Asked) (r : Raised) (claim : Claim) (word : ℕ) (now : List ℕ) → let n = g.known.log.lane in IsWhole p → IsLane n → (store_in p).segment_count < 2 ^ 64 - 1
    → IsLaneAt n (claiming_lane g a r claim) p → Performs (claim_next claim) word p.words now → ComesTo p n (claiming_lane g a r claim) now (taken_by g a (mode.Claiming (room.Call (rooming.Write r)) claim) word)
claims p g a r (Reading pool segments) word now h lane few is f = reading_by p g a r pool segments word now (nat_lt word pool) refl h is f
claims p g a r (Taking pool segments) word now h lane few is f = taking_by p g a r pool segments word now (nat_lt word pool) refl (record { whole = h; lane = lane; few = few; is = is }) f
