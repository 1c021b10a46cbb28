use Rattle.std.specs.Prelude.{◌≡◌, ◌⊎◌, ◌<◌, ℕ, ◌+◌, ◌≤◌, List, Option, Some, None}
use Rattle.dn_hist.specs.CallersOrder.{IsBefore}
use Rattle.dn_hist.specs.declared.receipts.Receipt.{Receipt}
use Rattle.dn_log.specs.declared.claims.Claim.{Claim}
use Rattle.dn_log.specs.declared.claims.Claim.TheVariants.{Reading, Taking}
use Rattle.dn_lane.specs.Asked.{call_in, view_in}
use Rattle.dn_lane.specs.State.{LaneState}
use Rattle.dn_lane.specs.Taken.{Taken, taken_by}
use Rattle.dn_lane.specs.Turns.{turned, left, flowed_of}
use Rattle.dn_lane.specs.declared.answers.Answer.{Answer}
use Rattle.dn_lane.specs.declared.answers.Answer.TheVariants as answer
use Rattle.dn_lane.specs.declared.answers.Turn.{Turn}
use Rattle.dn_lane.specs.declared.answers.Turn.TheVariants.{More, Done, Tended}
use Rattle.dn_lane.specs.declared.modes.Mode.{Mode}
use Rattle.dn_lane.specs.declared.modes.Mode.TheVariants as mode
use Rattle.dn_beside.specs.Pool.{Pool, store_in}
use Rattle.dn_beside.specs.Step.{IsStepBy, IsQuiet, by_lane}
use Rattle.dn_receipts.specs.Joined.{Joins}
use Rattle.dn_lanes.specs.Lane.{IsLaneAt}

-- What comes of an action of a lane.

-- the receipt that joins: that of an answer Made
abbrev pub receipt_in : Answer → Option Receipt
receipt_in (answer.Made receipt way) = Some receipt
receipt_in (answer.NotOwner look cell) = None
receipt_in (answer.Fenced word) = None
receipt_in (answer.Full counter segments) = None
receipt_in (answer.Worn stamp) = None

abbrev pub receipt_by : Turn → Option Receipt
receipt_by More = None
receipt_by (Done answer) = receipt_in answer
receipt_by (Tended answer) = None

-- it is of the call that the lane was asked, and behind all that its session knew
pub record IsOfCall (l : LaneState) (r : Receipt) : Type 0 where
  pub call : r.call ≡ call_in l.asked
  pub number : r.number ≡ (view_in l.asked).number
  pub session : r.position.session ≡ (view_in l.asked).session
  pub later : IsBefore (view_in l.asked).last r.position

-- ---- lanes that have read the segment counter below its limit and not yet added
abbrev pub claims_at : Claim → ℕ
claims_at (Reading pool segments) = 0
claims_at (Taking pool segments) = 1

abbrev pub claims_in : Mode → ℕ
claims_in mode.Idle = 0
claims_in (mode.Acting wait) = 0
claims_in (mode.Finding wait find) = 0
claims_in (mode.Claiming wait claim) = claims_at claim
claims_in (mode.Sealing wait seal) = 0

-- with these, the counter comes no nearer to its limit, but by a lane that reads it below that
abbrev pub IsCounting : Pool → Pool → LaneState → LaneState → Type 0
IsCounting p q l m =
    ((store_in q).segment_count + claims_in m.mode ≤ (store_in p).segment_count + claims_in l.mode)
    ⊎ (((store_in p).segment_count < (store_in p).pool) × ((store_in q).segment_count ≡ (store_in p).segment_count)
    × (claims_in l.mode ≡ 0) × (claims_in m.mode ≡ 1))

-- ---- the pool then, and what the lane knows of it, where its action found a word by which it comes to this
pub record ComesTo (p : Pool) (n : ℕ) (l : LaneState) (now : List ℕ) (t : Taken) : Type 0 where
  pub q : Pool
  pub words : q.words ≡ now
  pub by : IsStepBy (by_lane n) p q
  pub lane : IsLaneAt n (left t) q
  pub joins : Joins p q (receipt_by (turned t))
  pub its : (r : Receipt) → receipt_by (turned t) ≡ Some r → IsOfCall l r
  pub counts : IsCounting p q l (left t)

abbrev pub LaneStepped : Pool → ℕ → LaneState → ℕ → List ℕ → Type 0
LaneStepped p n l word now = ComesTo p n l now (taken_by l.base l.asked l.mode word)

-- ---- a staged word has flowed, in its turn or out of it
pub record FlowStepped (p : Pool) (n : ℕ) (l : LaneState) (index : ℕ) (now : List ℕ) : Type 0 where
  pub q : Pool
  pub words : q.words ≡ now
  pub by : IsStepBy (by_lane n) p q
  pub quiet : IsQuiet p q
  pub lane : IsLaneAt n (flowed_of l index) q
  pub count : (store_in q).segment_count ≡ (store_in p).segment_count
