use Rattle.std.specs.Prelude.{ℕ, List, [], ◌∷◌, Option, Some, None}
use Rattle.std.specs.List.{remove}
use Rattle.dn_hist.specs.declared.receipts.Receipt.{Receipt}
use Rattle.dn_log.specs.declared.staging.Staged.{Staged}
use Rattle.dn_ask.specs.Ask.{sealed_in}
use Rattle.dn_ask.specs.declared.asks.Next.{Next}
use Rattle.dn_ask.specs.declared.asks.Seal.{Seal as SealWait}
use Rattle.dn_services.specs.Sealing.{place_in}
use Rattle.dn_services.specs.declared.seals.Seal.{Seal}
use Rattle.dn_lane.specs.Ends.{turn_by, receipt_by}
use Rattle.dn_lane.specs.State.{LaneState, with_staging}
use Rattle.dn_lane.specs.Taken.{Taken, taken_by}
use Rattle.dn_lane.specs.declared.answers.Turn.{Turn}
use Rattle.dn_lane.specs.declared.answers.Turn.TheVariants.{More}
use Rattle.dn_lane.specs.declared.asked.Asked.{Asked}
use Rattle.dn_lane.specs.declared.asked.Asked.TheVariants as asked
use Rattle.dn_lane.specs.declared.base.Base.{Base}
use Rattle.dn_lane.specs.declared.modes.Going.{Going}
use Rattle.dn_lane.specs.declared.modes.Going.TheVariants.{On, End}
use Rattle.dn_lane.specs.declared.modes.Mode.{Mode}
use Rattle.dn_lane.specs.declared.modes.Mode.TheVariants as mode

-- ---- what the lane answers to a word, and what it is then
abbrev pub turn_going : Asked → Going → Turn
turn_going a (On mode) = More
turn_going a (End end) = turn_by a end

abbrev pub left_going : Base → Asked → Going → LaneState
left_going g a (On mode) = record { base = g; asked = a; mode = mode }
left_going g a (End end) = record { base = g; asked = asked.Nothing; mode = mode.Idle }

abbrev pub turned : Taken → Turn
turned t = turn_going t.asked t.going

abbrev pub left : Taken → LaneState
left t = left_going t.base t.asked t.going

abbrev pub turn_of : LaneState → ℕ → Turn
turn_of l word = turned (taken_by l.base l.asked l.mode word)

abbrev pub left_of : LaneState → ℕ → LaneState
left_of l word = left (taken_by l.base l.asked l.mode word)

-- ---- a staged word has flowed out of turn
abbrev pub flowed_of : LaneState → ℕ → LaneState
flowed_of l index = with_staging l (remove l.base.staging index)

-- ---- how the plan would go on after the exchange of the gate, where that is the next action and is done
abbrev pub next_sealed : Base → SealWait → Seal → List Staged → Option Next
next_sealed g wait seal [] = Some (sealed_in (place_in g.known seal) seal.gate wait).next
next_sealed g wait seal (w ∷ ws) = None

abbrev pub next_ending : Base → Mode → Option Next
next_ending g mode.Idle = None
next_ending g (mode.Acting wait) = None
next_ending g (mode.Finding wait find) = None
next_ending g (mode.Claiming wait claim) = None
next_ending g (mode.Sealing wait seal) = next_sealed g wait seal g.staging

abbrev pub receipt_next : Asked → Option Next → Option Receipt
receipt_next a None = None
receipt_next a (Some next) = receipt_by a next

-- the receipt of the call that this exchange would end as made; it needs no word
abbrev pub ending_of : LaneState → Option Receipt
ending_of l = receipt_next l.asked (next_ending l.base l.mode)
