use Rattle.std.specs.Prelude.{ℕ, List, Option, Some, None, Bool, if◌then◌else◌}
use Rattle.dn_word.specs.declared.packed.place.Ref.{Ref}
use Rattle.dn_word.specs.declared.positions.Position.{Position}
use Rattle.dn_hist.specs.declared.calls.Call.{Call}
use Rattle.dn_hist.specs.declared.calls.Call.TheVariants.{Get, Put, Delete}
use Rattle.dn_hist.specs.declared.calls.Reply.{Reply}
use Rattle.dn_hist.specs.declared.calls.Reply.TheVariants as reply
use Rattle.dn_hist.specs.declared.receipts.Receipt.{Receipt}
use Rattle.dn_hist.specs.declared.receipts.SessionView.{SessionView}
use Rattle.dn_plan.specs.declared.results.Ending.{Ending}
use Rattle.dn_plan.specs.declared.results.Ending.TheVariants as ending
use Rattle.dn_ask.specs.declared.asks.End.{End}
use Rattle.dn_ask.specs.declared.asks.End.TheVariants as end
use Rattle.dn_ask.specs.declared.asks.Then.{Then}
use Rattle.dn_ask.specs.declared.asks.Then.TheVariants as thence
use Rattle.dn_ask.specs.declared.asks.After.{After}
use Rattle.dn_ask.specs.declared.asks.After.TheVariants as after
use Rattle.dn_ask.specs.declared.asks.Next.{Next}
use Rattle.dn_ask.specs.declared.asks.Next.TheVariants as next
use Rattle.dn_lane.specs.declared.answers.Answer.{Answer}
use Rattle.dn_lane.specs.declared.answers.Answer.TheVariants as answer
use Rattle.dn_lane.specs.declared.answers.Turn.{Turn}
use Rattle.dn_lane.specs.declared.answers.Turn.TheVariants.{More, Done, Tended}
use Rattle.dn_lane.specs.declared.asked.Asked.{Asked}
use Rattle.dn_lane.specs.declared.asked.Asked.TheVariants as asked

-- How the end of a plan is told.

abbrev pub reply_in : Call → List ℕ → Bool → Reply
reply_in (Get key) room held = if held then reply.Value room else reply.Absent
reply_in (Put key value) room held = reply.Stored
reply_in (Delete key) room held = reply.Deleted

abbrev pub receipt_of : Call → SessionView → List ℕ → Position → Option Ref → Bool → Receipt
receipt_of call view room to place held =
    record { position = to; number = view.number; call = call; reply = reply_in call room held; at = place }

abbrev pub answer_of : Call → SessionView → List ℕ → Ending → Answer
answer_of call view room (ending.Made to place located) = answer.Made (receipt_of call view room to place located.held) located.way
answer_of call view room (ending.NotOwner look) = answer.NotOwner look None
answer_of call view room (ending.Fenced gate) = answer.Fenced gate
answer_of call view room (ending.Full counter segments) = answer.Full counter segments
answer_of call view room (ending.Worn stamp) = answer.Worn stamp

-- an end of a call tells nothing where no call was asked
abbrev pub called : Asked → Ending → Turn
called asked.Nothing ending = More
called (asked.Call call view room) ending = Done (answer_of call view room ending)
called asked.Task ending = More

abbrev pub turn_by : Asked → End → Turn
turn_by a (end.Call ending) = called a ending
turn_by a (end.Task answer) = Tended answer

-- ---- the receipt of a call whose plan would end as made
abbrev pub made_by : Asked → Position → Option Ref → Bool → Option Receipt
made_by asked.Nothing to place held = None
made_by (asked.Call call view room) to place held = Some (receipt_of call view room to place held)
made_by asked.Task to place held = None

abbrev pub receipt_ending : Asked → Ending → Option Receipt
receipt_ending a (ending.Made to place located) = made_by a to place located.held
receipt_ending a (ending.NotOwner look) = None
receipt_ending a (ending.Fenced gate) = None
receipt_ending a (ending.Full counter segments) = None
receipt_ending a (ending.Worn stamp) = None

abbrev pub receipt_end : Asked → End → Option Receipt
receipt_end a (end.Call ending) = receipt_ending a ending
receipt_end a (end.Task answer) = None

abbrev pub receipt_then : Asked → Then → Option Receipt
receipt_then a (thence.Act wait) = None
receipt_then a (thence.Seal wait) = None
receipt_then a (thence.End end) = receipt_end a end

abbrev pub receipt_after : Asked → After → Option Receipt
receipt_after a (after.Room wait) = None
receipt_after a (after.Then to) = receipt_then a to

abbrev pub receipt_by : Asked → Next → Option Receipt
receipt_by a (next.Locate wait) = None
receipt_by a (next.After to) = receipt_after a to
