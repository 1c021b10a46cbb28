use Rattle.std.specs.Prelude.{ℕ, ◌++◌, List, Option, Some, None, codes}
use Rattle.std.specs.Fmt.{decimal}
use Rattle.dn_word.specs.declared.positions.Position.{Position}
use Rattle.dn_hist.specs.declared.calls.Reply.{Reply}
use Rattle.dn_print.specs.declared.call_lines.EventLine.{EventLine}
use Rattle.dn_print.specs.declared.call_lines.EventLine.TheVariants as event
use Rattle.dn_print.specs.Piece.{position_text, word_text, reply_text}

-- the call: its session and its number there
abbrev pub head_text : ℕ → ℕ → List ℕ
head_text session number = codes "c" ++ (decimal session ++ (codes " " ++ (decimal number ++ codes " ")))

-- a position, and the line's end
abbrev pub end_text : Position → List ℕ
end_text p = codes " " ++ (position_text p ++ codes "\n")

-- a call that was made
abbrev pub made_text : ℕ → ℕ → Reply → Position → List ℕ
made_text session number reply position = head_text session number ++ (reply_text reply ++ end_text position)

-- a cell's word where there is one
abbrev pub cell_text : Option ℕ → List ℕ
cell_text None = codes " -\n"
cell_text (Some word) = codes " " ++ (word_text word ++ codes "\n")

-- the lane isn't the key's: the deed's word, and the cell's
abbrev pub not_owner_text : ℕ → Option ℕ → List ℕ
not_owner_text look cell = codes "notowner " ++ (word_text look ++ cell_text cell)

-- the gate is fenced: its word
abbrev pub fenced_text : ℕ → List ℕ
fenced_text word = codes "fenced " ++ (word_text word ++ codes "\n")

-- another word was seen than the expected one
abbrev pub again_text : ℕ → ℕ → List ℕ
again_text old seen = codes "again " ++ (word_text old ++ (codes " " ++ (word_text seen ++ codes "\n")))

-- no room: how many segments are taken, and how many the lane has
abbrev pub full_text : ℕ → ℕ → List ℕ
full_text counter segments = codes "full " ++ (decimal counter ++ (codes " " ++ (decimal segments ++ codes "\n")))

-- the stamps are used up: the last one
abbrev pub worn_text : ℕ → List ℕ
worn_text stamp = codes "worn " ++ (decimal stamp ++ codes "\n")

-- a call that a session doesn't start, and why
abbrev pub session_text : ℕ → List ℕ → List ℕ
session_text session cause = codes "c" ++ (decimal session ++ cause)

-- a lane behind a label
abbrev pub lane_event_text : List ℕ → ℕ → List ℕ
lane_event_text label lane = label ++ (decimal lane ++ codes "\n")

-- what became of an event
abbrev pub event_text : EventLine → List ℕ
event_text (event.NotOwner session number look cell) = head_text session number ++ not_owner_text look cell
event_text (event.Fenced session number word) = head_text session number ++ fenced_text word
event_text (event.Again session number old seen) = head_text session number ++ again_text old seen
event_text (event.Full session number counter segments) = head_text session number ++ full_text counter segments
event_text (event.Worn session number stamp) = head_text session number ++ worn_text stamp
event_text (event.Given session number) = head_text session number ++ codes "given\n"
event_text (event.Unanswered session number) = head_text session number ++ codes "unanswered\n"
event_text (event.Busy session) = session_text session (codes " busy\n")
event_text (event.Closed session) = session_text session (codes " closed\n")
event_text (event.Lane lane) = lane_event_text (codes "lane ") lane
event_text event.LanesFull = codes "lanes full\n"
event_text (event.NoLane lane) = lane_event_text (codes "nolane ") lane
