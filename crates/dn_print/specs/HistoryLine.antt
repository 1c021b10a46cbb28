use Rattle.std.specs.Prelude.{ℕ, ◌++◌, Bool, List, codes, if◌then◌else◌}
use Rattle.std.specs.Fmt.{decimal}
use Rattle.dn_word.specs.declared.positions.Position.{Position}
use Rattle.dn_hist.specs.declared.calls.Call.{Call}
use Rattle.dn_hist.specs.declared.calls.Call.TheVariants.{Get, Put, Delete}
use Rattle.dn_hist.specs.declared.receipts.Receipt.{Receipt}
use Rattle.dn_print.specs.Piece.{position_text, value_text, reply_text}

-- the line that heads the history
abbrev pub history_head_text : ℕ → List ℕ
history_head_text receipts = codes "history " ++ (decimal receipts ++ codes "\n")

-- a position, and the call's number in its session
abbrev pub place_text : Position → ℕ → List ℕ
place_text p number = position_text p ++ (codes " " ++ (decimal number ++ codes " "))

-- a verb and its key
abbrev pub verb_text : List ℕ → ℕ → List ℕ
verb_text verb key = verb ++ (codes " " ++ (decimal key ++ codes " "))

-- a call
abbrev pub call_text : Call → List ℕ
call_text (Get key) = verb_text (codes "get") key
call_text (Put key value) = verb_text (codes "put") key ++ (value_text value ++ codes " ")
call_text (Delete key) = verb_text (codes "del") key

-- the line's end, with whether the call has its answer
abbrev pub tail_text : Bool → List ℕ
tail_text answered = if answered then codes "\n" else codes " unanswered\n"

-- a call of the history and its reply
abbrev pub history_line_text : Receipt → Bool → List ℕ
history_line_text r answered = place_text r.position r.number ++ (call_text r.call ++ (reply_text r.reply ++ tail_text answered))
