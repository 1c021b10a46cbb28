use Rattle.std.specs.Prelude.{ℕ, ◌++◌, List, codes}
use Rattle.std.specs.Fmt.{decimal}
use Rattle.dn_print.specs.declared.order_lines.MoveAnswer.{MoveAnswer}
use Rattle.dn_print.specs.declared.order_lines.MoveAnswer.TheVariants as answer
use Rattle.dn_print.specs.Piece.{word_text}

-- the slot of this key, or the slot with this number, is to go to this lane
abbrev pub move_text : ℕ → ℕ → List ℕ
move_text key lane = codes "move " ++ (decimal key ++ (codes " " ++ (decimal lane ++ codes " ")))

-- a deed behind a label
abbrev pub deed_text : List ℕ → ℕ → List ℕ
deed_text label deed = label ++ (word_text deed ++ codes "\n")

-- the merged mark, and the length of the log that it has to reach
abbrev pub waiting_text : ℕ → ℕ → List ℕ
waiting_text mark need = codes "waiting " ++ (decimal mark ++ (codes " " ++ (decimal need ++ codes "\n")))

-- what the monitor answers of a move
abbrev pub answer_text : MoveAnswer → List ℕ
answer_text (answer.Granted deed) = deed_text (codes "granted ") deed
answer_text (answer.Held deed) = deed_text (codes "held ") deed
answer_text (answer.Waiting mark need) = waiting_text mark need
answer_text (answer.Worn epoch) = codes "worn " ++ (decimal epoch ++ codes "\n")

-- a move's line
abbrev pub moved_text : ℕ → ℕ → MoveAnswer → List ℕ
moved_text key lane answer = move_text key lane ++ answer_text answer

-- an order is under way already
abbrev pub busy_text : List ℕ
busy_text = codes "monitor busy\n"

-- how many slots a balance has granted
abbrev pub balance_text : ℕ → List ℕ
balance_text slots = codes "balance " ++ (decimal slots ++ codes "\n")
