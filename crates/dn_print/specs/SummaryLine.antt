use Rattle.std.specs.Prelude.{ℕ, ◌++◌, List, codes}
use Rattle.std.specs.Fmt.{decimal}
use Rattle.dn_print.specs.declared.summary_lines.CallCounts.{CallCounts}
use Rattle.dn_print.specs.declared.summary_lines.LaneState.{LaneState}
use Rattle.dn_print.specs.declared.summary_lines.LaneSummary.{LaneSummary}
use Rattle.dn_print.specs.declared.summary_lines.WayCounts.{WayCounts}
use Rattle.dn_print.specs.declared.summary_lines.LaneState.TheVariants.{Live, Fenced, Stopped}

-- the word for a state
abbrev pub state_text : LaneState → List ℕ
state_text Live = codes "live"
state_text Fenced = codes "fenced"
state_text Stopped = codes "stopped"

-- a label and its number
abbrev pub labelled_text : List ℕ → ℕ → List ℕ
labelled_text label number = label ++ decimal number

-- which lane it is, and its state
abbrev pub lane_head_text : ℕ → LaneState → List ℕ
lane_head_text lane state = codes "lane " ++ (decimal lane ++ (codes " " ++ state_text state))

-- a lane: its number, its state, its last stamp, its log's sealed length and merged mark
abbrev pub lane_text : LaneSummary → List ℕ
lane_text of =
    lane_head_text of.lane of.state ++ (labelled_text (codes " stamp ") of.stamp ++ (labelled_text (codes " len ") of.len
    ++ (labelled_text (codes " mark ") of.mark ++ codes "\n")))

-- the calls by their ends, and the refused attempts
abbrev pub calls_text : CallCounts → List ℕ
calls_text of =
    labelled_text (codes "calls ") of.calls ++ (labelled_text (codes " made ") of.made ++ (labelled_text (codes " refused ") of.refused
    ++ (labelled_text (codes " unanswered ") of.unanswered ++ (labelled_text (codes " given ") of.given ++ codes "\n"))))

-- the answered gets by the way in which each found its value: by the cache, or behind it
abbrev pub cached_text : WayCounts → List ℕ
cached_text of = labelled_text (codes "ways value ") of.value ++ labelled_text (codes " shortcut ") of.shortcut

abbrev pub located_text : WayCounts → List ℕ
located_text of =
    labelled_text (codes " pending ") of.pending ++ (labelled_text (codes " index ") of.index
    ++ (labelled_text (codes " cell ") of.cell ++ codes "\n"))

abbrev pub ways_text : WayCounts → List ℕ
ways_text of = cached_text of ++ located_text of

-- the keys that the history leaves
abbrev pub map_text : ℕ → List ℕ
map_text keys = labelled_text (codes "map ") keys ++ codes "\n"
