use Rattle.std.specs.Prelude.{ℕ, zero, suc, ◌+◌, ◌++◌, [], Bool, List, Option, Some, None, length, if◌then◌else◌}
use Rattle.std.specs.FinMap.{len}
use Rattle.std.specs.List.{flat_map}
use Rattle.dn_hist.specs.Replay.{map_left}
use Rattle.dn_callers.specs.Callers.{Standing, receipts_of}
use Rattle.dn_lane.specs.State.{LaneState}
use Rattle.dn_model.specs.Regions.{gate, mark}
use Rattle.dn_outcomes.specs.State.{World}
use Rattle.dn_print.specs.CallLine.{event_text}
use Rattle.dn_print.specs.HistoryLine.{history_head_text, history_line_text}
use Rattle.dn_print.specs.SummaryLine.{lane_text, calls_text, ways_text, map_text}
use Rattle.dn_print.specs.declared.call_lines.EventLine.TheVariants as line
use Rattle.dn_print.specs.declared.summary_lines.LaneState.{LaneState as State}
use Rattle.dn_print.specs.declared.summary_lines.LaneState.TheVariants.{Live, Fenced, Stopped}
use Rattle.dn_waiting.specs.Stops.{waiting_from}
use Rattle.dn_run.specs.Counts.{counts_of}
use Rattle.dn_run.specs.Run.{Run}
use Rattle.dn_run.specs.declared.counts.Counts.{Counts}

-- What is printed of a run that is over: its event lines; a line for each call without an answer, in order of session; the
-- history; a line for each lane that was made; and what was counted.

-- ---- calls without an answer
abbrev pub unanswered_in : World → List (ℕ × ℕ)
unanswered_in w = waiting_from 0 w.waiting.calls

abbrev pub unanswered_text : List (ℕ × ℕ) → List ℕ
unanswered_text calls = flat_map (λ (c : ℕ × ℕ). event_text (line.Unanswered c.0 c.1)) calls

-- ---- the history, in this order
abbrev pub history_text : List Standing → List ℕ
history_text history = history_head_text (length history) ++ flat_map (λ (x : Standing). history_line_text x.receipt x.answered) history

-- ---- lanes, by the words at the end
abbrev pub state_by : Option LaneState → Bool → State
state_by None fenced = Stopped
state_by (Some l) fenced = if fenced then Fenced else Live

abbrev pub lane_line : World → List ℕ → ℕ → List ℕ
lane_line w words n = lane_text (record {
  lane = n;
  state = state_by (w.machine.lanes n) (gate words n).fenced;
  stamp = (gate words n).stamp;
  len = (gate words n).len;
  mark = mark words n;
})

-- those of lanes 1 to n
abbrev pub lanes_text : World → List ℕ → ℕ → List ℕ
lanes_text w words zero = []
lanes_text w words (suc n) = lanes_text w words n ++ lane_line w words (n + 1)

-- ---- counts, and the number of keys that the history leaves
abbrev pub counted_text : Counts → ℕ → List Standing → List ℕ
counted_text c unanswered history =
    calls_text (record { calls = c.calls; made = c.made; refused = c.refused; unanswered = unanswered; given = c.given })
    ++ (ways_text (record { value = 0; shortcut = 0; pending = c.pending; index = c.index; cell = 0 })
    ++ map_text (len (map_left (receipts_of history))))

abbrev pub summary_text : Run → List ℕ → List Standing → List ℕ
summary_text r words history =
    lanes_text r.world words r.world.made ++ counted_text (counts_of r.past) (length (unanswered_in r.world)) history

-- ---- all event lines, and behind them all else, by the words that are left at the end
abbrev pub all_events_text : Run → List ℕ
all_events_text r = r.printed ++ unanswered_text (unanswered_in r.world)

abbrev pub output_of : Run → List ℕ → List Standing → List ℕ
output_of r words history = all_events_text r ++ (history_text history ++ summary_text r words history)
