use Rattle.std.specs.Prelude.{ℕ, ◌++◌, List}
use Rattle.dn_print.specs.SummaryLine.{calls_text, ways_text, map_text}
use Rattle.dn_run.specs.declared.counts.Counts.{Counts}

-- what was counted, with so many calls without an answer, and the number of keys that the history leaves
abbrev pub counted_by : Counts → ℕ → ℕ → List ℕ
counted_by c unanswered keys =
    calls_text (record { calls = c.calls; made = c.made; refused = c.refused; unanswered = unanswered; given = c.given })
    ++ (ways_text (record { value = 0; shortcut = 0; pending = c.pending; index = c.index; cell = 0 })
    ++ map_text keys)
