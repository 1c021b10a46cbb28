use Rattle.std.specs.Prelude.{ℕ, ◌++◌, List, codes}
use Rattle.std.specs.Fmt.{decimal}

-- a bad line of a script, and why it is bad
abbrev pub bad_line_text : ℕ → List ℕ → List ℕ
bad_line_text line cause = codes "line " ++ (decimal line ++ (codes ": " ++ (cause ++ codes "\n")))

-- words of the command line that are no command
abbrev pub bad_words_text : List ℕ
bad_words_text = codes "bad words\n"
