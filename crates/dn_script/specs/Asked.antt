use Rattle.std.specs.Prelude.{ℕ, ◌+◌, ◌==◌, Bool, List, [], ◌∷◌, ◌++◌, count_by, if◌then◌else◌}
use Rattle.dn_script.specs.declared.asked.AskedCall.{AskedCall}
use Rattle.dn_script.specs.declared.scripts.Line.{Line}
use Rattle.dn_script.specs.declared.scripts.Line.TheVariants as line

-- The calls that a run of a script's lines has: the call of each call line that was taken, and not refused at once. The
-- calls of a session are numbered from 1, in the order of the lines.

-- how many of these calls are a session's
abbrev pub calls_of : ℕ → List AskedCall → ℕ
calls_of s asked = count_by (λ (x : AskedCall). x.session == s) asked

-- with the call of one line more
abbrev pub with_line : List AskedCall → Line → List AskedCall
with_line asked (line.Call s lane start call) = asked ++ (record { session = s; number = calls_of s asked + 1; call = call }) ∷ []
with_line asked (line.Step lane count) = asked
with_line asked (line.Flow lane index) = asked
with_line asked (line.Merge lane count) = asked
with_line asked (line.Monitor count) = asked
with_line asked line.Add = asked
with_line asked (line.Move start key lane) = asked
with_line asked (line.Fence lane) = asked
with_line asked (line.Takeover start lane) = asked
with_line asked line.Balance = asked
with_line asked (line.Remove lane) = asked
with_line asked (line.Stop lane) = asked
with_line asked (line.Fuse lane actions) = asked
with_line asked (line.Fail lane) = asked
with_line asked (line.Share key) = asked
with_line asked (line.Unshare key) = asked
with_line asked (line.Trim lane) = asked
with_line asked (line.Tell from to) = asked
with_line asked (line.Mix seed turns) = asked
with_line asked (line.Policy hot cold high low) = asked

-- behind these calls: of each line it is told whether it was taken
abbrev pub asked_behind : List AskedCall → List Line → List Bool → List AskedCall
asked_behind asked [] taken = asked
asked_behind asked (x ∷ lines) [] = asked
asked_behind asked (x ∷ lines) (b ∷ taken) = asked_behind (if b then with_line asked x else asked) lines taken

abbrev pub asked_by : List Line → List Bool → List AskedCall
asked_by lines taken = asked_behind [] lines taken
