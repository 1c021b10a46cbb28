use Rattle.std.specs.Prelude.{Bool, true, false, not}
use Rattle.std.specs.List.{list_all}
use Rattle.dn_script.specs.declared.scripts.Line.{Line}
use Rattle.dn_script.specs.declared.scripts.Line.TheVariants as line
use Rattle.dn_script.specs.declared.scripts.Script.{Script}

-- A script is serial where each of its lines is over before the next one: calls that are run to their answers, and what
-- changes nodes, owners and what callers know.

abbrev pub is_apart : Line → Bool
is_apart (line.Call session lane start call) = not start
is_apart (line.Step lane count) = false
is_apart (line.Flow lane index) = false
is_apart (line.Merge lane count) = true
is_apart (line.Monitor count) = false
is_apart line.Add = true
is_apart (line.Move start key lane) = not start
is_apart (line.Fence lane) = false
is_apart (line.Takeover start lane) = false
is_apart line.Balance = true
is_apart (line.Remove lane) = false
is_apart (line.Stop lane) = false
is_apart (line.Fuse lane actions) = false
is_apart (line.Fail lane) = false
is_apart (line.Share key) = true
is_apart (line.Unshare key) = true
is_apart (line.Trim lane) = true
is_apart (line.Tell from to) = true
is_apart (line.Mix seed turns) = false
is_apart (line.Policy hot cold high low) = false

abbrev pub is_serial : Script → Bool
is_serial script = list_all is_apart script.lines
