use Rattle.std.specs.Prelude.{true, false}
use Rattle.dn_hist.specs.declared.calls.Call.{Call as CallOf}
use Rattle.dn_hist.specs.declared.calls.Call.TheVariants as call
use Rattle.dn_script.specs.declared.scripts.Line.TheVariants as line
use Rattle.dn_script.specs.declared.meanings.Meaning.{Meaning}
use Rattle.dn_script.specs.declared.meanings.Meaning.TheVariants as gives
use Rattle.dn_script.specs.declared.rows.Row.{Row}
use Rattle.dn_script.specs.declared.rows.Row.TheVariants.{Pool, Nodes, Cache, Get, Put, Delete, Step, Flow, Merge, Monitor, Add, Move, Fence, Takeover, StartMove, StartTakeover, Balance, Remove, Stop, Fuse, Fail, Trim, Tell}
use Rattle.dn_script.specs.Said.{Said}

-- the line of a call
abbrev pub calling : Said → CallOf → Meaning
calling said asked = gives.Line (line.Call said.session said.named said.start asked)

-- the line of a put
abbrev pub putting : Said → Meaning
putting said = calling said (call.Put said.key said.value)

-- what a line of the row gives, where its fields say this
abbrev pub meaning_of : Row → Said → Meaning
meaning_of Pool said = gives.Segments said.segments
meaning_of Nodes said = gives.Nodes said.nodes
meaning_of Cache said = gives.Units said.units
meaning_of (Get form) said = calling said (call.Get said.key)
meaning_of (Put form) said = putting said
meaning_of (Delete form) said = calling said (call.Delete said.key)
meaning_of Step said = gives.Line (line.Step said.lane said.count)
meaning_of Flow said = gives.Line (line.Flow said.lane said.index)
meaning_of Merge said = gives.Line (line.Merge said.lane said.count)
meaning_of Monitor said = gives.Line (line.Monitor said.count)
meaning_of Add said = gives.Line line.Add
meaning_of Move said = gives.Line (line.Move false said.key said.lane)
meaning_of Fence said = gives.Line (line.Fence said.lane)
meaning_of Takeover said = gives.Line (line.Takeover false said.lane)
meaning_of StartMove said = gives.Line (line.Move true said.key said.lane)
meaning_of StartTakeover said = gives.Line (line.Takeover true said.lane)
meaning_of Balance said = gives.Line line.Balance
meaning_of Remove said = gives.Line (line.Remove said.lane)
meaning_of Stop said = gives.Line (line.Stop said.lane)
meaning_of Fuse said = gives.Line (line.Fuse said.lane said.count)
meaning_of Fail said = gives.Line (line.Fail said.lane)
meaning_of Trim said = gives.Line (line.Trim said.lane)
meaning_of Tell said = gives.Line (line.Tell said.from said.to)
