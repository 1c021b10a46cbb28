use Rattle.std.specs.Prelude.{Bool, true, false, List, [], ◌∷◌}
use Rattle.dn_script.specs.declared.verbs.Verb.TheVariants as verb
use Rattle.dn_script.specs.declared.rows.Part.{Part}
use Rattle.dn_script.specs.declared.rows.Part.TheVariants as part
use Rattle.dn_script.specs.declared.rows.Form.{Form}
use Rattle.dn_script.specs.declared.rows.Form.TheVariants.{Plain, Named, Started, NamedStarted}
use Rattle.dn_script.specs.declared.rows.Row.{Row}
use Rattle.dn_script.specs.declared.rows.Row.TheVariants.{Pool, Nodes, Cache, Get, Put, Delete, Step, Flow, Merge, Monitor, Add, Move, Fence, Takeover, StartMove, StartTakeover, Balance, Remove, Stop, Fuse, Fail, Trim, Tell}

-- The table of lines.

-- the rows in their order
abbrev pub table : List Row
table =
    Pool ∷ Nodes ∷ Cache
    ∷ Get Plain ∷ Put Plain ∷ Delete Plain
    ∷ Get Named ∷ Put Named ∷ Delete Named
    ∷ Get Started ∷ Put Started ∷ Delete Started
    ∷ Get NamedStarted ∷ Put NamedStarted ∷ Delete NamedStarted
    ∷ Step ∷ Flow ∷ Merge ∷ Monitor ∷ Add
    ∷ Move ∷ Fence ∷ Takeover ∷ StartMove ∷ StartTakeover
    ∷ Balance ∷ Remove ∷ Stop ∷ Fuse ∷ Fail ∷ Trim ∷ Tell ∷ []

-- what stands in a row's lines, in order: each part has a field of its own
abbrev pub parts_of : Row → List Part
parts_of Pool = part.Word verb.Pool ∷ part.Segments ∷ []
parts_of Nodes = part.Word verb.Nodes ∷ part.Nodes ∷ []
parts_of Cache = part.Word verb.Cache ∷ part.Units ∷ []
parts_of (Get Plain) = part.Session ∷ part.Word verb.Get ∷ part.Key ∷ []
parts_of (Put Plain) = part.Session ∷ part.Word verb.Put ∷ part.Key ∷ part.Value ∷ []
parts_of (Delete Plain) = part.Session ∷ part.Word verb.Delete ∷ part.Key ∷ []
parts_of (Get Named) = part.Session ∷ part.Named ∷ part.Word verb.Get ∷ part.Key ∷ []
parts_of (Put Named) = part.Session ∷ part.Named ∷ part.Word verb.Put ∷ part.Key ∷ part.Value ∷ []
parts_of (Delete Named) = part.Session ∷ part.Named ∷ part.Word verb.Delete ∷ part.Key ∷ []
parts_of (Get Started) = part.Session ∷ part.Word verb.Start ∷ part.Word verb.Get ∷ part.Key ∷ []
parts_of (Put Started) = part.Session ∷ part.Word verb.Start ∷ part.Word verb.Put ∷ part.Key ∷ part.Value ∷ []
parts_of (Delete Started) = part.Session ∷ part.Word verb.Start ∷ part.Word verb.Delete ∷ part.Key ∷ []
parts_of (Get NamedStarted) = part.Session ∷ part.Named ∷ part.Word verb.Start ∷ part.Word verb.Get ∷ part.Key ∷ []
parts_of (Put NamedStarted) =
    part.Session ∷ part.Named ∷ part.Word verb.Start ∷ part.Word verb.Put ∷ part.Key ∷ part.Value ∷ []
parts_of (Delete NamedStarted) =
    part.Session ∷ part.Named ∷ part.Word verb.Start ∷ part.Word verb.Delete ∷ part.Key ∷ []
parts_of Step = part.Word verb.Step ∷ part.Lane ∷ part.Count ∷ []
parts_of Flow = part.Word verb.Flow ∷ part.Lane ∷ part.Index ∷ []
parts_of Merge = part.Word verb.Merge ∷ part.Lane ∷ part.Count ∷ []
parts_of Monitor = part.Word verb.Monitor ∷ part.Count ∷ []
parts_of Add = part.Word verb.Add ∷ []
parts_of Move = part.Word verb.Move ∷ part.Key ∷ part.Lane ∷ []
parts_of Fence = part.Word verb.Fence ∷ part.Lane ∷ []
parts_of Takeover = part.Word verb.Takeover ∷ part.Lane ∷ []
parts_of StartMove = part.Word verb.Start ∷ part.Word verb.Move ∷ part.Key ∷ part.Lane ∷ []
parts_of StartTakeover = part.Word verb.Start ∷ part.Word verb.Takeover ∷ part.Lane ∷ []
parts_of Balance = part.Word verb.Balance ∷ []
parts_of Remove = part.Word verb.Remove ∷ part.Lane ∷ []
parts_of Stop = part.Word verb.Stop ∷ part.Lane ∷ []
parts_of Fuse = part.Word verb.Fuse ∷ part.Lane ∷ part.Actions ∷ []
parts_of Fail = part.Word verb.Fail ∷ part.Lane ∷ []
parts_of Trim = part.Word verb.Trim ∷ part.Lane ∷ []
parts_of Tell = part.Word verb.Tell ∷ part.From ∷ part.To ∷ []

-- a count of actions may be left out; each other part has its field
abbrev pub is_needed : Part → Bool
is_needed part.Count = false
is_needed _ = true

-- a call in this form is run to its answer
abbrev pub is_run : Form → Bool
is_run Plain = true
is_run Named = true
is_run Started = false
is_run NamedStarted = false

-- a script for threads may have such lines
abbrev pub is_of_storm : Row → Bool
is_of_storm Pool = true
is_of_storm Nodes = true
is_of_storm Cache = true
is_of_storm (Get form) = is_run form
is_of_storm (Put form) = is_run form
is_of_storm (Delete form) = is_run form
is_of_storm Move = true
is_of_storm Fence = true
is_of_storm Takeover = true
is_of_storm _ = false
