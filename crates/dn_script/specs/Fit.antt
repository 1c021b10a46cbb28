use Rattle.std.specs.Prelude.{◌≢◌, ℕ, ◌≤◌, ◌<◌, ◌^◌, List, All, IfSome, length}
use Rattle.dn_script.specs.declared.scripts.Script.{Script}
use Rattle.dn_hist.specs.declared.calls.Call.{Call as CallOf}
use Rattle.dn_hist.specs.declared.calls.Call.TheVariants.{Get, Put, Delete}
use Rattle.dn_script.specs.declared.scripts.Line.{Line}
use Rattle.dn_script.specs.declared.scripts.Line.TheVariants.{Call, Step, Flow, Merge, Monitor, Add, Move, Fence, Takeover, Balance, Remove, Stop, Fuse, Fail, Share, Unshare, Trim, Tell, Mix, Policy}

-- What a line can ask for: each number lies in its range.

-- a value that a put can give: at most 1,024 bytes
pub record IsValue (value : List ℕ) : Type 0 where
  pub short : length value ≤ 1024
  pub bytes : All (λ byte. byte < 2 ^ 8) value

pub record IsIn (least most number : ℕ) : Type 0 where
  pub least_of : least ≤ number
  pub most_of : number ≤ most

-- a key is any number of 64 bits but 0
abbrev pub IsKey : ℕ → Type 0
IsKey key = (key ≢ 0) × (key < 2 ^ 64)

abbrev pub IsLane : ℕ → Type 0
IsLane lane = IsIn 1 63 lane

abbrev pub IsSession : ℕ → Type 0
IsSession session = IsIn 1 1000 session

-- a count of actions or turns
abbrev pub IsCount : ℕ → Type 0
IsCount count = IsIn 1 1000000 count

abbrev pub IsAskable : CallOf → Type 0
IsAskable (Get key) = IsKey key
IsAskable (Put key value) = IsKey key × IsValue value
IsAskable (Delete key) = IsKey key

abbrev pub IsLine : Line → Type 0
IsLine (Call session lane start call) = IsSession session × IfSome lane IsLane × IsAskable call
IsLine (Step lane count) = IsLane lane × IsCount count
IsLine (Flow lane index) = IsLane lane × IsIn 0 139 index
IsLine (Merge lane count) = IsLane lane × IsCount count
IsLine (Monitor count) = IsCount count
IsLine Add = Unit {0}
IsLine (Move start key lane) = IsKey key × IsLane lane
IsLine (Fence lane) = IsLane lane
IsLine (Takeover start lane) = IsLane lane
IsLine Balance = Unit {0}
IsLine (Remove lane) = IsLane lane
IsLine (Stop lane) = IsLane lane
IsLine (Fuse lane actions) = IsLane lane × IsCount actions
IsLine (Fail lane) = IsLane lane
IsLine (Share key) = IsKey key
IsLine (Unshare key) = IsKey key
IsLine (Trim lane) = IsLane lane
IsLine (Tell from to) = IsSession from × IsSession to
IsLine (Mix seed turns) = IsCount turns
IsLine (Policy hot cold high low) = IsIn 0 1000000 hot × IsIn 0 1000000 cold × IsIn 0 1000000 high × IsIn 0 1000000 low

-- a script from so many bytes, for a pool of so many segments
pub record IsScript (segments bytes : ℕ) (script : Script) : Type 0 where
  pub segments_in : 1 ≤ segments → IsIn 1 segments script.segments
  pub nodes_in : IsIn 1 63 script.nodes
  pub units_in : IsIn 0 1000000 script.units
  pub fit : All IsLine script.lines
  pub few : length script.lines ≤ bytes
