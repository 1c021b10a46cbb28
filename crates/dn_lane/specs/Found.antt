use Rattle.std.specs.Prelude.{ℕ, ◌+◌, ◌*◌, List, [], ◌∷◌, Option, Some, None, Bool, true, false, length, take, drop, nat_le, slice_index, if◌then◌else◌}
use Rattle.dn_word.specs.Bytes.{bytes_of}
use Rattle.dn_word.specs.Ref.{ref_of}
use Rattle.dn_word.specs.declared.packed.place.Ref.{Ref}
use Rattle.dn_hist.specs.declared.calls.Call.{Call}
use Rattle.dn_hist.specs.declared.receipts.SessionView.{SessionView}
use Rattle.dn_record.specs.Reading.{head_in}
use Rattle.dn_record.specs.declared.heads.Head.{Head}
use Rattle.dn_record.specs.declared.heads.Head.TheVariants as head
use Rattle.dn_tend.specs.declared.tasks.TendFound.{TendFound}
use Rattle.dn_tend.specs.declared.tasks.TendFound.TheVariants.{Nothing, At, Shared}
use Rattle.dn_lane.specs.declared.asked.Asked.{Asked}
use Rattle.dn_lane.specs.declared.asked.Asked.TheVariants as asked

-- What the words of a fetched record say.

-- ---- a value
-- so many bytes behind the key, where all of them are there
abbrev pub bytes_behind : ℕ → List ℕ → Option (List ℕ)
bytes_behind bytes ws = if nat_le (bytes + 8) (8 * length ws) then Some (take bytes (bytes_of (drop 1 ws))) else None

-- the value of a Put, or of the Loose that a shared key left
abbrev pub value_behind : Option Head → List ℕ → Option (List ℕ)
value_behind (Some (head.Put bytes)) ws = bytes_behind bytes ws
value_behind (Some head.Delete) ws = None
value_behind (Some (head.Share cell)) ws = None
value_behind (Some head.Unshare) ws = None
value_behind (Some (head.Loose bytes)) ws = bytes_behind bytes ws
value_behind (Some head.LooseDelete) ws = None
value_behind (Some (head.Pad words)) ws = None
value_behind None ws = None

abbrev pub value_in : List ℕ → Option (List ℕ)
value_in [] = None
value_in (w ∷ ws) = value_behind (head_in w) ws

-- a call keeps it in its room
pub record Kept : Type 0 where
  pub held : Bool
  pub asked : Asked

abbrev pub kept_by : Call → SessionView → List ℕ → Option (List ℕ) → Kept
kept_by call view room None = record { held = false; asked = asked.Call call view room }
kept_by call view room (Some value) = record { held = true; asked = asked.Call call view value }

abbrev pub kept_in : Asked → Option (List ℕ) → Kept
kept_in asked.Nothing value = record { held = false; asked = asked.Nothing }
kept_in (asked.Call call view room) value = kept_by call view room value
kept_in asked.Task value = record { held = false; asked = asked.Task }

-- ---- where the key's value stands, or by which cell the key is shared
abbrev pub named : Option Ref → TendFound
named None = Nothing
named (Some place) = At place

-- an Unshare names the record with the value
abbrev pub linked : List ℕ → TendFound
linked ws = if nat_le 3 (length ws) then named (ref_of (slice_index ws 2)) else Nothing

abbrev pub shared : ℕ → List ℕ → TendFound
shared cell ws = if nat_le 3 (length ws) then Shared cell (slice_index ws 2) else Nothing

abbrev pub said_by : Option Head → List ℕ → Ref → TendFound
said_by (Some (head.Put bytes)) ws place = At place
said_by (Some head.Delete) ws place = Nothing
said_by (Some (head.Share cell)) ws place = shared cell ws
said_by (Some head.Unshare) ws place = linked ws
said_by (Some (head.Loose bytes)) ws place = Nothing
said_by (Some head.LooseDelete) ws place = Nothing
said_by (Some (head.Pad words)) ws place = Nothing
said_by None ws place = Nothing

abbrev pub said_in : List ℕ → Ref → TendFound
said_in [] place = Nothing
said_in (w ∷ ws) place = said_by (head_in w) (w ∷ ws) place
