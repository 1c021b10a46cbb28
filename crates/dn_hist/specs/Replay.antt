use Rattle.std.specs.Prelude.{◌≡◌, ◌≢◌, ℕ, ◌<◌, List, [], ◌∷◌, take, length, slice_get, Some}
use Rattle.std.specs.FinMap.{empty}
use Rattle.dn_hist.specs.Calls.{Bytes, reply_of, map_after}
use Rattle.dn_hist.specs.declared.receipts.Receipt.{Receipt}
use Rattle.dn_hist.specs.declared.replays.ReplayFault.{ReplayFault}
use Rattle.dn_hist.specs.declared.replays.ReplayFault.TheVariants.{Differs, OutOfMemory}

-- A plain map that starts as this one and is given the calls in order gives each its receipt's reply.
abbrev pub IsLegalFrom : Bytes → List Receipt → Type 0
IsLegalFrom m [] = Unit {0}
IsLegalFrom m (r ∷ rs) = (r.reply ≡ reply_of r.call m) × IsLegalFrom (map_after r.call m) rs

-- the plain map after the last call
abbrev pub map_from : Bytes → List Receipt → Bytes
map_from m [] = m
map_from m (r ∷ rs) = map_from (map_after r.call m) rs

-- Replies are right if an empty map, changed call by call, explains them all.
abbrev pub IsLegal : List Receipt → Type 0
IsLegal receipts = IsLegalFrom empty receipts

-- the map that a history leaves
abbrev pub map_left : List Receipt → Bytes
map_left receipts = map_from empty receipts

-- The receipts before this place are legal, and the reply of the one there isn't the map's.
pub record DiffersAt (receipts : List Receipt) (place : ℕ) : Type 0 where
  pub before : IsLegal (take place receipts)
  pub there : (r : Receipt) → slice_get receipts place ≡ Some r → r.reply ≢ reply_of r.call (map_left (take place receipts))
  pub within : place < length receipts

-- what a fault of a replay says
abbrev pub Explains : List Receipt → ReplayFault → Type 0
Explains receipts (Differs place) = DiffersAt receipts place
Explains receipts OutOfMemory = Unit {0}
