use Rattle.std.specs.Prelude.{ℕ, List, Option, Some, None}
use Rattle.std.specs.Ordering.{nat_cmp}
use Rattle.std.specs.FinMap.{FinMap, get, insert, remove}
use Rattle.dn_hist.specs.declared.calls.Call.{Call}
use Rattle.dn_hist.specs.declared.calls.Call.TheVariants.{Get, Put, Delete}
use Rattle.dn_hist.specs.declared.calls.Reply.{Reply}
use Rattle.dn_hist.specs.declared.calls.Reply.TheVariants.{Value, Absent, Stored, Deleted}

-- what an honest store would have: for each key its bytes, or none
abbrev pub Bytes : Type 0
Bytes = FinMap nat_cmp (List ℕ)

-- the key that a call is on
abbrev pub key_of : Call → ℕ
key_of (Get key) = key
key_of (Put key value) = key
key_of (Delete key) = key

-- it is a put or delete
abbrev pub IsWrite : Call → Type 0
IsWrite (Get key) = ⊥
IsWrite (Put key value) = Unit {0}
IsWrite (Delete key) = Unit {0}

-- the answer to a get of a key that has this value, or none
abbrev pub found_of : Option (List ℕ) → Reply
found_of None = Absent
found_of (Some value) = Value value

-- the reply that the plain map gives a call
abbrev pub reply_of : Call → Bytes → Reply
reply_of (Get key) m = found_of (get m key)
reply_of (Put key value) m = Stored
reply_of (Delete key) m = Deleted

-- the plain map that a call leaves
abbrev pub map_after : Call → Bytes → Bytes
map_after (Get key) m = m
map_after (Put key value) m = insert m key value
map_after (Delete key) m = remove m key
