use Rattle.std.specs.Prelude.{◌≡◌, ◌⊎◌, ℕ, ◌+◌, ◌<◌, ◌≤◌, Bool, true, false, List, Option, Some, None, Contains}
use Rattle.dn_hist.specs.Calls.{key_of, found_of}
use Rattle.dn_hist.specs.declared.calls.Call.{Call}
use Rattle.dn_hist.specs.declared.calls.Call.TheVariants.{Get, Put, Delete}
use Rattle.dn_hist.specs.declared.calls.Reply.{Reply}
use Rattle.dn_hist.specs.declared.calls.Reply.TheVariants.{Stored, Deleted}
use Rattle.dn_hist.specs.declared.receipts.Receipt.{Receipt}

-- Each key as a register of its own: which writes a read has seen is said by stamps alone, and not by the order of a list. A
-- register may start with values that stand there before any write.

-- whether a call may change what its key has, whatever its reply
abbrev pub may_write : Call → Bool
may_write (Get key) = false
may_write (Put key value) = true
may_write (Delete key) = true

-- whether a call that was so replied is a write of its key
abbrev pub is_write : Call → Reply → Bool
is_write (Get key) reply = false
is_write (Put key value) reply = true
is_write (Delete key) reply = true

-- what a write leaves at its key
abbrev pub written_by : Call → Option (List ℕ)
written_by (Get key) = None
written_by (Put key value) = Some value
written_by (Delete key) = None

-- ---- what stands at a key
-- a write of key k with a stamp below t
pub record Writes (r : Receipt) (k t : ℕ) : Type 0 where
  pub write : is_write r.call r.reply ≡ true
  pub key : key_of r.call ≡ k
  pub below : r.position.stamp < t

-- there are no writes of k below t, and so what it started with stands there
pub record Untouched (start : ℕ → Option (List ℕ)) (rs : List Receipt) (k t : ℕ) (value : Option (List ℕ)) : Type 0 where
  pub none : (r : Receipt) → Contains rs r → Writes r k t → ⊥
  pub is : value ≡ start k

-- among the writes of k below t one has the greatest stamp, and leaves this
pub record Written (rs : List Receipt) (k t : ℕ) (value : Option (List ℕ)) : Type 0 where
  pub last : Receipt
  pub among : Contains rs last
  pub writes : Writes last k t
  pub greatest : (r : Receipt) → Contains rs r → Writes r k t → r.position.stamp ≤ last.position.stamp
  pub is : value ≡ written_by last.call

-- The value that stands at k before stamp t: before a write with that stamp, and before a read that sees no such write.
abbrev pub StandsBefore : (ℕ → Option (List ℕ)) → List Receipt → ℕ → ℕ → Option (List ℕ) → Type 0
StandsBefore start rs k t value = Untouched start rs k t value ⊎ Written rs k t value

-- the writes of k with stamps up to t leave this value there
abbrev pub LeavesFrom : (ℕ → Option (List ℕ)) → List Receipt → ℕ → ℕ → Option (List ℕ) → Type 0
LeavesFrom start rs k t value = StandsBefore start rs k (t + 1) value

-- ---- receipts that are right by stamps
-- a read at stamp t is answered what the writes up to t leave
abbrev pub IsRightFrom : (ℕ → Option (List ℕ)) → List Receipt → ℕ → Call → Reply → Type 0
IsRightFrom start rs t (Get key) reply = (value : Option (List ℕ)) × LeavesFrom start rs key t value × (reply ≡ found_of value)
IsRightFrom start rs t (Put key value) reply = reply ≡ Stored
IsRightFrom start rs t (Delete key) reply = reply ≡ Deleted

-- Legality without an order: every reply is right; a write has rank 0, its stamp is no other write's of its key, and the reads of
-- its key at its stamp have greater ranks.
pub record IsLegalByStampFrom (start : ℕ → Option (List ℕ)) (rs : List Receipt) : Type 0 where
  pub replies : (r : Receipt) → Contains rs r → IsRightFrom start rs r.position.stamp r.call r.reply
  pub first : (r : Receipt) → Contains rs r → is_write r.call r.reply ≡ true → r.position.rank ≡ 0
  pub alone : (r s : Receipt) → Contains rs r → Contains rs s → key_of r.call ≡ key_of s.call → r.position.stamp ≡ s.position.stamp
      → is_write r.call r.reply ≡ true → is_write s.call s.reply ≡ true → r ≡ s
  pub behind : (r s : Receipt) → Contains rs r → Contains rs s → key_of r.call ≡ key_of s.call → r.position.stamp ≡ s.position.stamp
      → is_write r.call r.reply ≡ true → is_write s.call s.reply ≡ false → 0 < s.position.rank

-- What is held at each key is what its writes leave, and a bound for each key is at least the stamps of its receipts.
pub record IsRegisterFrom (start held : ℕ → Option (List ℕ)) (bound : ℕ → ℕ) (rs : List Receipt) : Type 0 where
  pub legal : IsLegalByStampFrom start rs
  pub stamps : (r : Receipt) → Contains rs r → r.position.stamp ≤ bound (key_of r.call)
  pub values : (k : ℕ) → LeavesFrom start rs k (bound k) (held k)

-- A read that may be added: its stamp is up to the bound, its reply is right, and where a write of its key has its stamp, its rank is above 0.
pub record IsReadFrom (start : ℕ → Option (List ℕ)) (bound : ℕ → ℕ) (rs : List Receipt) (n : Receipt) : Type 0 where
  pub read : is_write n.call n.reply ≡ false
  pub old : n.position.stamp ≤ bound (key_of n.call)
  pub right : IsRightFrom start rs n.position.stamp n.call n.reply
  pub behind : (r : Receipt) → Contains rs r → key_of r.call ≡ key_of n.call → r.position.stamp ≡ n.position.stamp → is_write r.call r.reply ≡ true → 0 < n.position.rank

-- A write that may be added: its rank is 0, its stamp is past the bound of its key, and its reply is right.
pub record IsWriteFrom (start : ℕ → Option (List ℕ)) (bound : ℕ → ℕ) (rs : List Receipt) (n : Receipt) : Type 0 where
  pub write : is_write n.call n.reply ≡ true
  pub first : n.position.rank ≡ 0
  pub past : bound (key_of n.call) < n.position.stamp
  pub right : IsRightFrom start rs n.position.stamp n.call n.reply

-- ---- the register that starts empty
abbrev pub nothing : ℕ → Option (List ℕ)
nothing k = None

abbrev pub Leaves : List Receipt → ℕ → ℕ → Option (List ℕ) → Type 0
Leaves rs k t value = LeavesFrom nothing rs k t value

abbrev pub IsRight : List Receipt → ℕ → Call → Reply → Type 0
IsRight rs t call reply = IsRightFrom nothing rs t call reply

abbrev pub IsLegalByStamp : List Receipt → Type 0
IsLegalByStamp rs = IsLegalByStampFrom nothing rs

abbrev pub IsRegister : (ℕ → Option (List ℕ)) → (ℕ → ℕ) → List Receipt → Type 0
IsRegister held bound rs = IsRegisterFrom nothing held bound rs

abbrev pub IsReadOf : (ℕ → ℕ) → List Receipt → Receipt → Type 0
IsReadOf bound rs n = IsReadFrom nothing bound rs n

abbrev pub IsWriteOf : (ℕ → ℕ) → List Receipt → Receipt → Type 0
IsWriteOf bound rs n = IsWriteFrom nothing bound rs n
