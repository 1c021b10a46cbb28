use Rattle.std.specs.Prelude.{◌≡◌, ◌≢◌, ℕ, ◌+◌, ◌-◌, ◌*◌, ◌%◌, ◌^◌, ◌<◌, ◌≤◌, List, Contains}
use Rattle.dn_word.specs.Hash.{hash_of}

-- A lane has 16 points on a ring of 2^64 places: the hashes of 256 times the lane, plus 0 to 15.
unfoldable pub point_of : ℕ → ℕ → ℕ
point_of lane number = hash_of (256 * lane + number)

-- how far up the ring a place lies from where a slot begins, which is at 2^58 times the slot
abbrev pub distance : ℕ → ℕ → ℕ
distance slot at = (at + (64 - slot) * 2 ^ 58) % 2 ^ 64

-- Of all points of the live lanes this one is met first from where the slot begins: none is nearer, and of those that
-- are as near none is of a lower lane.
pub record IsFirst (live : List ℕ) (slot lane number : ℕ) : Type 0 where
  pub nearest : (other n : ℕ) → Contains live other → n < 16
      → distance slot (point_of lane number) ≤ distance slot (point_of other n)
  pub lowest : (other n : ℕ) → Contains live other → n < 16
      → distance slot (point_of lane number) ≡ distance slot (point_of other n) → lane ≤ other

-- A slot's owner is the live lane of which a point is met first.
pub record IsOwner (live : List ℕ) (slot lane : ℕ) : Type 0 where
  pub is_live : Contains live lane
  pub number : ℕ
  pub below : number < 16
  pub first : IsFirst live slot lane number

-- the live lanes with one lane more
pub record IsOneMore (lane : ℕ) (fewer more : List ℕ) : Type 0 where
  pub added : Contains more lane
  pub kept : (other : ℕ) → Contains fewer other → Contains more other
  pub only : (other : ℕ) → Contains more other → other ≢ lane → Contains fewer other
