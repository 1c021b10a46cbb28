use Rattle.std.specs.Prelude.{◌≡◌, ◌⊎◌, ℕ, ◌<◌, List, [], Option, Some, None, true, length, slice_index_or}
use Rattle.std.specs.FinMap.{get}
use Rattle.dn_hist.specs.Calls.{Bytes}
use Rattle.dn_model.specs.Regions.{mark, owner, cell, home_of, bucket, IsLane}
use Rattle.dn_model.specs.Log.{Placed, IsLog, NoLog}
use Rattle.dn_model.specs.Index.{IsChain, NoChain, index}
use Rattle.dn_model.specs.Held.{Found, Says, Astray as NoSense, is_authority, unmerged, authority_by, held_from}
use Rattle.dn_model.specs.declared.holdings.Held.{Held}
use Rattle.dn_model.specs.declared.holdings.Held.TheVariants.{Astray, Nothing, Is}
use Rattle.dn_model.specs.declared.holdings.Holder.{Holder}
use Rattle.dn_model.specs.declared.holdings.Holder.TheVariants.{Astray as Lost, Nobody, Is as By}
use Rattle.dn_record.specs.declared.records.Record.{Record}
use Rattle.dn_model.specs.declared.maps.MapFault.{MapFault}
use Rattle.dn_model.specs.declared.maps.MapFault.TheVariants.{Unreadable, OutOfMemory}

-- What the plain program has read so far, in the terms of the definitions.

-- what an answer of the program says
abbrev pub told : Held → Found (Option (List ℕ))
told Astray = NoSense
told Nothing = Says None
told (Is value) = Says (Some value.now)

-- and what a holder says that was found
abbrev pub told_holder : Holder → Found (Option Record)
told_holder Lost = NoSense
told_holder Nobody = Says None
told_holder (By entry) = Says (Some entry.now)

-- logs by their lanes, from a list that begins with that of lane 0
abbrev pub logs_of : List (List Placed) → ℕ → List Placed
logs_of logs n = slice_index_or logs n []

-- overflow buckets by their home bucket
abbrev pub chains_of : List (List ℕ) → ℕ → List ℕ
chains_of chains home = slice_index_or chains home []

-- what is held at a key, where these are the overflow buckets of its home
abbrev pub held_with : List ℕ → (ℕ → List Placed) → List ℕ → ℕ → Found (Option (List ℕ))
held_with words logs overflow k =
    held_from (cell words) logs k (authority_by logs k (unmerged k (mark words (owner words k)) (logs (owner words k))) (index words overflow k))

-- the logs of the lanes below this number
pub record AreLogs (words : List ℕ) (below : ℕ) (logs : List (List Placed)) : Type 0 where
  pub count : length logs ≡ below
  pub each : (n : ℕ) → IsLane n → n < below → IsLog words n (logs_of logs n)
  pub first : logs_of logs 0 ≡ []

-- the chains of the home buckets below this number
pub record AreChains (words : List ℕ) (below : ℕ) (chains : List (List ℕ)) : Type 0 where
  pub count : length chains ≡ below
  pub each : (home : ℕ) → home < below → IsChain words home (chains_of chains home)

-- a fault says this, but for want of memory
abbrev pub Says_of : Type 0 → MapFault → Type 0
Says_of claim Unreadable = claim
Says_of claim OutOfMemory = Unit {0}

-- some lane has no log, or some home bucket no chain
abbrev pub SomeLog : List ℕ → Type 0
SomeLog words = (n : ℕ) × IsLane n × NoLog words n

abbrev pub SomeChain : List ℕ → Type 0
SomeChain words = (home : ℕ) × (home < 4096) × NoChain words home

-- From one map to a later one, for keys at which this is held: what was right stays right, what changes becomes right, and 0 stays.
pub record Towards (holds : ℕ → Found (Option (List ℕ))) (before after : Bytes) : Type 0 where
  pub kept : (k : ℕ) → 0 < k → holds k ≡ Says (get before k) → holds k ≡ Says (get after k)
  pub changed : (k : ℕ) → 0 < k → (get after k ≡ get before k) ⊎ (holds k ≡ Says (get after k))
  pub zero_kept : get after 0 ≡ get before 0

-- the map is right at a key
abbrev pub IsRight : (ℕ → Found (Option (List ℕ))) → Bytes → ℕ → Type 0
IsRight holds map k = 0 < k → holds k ≡ Says (get map k)

-- the map is right at each key of which the first so many records of a log are authorities
abbrev pub IsRightFor : (ℕ → Found (Option (List ℕ))) → Bytes → List Placed → ℕ → Type 0
IsRightFor holds map log count = (i k : ℕ) (p : Placed) → i < count → p ≡ slice_index_or log i p → is_authority k p.entry ≡ true → IsRight holds map k

-- and at each key of a bucket below this number
abbrev pub IsRightBelow : List ℕ → (ℕ → Found (Option (List ℕ))) → Bytes → ℕ → Type 0
IsRightBelow words holds map below = (b i : ℕ) → b < below → 0 < i → i < 4 → IsRight holds map (bucket words b i)

-- what is held at each key, by the logs and chains that were read
abbrev pub holds_of : List ℕ → List (List Placed) → List (List ℕ) → ℕ → Found (Option (List ℕ))
holds_of words logs chains k = held_with words (logs_of logs) (chains_of chains (home_of k)) k

-- at some key the words lead astray
abbrev pub Stray : (ℕ → Found (Option (List ℕ))) → Type 0
Stray holds = (k : ℕ) × (0 < k) × (holds k ≡ NoSense)

-- the map is right for the logs of the lanes below this number
abbrev pub AreRightFor : (ℕ → Found (Option (List ℕ))) → Bytes → List (List Placed) → ℕ → Type 0
AreRightFor holds map logs below = (n : ℕ) → n < below → IsRightFor holds map (logs_of logs n) (length (logs_of logs n))

-- and at the keys of a bucket before this word of it
abbrev pub IsRightIn : List ℕ → (ℕ → Found (Option (List ℕ))) → Bytes → ℕ → ℕ → Type 0
IsRightIn words holds map b below = (i : ℕ) → 0 < i → i < below → IsRight holds map (bucket words b i)
