use Rattle.std.specs.Prelude.{◌≡◌, ℕ, ◌<◌, Bool, false, ◌&&◌, List, [], ◌∷◌, Option, Some, None, nat_eq, nat_le, if◌then◌else◌}
use Rattle.std.specs.List.{filter, last_or}
use Rattle.dn_word.specs.Ref.{ref_of}
use Rattle.dn_word.specs.declared.packed.place.Ref.{Ref}
use Rattle.dn_record.specs.Record.{value_of}
use Rattle.dn_record.specs.declared.records.Record.{Record}
use Rattle.dn_record.specs.declared.records.Record.TheVariants.{Put, Delete, Share, Unshare, Loose, LooseDelete, Pad}
use Rattle.dn_model.specs.Regions.{mark, owner, cell, home_of, IsLane}
use Rattle.dn_model.specs.Log.{Placed, IsLog}
use Rattle.dn_model.specs.Index.{IsChain, index}

-- Each lane's sealed log and the overflow buckets of each home bucket, as they are read from the words.
pub record Reads (words : List ℕ) (logs : ℕ → List Placed) (chains : ℕ → List ℕ) : Type 0 where
  pub logs_are : (n : ℕ) → IsLane n → IsLog words n (logs n)
  pub no_more : (n : ℕ) → (IsLane n → ⊥) → logs n ≡ []
  pub chains_are : (home : ℕ) → home < 4096 → IsChain words home (chains home)

-- whether a record is an authority record of key k
abbrev pub is_authority : ℕ → Record → Bool
is_authority k (Put key value) = nat_eq key k
is_authority k (Delete key) = nat_eq key k
is_authority k (Share key cell opening) = nat_eq key k
is_authority k (Unshare key at) = nat_eq key k
is_authority k (Loose key value) = false
is_authority k (LooseDelete key) = false
is_authority k (Pad words) = false

-- the authority records of k in the part of a log from the merged mark on
abbrev pub authorities : ℕ → ℕ → List Placed → List Placed
authorities k merged log = filter (λ (p : Placed). nat_le merged p.offset && is_authority k p.entry) log

-- the record of the last of them
abbrev pub entry_of : Option Placed → Option Record
entry_of None = None
entry_of (Some p) = Some p.entry

abbrev pub unmerged : ℕ → ℕ → List Placed → Option Record
unmerged k merged log = entry_of (last_or None (authorities k merged log))

-- the record of a log that begins at an offset
abbrev pub entry_at : ℕ → List Placed → Option Record
entry_at o [] = None
entry_at o (p ∷ ps) = if nat_eq p.offset o then Some p.entry else entry_at o ps

-- the sealed record that a place names
abbrev pub record_at : (ℕ → List Placed) → Option Ref → Option Record
record_at logs None = None
record_at logs (Some at) = entry_at at.offset (logs at.lane)

-- Some words mean nothing: an index that leads to no record of its key, or a place that names no value of its key. What is read
-- has such a case then: `Says` to what was found, or `Astray`.
pub data Found (A : Type 0) : Type 0 where
  Says : A → Found A
  Astray : Found A

-- what the index's place word leads to: an authority record of k
abbrev pub led_to : ℕ → Option Record → Found (Option Record)
led_to k None = Astray
led_to k (Some r) = if is_authority k r then Says (Some r) else Astray

-- the authority by the index: the record at its place word, or none where the index has no place
abbrev pub indexed : (ℕ → List Placed) → ℕ → Option ℕ → Found (Option Record)
indexed logs k None = Says None
indexed logs k (Some word) = led_to k (record_at logs (ref_of word))

-- the last unmerged authority record, or else what the index gives
abbrev pub authority_by : (ℕ → List Placed) → ℕ → Option Record → Option ℕ → Found (Option Record)
authority_by logs k None place = indexed logs k place
authority_by logs k (Some r) place = Says (Some r)

-- The authority of a key: the last unmerged authority record of the owner's log, or else the index's. The owner is the lane that
-- the deed of the key's slot names.
abbrev pub authority : List ℕ → (ℕ → List Placed) → (ℕ → List ℕ) → ℕ → Found (Option Record)
authority words logs chains k =
    authority_by logs k (unmerged k (mark words (owner words k)) (logs (owner words k))) (index words (chains (home_of k)) k)

-- ---- which record holds the value
-- whether a record is one of k that has its value, or says that it has none
abbrev pub is_holder : ℕ → Record → Bool
is_holder k (Put key value) = nat_eq key k
is_holder k (Delete key) = nat_eq key k
is_holder k (Loose key value) = nat_eq key k
is_holder k (LooseDelete key) = nat_eq key k
is_holder k (Share key cell opening) = false
is_holder k (Unshare key at) = false
is_holder k (Pad words) = false

-- where a place leads that is to name the value of k: such a record
abbrev pub holder_at : ℕ → Option Record → Found (Option Record)
holder_at k None = Astray
holder_at k (Some r) = if is_holder k r then Says (Some r) else Astray

-- the record that a place names as the holder of k: no place names none
abbrev pub named : (ℕ → List Placed) → ℕ → Option Ref → Found (Option Record)
named logs k None = Says None
named logs k (Some at) = holder_at k (record_at logs (Some at))

-- the word of a shared key: its cell, open or closed, or while that is 0 the word with which it opens
abbrev pub cell_word : ℕ → ℕ → ℕ
cell_word opening word = if nat_eq word 0 then opening else word

-- The place at which an authority record says that the holder is, by the words of the cells. A put or delete says none, since it
-- is the holder itself.
abbrev pub place_by : (ℕ → ℕ) → Record → Option Ref
place_by cells (Put key value) = None
place_by cells (Delete key) = None
place_by cells (Share key j opening) = ref_of (cell_word opening (cells j))
place_by cells (Unshare key at) = at
place_by cells (Loose key value) = None
place_by cells (LooseDelete key) = None
place_by cells (Pad n) = None

-- the holder that an authority record gives its key
abbrev pub holder_by : (ℕ → ℕ) → (ℕ → List Placed) → ℕ → Record → Found (Option Record)
holder_by cells logs k (Put key value) = Says (Some (Put key value))
holder_by cells logs k (Delete key) = Says (Some (Delete key))
holder_by cells logs k (Share key j opening) = named logs k (place_by cells (Share key j opening))
holder_by cells logs k (Unshare key at) = named logs k (place_by cells (Unshare key at))
holder_by cells logs k (Loose key value) = Astray
holder_by cells logs k (LooseDelete key) = Astray
holder_by cells logs k (Pad n) = Astray

abbrev pub holder_from : (ℕ → ℕ) → (ℕ → List Placed) → ℕ → Found (Option Record) → Found (Option Record)
holder_from cells logs k Astray = Astray
holder_from cells logs k (Says None) = Says None
holder_from cells logs k (Says (Some r)) = holder_by cells logs k r

-- The record that holds the value of a key, or says that it has none: of the whole pool.
abbrev pub holder : List ℕ → (ℕ → List Placed) → (ℕ → List ℕ) → ℕ → Found (Option Record)
holder words logs chains k = holder_from (cell words) logs k (authority words logs chains k)

-- ---- the value
-- the value of the record that was found
abbrev pub value_in : Found (Option Record) → Found (Option (List ℕ))
value_in Astray = Astray
value_in (Says None) = Says None
value_in (Says (Some r)) = Says (value_of r)

-- what an authority record, or what was found as the authority, says is held
abbrev pub held_by : (ℕ → ℕ) → (ℕ → List Placed) → ℕ → Record → Found (Option (List ℕ))
held_by cells logs k r = value_in (holder_by cells logs k r)

abbrev pub held_from : (ℕ → ℕ) → (ℕ → List Placed) → ℕ → Found (Option Record) → Found (Option (List ℕ))
held_from cells logs k found = value_in (holder_from cells logs k found)

-- What the pool holds at a key: the value of its holder.
abbrev pub held : List ℕ → (ℕ → List Placed) → (ℕ → List ℕ) → ℕ → Found (Option (List ℕ))
held words logs chains k = value_in (holder words logs chains k)
