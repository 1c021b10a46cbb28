use Rattle.std.specs.Prelude.{◌≡◌, ◌≢◌, ℕ, ◌<◌, Bool, true, false, List, Option, All}
use Rattle.std.specs.Option.{option_and_then}
use Rattle.dn_record.specs.Record.{value_of}
use Rattle.dn_record.specs.declared.records.Record.{Record}
use Rattle.dn_record.specs.declared.records.Record.TheVariants.{Put, Delete, Share, Unshare, Loose, LooseDelete, Pad}
use Rattle.dn_model.specs.Regions.{gate, mark, deed, bucket, IsLane}
use Rattle.dn_model.specs.Log.{Placed, IsLog}
use Rattle.dn_model.specs.Held.{unmerged}

-- The pool before anything is merged, moved or shared: one lane owns all slots, and all that is held stands in its log.

-- whether a record is a put, a delete or a pad
abbrev pub is_plain : Record → Bool
is_plain (Put key value) = true
is_plain (Delete key) = true
is_plain (Share key cell opening) = false
is_plain (Unshare key at) = false
is_plain (Loose key value) = false
is_plain (LooseDelete key) = false
is_plain (Pad words) = true

-- what a log of such records leaves at k: the value of the last put or delete of k
abbrev pub left_in : ℕ → List Placed → Option (List ℕ)
left_in k log = option_and_then value_of (unmerged k 0 log)

-- no bucket has a key, a place or a next one
pub record IsEmptyIndex (words : List ℕ) : Type 0 where
  pub each : (b i : ℕ) → b < 8192 → 0 < i → i < 8 → bucket words b i ≡ 0

-- only lane n has a log, of plain records, and the index is empty
pub record IsOneLog (words : List ℕ) (n : ℕ) (log : List Placed) : Type 0 where
  pub lane : IsLane n
  pub own : IsLog words n log
  pub others : (m : ℕ) → IsLane m → m ≢ n → (gate words m).len ≡ 0
  pub owns : (s : ℕ) → s < 64 → (deed words s).lane ≡ n
  pub merged : mark words n ≡ 0
  pub index : IsEmptyIndex words
  pub plain : All (λ (p : Placed). is_plain p.entry ≡ true) log
