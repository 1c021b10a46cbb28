use Rattle.std.specs.Prelude.{◌≡◌, ℕ, ◌+◌, ◌*◌, Bool, true, false, List, ◌∷◌, Option, Some, None, length, take, drop, nat_le, if◌then◌else◌}
use Rattle.dn_word.specs.Bytes.{bytes_of}
use Rattle.dn_record.specs.Reading.{head_in}
use Rattle.dn_record.specs.declared.heads.Head.{Head}
use Rattle.dn_record.specs.declared.heads.Head.TheVariants.{Put, Delete, Pad}

-- How the value of a record is read from its words, whoever reads it.

-- so many bytes behind the key, where all of them are there
abbrev pub bytes_behind : ℕ → List ℕ → Option (List ℕ)
bytes_behind bytes ws = if nat_le (bytes + 8) (8 * length ws) then Some (take bytes (bytes_of (drop 1 ws))) else None

-- a reader of values goes by the head: a Put has its bytes behind the key, and neither a Delete nor a pad has a value
pub record ReadsValues (value_in : List ℕ → Option (List ℕ)) (value_behind : Option Head → List ℕ → Option (List ℕ)) : Type 0 where
  pub by_head : (w : ℕ) (ws : List ℕ) → value_in (w ∷ ws) ≡ value_behind (head_in w) ws
  pub of_put : (bytes : ℕ) (ws : List ℕ) → value_behind (Some (Put bytes)) ws ≡ bytes_behind bytes ws
  pub of_delete : (ws : List ℕ) → value_behind (Some Delete) ws ≡ None
  pub of_pad : (n : ℕ) (ws : List ℕ) → value_behind (Some (Pad n)) ws ≡ None

-- what is told of the words that a location has brought, or where it has brought none
abbrev pub told_by : (List ℕ → Option (List ℕ)) → List ℕ → Bool → Option (List ℕ)
told_by value_in words true = value_in words
told_by value_in words false = None
