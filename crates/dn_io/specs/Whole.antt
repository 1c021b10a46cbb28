use Rattle.std.specs.Prelude.{◌≡◌, ℕ, ◌+◌, ◌<◌, ◌≤◌, List, Option, length, take}
use Rattle.std.specs.Io.KnownBytes.{Consumes, Appends}
use Rattle.dn_io.specs.declared.faults.ReadAllFault.{ReadAllFault}
use Rattle.dn_io.specs.declared.faults.ReadAllFault.TheVariants as fault

-- how many bytes were taken where reading to the end was given up: one too many, or as many as are allowed
abbrev pub EndsReading : ReadAllFault → ℕ → ℕ → Type 0
EndsReading fault.Read limit taken = taken ≤ limit
EndsReading fault.Long limit taken = taken ≡ limit + 1
EndsReading fault.OutOfMemory limit taken = taken ≤ limit + 1

-- a front of the bytes that were left is gone, of a length of which this holds
pub record TookFront (old new : Option (List ℕ)) (holds : ℕ → Type 0) : Type 0 where
  pub bytes : List ℕ
  pub gone : Consumes old new bytes
  pub fits : holds (length bytes)

-- a front of these bytes was written, and not all of them
pub record WroteFront (old new : Option (List ℕ)) (given : List ℕ) : Type 0 where
  pub count : ℕ
  pub less : count < length given
  pub behind : Appends old new (take count given)
