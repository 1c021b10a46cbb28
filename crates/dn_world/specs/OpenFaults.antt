use Rattle.std.specs.Prelude.{◌≡◌, ◌<◌, ℕ, List}
use Rattle.dn_world.specs.declared.open_faults.OpenFault.{OpenFault}
use Rattle.dn_world.specs.declared.open_faults.OpenFault.TheVariants.{Pool, OutOfMemory}

-- Why there is no world: an access failed, and the count of those that did rose; or memory was wanting before any access.
abbrev pub IsOpenFault : List ℕ → ℕ → List ℕ → ℕ → OpenFault → Type 0
IsOpenFault words old now new Pool = old < new
IsOpenFault words old now new OutOfMemory = (now ≡ words) × (new ≡ old)
