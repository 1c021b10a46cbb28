use Rattle.std.specs.Prelude.{ℕ, Option, Some, None}
use Rattle.dn_merge.specs.Merge.{Merging}
use Rattle.dn_merge.specs.declared.places.MergePlace.{MergePlace}
use Rattle.dn_merge.specs.declared.places.MergePlace.TheVariants.{Gate, Mark, Directory, Header, Key, Walk, Pass}
use Rattle.dn_walks.specs.Changing.{asks_at}
use Rattle.dn_turns.specs.Sums.{sum_to}

-- How many mergers have read the overflow counter below its limit and not yet added to it.

abbrev pub asks_in : MergePlace → ℕ
asks_in Gate = 0
asks_in (Mark gate) = 0
asks_in (Directory mark) = 0
asks_in (Header mark from) = 0
asks_in (Key mark from to change) = 0
asks_in (Walk to w) = asks_at w.place
asks_in (Pass to) = 0

abbrev pub asks : Option Merging → ℕ
asks None = 0
asks (Some m) = asks_in m.place

-- of all lanes' mergers
abbrev pub asking : (ℕ → Option Merging) → ℕ
asking mergers = sum_to 63 (λ n. asks (mergers n))
