use Rattle.std.specs.Prelude.{◌≡◌, ℕ, ◌<◌, List, Some, slice_get}
use Rattle.std.specs.declared.cmp.Ordering.TheVariants.{Less}
use Rattle.dn_word.specs.declared.positions.Position.{Position}
use Rattle.dn_hist.specs.Receipt.{position_cmp}
use Rattle.dn_hist.specs.declared.receipts.Receipt.{Receipt}

-- a position stands before another
abbrev pub IsBefore : Position → Position → Type 0
IsBefore a b = position_cmp a b ≡ Less

-- Of two receipts of a session the later one in the list has the greater number and the greater position.
pub record IsInCallersOrder (receipts : List Receipt) : Type 0 where
  pub rises : (i j : ℕ) (r s : Receipt) → i < j → slice_get receipts i ≡ Some r → slice_get receipts j ≡ Some s
      → r.position.session ≡ s.position.session → (r.number < s.number) × IsBefore r.position s.position
