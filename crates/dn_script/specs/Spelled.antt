use Rattle.std.specs.Prelude.{ℕ, List, Option, Some, None, replicate}
use Rattle.dn_script.specs.declared.values.Spelled.{Spelled}
use Rattle.dn_script.specs.declared.values.Spelled.TheVariants.{Plain, Pairs, Filled}
use Rattle.dn_script.specs.Value.{pairs_of}

-- the bytes that a spelling stands for
abbrev pub bytes_of : Spelled → List ℕ
bytes_of (Plain bytes) = bytes.now
bytes_of (Pairs digits) = pairs_of digits.now
bytes_of (Filled byte count) = replicate count byte

-- the bytes of a spelling, where there is one
abbrev pub bytes_in : Option Spelled → Option (List ℕ)
bytes_in None = None
bytes_in (Some spelled) = Some (bytes_of spelled)
