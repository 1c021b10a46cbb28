use Rattle.std.specs.Prelude.{◌≡◌, List, All, length, codes, string_bytes, String}
use Rattle.std.specs.declared.alloc.Global.{Global}
use Rattle.dn_io.specs.declared.statuses.Status.{Status}
use Rattle.dn_io.specs.declared.statuses.Status.TheVariants as status

-- the words are the one word play
abbrev pub IsPlay : List (String Global) → Type 0
IsPlay words = (length words ≡ 1) × All (λ (word : String Global). string_bytes word ≡ codes "play") words

-- how other words end: refused, unless the refusal can't be written or made
abbrev pub RefusesWords : Status → Type 0
RefusesWords status.BadWords = Unit {0}
RefusesWords status.WriteFault = Unit {0}
RefusesWords status.OutOfMemory = Unit {0}
RefusesWords other = ⊥
