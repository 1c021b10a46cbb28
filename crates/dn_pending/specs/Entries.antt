use Rattle.std.specs.Prelude.{ℕ, ◌<◌, ◌==◌, List, Option, AllPairs, filter, find, nat_le, reverse}
use Rattle.std.specs.Option.{option_map}
use Rattle.dn_pending.specs.declared.entries.Entry.{Entry}

-- the place of the key's last entry
abbrev pub last_of : ℕ → List Entry → Option ℕ
last_of key entries = option_map (λ (e : Entry). e.at) (find (λ (e : Entry). e.key == key) (reverse entries))

-- each place is greater than all before it
abbrev pub IsRising : List Entry → Type 0
IsRising entries = AllPairs (λ (a b : Entry). a.at < b.at) entries

-- the entries at the mark and past it, in their order
abbrev pub kept_from : ℕ → List Entry → List Entry
kept_from mark entries = filter (λ (e : Entry). nat_le mark e.at) entries
