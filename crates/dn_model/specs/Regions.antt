use Rattle.std.specs.Prelude.{ℕ, ◌+◌, ◌-◌, ◌*◌, ◌/◌, ◌%◌, List}
use Rattle.dn_word.specs.Gate.{gate_of}
use Rattle.dn_word.specs.Deed.{deed_of}
pub use Rattle.dn_word.specs.Hash.{slot_of, home_of}
pub use Rattle.dn_word.specs.Regions.{gate_at, mark_at, directory_at, deed_at, cell_at, bucket_at, IsLane}
use Rattle.dn_word.specs.Regions.{segments_at}
use Rattle.dn_word.specs.declared.packed.gate.Gate.{Gate}
use Rattle.dn_word.specs.declared.packed.deed.Deed.{Deed}
use Rattle.dn_act.specs.Words.{word_at}

-- The pool is a list of words. These are the readers of its regions, by the number of a lane, slot, cell, bucket or segment.

-- the gate of lane n
abbrev pub gate : List ℕ → ℕ → Gate
gate words n = gate_of (word_at words (gate_at n))

-- how many words of lane n's log are merged
abbrev pub mark : List ℕ → ℕ → ℕ
mark words n = word_at words (mark_at n)

-- the number of segment q of lane n, plus 1, or 0 where it has none
abbrev pub directory : List ℕ → ℕ → ℕ → ℕ
directory words n q = word_at words (directory_at n q)

-- where an offset lies in the segment that a directory word names: that word is the segment's number plus 1
abbrev pub place_in : ℕ → ℕ → ℕ
place_in word o = segments_at - 1024 + (word * 1024 + o % 1024)

-- the word of the pool at an offset of lane n
abbrev pub place : List ℕ → ℕ → ℕ → ℕ
place words n o = place_in (directory words n (o / 1024)) o

-- the words of lane n by their offsets
abbrev pub offsets : List ℕ → ℕ → ℕ → ℕ
offsets words n o = word_at words (place words n o)

-- the deed of slot s
abbrev pub deed : List ℕ → ℕ → Deed
deed words s = deed_of (word_at words (deed_at s))

-- the word of cell j
abbrev pub cell : List ℕ → ℕ → ℕ
cell words j = word_at words (cell_at j)

-- word i of bucket b
abbrev pub bucket : List ℕ → ℕ → ℕ → ℕ
bucket words b i = word_at words (bucket_at b i)

-- the lane that the deed of a key's slot names, or 0
abbrev pub owner : List ℕ → ℕ → ℕ
owner words k = (deed words (slot_of k)).lane
