use Rattle.std.specs.Prelude.{◌≡◌, ◌≤◌, ◌+◌, ◌%◌, ◌/◌, List, [], ◌∷◌, All, take, drop, true, length, reverse}
use Rattle.dn_pending.specs.declared.entries.Entry.{Entry}
use Rattle.dn_pending.specs.declared.segments.Segment.{Segment}
use Rattle.dn_pending.specs.Entries.{IsRising}
use Rattle.dn_pending.specs.Filter.{bits_of, may_hold}

-- the entry is one of this segment's: its place lies there, and the filter doesn't deny its key
pub record IsOf (segment : Segment) (entry : Entry) : Type 0 where
  pub there : entry.at / 1024 ≡ segment.number
  pub held : may_hold segment.filter.words (bits_of entry.key) ≡ true

-- the segments cover the entries, both the newest first: so many of the newest entries are the newest segment's, and the
-- other segments cover the rest; where entries are dropped the oldest segments have fewer than they count
abbrev pub Covers : List Segment → List Entry → Type 0
Covers [] entries = entries ≡ []
Covers (segment ∷ older) entries =
    All (IsOf segment) (take segment.count entries) × Covers older (drop segment.count entries)

-- the newest segment, both lists the newest first: it has no more entries than words up to the newest place, which lies in
-- it, and its filter has 16 words. Where no entry is left there is no segment
abbrev pub IsOpen : List Segment → List Entry → Type 0
IsOpen [] entries = Unit {0}
IsOpen (segment ∷ older) [] = ⊥
IsOpen (segment ∷ older) (entry ∷ entries) =
    (segment.count ≤ entry.at % 1024 + 1) × (length segment.filter.words ≡ 16)

-- the segments and the entries of a table, both the oldest first
pub record IsFit (segments : List Segment) (entries : List Entry) : Type 0 where
  pub rising : IsRising entries
  pub covers : Covers (reverse segments) (reverse entries)
  pub newest : IsOpen (reverse segments) (reverse entries)
