use Rattle.std.specs.Prelude.{ℕ, List, [], ◌∷◌}
use Rattle.dn_record.specs.Head.{head_word}
use Rattle.dn_record.specs.Record.{head_of, spelling}
use Rattle.dn_record.specs.declared.records.Record.{Record}
use Rattle.dn_record.specs.declared.records.Record.TheVariants as entry
use Rattle.dn_locate.specs.declared.fetches.Wish.{Wish}
use Rattle.dn_locate.specs.declared.fetches.Wish.TheVariants.{Value, Kind, Place}

-- What a wish asks for of a record that is a Put or a Delete: for a value all words of a Put, and else the header.

abbrev pub header_of : Record → List ℕ
header_of r = head_word (head_of r) ∷ []

abbrev pub valued : Record → List ℕ
valued (entry.Put key value) = spelling (entry.Put key value)
valued (entry.Delete key) = header_of (entry.Delete key)
valued (entry.Share key cell opening) = header_of (entry.Share key cell opening)
valued (entry.Unshare key at) = header_of (entry.Unshare key at)
valued (entry.Loose key value) = header_of (entry.Loose key value)
valued (entry.LooseDelete key) = header_of (entry.LooseDelete key)
valued (entry.Pad words) = header_of (entry.Pad words)

abbrev pub wanted : Wish → Record → List ℕ
wanted Value r = valued r
wanted Kind r = header_of r
wanted Place r = header_of r
