use Rattle.std.specs.Prelude.{ℕ, List, [], ◌∷◌, Option, Some, None, length}
use Rattle.dn_word.specs.Ref.{ref_part}
use Rattle.dn_record.specs.Values.{value_words}
use Rattle.dn_record.specs.Head.{head_word, head_words}
use Rattle.dn_record.specs.declared.heads.Head.{Head}
use Rattle.dn_record.specs.declared.heads.Head.TheVariants.{Put as PutHead, Delete as DeleteHead, Share as ShareHead, Unshare as UnshareHead, Loose as LooseHead, LooseDelete as LooseDeleteHead, Pad as PadHead}
use Rattle.dn_record.specs.declared.records.Record.{Record}
use Rattle.dn_record.specs.declared.records.Record.TheVariants.{Put, Delete, Share, Unshare, Loose, LooseDelete, Pad}
use Rattle.dn_record.specs.declared.records.Seen.{Seen}
use Rattle.dn_record.specs.declared.records.Seen.TheVariants.{Put as PutSeen, Delete as DeleteSeen, Share as ShareSeen, Unshare as UnshareSeen, Loose as LooseSeen, LooseDelete as LooseDeleteSeen, Pad as PadSeen}

-- what a record's header says
abbrev pub head_of : Record → Head
head_of (Put key value) = PutHead (length value)
head_of (Delete key) = DeleteHead
head_of (Share key cell opening) = ShareHead cell
head_of (Unshare key at) = UnshareHead
head_of (Loose key value) = LooseHead (length value)
head_of (LooseDelete key) = LooseDeleteHead
head_of (Pad words) = PadHead words

-- the words behind the header; what a pad skips isn't part of its spelling
abbrev pub content : Record → List ℕ
content (Put key value) = key ∷ value_words value
content (Delete key) = key ∷ []
content (Share key cell opening) = key ∷ opening ∷ []
content (Unshare key at) = key ∷ ref_part at ∷ []
content (Loose key value) = key ∷ value_words value
content (LooseDelete key) = key ∷ []
content (Pad words) = []

-- the words that spell a record
abbrev pub spelling : Record → List ℕ
spelling r = head_word (head_of r) ∷ content r

-- a record's length in words: that which its header says
abbrev pub length_in_words : Record → ℕ
length_in_words r = head_words (head_of r)

-- the length of a record's spelling: of a pad the header alone
abbrev pub spelled_words : Record → ℕ
spelled_words (Put key value) = length_in_words (Put key value)
spelled_words (Delete key) = length_in_words (Delete key)
spelled_words (Share key cell opening) = length_in_words (Share key cell opening)
spelled_words (Unshare key at) = length_in_words (Unshare key at)
spelled_words (Loose key value) = length_in_words (Loose key value)
spelled_words (LooseDelete key) = length_in_words (LooseDelete key)
spelled_words (Pad words) = 1

-- the key that a record speaks of
abbrev pub key_of : Record → Option ℕ
key_of (Put key value) = Some key
key_of (Delete key) = Some key
key_of (Share key cell opening) = Some key
key_of (Unshare key at) = Some key
key_of (Loose key value) = Some key
key_of (LooseDelete key) = Some key
key_of (Pad words) = None

-- the value that a record has
abbrev pub value_of : Record → Option (List ℕ)
value_of (Put key value) = Some value
value_of (Loose key value) = Some value
value_of (Delete key) = None
value_of (Share key cell opening) = None
value_of (Unshare key at) = None
value_of (LooseDelete key) = None
value_of (Pad words) = None

-- a record without its value
abbrev pub seen_of : Record → Seen
seen_of (Put key value) = PutSeen key
seen_of (Delete key) = DeleteSeen key
seen_of (Share key cell opening) = ShareSeen key cell opening
seen_of (Unshare key at) = UnshareSeen key at
seen_of (Loose key value) = LooseSeen key
seen_of (LooseDelete key) = LooseDeleteSeen key
seen_of (Pad words) = PadSeen words

-- what a room holds after a look at a record: its value, or else what it held
abbrev pub held_after : Record → List ℕ → List ℕ
held_after (Put key value) old = value
held_after (Loose key value) old = value
held_after (Delete key) old = old
held_after (Share key cell opening) old = old
held_after (Unshare key at) old = old
held_after (LooseDelete key) old = old
held_after (Pad words) old = old

-- the record that was seen, with this value where its kind has one
abbrev pub with_value : Seen → List ℕ → Record
with_value (PutSeen key) value = Put key value
with_value (DeleteSeen key) value = Delete key
with_value (ShareSeen key cell opening) value = Share key cell opening
with_value (UnshareSeen key at) value = Unshare key at
with_value (LooseSeen key) value = Loose key value
with_value (LooseDeleteSeen key) value = LooseDelete key
with_value (PadSeen words) value = Pad words
