use Rattle.std.specs.Prelude.{ℕ, ◌+◌, ◌*◌, ◌/◌, ◌%◌, ◌^◌, ◌&&◌, ◌||◌, Bool, true, not, List, length, slice_index, slice_range, take, Option, Some, None, nat_eq, nat_le, nat_lt, if◌then◌else◌}
use Rattle.std.specs.Option.{option_map}
use Rattle.dn_word.specs.declared.packed.header.Header.{Header}
use Rattle.dn_word.specs.declared.packed.place.Ref.{Ref}
use Rattle.dn_word.specs.Header.{header_of}
use Rattle.dn_word.specs.Cell.{cell_of}
use Rattle.dn_word.specs.Ref.{ref_of}
use Rattle.dn_word.specs.Bytes.{bytes_of}
use Rattle.dn_record.specs.Values.{words_for}
use Rattle.dn_record.specs.Head.{head_word}
use Rattle.dn_record.specs.declared.heads.Head.{Head}
use Rattle.dn_record.specs.declared.heads.Head.TheVariants.{Put, Delete, Share, Unshare, Loose, LooseDelete, Pad}
use Rattle.dn_record.specs.declared.records.Seen.{Seen}
use Rattle.dn_record.specs.declared.records.Seen.TheVariants.{Put as PutSeen, Delete as DeleteSeen, Share as ShareSeen, Unshare as UnshareSeen, Loose as LooseSeen, LooseDelete as LooseDeleteSeen, Pad as PadSeen}

-- Reading step by step, as functions: what each private function of this crate answers. That these steps together are the
-- grammar is proved of them, and the public contracts speak of the grammar alone.

-- the head of a header's kind, with the fields that this kind uses
abbrev pub named : Header → Option Head
named h =
    if nat_eq h.kind 1 then Some (Put h.bytes)
    else (if nat_eq h.kind 2 then Some Delete
    else (if nat_eq h.kind 3 then Some (Share (h.cell % 2 ^ 8))
    else (if nat_eq h.kind 4 then Some Unshare
    else (if nat_eq h.kind 5 then Some (Loose h.bytes)
    else (if nat_eq h.kind 6 then Some LooseDelete
    else (if nat_eq h.kind 7 then Some (Pad h.words)
    else None))))))

-- whether a head's field is in its range
abbrev pub fits : Head → Bool
fits (Put bytes) = nat_le bytes 1024
fits Delete = true
fits (Share cell) = nat_lt cell (2 ^ 8)
fits Unshare = true
fits (Loose bytes) = nat_le bytes 1024
fits LooseDelete = true
fits (Pad words) = nat_le 1 words && nat_le words 1023

-- a head is kept where its header is the whole word
abbrev pub kept : ℕ → Option Head → Option Head
kept word None = None
kept word (Some head) = if fits head && nat_eq (head_word head) word then Some head else None

-- the head that a word is the header of
abbrev pub head_in : ℕ → Option Head
head_in word = kept word (named (header_of word))

-- the key of a record of so many words
abbrev pub key_in : ℕ → List ℕ → Option ℕ
key_in n words = if nat_le n (length words) && not (nat_eq (slice_index words 1) 0) then Some (slice_index words 1) else None

-- whether the last of a value's words has nothing above the value's bytes
abbrev pub is_filled : ℕ → ℕ → Bool
is_filled bytes last = nat_eq (bytes % 8) 0 || nat_eq (last / 2 ^ (8 * (bytes % 8))) 0

-- the key of a record with so many bytes of a value
abbrev pub valued_key_in : ℕ → List ℕ → Option ℕ
valued_key_in bytes words =
    if is_filled bytes (slice_index words (1 + words_for bytes)) then key_in (2 + words_for bytes) words else None

-- no place, or one in the log of a lane
abbrev pub is_place : Option Ref → Bool
is_place None = true
is_place (Some at) = nat_le 1 at.lane && nat_le at.lane 63

-- whether a cell can be opened with a word
abbrev pub is_opening : ℕ → Bool
is_opening word = not (cell_of word).closed && (nat_le 1 (cell_of word).stamp && is_place (cell_of word).at)

-- a word with nothing above a place
abbrev pub is_place_word : ℕ → Bool
is_place_word word = nat_lt word (2 ^ 32) && is_place (ref_of word)

-- the Share of a cell, and the Unshare, that begin the words
abbrev pub share_in : ℕ → List ℕ → Option Seen
share_in cell words = if is_opening (slice_index words 2) then option_map (λ key. ShareSeen key cell (slice_index words 2)) (key_in 3 words) else None

abbrev pub unshare_in : List ℕ → Option Seen
unshare_in words = if is_place_word (slice_index words 2) then option_map (λ key. UnshareSeen key (ref_of (slice_index words 2))) (key_in 3 words) else None

-- the record of a head, whose value stays in the words
abbrev pub seen_in : Head → List ℕ → Option Seen
seen_in (Put bytes) words = option_map (λ key. PutSeen key) (valued_key_in bytes words)
seen_in Delete words = option_map (λ key. DeleteSeen key) (key_in 2 words)
seen_in (Share cell) words = share_in cell words
seen_in Unshare words = unshare_in words
seen_in (Loose bytes) words = option_map (λ key. LooseSeen key) (valued_key_in bytes words)
seen_in LooseDelete words = option_map (λ key. LooseDeleteSeen key) (key_in 2 words)
seen_in (Pad n) words = Some (PadSeen n)

-- the bytes of the value of so many bytes
abbrev pub value_in : ℕ → List ℕ → List ℕ
value_in bytes words = take bytes (bytes_of (slice_range words 2 (2 + words_for bytes)))

-- what a room holds after a look at a record of this head
abbrev pub held_in : Head → List ℕ → List ℕ → List ℕ
held_in (Put bytes) words old = value_in bytes words
held_in Delete words old = old
held_in (Share cell) words old = old
held_in Unshare words old = old
held_in (Loose bytes) words old = value_in bytes words
held_in LooseDelete words old = old
held_in (Pad n) words old = old
