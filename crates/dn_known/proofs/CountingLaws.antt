use Rattle.std.proofs.Common.{ℕ, ◌≡◌, ◌<◌, ◌∷◌, [], List, Option, Some, None, All, Contains, min, nat_le, refl, ap, ◌∙◌, subst, arith, if◌then◌else◌}
use Rattle.std.specs.Option.{option_map}
use Rattle.std.proofs.lemmas.Bool.{lt-leb}
use Rattle.std.proofs.lemmas.List.Elements.{All-head, All-tail, All-filter}
use Rattle.dn_pending.specs.declared.entries.Entry.{Entry}
use Rattle.dn_pending.specs.Entries.{last_of, kept_from}
use Rattle.dn_pending.proofs.EntryLaws.{last_of-held}
use Rattle.dn_known.specs.State.{KnownState}
use Rattle.dn_known.specs.Counting.{count_of, at_least, place_of, pending_of}

-- an entry lies where all do
held_below : (entries : List Entry) (key at len : ℕ) → All (λ (e : Entry). e.at < len) entries → Contains entries (record { key = key; at = at }) → at < len
held_below entries key at len below held = subst (λ (e : Entry). e.at < len) held.2 (below held.0 (record { key = key; at = at }) held.1)

-- where a key counts from the log's end on no record of it does
pub none_counts : (k : KnownState) (key : ℕ) → All (λ (e : Entry). e.at < k.log.len) k.pending.entries → count_of k key ≡ k.log.len → pending_of k key ≡ None
none_counts k key below count = by_last (last_of key k.pending.entries) refl
  where
    past : (a b len : ℕ) → a < len → b ≡ len → a < b
    past a b len h e = omega arith

    by_last : (last : Option ℕ) → last_of key k.pending.entries ≡ last → option_map (place_of k) (at_least (count_of k key) last) ≡ None
    by_last None e = refl
    by_last (Some at) e =
        ap (λ b. option_map (place_of k) (if b then Some at else None))
        (lt-leb (count_of k key) at (past at (count_of k key) k.log.len (held_below k.pending.entries key at k.log.len below (last_of-held key k.pending.entries at e)) count))

-- a mark past the log drops as much as one at its end
pub kept_from-end : (mark len : ℕ) (entries : List Entry) → All (λ (e : Entry). e.at < len) entries → kept_from (min mark len) entries ≡ kept_from mark entries
kept_from-end mark len [] below = refl
kept_from-end mark len (entry ∷ entries) below =
    ap (λ b. if b then entry ∷ kept_from (min mark len) entries else kept_from (min mark len) entries)
    (same_test mark len entry.at (All-head (λ (e : Entry). e.at < len) entry entries below))
    ∙ ap (λ es. if nat_le mark entry.at then entry ∷ es else es) (kept_from-end mark len entries (All-tail (λ (e : Entry). e.at < len) entry entries below))
  where
    same_test : (mark len at : ℕ) → at < len → nat_le (min mark len) at ≡ nat_le mark at
    same_test mark len at h = grind (arith, h)

-- what is kept lies where all did
pub kept_within : (mark len : ℕ) (entries : List Entry) → All (λ (e : Entry). e.at < len) entries → All (λ (e : Entry). e.at < len) (kept_from mark entries)
kept_within mark len entries below = All-filter (λ (e : Entry). nat_le mark e.at) (λ (e : Entry). e.at < len) entries below
