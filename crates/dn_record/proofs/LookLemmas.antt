use Rattle.std.proofs.Common.{ℕ, ◌<◌, ◌≤◌, ◌^◌, ◌≡◌, List, length, slice_index, get_or, Option, Some, None, OnSome, is_some, if◌then◌else◌, refl, sym, ◌∙◌, ap, subst, rules}
use Rattle.std.proofs.lemmas.List.Elements.{All-from_get_or}
use Rattle.dn_record.specs.Head.{HeadIs}
use Rattle.dn_record.specs.Record.{head_of, seen_of, held_after, with_value}
use Rattle.dn_record.specs.Grammar.{FrontSpells, BeginsWithRecord}
use Rattle.dn_record.specs.Reading.{seen_in, held_in}
use Rattle.dn_record.specs.declared.heads.Head.{Head}
use Rattle.dn_record.specs.declared.records.Record.{Record}
use Rattle.dn_record.specs.declared.records.Record.TheVariants.{Put, Delete, Share, Unshare, Loose, LooseDelete, Pad}
use Rattle.dn_record.specs.declared.records.Seen.{Seen}
use Rattle.dn_record.proofs.SpelledLemmas.{spelled_head, spelled_seen, spelled_held}
use Rattle.dn_record.proofs.SeenLemmas.{seen_begins}

same_head : (words : List ℕ) (first : ℕ) (head : Head) (r : Record) → first ≡ slice_index words 0 → (HeadIs first (head_of r) → Some head ≡ Some (head_of r)) → FrontSpells words r → head ≡ head_of r
same_head words first head r w h f =
    let k : HeadIs first (head_of r) = subst (λ w. HeadIs w (head_of r)) (sym w) (spelled_head words r f) in
    let e : Some head ≡ Some (head_of r) = h k in
    cc

-- a look at a front that spells a record sees it
pub look_record : (words : List ℕ) (first : ℕ) (head : Head) (result : Option Seen) (r : Record) → first ≡ slice_index words 0 → (HeadIs first (head_of r) → Some head ≡ Some (head_of r)) → result ≡ seen_in head words → FrontSpells words r → result ≡ Some (seen_of r)
look_record words first head result r w h s f = s ∙ ap (λ h. seen_in h words) (same_head words first head r w h f) ∙ spelled_seen words r f

-- and has its value in the room
pub look_value : (words : List ℕ) (first : ℕ) (head : Head) (result : Option Seen) (room old : List ℕ) (r : Record) → first ≡ slice_index words 0 → (HeadIs first (head_of r) → Some head ≡ Some (head_of r)) → result ≡ seen_in head words → room ≡ (if is_some result then held_in head words old else old) → FrontSpells words r → room ≡ held_after r old
look_value words first head result room old r w h s v f =
    v ∙ ap (λ o. if is_some o then held_in head words old else old) (look_record words first head result r w h s f)
    ∙ ap (λ h. held_in h words old) (same_head words first head r w h f) ∙ spelled_held words r old f

-- and where it sees one a front spells one
pub look_only : (words : List ℕ) (first : ℕ) (head : Head) (result : Option Seen) → first ≡ slice_index words 0 → HeadIs first head → 1 ≤ length words → ((i : ℕ) → get_or words i 0 < 2 ^ 64) → result ≡ seen_in head words → OnSome result (BeginsWithRecord words)
look_only words first head None w k l b s = search rules
look_only words first head (Some seen) w k l b s =
    seen_begins words head seen (subst (λ w. HeadIs w head) w k) l (All-from_get_or (λ w. w < 2 ^ 64) words 0 (λ i _. b i)) (sym s)

-- a record is what was seen of it with its value
pub with_again : (r : Record) (old : List ℕ) → with_value (seen_of r) (held_after r old) ≡ r
with_again (Put key value) old = refl
with_again (Delete key) old = refl
with_again (Share key cell opening) old = refl
with_again (Unshare key at) old = refl
with_again (Loose key value) old = refl
with_again (LooseDelete key) old = refl
with_again (Pad words) old = refl

-- what a read makes of a look
pub no_record : (r : Record) → ◌≡◌ {A = Option Seen} None (Some (seen_of r)) → ◌≡◌ {A = Option Record} None (Some r)
no_record r e = cc

pub some_record : (r found : Record) (seen : Seen) (room old : List ℕ) → ◌≡◌ {A = Option Seen} (Some seen) (Some (seen_of r)) → room ≡ held_after r old → found ≡ with_value seen room → ◌≡◌ {A = Option Record} (Some found) (Some r)
some_record r found seen room old e v w =
    let same : seen ≡ seen_of r = cc in
    ap (λ (x : Record). Some x) (w ∙ ap (λ s. with_value s room) same ∙ ap (λ v. with_value (seen_of r) v) v ∙ with_again r old)
