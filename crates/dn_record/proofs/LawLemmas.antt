use Rattle.std.proofs.Common.{◌≡◌, ◌++◌, List, [], ℕ, slice_index, Some, refl, sym, ◌∙◌, ap}
use Rattle.std.proofs.lemmas.List.{append-nil}
use Rattle.dn_record.specs.Record.{head_of, spelling, seen_of, held_after, with_value}
use Rattle.dn_record.specs.Grammar.{IsRecord, FrontSpells}
use Rattle.dn_record.specs.Reading.{seen_in, held_in}
use Rattle.dn_record.specs.declared.records.Record.{Record}
use Rattle.dn_record.proofs.HeadLemmas.{head_spelled}
use Rattle.dn_record.proofs.SpelledLemmas.{spelled_head, spelled_seen, spelled_held}
use Rattle.dn_record.proofs.LookLemmas.{with_again}

-- a front spells at most one record
pub one_front : (words : List ℕ) (a b : Record) → FrontSpells words a → FrontSpells words b → a ≡ b
one_front words a b f g =
    let h : Some (head_of a) ≡ Some (head_of b) = sym (head_spelled (slice_index words 0) (head_of a) (spelled_head words a f)) ∙ head_spelled (slice_index words 0) (head_of b) (spelled_head words b g) in
    let same : head_of a ≡ head_of b = cc in
    let s : Some (seen_of a) ≡ Some (seen_of b) = sym (spelled_seen words a f) ∙ ap (λ h. seen_in h words) same ∙ spelled_seen words b g in
    let seen : seen_of a ≡ seen_of b = cc in
    let held : held_after a [] ≡ held_after b [] = sym (spelled_held words a [] f) ∙ ap (λ h. held_in h words []) same ∙ spelled_held words b [] g in
    sym (with_again a []) ∙ ap (λ s. with_value s (held_after a [])) seen ∙ ap (λ v. with_value (seen_of b) v) held ∙ with_again b []

-- no spelling begins another record's
pub no_prefix : (a b : Record) (rest : List ℕ) → IsRecord a → IsRecord b → spelling a ++ rest ≡ spelling b → a ≡ b
no_prefix a b rest h k e = one_front (spelling a ++ rest) a b (record { is_record = h; rest = rest; is_front = refl }) (record { is_record = k; rest = []; is_front = e ∙ sym (append-nil (spelling b)) })
