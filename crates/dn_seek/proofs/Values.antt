use Rattle.std.proofs.Common.{ℕ, ◌+◌, ◌*◌, ◌≤◌, ◌≡◌, Bool, true, false, sym, List, [], ◌∷◌, length, take, Option, Some, None, nat_le, if◌then◌else◌, refl, ◌∙◌, ap, arith}
use Rattle.std.proofs.lemmas.Bool.{false≢true}
use Rattle.std.proofs.lemmas.Bool.Decides.{nat_tests}
use Rattle.dn_word.specs.Bytes.{bytes_of}
use Rattle.dn_record.specs.Values.{words_for, value_words}
use Rattle.dn_record.specs.Head.{head_word}
use Rattle.dn_record.specs.Grammar.{IsRecord, IsValue}
use Rattle.dn_record.specs.Reading.{head_in}
use Rattle.dn_record.specs.Record.{head_of, value_of}
use Rattle.dn_record.specs.declared.heads.Head.{Head}
use Rattle.dn_record.specs.declared.records.Record.{Record}
use Rattle.dn_record.specs.declared.records.Record.TheVariants.{Put, Delete, Share, Unshare, Loose, LooseDelete, Pad}
use Rattle.dn_record.proofs.HeadLemmas.{head_spelled}
use Rattle.dn_record.proofs.SpelledLemmas.{is_head}
use Rattle.dn_record.proofs.ValueLemmas.{length_words_from, value_again}
use Rattle.dn_model.specs.OneLog.{is_plain}
use Rattle.dn_locate.specs.Fetch.{Fetching}
use Rattle.dn_locate.specs.declared.fetches.Wish.TheVariants.{Value}
use Rattle.dn_plan.specs.declared.phases.Way.{Way}
use Rattle.dn_beside.specs.Pool.{Pool, IsWhole}
use Rattle.dn_seek.specs.Values.{bytes_behind, ReadsValues, told_by}
use Rattle.dn_seek.specs.Wanted.{valued}
use Rattle.dn_seek.specs.Fetching.{Brings}
use Rattle.dn_seek.specs.Located.{IsLocatedAs}
use Rattle.dn_seek.proofs.Spelled.{IsSpelled, spelled}

-- What the words say that a fetch has brought.

-- ---- the head is read from the first word
pub head_read : (r : Record) → IsRecord r → head_in (head_word (head_of r)) ≡ Some (head_of r)
head_read r h = head_spelled (head_word (head_of r)) (head_of r) (record { is_head = is_head r h; is_word = refl })

-- ---- the value from those behind the key
long : (bytes words : ℕ) → bytes ≤ 8 * words → nat_le (bytes + 8) (8 * (1 + words)) ≡ true
long bytes words more = grind (arith, nat_tests)

pub bytes_read : (key : ℕ) (value : List ℕ) → IsValue value → bytes_behind (length value) (key ∷ value_words value) ≡ Some value
bytes_read key value v =
    let n : length (key ∷ value_words value) ≡ 1 + words_for (length value) = (let m = length_words_from (words_for (length value)) value in omega (arith, m)) in
    ap (λ k. if nat_le (length value + 8) (8 * k) then Some (take (length value) (bytes_of (value_words value))) else None) n
    ∙ ap (λ b. if b then Some (take (length value) (bytes_of (value_words value))) else None) (long (length value) (words_for (length value)) (omega arith))
    ∙ ap Some (value_again (words_for (length value)) value v.are_bytes (omega arith))

-- ---- so a reader gives the record's value
valued_read : (value_in : List ℕ → Option (List ℕ)) (value_behind : Option Head → List ℕ → Option (List ℕ)) (r : Record) → ReadsValues value_in value_behind → IsRecord r → is_plain r ≡ true
    → value_in (valued r) ≡ value_of r
valued_read value_in value_behind (Put key value) reads h plain =
    reads.by_head (head_word (head_of (Put key value))) (key ∷ value_words value)
    ∙ ap (λ o. value_behind o (key ∷ value_words value)) (head_read (Put key value) h)
    ∙ reads.of_put (length value) (key ∷ value_words value)
    ∙ bytes_read key value h.value_fits
valued_read value_in value_behind (Delete key) reads h plain =
    reads.by_head (head_word (head_of (Delete key))) [] ∙ ap (λ o. value_behind o []) (head_read (Delete key) h) ∙ reads.of_delete []
valued_read value_in value_behind (Pad n) reads h plain =
    reads.by_head (head_word (head_of (Pad n))) [] ∙ ap (λ o. value_behind o []) (head_read (Pad n) h) ∙ reads.of_pad n []
valued_read value_in value_behind (Share key cell opening) reads h plain = absurd (false≢true plain)
valued_read value_in value_behind (Unshare key at) reads h plain = absurd (false≢true plain)
valued_read value_in value_behind (Loose key value) reads h plain = absurd (false≢true plain)
valued_read value_in value_behind (LooseDelete key) reads h plain = absurd (false≢true plain)

pub brings_value : (value_in : List ℕ → Option (List ℕ)) (value_behind : Option Head → List ℕ → Option (List ℕ)) (p : Pool) (key : ℕ) (r : Record) (f : Fetching) → ReadsValues value_in value_behind
    → IsWhole p → Brings p key Value r f → value_in f.words ≡ value_of r
brings_value value_in value_behind p key r f reads h b =
    let s : IsSpelled p r f.at = spelled p r f.at h b.sealed.there in
    ap value_in b.words_are ∙ valued_read value_in value_behind r reads s.spells.is_record b.sealed.plain

pub located_value : (value_in : List ℕ → Option (List ℕ)) (value_behind : Option Head → List ℕ → Option (List ℕ)) (p : Pool) (key : ℕ) (f : Fetching) (way : Way) (fetched : Bool) → ReadsValues value_in value_behind
    → IsWhole p → (a : IsLocatedAs p key Value f way fetched) → told_by value_in f.words fetched ≡ value_of a.of
located_value value_in value_behind p key f way true reads h a = brings_value value_in value_behind p key a.of f reads h (a.brings refl)
located_value value_in value_behind p key f way false reads h a = sym (ap value_of (a.without refl).0)
