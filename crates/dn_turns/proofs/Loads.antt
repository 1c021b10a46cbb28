use Rattle.std.proofs.Common.{ℕ, ◌+◌, ◌*◌, ◌/◌, ◌%◌, ◌==◌, ◌<◌, ◌≤◌, ◌≡◌, ◌≢◌, Bool, true, false, nat_eq, if◌then◌else◌, List, Option, Some, None, refl, sym, ◌∙◌, ap, subst, arith}
use Rattle.std.proofs.lemmas.Bool.{false≢true}
use Rattle.std.proofs.lemmas.Bool.Decides.{nat_tests}
use Rattle.std.proofs.lemmas.List.{set-get_or}
use Rattle.dn_word.specs.Gate.{gate_of}
use Rattle.dn_word.specs.declared.packed.gate.Gate.{Gate}
use Rattle.dn_word.specs.declared.packed.place.Ref.{Ref}
use Rattle.dn_act.specs.Action.{at_of, words_after}
use Rattle.dn_act.specs.Words.{word_at}
use Rattle.dn_record.specs.Reading.{head_in}
use Rattle.dn_record.specs.declared.heads.Head.{Head}
use Rattle.dn_record.specs.Record.{length_in_words, head_of}
use Rattle.dn_record.specs.declared.records.Record.{Record}
use Rattle.dn_record.specs.declared.records.Record.TheVariants.{Put, Delete, Share, Unshare, Loose, LooseDelete, Pad}
use Rattle.dn_record.proofs.HeadLemmas.{head_spelled}
use Rattle.dn_record.proofs.SpelledLemmas.{is_head}
use Rattle.dn_model.specs.Regions.{gate_at, mark_at, directory, directory_at, place, offsets, home_of, IsLane}
use Rattle.dn_model.specs.Log.{SpellsAt}
use Rattle.dn_model.specs.Held.{is_authority}
use Rattle.dn_index.specs.Walk.{begun}
use Rattle.dn_store.proofs.Same.{merged_within}
use Rattle.dn_beside.specs.Pool.{Pool, store_in, IsWhole}
use Rattle.dn_walks.specs.Changing.{Wants}
use Rattle.dn_walks.proofs.Trails.{tracks_begun}
use Rattle.dn_merge.specs.Merge.{change_of, ended, on, marked, headed, errand_of, next_in, step_in}
use Rattle.dn_merge.specs.declared.places.Change.{Change}
use Rattle.dn_merge.specs.declared.places.Change.TheVariants.{Set, Remove}
use Rattle.dn_merge.specs.declared.places.MergePlace.{MergePlace}
use Rattle.dn_merge.specs.declared.places.MergePlace.TheVariants as at
use Rattle.dn_merge.specs.declared.mergers.MergeTurn.TheVariants.{Idle}
use Rattle.dn_turns.specs.Knows.{want_of, IsNoDelete, Suits, AtHeader, AtKey, AtWalk, AtPass, KnowsMerge}
use Rattle.dn_turns.proofs.Logs.{record_here, spelled}

-- The loads of a turn before its walk.

-- ---- gate and mark
gate_read : (n : ℕ) (p : Pool) (word : ℕ) → IsWhole p → IsLane n → word ≡ word_at p.words (gate_at n) → KnowsMerge n p (at.Mark word)
gate_read n p word h l w =
    let e : (gate_of word).len ≡ ((store_in p).gates n).len = ap (λ x. (gate_of x).len) w ∙ ap (λ (g : Gate). g.len) (h.represents.table.gates n l.below) in
    (omega (arith, merged_within p.words p.chains (store_in p) n h.represents l, e), omega (arith, e))

unequal : (a b : ℕ) → (a == b) ≡ false → a ≢ b
unequal a b e = grind (arith, nat_tests)

mark_read : (n : ℕ) (p : Pool) (gate word : ℕ) → IsWhole p → IsLane n → KnowsMerge n p (at.Mark gate) → word ≡ word_at p.words (mark_at n) → KnowsMerge n p (marked gate word).place
mark_read n p gate word h l k w = by_len ((gate_of gate).len == word) refl where
  is : (store_in p).marks n ≡ word
  is = sym (w ∙ h.represents.table.marks n l.below)

  P : Bool → Type 0
  P b = KnowsMerge n p (if b then ended (Idle gate word) else on (at.Directory word)).place

  by_len : (b : Bool) → ((gate_of gate).len == word) ≡ b → P ((gate_of gate).len == word)
  by_len true e = subst P (sym e) (record {})
  by_len false e =
      let d : (gate_of gate).len ≢ word = unequal (gate_of gate).len word e in
      subst P (sym e) (record_here n p word h l is (λ f. d (omega (arith, k.0, k.1, f, is))))

-- ---- the header says what the record is
head_here : (w : ℕ → ℕ) (o : ℕ) (r : Record) → SpellsAt w o r → head_in (w o) ≡ Some (head_of r)
head_here w o r h = head_spelled (w o) (head_of r) (record { is_head = is_head r h.is_record; is_word = sym h.stands.0 })

header_read : (n : ℕ) (p : Pool) (mark from word : ℕ) → IsWhole p → IsLane n → AtHeader n p mark from → word ≡ word_at p.words from → KnowsMerge n p (headed mark from (head_in word)).place
header_read n p mark from word h l a w = subst P (sym read) (by_record a.works.of.entry refl) where
  P : Option Head → Type 0
  P x = KnowsMerge n p (headed mark from x).place

  read : head_in word ≡ Some (head_of a.works.of.entry)
  read = ap head_in (w ∙ ap (λ x. word_at p.words x) a.from_is) ∙ head_here (offsets p.words n) mark a.works.of.entry (spelled n p mark h l a.works).spelled

  key : (r : Record) (c : Change) → a.works.of.entry ≡ r → change_of (head_of r) ≡ Some c → AtKey n p mark from (mark + length_in_words r) c
  key r c e g = record { works = a.works; from_is = a.from_is; to_is = ap (λ x. mark + length_in_words x) (sym e); change_is = ap (λ x. change_of (head_of x)) e ∙ g }

  passes : (r : Record) → a.works.of.entry ≡ r → ((k : ℕ) → is_authority k r ≡ false) → AtPass n p (mark + length_in_words r)
  passes r e g = record {
    mark = mark;
    works = a.works;
    to_is = ap (λ x. mark + length_in_words x) (sym e);
    follows = λ k t. absurd (false≢true (sym (g k) ∙ ap (λ x. is_authority k x) (sym e) ∙ t));
  }

  by_record : (r : Record) → a.works.of.entry ≡ r → P (Some (head_of r))
  by_record (Put k value) e = key (Put k value) Set e refl
  by_record (Delete k) e = key (Delete k) Remove e refl
  by_record (Share k cell opening) e = key (Share k cell opening) Set e refl
  by_record (Unshare k x) e = key (Unshare k x) Set e refl
  by_record (Loose k value) e = passes (Loose k value) e (λ q. refl)
  by_record (LooseDelete k) e = passes (LooseDelete k) e (λ q. refl)
  by_record (Pad count) e = passes (Pad count) e (λ q. refl)

-- ---- the key word is the record's key
pub record IsKey (change : Change) (r : Record) (k : ℕ) : Type 0 where
  pub authority : is_authority k r ≡ true
  pub positive : 0 < k
  pub suits : Suits change r k

same_key : (k q : ℕ) → q ≡ k → nat_eq k q ≡ true
same_key k q e = grind (arith, nat_tests)

one_behind : (words : List ℕ) (n mark len : ℕ) → mark % 1024 + len ≤ 1024 → 2 ≤ len → place words n (mark + 1) ≡ place words n mark + 1
one_behind words n mark len fits two =
    let d : directory words n ((mark + 1) / 1024) ≡ directory words n (mark / 1024) = ap (λ x. directory words n x) (let q : (mark + 1) / 1024 ≡ mark / 1024 = omega (arith, fits, two) in q) in
    omega (arith, d, fits, two)

some_same : (a b : Change) → Some a ≡ Some b → a ≡ b
some_same a b e = cc

not_some : (a : Change) → (let x : Option Change = None in x) ≡ Some a → ⊥
not_some a e = absurd (cc e)

pub key_in : (words : List ℕ) (n mark : ℕ) (change : Change) (r : Record) (word : ℕ) → SpellsAt (offsets words n) mark r → change_of (head_of r) ≡ Some change → word ≡ word_at words (place words n mark + 1) → IsKey change r word
key_in words n mark change r word sp c w = by_record r sp c where
  second : (k len : ℕ) → mark % 1024 + len ≤ 1024 → 2 ≤ len → offsets words n (mark + 1) ≡ k → word ≡ k
  second k len fits two e = w ∙ sym (ap (λ x. word_at words x) (one_behind words n mark len fits two)) ∙ e

  set : (r : Record) → IsNoDelete r → Some Set ≡ Some change → Suits change r word
  set r no_delete e = let P : Change → Type 0 = λ x. Suits x r word in subst P (some_same Set change e) no_delete

  by_record : (r : Record) → SpellsAt (offsets words n) mark r → change_of (head_of r) ≡ Some change → IsKey change r word
  by_record (Put k value) h c = let e = second k (length_in_words (Put k value)) h.fits (omega arith) h.stands.1.0 in let f = h.is_record.fields_fit in
      record { authority = same_key k word e; positive = omega (arith, e, f); suits = set (Put k value) (λ q x. absurd (cc x)) c }
  by_record (Delete k) h c = let e = second k 2 h.fits (omega arith) h.stands.1.0 in let f = h.is_record.fields_fit in
      record { authority = same_key k word e; positive = omega (arith, e, f); suits = (let P : Change → Type 0 = λ x. Suits x (Delete k) word in subst P (some_same Remove change c) (ap (λ x. Delete x) (sym e))) }
  by_record (Share k cell opening) h c = let e = second k 3 h.fits (omega arith) h.stands.1.0 in let f = h.is_record.fields_fit.0 in
      record { authority = same_key k word e; positive = omega (arith, e, f); suits = set (Share k cell opening) (λ q x. absurd (cc x)) c }
  by_record (Unshare k x) h c = let e = second k 3 h.fits (omega arith) h.stands.1.0 in let f = h.is_record.fields_fit.0 in
      record { authority = same_key k word e; positive = omega (arith, e, f); suits = set (Unshare k x) (λ q y. absurd (cc y)) c }
  by_record (Loose k value) h c = absurd (not_some change c)
  by_record (LooseDelete k) h c = absurd (not_some change c)
  by_record (Pad count) h c = absurd (not_some change c)

-- the key of an authority record isn't 0
key_is : (k q : ℕ) → nat_eq q k ≡ true → 0 < q → 0 < k
key_is k q e pos = let z : q ≡ k = grind (arith, nat_tests) in omega (arith, z, pos)

pub key_positive : (w : ℕ → ℕ) (o k : ℕ) (r : Record) → SpellsAt w o r → is_authority k r ≡ true → 0 < k
key_positive w o k (Put q value) h e = key_is k q e (let f = h.is_record.fields_fit in omega (arith, f))
key_positive w o k (Delete q) h e = key_is k q e (let f = h.is_record.fields_fit in omega (arith, f))
key_positive w o k (Share q cell opening) h e = key_is k q e (let f = h.is_record.fields_fit.0 in omega (arith, f))
key_positive w o k (Unshare q x) h e = key_is k q e (let f = h.is_record.fields_fit.0 in omega (arith, f))
key_positive w o k (Loose q value) h e = absurd (false≢true e)
key_positive w o k (LooseDelete q) h e = absurd (false≢true e)
key_positive w o k (Pad count) h e = absurd (false≢true e)

key_read : (n : ℕ) (p : Pool) (mark from to : ℕ) (change : Change) (word : ℕ) → IsWhole p → IsLane n → AtKey n p mark from to change → word ≡ word_at p.words (from + 1)
    → AtWalk n p to (begun word (home_of word) (errand_of change (record { lane = n; offset = mark })))
key_read n p mark from to change word h l a w =
    let k = key_in p.words n mark change a.works.of.entry word (spelled n p mark h l a.works).spelled a.change_is (w ∙ ap (λ x. word_at p.words (x + 1)) a.from_is) in
    record {
      mark = mark;
      works = a.works;
      to_is = a.to_is;
      positive = k.positive;
      authority = k.authority;
      change = change;
      suits = k.suits;
      walk = (wants change (record { lane = n; offset = mark }), omega arith, tracks_begun p.words p.chains word, record {});
    }
  where
    wants : (c : Change) (x : Ref) → Wants (want_of c x) (errand_of c x)
    wants Set x = refl
    wants Remove x = refl

-- ---- by the place
abbrev pub Loads : MergePlace → Type 0
Loads at.Gate = Unit {0}
Loads (at.Mark gate) = Unit {0}
Loads (at.Directory mark) = Unit {0}
Loads (at.Header mark from) = Unit {0}
Loads (at.Key mark from to change) = Unit {0}
Loads (at.Walk to w) = ⊥
Loads (at.Pass to) = ⊥

pub load_knows : (n : ℕ) (p : Pool) (place : MergePlace) (word : ℕ) → IsWhole p → IsLane n → Loads place → KnowsMerge n p place → word ≡ word_at p.words (at_of (next_in n place)) → KnowsMerge n p (step_in n word place).place
load_knows n p at.Gate word h l o k w = gate_read n p word h l w
load_knows n p (at.Mark gate) word h l o k w = mark_read n p gate word h l k w
load_knows n p (at.Directory mark) word h l o k w = record { works = k; from_is = ap (λ x. 97280 + (x * 1024 + mark % 1024)) w }
load_knows n p (at.Header mark from) word h l o k w = header_read n p mark from word h l k w
load_knows n p (at.Key mark from to change) word h l o k w = key_read n p mark from to change word h l k w
load_knows n p (at.Walk to w) word h l o k v = absurd o
load_knows n p (at.Pass to) word h l o k w = absurd o

pub load_leaves : (words now : List ℕ) (n : ℕ) (place : MergePlace) → Loads place → now ≡ words_after (next_in n place) words → now ≡ words
load_leaves words now n at.Gate o e = e ∙ set-get_or words (gate_at n) 0
load_leaves words now n (at.Mark gate) o e = e ∙ set-get_or words (mark_at n) 0
load_leaves words now n (at.Directory mark) o e = e ∙ set-get_or words (directory_at n (mark / 1024)) 0
load_leaves words now n (at.Header mark from) o e = e ∙ set-get_or words from 0
load_leaves words now n (at.Key mark from to change) o e = e ∙ set-get_or words (from + 1) 0
load_leaves words now n (at.Walk to w) o e = absurd o
load_leaves words now n (at.Pass to) o e = absurd o
