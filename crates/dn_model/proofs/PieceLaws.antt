use Rattle.std.proofs.Common.{ℕ, zero, suc, inl, inr, ◌+◌, ◌-◌, ◌/◌, ◌%◌, ◌<◌, ◌≤◌, ◌≡◌, List, [], ◌∷◌, ◌++◌, length, refl, sym, ◌∙◌, ap, subst, arith}
use Rattle.std.proofs.lemmas.Grind.{common_steps}
use Rattle.std.proofs.lemmas.Bool.{cases_lt}
use Rattle.dn_record.specs.Grammar.{IsRecord, FrontSpells}
use Rattle.dn_record.specs.Record.{spelling, length_in_words}
use Rattle.dn_record.specs.declared.records.Record.{Record}
use Rattle.dn_record.specs.declared.records.Record.TheVariants.{Put, Delete, Share, Unshare, Loose, LooseDelete, Pad}
use Rattle.dn_record.proofs.SpelledLemmas.{length-spelling}
use Rattle.dn_model.specs.Regions.{directory}
use Rattle.dn_model.specs.Log.{Placed, Stand, Fits, PadFits, SpellsAt, Tiles, IsCovered}
use Rattle.dn_model.specs.Pieces.{reads}
use Rattle.dn_model.proofs.LogLaws.{tiles_le, tiles_append, tiles_one}

pub reads_more : (w : ℕ → ℕ) (o n : ℕ) → reads w o (n + 1) ≡ reads w o n ++ w (o + n) ∷ []
reads_more w o zero = ap (λ x. w x ∷ []) (omega arith)
reads_more w o (suc n) =
    let rest = reads_more w (o + 1) n in
    let e : suc n + 1 ≡ suc (suc n) = omega arith in
    let f : suc n ≡ n + 1 = omega arith in
    let g : (o + 1) + n ≡ o + suc n = omega arith in
    ap (reads w o) e ∙ ap (λ x. w o ∷ x) (ap (reads w (o + 1)) f ∙ rest ∙ ap (λ x. reads w (o + 1) n ++ w x ∷ []) g)

-- words that stand are a front of a piece that is long enough
pub stand_front : (w : ℕ → ℕ) (o n : ℕ) (xs : List ℕ) → length xs ≤ n → Stand w o xs → (rest : List ℕ) × (reads w o n ≡ xs ++ rest)
stand_front w o n [] le h = (reads w o n, refl)
stand_front w o zero (x ∷ xs) le h = absurd (omega arith)
stand_front w o (suc n) (x ∷ xs) le h =
    let more = stand_front w (o + 1) n xs (omega arith) h.1 in
    let e : w o ≡ x = h.0 in
    let f : reads w (o + 1) n ≡ xs ++ more.0 = more.1 in
    (more.0, cc)

-- and a front of a piece stands
pub front_stand : (w : ℕ → ℕ) (o n : ℕ) (xs rest : List ℕ) → reads w o n ≡ xs ++ rest → Stand w o xs
front_stand w o n [] rest e = tt
front_stand w o zero (x ∷ xs) rest e = absurd (empty_not x (xs ++ rest) e) where
  empty_not : (y : ℕ) (ys : List ℕ) → [] ≡ y ∷ ys → ⊥
  empty_not y ys f = cc
front_stand w o (suc n) (x ∷ xs) rest e =
    let head : w o ≡ x = cc in
    let tail : reads w (o + 1) n ≡ xs ++ rest = cc in
    (head, front_stand w (o + 1) n xs rest tail)

length-reads : (w : ℕ → ℕ) (o n : ℕ) → length (reads w o n) ≡ n
length-reads w o zero = refl
length-reads w o (suc n) = let rest = length-reads w (o + 1) n in omega (arith, rest)

-- a record that fits is no longer than the rest of its segment
fits_short : (o : ℕ) (r : Record) → IsRecord r → Fits o r → length (spelling r) ≤ 1024 - o % 1024
fits_short o (Put key value) h f = omega (arith, length-spelling (Put key value))
fits_short o (Delete key) h f = omega (arith, length-spelling (Delete key))
fits_short o (Share key cell opening) h f = omega (arith, length-spelling (Share key cell opening))
fits_short o (Unshare key at) h f = omega (arith, length-spelling (Unshare key at))
fits_short o (Loose key value) h f = omega (arith, length-spelling (Loose key value))
fits_short o (LooseDelete key) h f = omega (arith, length-spelling (LooseDelete key))
fits_short o (Pad words) h f = omega (arith, length-spelling (Pad words))

-- what is spelled at an offset is spelled by the front of the segment's rest
pub spells_front : (w : ℕ → ℕ) (o : ℕ) (r : Record) → SpellsAt w o r → FrontSpells (reads w o (1024 - o % 1024)) r
spells_front w o r h =
    let front = stand_front w o (1024 - o % 1024) (spelling r) (fits_short o r h.is_record h.fits) h.stands in
    record { is_record = h.is_record; rest = front.0; is_front = front.1 }

length-front : (w : ℕ → ℕ) (o n : ℕ) (xs rest : List ℕ) → reads w o n ≡ xs ++ rest → length xs ≤ n
length-front w o n xs rest e = grind (arith, common_steps, length-reads w o n, ap length e)

front_fits : (w : ℕ → ℕ) (o : ℕ) (r : Record) → length (spelling r) ≤ 1024 - o % 1024 → PadFits o r → Fits o r
front_fits w o (Put key value) l p = omega (arith, length-spelling (Put key value))
front_fits w o (Delete key) l p = omega (arith, length-spelling (Delete key))
front_fits w o (Share key cell opening) l p = omega (arith, length-spelling (Share key cell opening))
front_fits w o (Unshare key at) l p = omega (arith, length-spelling (Unshare key at))
front_fits w o (Loose key value) l p = omega (arith, length-spelling (Loose key value))
front_fits w o (LooseDelete key) l p = omega (arith, length-spelling (LooseDelete key))
front_fits w o (Pad words) l p = p

pub front_spells : (w : ℕ → ℕ) (o : ℕ) (r : Record) → FrontSpells (reads w o (1024 - o % 1024)) r → PadFits o r → SpellsAt w o r
front_spells w o r h p = record {
  is_record = h.is_record;
  stands = front_stand w o (1024 - o % 1024) (spelling r) h.rest h.is_front;
  fits = front_fits w o r (length-front w o (1024 - o % 1024) (spelling r) h.rest h.is_front) p;
}

-- a record that fits ends in its own segment, or at its end
pub fits_within : (o : ℕ) (r : Record) → Fits o r → o % 1024 + length_in_words r ≤ 1024
fits_within o (Put key value) h = h
fits_within o (Delete key) h = h
fits_within o (Share key cell opening) h = h
fits_within o (Unshare key at) h = h
fits_within o (Loose key value) h = h
fits_within o (LooseDelete key) h = h
fits_within o (Pad words) h = omega (arith, h)

-- ---- reading a log from its front
-- where no record stands before the length, the length isn't tiled
pub no_record : (w : ℕ → ℕ) (o len : ℕ) (more : List Placed) → Tiles w o more len → o < len → ((r : Record) → SpellsAt w o r → ⊥) → ⊥
no_record w o len [] h lt none = absurd (omega (arith, h, lt))
no_record w o len (p ∷ ps) h lt none = none p.entry h.1

-- behind the record that stands the rest goes on
pub record_read : (w : ℕ → ℕ) (o next len : ℕ) (e : Record) (more : List Placed) → next ≡ o + length_in_words e → Tiles w o more len → o < len → ((r : Record) → SpellsAt w o r → e ≡ r) → (rest : List Placed) × Tiles w next rest len
record_read w o next len e [] is h lt one = absurd (omega (arith, h, lt))
record_read w o next len e (p ∷ ps) is h lt one =
    let P : ℕ → Type 0 = λ x. Tiles w x ps len in
    (ps, subst P (sym (is ∙ ap (λ r. o + length_in_words r) (one p.entry h.1))) h.2)

pub tiles_push : (w : ℕ → ℕ) (o next : ℕ) (log now : List Placed) (e : Record) → next ≡ o + length_in_words e → now ≡ log ++ record { offset = o; entry = e } ∷ [] → Tiles w 0 log o → SpellsAt w o e → Tiles w 0 now next
tiles_push w o next log now e is items h s =
    let P : ℕ → Type 0 = λ x. Tiles w 0 now x in
    let Q : List Placed → Type 0 = λ xs. Tiles w 0 xs (o + length_in_words e) in
    subst P (sym is) (subst Q (sym items) (tiles_append w 0 o (o + length_in_words e) log (record { offset = o; entry = e } ∷ []) h (tiles_one w o e s)))

pub covered_push : (words : List ℕ) (n o next : ℕ) (e : Record) → next ≡ o + length_in_words e → IsCovered words n o → Fits o e → o < 262144 → 0 < directory words n (o / 1024) → IsCovered words n next
covered_push words n o next e is h fits lt named i il = elim (cases_lt i o) [
  | inl below ↦ h i below
  | inr above ↦ (let f = fits_within o e fits in
      let same : i / 1024 ≡ o / 1024 = omega (arith, f, is, il, above) in
      (omega (arith, same, lt), omega (arith, named, ap (λ q. directory words n q) same)))
]

pub not_beyond : (w : ℕ → ℕ) (o len : ℕ) (more : List Placed) → Tiles w o more len → len < o → ⊥
not_beyond w o len more h lt = absurd (omega (arith, tiles_le w o len more h, lt))
