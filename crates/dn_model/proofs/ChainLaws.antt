use Rattle.std.proofs.Common.{ℕ, ◌+◌, ◌<◌, ◌≤◌, ◌≡◌, ◌≢◌, List, [], ◌∷◌, ◌++◌, length, get_or, drop, drop-cons, Bool, true, false, nat_eq, if◌then◌else◌, Option, Some, None, refl, sym, ◌∙◌, ap, subst, arith, append_assoc}
use Rattle.std.proofs.lemmas.Grind.{common_steps}
use Rattle.dn_model.specs.Regions.{bucket}
use Rattle.dn_model.specs.Index.{Slot, Leads, IsChain, slots_of, slots, first_place}

-- ---- following the next words
pub next_is : (words : List ℕ) (at next : ℕ) (more : List ℕ) → Leads words at more → bucket words at 7 ≡ next → next ≢ 0 → (rest : List ℕ) × (more ≡ next ∷ rest) × (4096 ≤ next) × (next < 8192) × Leads words next rest
next_is words at next [] h e z = absurd (z (sym e ∙ h))
next_is words at next (c ∷ cs) h e z =
    let s : c ≡ next = sym h.0 ∙ e in
    let P : ℕ → Type 0 = λ x. Leads words x cs in
    (cs, ap (λ x. x ∷ cs) s, omega (arith, s, h.1), omega (arith, s, h.2), subst P s h.3)

pub next_low : (words : List ℕ) (at next : ℕ) (more : List ℕ) → Leads words at more → bucket words at 7 ≡ next → next ≢ 0 → next < 4096 → ⊥
next_low words at next more h e z lt = let n = next_is words at next more h e z in absurd (omega (arith, n.2, lt))

pub next_high : (words : List ℕ) (at next : ℕ) (more : List ℕ) → Leads words at more → bucket words at 7 ≡ next → next ≢ 0 → 8192 ≤ next → ⊥
next_high words at next more h e z le = let n = next_is words at next more h e z in absurd (omega (arith, n.3, le))

pub next_many : (words : List ℕ) (home at next : ℕ) (full chain more : List ℕ) → IsChain words home full → full ≡ chain ++ more → length chain ≡ 4096 → Leads words at more → bucket words at 7 ≡ next → next ≢ 0 → ⊥
next_many words home at next full chain more h is len l e z =
    let n = next_is words at next more l e z in
    let s : length full ≡ length chain + length more = grind (arith, common_steps, ap length is) in
    let t : length more ≡ length n.0 + 1 = grind (arith, common_steps, ap length n.1) in
    absurd (omega (arith, h.few, s, t, len))

pub way_on : (words : List ℕ) (home at next : ℕ) (chain now more : List ℕ) → now ≡ chain ++ next ∷ [] → ((ds : List ℕ) → Leads words at ds → Leads words home (chain ++ ds)) → bucket words at 7 ≡ next → 4096 ≤ next → next < 8192 → Leads words next more → Leads words home (now ++ more)
way_on words home at next chain now more is way e low high l =
    let P : List ℕ → Type 0 = λ xs. Leads words home xs in
    subst P (sym (ap (λ xs. xs ++ more) is ∙ append_assoc chain (next ∷ []) more)) (way (next ∷ more) (e, low, high, l))

pub rest_on : (words : List ℕ) (at next : ℕ) (full chain now more : List ℕ) → now ≡ chain ++ next ∷ [] → full ≡ chain ++ more → Leads words at more → bucket words at 7 ≡ next → next ≢ 0 → (rest : List ℕ) × (full ≡ now ++ rest) × Leads words next rest
rest_on words at next full chain now more is same l e z =
    let n = next_is words at next more l e z in
    (n.0, same ∙ ap (λ xs. chain ++ xs) n.1 ∙ sym (append_assoc chain (next ∷ []) n.0) ∙ ap (λ xs. xs ++ n.0) (sym is), n.4)

-- ---- the first place in several buckets
abbrev pub or_else : Option ℕ → Option ℕ → Option ℕ
or_else None o = o
or_else (Some x) o = Some x

or_by : (s : Slot) (b : Bool) (o p : Option ℕ) → or_else (if b then Some s.place else o) p ≡ (if b then Some s.place else or_else o p)
or_by s true o p = refl
or_by s false o p = refl

first_append : (k : ℕ) (xs ys : List Slot) → first_place k (xs ++ ys) ≡ or_else (first_place k xs) (first_place k ys)
first_append k [] ys = refl
first_append k (x ∷ xs) ys = ap (λ o. if nat_eq x.key k then Some x.place else o) (first_append k xs ys) ∙ sym (or_by x (nat_eq x.key k) (first_place k xs) (first_place k ys))

-- a bucket with the key ends the search
pub met : (words : List ℕ) (b : ℕ) (bs : List ℕ) (k p : ℕ) → first_place k (slots_of words b) ≡ Some p → first_place k (slots words (b ∷ bs)) ≡ Some p
met words b bs k p e = first_append k (slots_of words b) (slots words bs) ∙ ap (λ o. or_else o (first_place k (slots words bs))) e

next_dropped : (bs : List ℕ) (i b : ℕ) → i < length bs → b ≡ get_or bs i b → drop i bs ≡ b ∷ drop (i + 1) bs
next_dropped bs i b lt e = grind (arith, common_steps, drop-cons)

pub met_at : (words bs : List ℕ) (i b k x : ℕ) (p : Option ℕ) → p ≡ first_place k (slots words (drop i bs)) → i < length bs → b ≡ get_or bs i b → first_place k (slots_of words b) ≡ Some x → p ≡ Some x
met_at words bs i b k x p h lt e some = h ∙ ap (λ xs. first_place k (slots words xs)) (next_dropped bs i b lt e) ∙ met words b (drop (i + 1) bs) k x some
