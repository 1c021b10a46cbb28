use Rattle.std.proofs.Common.{ℕ, ◌+◌, ◌≤◌, ◌≡◌, ◌⊎◌, inl, inr, List, [], ◌∷◌, ◌++◌, length, Option, refl, sym, ◌∙◌, ap, subst, arith}
use Rattle.std.proofs.lemmas.Bool.{cases_lt}
use Rattle.std.proofs.lemmas.Cmp.{nat_cmp_total}
use Rattle.std.proofs.lemmas.Map.Lookups.{exact_unsigned}
use Rattle.std.specs.FinMap.{get, same_map}
use Rattle.dn_hist.specs.Calls.{Bytes}
use Rattle.dn_record.specs.Grammar.{IsRecord}
use Rattle.dn_record.specs.Record.{spelling, length_in_words}
use Rattle.dn_record.specs.declared.records.Record.{Record}
use Rattle.dn_record.proofs.LawLemmas.{no_prefix}
use Rattle.dn_model.specs.Regions.{gate, mark, owner, cell, home_of, offsets, IsLane}
use Rattle.dn_model.specs.Log.{Placed, Stand, SpellsAt, Tiles, IsLog}
use Rattle.dn_model.specs.Index.{index}
use Rattle.dn_model.specs.Held.{Reads, unmerged, Says, authority_by, held_from, held}
use Rattle.dn_model.specs.PoolMap.{HoldsMap}
use Rattle.dn_model.proofs.HashLaws.{home_below}
use Rattle.dn_model.proofs.IndexLaws.{chain_one}
use Rattle.dn_model.proofs.LogLaws.{tiles_le, some_words}
use Rattle.dn_model.proofs.HeldLaws.{Each}

-- ---- words spell one log
stand_prefix : (w : ℕ → ℕ) (o : ℕ) (xs ys : List ℕ) → length xs ≤ length ys → Stand w o xs → Stand w o ys → (rest : List ℕ) × (xs ++ rest ≡ ys)
stand_prefix w o [] ys le h g = (ys, refl)
stand_prefix w o (x ∷ xs) [] le h g = absurd (omega arith)
stand_prefix w o (x ∷ xs) (y ∷ ys) le h g =
    let more = stand_prefix w (o + 1) xs ys (omega arith) h.1 g.1 in
    let e : x ≡ y = sym h.0 ∙ g.0 in
    let f : xs ++ more.0 ≡ ys = more.1 in
    (more.0, cc)

pub one_record : (w : ℕ → ℕ) (o : ℕ) (a b : Record) → SpellsAt w o a → SpellsAt w o b → a ≡ b
one_record w o a b h g = elim (cases_lt (length (spelling b)) (length (spelling a))) [
  | inl lt ↦ (let p = stand_prefix w o (spelling b) (spelling a) (omega arith) g.stands h.stands in sym (no_prefix b a p.0 g.is_record h.is_record p.1))
  | inr le ↦ (let p = stand_prefix w o (spelling a) (spelling b) (omega arith) h.stands g.stands in no_prefix a b p.0 h.is_record g.is_record p.1)
]

same_placed : (p q : Placed) → p.offset ≡ q.offset → p.entry ≡ q.entry → p ≡ q
same_placed p q e f = λ i. record { offset = e i; entry = f i }

pub one_tiling : (w : ℕ → ℕ) (o end : ℕ) (a b : List Placed) → Tiles w o a end → Tiles w o b end → a ≡ b
one_tiling w o end [] [] h g = refl
one_tiling w o end [] (q ∷ qs) h g = absurd (omega (arith, h, some_words q.entry g.1.is_record, tiles_le w (o + length_in_words q.entry) end qs g.2))
one_tiling w o end (p ∷ ps) [] h g = absurd (omega (arith, g, some_words p.entry h.1.is_record, tiles_le w (o + length_in_words p.entry) end ps h.2))
one_tiling w o end (p ∷ ps) (q ∷ qs) h g =
    let same : p.entry ≡ q.entry = one_record w o p.entry q.entry h.1 g.1 in
    let head : p ≡ q = same_placed p q (h.0 ∙ sym g.0) same in
    let P : Record → Type 0 = λ r. Tiles w (o + length_in_words r) ps end in
    let rest : ps ≡ qs = one_tiling w (o + length_in_words q.entry) end ps qs (subst P same h.2) g.2 in
    cc

pub one_log : (words : List ℕ) (n : ℕ) (a b : List Placed) → IsLog words n a → IsLog words n b → a ≡ b
one_log words n a b h g = one_tiling (offsets words n) 0 (gate words n).len a b h.tiled g.tiled

-- ---- words hold one map
pub lane_or_not : (n : ℕ) → IsLane n ⊎ (IsLane n → ⊥)
lane_or_not n = elim (cases_lt 0 n) [
  | inl a ↦ elim (cases_lt n 64) [
    | inl b ↦ inl (record { positive = a; below = b })
    | inr b ↦ inr (λ l. absurd (omega (arith, b, l.below)))
  ]
  | inr a ↦ inr (λ l. absurd (omega (arith, a, l.positive)))
]

one_reading : (words : List ℕ) (logs logs2 : ℕ → List Placed) (chains chains2 : ℕ → List ℕ) → Reads words logs chains → Reads words logs2 chains2 → (n : ℕ) → logs n ≡ logs2 n
one_reading words logs logs2 chains chains2 h g n = elim (lane_or_not n) [
  | inl l ↦ one_log words n (logs n) (logs2 n) (h.logs_are n l) (g.logs_are n l)
  | inr l ↦ h.no_more n l ∙ sym (g.no_more n l)
]

pub one_held : (words : List ℕ) (logs logs2 : ℕ → List Placed) (chains chains2 : ℕ → List ℕ) (k : ℕ) → Reads words logs chains → Reads words logs2 chains2 → held words logs chains k ≡ held words logs2 chains2 k
one_held words logs logs2 chains chains2 k h g =
    let same : logs ≡ logs2 = λ i n. one_reading words logs logs2 chains chains2 h g n i in
    let chain : chains (home_of k) ≡ chains2 (home_of k) = chain_one words (home_of k) (chains (home_of k)) (chains2 (home_of k)) (h.chains_are (home_of k) (home_below k)) (g.chains_are (home_of k) (home_below k)) in
    ap (λ l. held words l chains k) same
    ∙ ap (λ c. held_from (cell words) logs2 k (authority_by logs2 k (unmerged k (mark words (owner words k)) (logs2 (owner words k))) (index words c k))) chain

says_one : (a b : Option (List ℕ)) → Says a ≡ Says b → a ≡ b
says_one a b e = cc

pub one_map : (words : List ℕ) (a b : Bytes) → HoldsMap words a → HoldsMap words b → a ≡ b
one_map words a b h g = same_map nat_cmp_total exact_unsigned a b at where
  at : (q : ℕ) → get a q ≡ get b q
  at q = elim (cases_lt 0 q) [
    | inl pos ↦ says_one (get a q) (get b q) (sym (h.holds q pos) ∙ one_held words h.logs g.logs h.chains g.chains q h.reads g.reads ∙ g.holds q pos)
    | inr z ↦ (let e : q ≡ 0 = omega (arith, z) in ap (λ x. get a x) e ∙ h.no_key ∙ sym g.no_key ∙ ap (λ x. get b x) (sym e))
  ]

-- ---- the map stays where what it rests on stays
tiled_records : (w : ℕ → ℕ) (o end : ℕ) (log : List Placed) → Tiles w o log end → Each (λ p. IsRecord p.entry) log
tiled_records w o end [] h = tt
tiled_records w o end (p ∷ ps) h = (h.1.is_record, tiled_records w (o + length_in_words p.entry) end ps h.2)

nothing_in : (P : Record → Type 0) (log : List Placed) → log ≡ [] → Each (λ p. P p.entry) log
nothing_in P log e = let Q : List Placed → Type 0 = λ ps. Each (λ p. P p.entry) ps in subst Q (sym e) tt

pub log_records : (words : List ℕ) (logs : ℕ → List Placed) (chains : ℕ → List ℕ) → Reads words logs chains → (n : ℕ) → Each (λ p. IsRecord p.entry) (logs n)
log_records words logs chains h n = elim (lane_or_not n) [
  | inl l ↦ tiled_records (offsets words n) 0 (gate words n).len (logs n) (h.logs_are n l).tiled
  | inr l ↦ nothing_in IsRecord (logs n) (h.no_more n l)
]
