use Rattle.std.proofs.Common.{ℕ, ◌<◌, ◌≡◌, List, [], ◌∷◌, None, refl, sym, ◌∙◌, ap, subst, arith}
use Rattle.std.proofs.lemmas.Bool.Decides.{nat_tests}
use Rattle.dn_model.specs.Same.{SameBuckets}
use Rattle.dn_model.specs.Regions.{bucket, home_of}
use Rattle.dn_model.specs.OneLog.{IsEmptyIndex}
use Rattle.dn_model.specs.Index.{Slot, slots, first_place, Leads, IsChain, index}

-- a next word is 0 or a bucket, so the chain is one
pub leads_one : (words : List ℕ) (b : ℕ) (cs ds : List ℕ) → Leads words b cs → Leads words b ds → cs ≡ ds
leads_one words b [] [] h g = refl
leads_one words b [] (d ∷ ds) h g = absurd (omega (arith, h, g.0, g.1))
leads_one words b (c ∷ cs) [] h g = absurd (omega (arith, g, h.0, h.1))
leads_one words b (c ∷ cs) (d ∷ ds) h g =
    let e : c ≡ d = sym h.0 ∙ g.0 in
    let P : ℕ → Type 0 = λ x. Leads words x cs in
    let rest : cs ≡ ds = leads_one words d cs ds (subst P e h.3) g.3 in
    cc

pub chain_one : (words : List ℕ) (home : ℕ) (cs ds : List ℕ) → IsChain words home cs → IsChain words home ds → cs ≡ ds
chain_one words home cs ds h g = leads_one words home cs ds h.leads g.leads

pub leads_frame : (words now : List ℕ) (b : ℕ) (cs : List ℕ) → b < 8192 → SameBuckets words now → Leads words b cs → Leads now b cs
leads_frame words now b [] lt s h = s.same b 7 lt (omega arith) (omega arith) ∙ h
leads_frame words now b (c ∷ cs) lt s h = (s.same b 7 lt (omega arith) (omega arith) ∙ h.0, h.1, h.2, leads_frame words now c cs h.2 s h.3)

pub chain_frame : (words now : List ℕ) (home : ℕ) (cs : List ℕ) → home < 4096 → SameBuckets words now → IsChain words home cs → IsChain now home cs
chain_frame words now home cs lt s h = record { leads = leads_frame words now home cs (omega arith) s h.leads; few = h.few }

pub slots_frame : (words now : List ℕ) (b : ℕ) (cs : List ℕ) → b < 8192 → SameBuckets words now → Leads words b cs → slots now (b ∷ cs) ≡ slots words (b ∷ cs)
slots_frame words now b [] lt s h =
    let e1 = s.same b 1 lt (omega arith) (omega arith) in
    let e2 = s.same b 2 lt (omega arith) (omega arith) in
    let e3 = s.same b 3 lt (omega arith) (omega arith) in
    let e4 = s.same b 4 lt (omega arith) (omega arith) in
    let e5 = s.same b 5 lt (omega arith) (omega arith) in
    let e6 = s.same b 6 lt (omega arith) (omega arith) in
    cc
slots_frame words now b (c ∷ cs) lt s h =
    let e1 = s.same b 1 lt (omega arith) (omega arith) in
    let e2 = s.same b 2 lt (omega arith) (omega arith) in
    let e3 = s.same b 3 lt (omega arith) (omega arith) in
    let e4 = s.same b 4 lt (omega arith) (omega arith) in
    let e5 = s.same b 5 lt (omega arith) (omega arith) in
    let e6 = s.same b 6 lt (omega arith) (omega arith) in
    let rest : slots now (c ∷ cs) ≡ slots words (c ∷ cs) = slots_frame words now c cs h.2 s h.3 in
    cc

-- what the index gives stays where the buckets' words stay
pub index_frame : (words now : List ℕ) (cs : List ℕ) (k : ℕ) → home_of k < 4096 → SameBuckets words now → IsChain words (home_of k) cs → index now cs k ≡ index words cs k
index_frame words now cs k lt s h = ap (first_place k) (slots_frame words now (home_of k) cs (omega arith) s h.leads)

-- ---- the empty index
pub empty_chain : (words : List ℕ) (home : ℕ) → home < 4096 → IsEmptyIndex words → IsChain words home []
empty_chain words home lt z = record { leads = z.each home 7 (omega arith) (omega arith) (omega arith); few = omega arith }

skipped : (k : ℕ) (s : Slot) (ss : List Slot) → 0 < k → s.key ≡ 0 → first_place k (s ∷ ss) ≡ first_place k ss
skipped k s ss pos e = grind (arith, nat_tests)

pub empty_index : (words : List ℕ) (k : ℕ) → 0 < k → home_of k < 4096 → IsEmptyIndex words → index words [] k ≡ None
empty_index words k pos lt z =
    let h : ℕ = home_of k in
    let one = λ (i p : ℕ) (low : 0 < i) (l : i < 8) (ss : List Slot). skipped k (record { key = bucket words h i; place = p }) ss pos (z.each h i (omega arith) low l) in
    let s2 : Slot = record { key = bucket words h 2; place = bucket words h 5 } in
    let s3 : Slot = record { key = bucket words h 3; place = bucket words h 6 } in
    one 1 (bucket words h 4) (omega arith) (omega arith) (s2 ∷ s3 ∷ []) ∙ one 2 (bucket words h 5) (omega arith) (omega arith) (s3 ∷ []) ∙ one 3 (bucket words h 6) (omega arith) (omega arith) []
