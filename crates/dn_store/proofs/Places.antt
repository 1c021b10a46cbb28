use Rattle.std.proofs.Common.{ℕ, zero, suc, ◌+◌, ◌<◌, ◌≡◌, ◌≢◌, ◌⊎◌, inl, inr, List, [], ◌∷◌, Contains, Option, Some, None, refl, sym, ◌∙◌, ap, arith}
use Rattle.std.proofs.lemmas.Bool.{cases_eq}
use Rattle.std.proofs.lemmas.Bool.Decides.{nat_tests}
use Rattle.dn_model.specs.Regions.{bucket, home_of}
use Rattle.dn_model.specs.Index.{Slot, slots_of, slots, first_place, index}
use Rattle.dn_model.proofs.ChainLaws.{met}
use Rattle.dn_store.specs.Standing.{Stands}
use Rattle.dn_store.proofs.Frames.{first_of, behind_first, first_or_behind, none_of}

-- ---- The place word at a key's only place is the one that the index gives.

-- one of a bucket's three places
pub of_three : (i : ℕ) (P : ℕ → Type 0) → i < 3 → P 0 → P 1 → P 2 → P i
of_three zero P l a b c = a
of_three (suc zero) P l a b c = b
of_three (suc (suc zero)) P l a b c = c
of_three (suc (suc (suc i))) P l a b c = absurd (omega (arith, l))

-- a bucket without the key is passed over
passed_by : (s : Slot) (k : ℕ) (ss : List Slot) → s.key ≢ k → first_place k (s ∷ ss) ≡ first_place k ss
passed_by s k ss d = grind (arith, nat_tests)

passed : (words : List ℕ) (b k : ℕ) (bs : List ℕ) → ((i : ℕ) → i < 3 → bucket words b (i + 1) ≢ k) → first_place k (slots words (b ∷ bs)) ≡ first_place k (slots words bs)
passed words b k bs d =
    passed_by (record { key = bucket words b 1; place = bucket words b 4 }) k (record { key = bucket words b 2; place = bucket words b 5 } ∷ record { key = bucket words b 3; place = bucket words b 6 } ∷ slots words bs) (d 0 (omega arith))
    ∙ passed_by (record { key = bucket words b 2; place = bucket words b 5 }) k (record { key = bucket words b 3; place = bucket words b 6 } ∷ slots words bs) (d 1 (omega arith))
    ∙ passed_by (record { key = bucket words b 3; place = bucket words b 6 }) k (slots words bs) (d 2 (omega arith))

-- a bucket has the key at one of its places, or doesn't have it
has_key : (words : List ℕ) (b k : ℕ) → ((i : ℕ) × (i < 3) × (bucket words b (i + 1) ≡ k)) ⊎ ((i : ℕ) → i < 3 → bucket words b (i + 1) ≢ k)
has_key words b k = elim (cases_eq (bucket words b 1) k) [
  | inl e ↦ inl (0, omega arith, e)
  | inr x ↦ elim (cases_eq (bucket words b 2) k) [
    | inl e ↦ inl (1, omega arith, e)
    | inr y ↦ elim (cases_eq (bucket words b 3) k) [
      | inl e ↦ inl (2, omega arith, e)
      | inr z ↦ inr (λ i l. of_three i (λ n. bucket words b (n + 1) ≢ k) l x y z)
    ]
  ]
]

-- the first place of a bucket that has the key at place i alone
met_at : (words : List ℕ) (b k i : ℕ) → i < 3 → bucket words b (i + 1) ≡ k → ((j : ℕ) → j < 3 → bucket words b (j + 1) ≡ k → j ≡ i) → first_place k (slots_of words b) ≡ Some (bucket words b (i + 4))
met_at words b k i l = of_three i (λ x. bucket words b (x + 1) ≡ k → ((j : ℕ) → j < 3 → bucket words b (j + 1) ≡ k → j ≡ x) → first_place k (slots_of words b) ≡ Some (bucket words b (x + 4))) l
    (λ e only. grind (arith, nat_tests))
    (λ e only. let d : bucket words b 1 ≢ k = λ f. absurd (omega (arith, only 0 (omega arith) f)) in grind (arith, nat_tests))
    (λ e only. let d : bucket words b 1 ≢ k = λ f. absurd (omega (arith, only 0 (omega arith) f)) in let c : bucket words b 2 ≢ k = λ f. absurd (omega (arith, only 1 (omega arith) f)) in grind (arith, nat_tests))

absent_in : (words : List ℕ) (bs : List ℕ) (k : ℕ) → ((b i : ℕ) → Contains bs b → i < 3 → bucket words b (i + 1) ≢ k) → first_place k (slots words bs) ≡ None
absent_in words [] k h = refl
absent_in words (b ∷ bs) k h = passed words b k bs (λ i l. h b i (first_of b bs) l) ∙ absent_in words bs k (λ c i m. h c i (behind_first b bs c m))

elsewhere : (words : List ℕ) (c b i k : ℕ) (cs : List ℕ) → bucket words b (i + 1) ≡ k → bucket words c (i + 1) ≢ k → (c ≡ b) ⊎ Contains cs b → Contains cs b
elsewhere words c b i k cs e d (inl s) = absurd (d (ap (λ x. bucket words x (i + 1)) s ∙ e))
elsewhere words c b i k cs e d (inr n) = n

stands_in : (words : List ℕ) (bs : List ℕ) (k b i : ℕ) → Contains bs b → i < 3 → bucket words b (i + 1) ≡ k → ((c j : ℕ) → Contains bs c → j < 3 → bucket words c (j + 1) ≡ k → (c ≡ b) × (j ≡ i))
    → first_place k (slots words bs) ≡ Some (bucket words b (i + 4))
stands_in words [] k b i m l e only = absurd (none_of b m)
stands_in words (c ∷ cs) k b i m l e only = elim (has_key words c k) [
  | inl h ↦ (let o = only c h.0 (first_of c cs) h.1 h.2 in
      met words c cs k (bucket words b (i + 4)) (met_at words c k h.0 h.1 h.2 (λ j jl f. (only c j (first_of c cs) jl f).1 ∙ sym o.1) ∙ ap (λ x. Some (bucket words x (h.0 + 4))) o.0 ∙ ap (λ x. Some (bucket words b (x + 4))) o.1))
  | inr d ↦ passed words c k cs d ∙ stands_in words cs k b i (elsewhere words c b i k cs e (d i l) (first_or_behind c cs b m)) l e (λ x j n. only x j (behind_first c cs x n))
]

-- what the words give for a key that stands so
pub index_is : (words : List ℕ) (chains : ℕ → List ℕ) (k : ℕ) (place : Option ℕ) → Stands words chains k place → index words (chains (home_of k)) k ≡ place
index_is words chains k None h = absent_in words (home_of k ∷ chains (home_of k)) k (λ b i m l. h b i (record { has = m; three = l }))
index_is words chains k (Some p) h =
    stands_in words (home_of k ∷ chains (home_of k)) k h.b h.i h.place.has h.place.three h.key (λ c j m l e. h.only c j (record { has = m; three = l }) e) ∙ ap (λ x. Some x) h.word
