use Rattle.std.proofs.Common.{ℕ, ◌+◌, ◌<◌, ◌≡◌, ◌≢◌, ◌⊎◌, inl, inr, List, Option, Some, None, sym, ◌∙◌, ap, subst, arith}
use Rattle.std.proofs.lemmas.Bool.{cases_eq}
use Rattle.dn_act.specs.Words.{word_at}
use Rattle.dn_model.specs.Regions.{bucket, bucket_at, home_of}
use Rattle.dn_model.proofs.HashLaws.{home_below}
use Rattle.dn_store.specs.State.{with_at}
use Rattle.dn_store.specs.Standing.{InChain, IsPlaceOf, Stands, IsIndexed}
use Rattle.dn_store.proofs.At.{at_by}
use Rattle.dn_store.proofs.Stores.{IsStored}

-- ---- where a key stands stays the same: the places that have it are the same ones, with the same place words
pub record Stays (words now : List ℕ) (chains after : ℕ → List ℕ) (k : ℕ) : Type 0 where
  pub back : (b i : ℕ) → IsPlaceOf after k b i → bucket now b (i + 1) ≡ k → IsPlaceOf chains k b i × (bucket words b (i + 1) ≡ k)
  pub forth : (b i : ℕ) → IsPlaceOf chains k b i → bucket words b (i + 1) ≡ k → IsPlaceOf after k b i × (bucket now b (i + 1) ≡ k) × (bucket now b (i + 4) ≡ bucket words b (i + 4))

stands_still : (words now : List ℕ) (chains after : ℕ → List ℕ) (k : ℕ) (place : Option ℕ) → Stays words now chains after k → Stands words chains k place → Stands now after k place
stands_still words now chains after k None s h = λ b i p e. let was = s.back b i p e in h b i was.0 was.1
stands_still words now chains after k (Some p) s h =
    let f = s.forth h.b h.i h.place h.key in
    record { b = h.b; i = h.i; place = f.0; key = f.1; word = f.2 ∙ h.word; only = λ c j q e. let was = s.back c j q e in h.only c j was.0 was.1 }

-- ---- The one case split: an index that changes at a key, or at none.
pub record IsShaped (now : List ℕ) (after : ℕ → List ℕ) : Type 0 where
  pub below : (home b : ℕ) → home < 4096 → InChain after home b → b < 8192
  pub apart : (g h b : ℕ) → g < 4096 → h < 4096 → InChain after g b → InChain after h b → g ≡ h
  pub homed : (h b i : ℕ) → h < 4096 → InChain after h b → i < 3 → 0 < bucket now b (i + 1) → home_of (bucket now b (i + 1)) ≡ h

pub index_stays : (words now : List ℕ) (chains after : ℕ → List ℕ) (index : ℕ → Option ℕ) → IsIndexed words chains index → IsShaped now after → ((k : ℕ) → 0 < k → Stays words now chains after k)
    → IsIndexed now after index
index_stays words now chains after index h s stays = record {
  below = s.below;
  apart = s.apart;
  homed = s.homed;
  stands = λ k pos. stands_still words now chains after k (index k) (stays k pos) (h.stands k pos);
}

pub index_changes : (words now : List ℕ) (chains after : ℕ → List ℕ) (index : ℕ → Option ℕ) (k : ℕ) (place : Option ℕ) → IsIndexed words chains index → IsShaped now after
    → ((q : ℕ) → 0 < q → q ≢ k → Stays words now chains after q) → Stands now after k place → IsIndexed now after (with_at index k place)
index_changes words now chains after index k place h s stays stands = record {
  below = s.below;
  apart = s.apart;
  homed = s.homed;
  stands = λ q pos. at_by (λ o. Stands now after q o) index k place q
      (λ e. let P : ℕ → Type 0 = λ x. Stands now after x place in subst P (sym e) stands)
      (λ d. stands_still words now chains after q (index q) (stays q pos d) (h.stands q pos));
}

-- ---- a word of a bucket is stored: where a key stands stays if its places aren't touched
stored_stays : (words now : List ℕ) (chains : ℕ → List ℕ) (at new k : ℕ) → IsStored words now at new
    → ((b i : ℕ) → IsPlaceOf chains k b i → (bucket words b (i + 1) ≡ k) ⊎ (bucket now b (i + 1) ≡ k) → (bucket_at b (i + 1) ≢ at) × (bucket_at b (i + 4) ≢ at)) → Stays words now chains chains k
stored_stays words now chains at new k s apart = record {
  back = λ b i p e. (p, sym (s.other (bucket_at b (i + 1)) (apart b i p (inr e)).0) ∙ e);
  forth = λ b i p e. let d = apart b i p (inl e) in (p, s.other (bucket_at b (i + 1)) d.0 ∙ e, s.other (bucket_at b (i + 4)) d.1);
}

-- the key word of a place: other keys than the old and the new one
pub key_stays : (words now : List ℕ) (chains : ℕ → List ℕ) (b i new k : ℕ) → i < 3 → IsStored words now (bucket_at b (i + 1)) new → bucket words b (i + 1) ≢ k → new ≢ k → Stays words now chains chains k
key_stays words now chains b i new k il s old fresh = stored_stays words now chains (bucket_at b (i + 1)) new k s (λ c j p e. (
  λ f. elim e [
    | inl was ↦ old (sym (ap (λ x. word_at words x) f) ∙ was)
    | inr is ↦ fresh (sym s.here ∙ sym (ap (λ x. word_at now x) f) ∙ is)
  ],
  λ f. absurd (omega (arith, f, il, p.three)),
))

-- the place word of a place: other keys than the one beside it
pub place_stays : (words now : List ℕ) (chains : ℕ → List ℕ) (b i new k : ℕ) → i < 3 → IsStored words now (bucket_at b (i + 4)) new → bucket words b (i + 1) ≢ k → Stays words now chains chains k
place_stays words now chains b i new k il s other =
    let keys : (c j : ℕ) → j < 3 → bucket_at c (j + 1) ≢ bucket_at b (i + 4) = λ c j jl f. absurd (omega (arith, f, il, jl)) in
    stored_stays words now chains (bucket_at b (i + 4)) new k s (λ c j p e. (
      keys c j p.three,
      λ f. let same : bucket_at c (j + 1) ≡ bucket_at b (i + 1) = omega (arith, f) in
          other (sym (ap (λ x. word_at words x) same) ∙ elim e [ inl was ↦ was | inr is ↦ sym (s.other (bucket_at c (j + 1)) (keys c j p.three)) ∙ is ]),
    ))

-- any word of a bucket that is in no chain
pub loose_stays : (words now : List ℕ) (chains : ℕ → List ℕ) (b w new k : ℕ) → w < 8 → IsStored words now (bucket_at b w) new → ((h : ℕ) → h < 4096 → InChain chains h b → ⊥) → Stays words now chains chains k
loose_stays words now chains b w new k wl s loose = stored_stays words now chains (bucket_at b w) new k s (λ c j p e.
    let far : (i : ℕ) → i < 8 → bucket_at c i ≢ bucket_at b w = λ i il f.
    let same : c ≡ b = omega (arith, f, wl, il) in
    let P : ℕ → Type 0 = λ x. InChain chains (home_of k) x in
    loose (home_of k) (home_below k) (subst P same p.has)
    in (far (j + 1) (omega (arith, p.three)), far (j + 4) (omega (arith, p.three))))

-- ---- the shape of the index where the chains stay: what is stored in a key word is 0 or a key of that chain
pub stored_shape : (words now : List ℕ) (chains : ℕ → List ℕ) (index : ℕ → Option ℕ) (at new : ℕ) → IsIndexed words chains index → IsStored words now at new
    → ((h c j : ℕ) → h < 4096 → InChain chains h c → j < 3 → bucket_at c (j + 1) ≡ at → 0 < new → home_of new ≡ h) → IsShaped now chains
stored_shape words now chains index at new x s fits = record {
  below = x.below;
  apart = x.apart;
  homed = λ h c j hl m jl pos. elim (cases_eq (bucket_at c (j + 1)) at) [
    | inl e ↦ (let is : bucket now c (j + 1) ≡ new = ap (λ i. word_at now i) e ∙ s.here in
        ap home_of is ∙ fits h c j hl m jl e (omega (arith, is, pos)))
    | inr d ↦ (let is : bucket now c (j + 1) ≡ bucket words c (j + 1) = s.other (bucket_at c (j + 1)) d in
        ap home_of is ∙ x.homed h c j hl m jl (omega (arith, is, pos)))
  ];
}

-- ---- a place with a key is the one at which the key stands; a key for which the index gives nothing stands nowhere
only_by : (words : List ℕ) (chains : ℕ → List ℕ) (k b i c j : ℕ) (place : Option ℕ) → Stands words chains k place → IsPlaceOf chains k b i → bucket words b (i + 1) ≡ k → IsPlaceOf chains k c j → bucket words c (j + 1) ≡ k
    → (c ≡ b) × (j ≡ i)
only_by words chains k b i c j None h at is p e = absurd (h b i at is)
only_by words chains k b i c j (Some place) h at is p e = let one = h.only b i at is in let two = h.only c j p e in (two.0 ∙ sym one.0, two.1 ∙ sym one.1)

pub only_place : (words : List ℕ) (chains : ℕ → List ℕ) (index : ℕ → Option ℕ) (k b i c j : ℕ) → IsIndexed words chains index → 0 < k → IsPlaceOf chains k b i → bucket words b (i + 1) ≡ k → IsPlaceOf chains k c j
    → bucket words c (j + 1) ≡ k → (c ≡ b) × (j ≡ i)
only_place words chains index k b i c j x pos = only_by words chains k b i c j (index k) (x.stands k pos)

pub stands_none : (words : List ℕ) (chains : ℕ → List ℕ) (index : ℕ → Option ℕ) (k b i : ℕ) → IsIndexed words chains index → 0 < k → index k ≡ None → IsPlaceOf chains k b i → bucket words b (i + 1) ≡ k → ⊥
stands_none words chains index k b i x pos absent at is = let P : Option ℕ → Type 0 = λ o. Stands words chains k o in subst P absent (x.stands k pos) b i at is
