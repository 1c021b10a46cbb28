use Rattle.std.proofs.Common.{ℕ, ◌+◌, ◌<◌, ◌≤◌, ◌≡◌, ◌≢◌, ◌⊎◌, inl, inr, List, [], ◌++◌, Option, refl, sym, ◌∙◌, ap, subst, arith, slice_set, append-nil}
use Rattle.std.proofs.lemmas.Bool.{cases_eq}
use Rattle.dn_act.specs.Words.{word_at}
use Rattle.dn_act.proofs.Words.{word_at-set_other}
use Rattle.dn_model.specs.Regions.{bucket, bucket_at, home_of}
use Rattle.dn_model.proofs.HashLaws.{home_below}
use Rattle.dn_store.specs.State.{with_at}
use Rattle.dn_store.specs.Standing.{InChain}
use Rattle.dn_store.specs.Represents.{Represents}
use Rattle.dn_store.proofs.At.{at_other}
use Rattle.dn_store.proofs.Stores.{IsStored}
use Rattle.dn_store.proofs.Buckets.{bucket_stored, taken_in_none}
use Rattle.dn_beside.specs.Pool.{Pool, store_in}
use Rattle.dn_beside.specs.Chains.{IsPathKept}
use Rattle.dn_walks.specs.IndexStep.{IndexState, with_index, IsIndexStep}

-- An action on the index, by the words that it leaves: no load, an add to the counter, or a word of a bucket that is
-- stored.

record Seen (n k : ℕ) (want : Option ℕ) (p : Pool) (i : IndexState) : Type 0 where
  represents : Represents i.words i.chains (store_in (with_index p i))
  change : (i.index ≡ (store_in p).index) ⊎ (i.index ≡ with_at (store_in p).index k want)
  outside : (at : ℕ) → at ≢ 3 → (at < 32768) ⊎ (98304 ≤ at) → word_at i.words at ≡ word_at p.words at
  -- other chains, and the buckets of other mergers
  chains_stay : (h : ℕ) → h ≢ home_of k → i.chains h ≡ p.chains h
  buckets_stay : (h b w : ℕ) → h < 4096 → h ≢ home_of k → w < 8 → InChain p.chains h b → bucket i.words b w ≡ bucket p.words b w
  takers_stay : (m c : ℕ) → m ≢ n → 0 < m → (store_in p).takers c ≡ m → i.takers c ≡ m
  taken_stay : (m c w : ℕ) → m ≢ n → 0 < m → w < 8 → (store_in p).takers c ≡ m → bucket i.words c w ≡ bucket p.words c w
  -- in the chain itself other keys stay where they are
  more : List ℕ
  grows : i.chains (home_of k) ≡ p.chains (home_of k) ++ more
  keys : (q b w : ℕ) → q ≢ k → 0 < q → w < 3 → InChain p.chains (home_of k) b
      → (bucket i.words b (w + 1) ≡ q → bucket p.words b (w + 1) ≡ q) × (bucket p.words b (w + 1) ≡ q → bucket i.words b (w + 1) ≡ q)

index_other : (n k : ℕ) (want : Option ℕ) (p : Pool) (i : IndexState) (q : ℕ) → Seen n k want p i → q ≢ k → i.index q ≡ (store_in p).index q
index_other n k want p i q u d = elim u.change [
  | inl e ↦ ap (λ f. f q) e
  | inr e ↦ ap (λ f. f q) e ∙ at_other (store_in p).index k want q d
]

seen_path : (n k : ℕ) (want : Option ℕ) (p : Pool) (i : IndexState) (q : ℕ) → Seen n k want p i → 0 < q → q ≢ k → IsPathKept q p (with_index p i)
seen_path n k want p i q u pos d = elim (cases_eq (home_of q) (home_of k)) [
  | inl e ↦ record {
    more = u.more;
    grows = (let P : ℕ → Type 0 = λ h. i.chains h ≡ p.chains h ++ u.more in subst P (sym e) u.grows);
    keys = λ b w at. u.keys q b w d pos at.three (let P : ℕ → Type 0 = λ h. InChain p.chains h b in subst P e at.has);
    index = index_other n k want p i q u d;
  }
  | inr ne ↦ record {
    more = [];
    grows = u.chains_stay (home_of q) ne ∙ sym (append-nil (p.chains (home_of q)));
    keys = λ b w at. let e = u.buckets_stay (home_of q) b (w + 1) (home_below q) ne (omega (arith, at.three)) at.has in (λ x. sym e ∙ x, λ x. e ∙ x);
    index = index_other n k want p i q u d;
  }
]

seen : (n k : ℕ) (want : Option ℕ) (p : Pool) (i : IndexState) → Seen n k want p i → IsIndexStep n k want p i
seen n k want p i u = record {
  represents = u.represents;
  change = u.change;
  outside = u.outside;
  chain = λ m q pos d ne. record {
    chain = u.chains_stay (home_of q) ne;
    words = λ b w wl c. u.buckets_stay (home_of q) b w (home_below q) ne wl c;
    takers = λ c e. u.takers_stay m c d pos e;
    taken = λ c w wl e. u.taken_stay m c w d pos wl e;
    index = index_other n k want p i q u (λ e. ne (ap home_of e));
  };
  path = λ q pos d. seen_path n k want p i q u pos d;
}

-- ---- a load
abbrev pub index_of : Pool → IndexState
index_of p = record {
  words = p.words;
  chains = p.chains;
  index = (store_in p).index;
  bucket_count = (store_in p).bucket_count;
  takers = (store_in p).takers;
}

pub seen_load : (n k : ℕ) (want : Option ℕ) (p : Pool) → Represents p.words p.chains (store_in p) → IsIndexStep n k want p (index_of p)
seen_load n k want p h = seen n k want p (index_of p) (record {
  represents = h;
  change = inl refl;
  outside = λ at ne o. refl;
  chains_stay = λ g ne. refl;
  buckets_stay = λ g b w gl ne wl c. refl;
  takers_stay = λ m c d pos e. e;
  taken_stay = λ m c w d pos wl e. refl;
  more = [];
  grows = sym (append-nil (p.chains (home_of k)));
  keys = λ q b w d pos wl c. (λ e. e, λ e. e);
})

-- ---- an add to the counter
abbrev pub counted_index : Pool → (ℕ → ℕ) → IndexState
counted_index p takers = record {
  words = slice_set p.words 3 ((store_in p).bucket_count + 1);
  chains = p.chains;
  index = (store_in p).index;
  bucket_count = (store_in p).bucket_count + 1;
  takers = takers;
}

pub seen_count : (n k : ℕ) (want : Option ℕ) (p : Pool) (takers : ℕ → ℕ) → Represents (counted_index p takers).words p.chains (store_in (with_index p (counted_index p takers)))
    → ((m c : ℕ) → m ≢ n → 0 < m → (store_in p).takers c ≡ m → takers c ≡ m) → IsIndexStep n k want p (counted_index p takers)
seen_count n k want p takers r t =
    let new : ℕ = (store_in p).bucket_count + 1 in
    let same : (b w : ℕ) → bucket (slice_set p.words 3 new) b w ≡ bucket p.words b w = λ b w. word_at-set_other p.words 3 (bucket_at b w) new (λ e. absurd (omega (arith, e))) in
    seen n k want p (counted_index p takers) (record {
      represents = r;
      change = inl refl;
      outside = λ at ne o. word_at-set_other p.words 3 at new ne;
      chains_stay = λ g ne. refl;
      buckets_stay = λ g b w gl ne wl c. same b w;
      takers_stay = t;
      taken_stay = λ m c w d pos wl e. same c w;
      more = [];
      grows = sym (append-nil (p.chains (home_of k)));
      keys = λ q b w d pos wl c. (λ e. sym (same b (w + 1)) ∙ e, λ e. same b (w + 1) ∙ e);
    })

-- ---- a word of a bucket: one of the key's chain, or one that the merger has claimed
abbrev pub IsMine : ℕ → ℕ → Pool → ℕ → Type 0
IsMine n k p b = InChain p.chains (home_of k) b ⊎ ((store_in p).takers b ≡ n)

-- a key word is that key, or 0
abbrev pub ZeroOr : ℕ → ℕ → Type 0
ZeroOr k x = (x ≡ 0) ⊎ (x ≡ k)

zero_or : (k x q : ℕ) → ZeroOr k x → q ≢ k → 0 < q → x ≢ q
zero_or k x q (inl e) d pos f = absurd (omega (arith, e, f, pos))
zero_or k x q (inr e) d pos f = d (sym f ∙ e)

abbrev pub stored_index : Pool → ℕ → ℕ → ℕ → (ℕ → List ℕ) → (ℕ → Option ℕ) → (ℕ → ℕ) → IndexState
stored_index p b w new chains index takers = record {
  words = slice_set p.words (bucket_at b w) new;
  chains = chains;
  index = index;
  bucket_count = (store_in p).bucket_count;
  takers = takers;
}

-- what it asks
pub record IsStoring (n k : ℕ) (want : Option ℕ) (p : Pool) (b w new : ℕ) (chains : ℕ → List ℕ) (index : ℕ → Option ℕ) (takers : ℕ → ℕ) : Type 0 where
  pub was : Represents p.words p.chains (store_in p)
  pub is : Represents (slice_set p.words (bucket_at b w) new) chains (store_in (with_index p (stored_index p b w new chains index takers)))
  pub positive : 0 < n
  pub bucket_below : b < 8192
  pub word_below : w < 8
  pub mine : IsMine n k p b
  pub change : (index ≡ (store_in p).index) ⊎ (index ≡ with_at (store_in p).index k want)
  pub keyed : InChain p.chains (home_of k) b → w < 4 → ZeroOr k (bucket p.words b w) × ZeroOr k new
  pub others : (h : ℕ) → h ≢ home_of k → chains h ≡ p.chains h
  pub more : List ℕ
  pub grows : chains (home_of k) ≡ p.chains (home_of k) ++ more
  pub left : (m c : ℕ) → m ≢ n → 0 < m → (store_in p).takers c ≡ m → takers c ≡ m

pub seen_store : (n k : ℕ) (want : Option ℕ) (p : Pool) (b w new : ℕ) (chains : ℕ → List ℕ) (index : ℕ → Option ℕ) (takers : ℕ → ℕ) → IsStoring n k want p b w new chains index takers
    → IsIndexStep n k want p (stored_index p b w new chains index takers)
seen_store n k want p b w new chains index takers g =
    let now : List ℕ = slice_set p.words (bucket_at b w) new in
    let h = g.was in
    let o = h.overflow in
    let bl = g.bucket_below in
    let wl = g.word_below in
    let st : IsStored p.words now (bucket_at b w) new = bucket_stored p.words p.chains (store_in p) b w new h bl wl in
    let none : (home c : ℕ) → 0 < (store_in p).takers c → home < 4096 → InChain p.chains home c → ⊥ = λ home c. taken_in_none p.words p.chains (store_in p).bucket_count (store_in p).takers home c o in
    seen n k want p (stored_index p b w new chains index takers) (record {
      represents = g.is;
      change = g.change;
      outside = λ at ne d. st.other at (λ e. elim d [ inl y ↦ absurd (omega (arith, e, y)) | inr y ↦ absurd (omega (arith, e, y, bl, wl)) ]);
      chains_stay = g.others;
      buckets_stay = λ f c v fl ne vl m. st.other (bucket_at c v) (λ e.
          let same : c ≡ b = omega (arith, e, vl, wl) in
          let P : ℕ → Type 0 = λ x. InChain p.chains f x in
          elim g.mine [
            | inl x ↦ ne (h.indexed.apart f (home_of k) b fl (home_below k) (subst P same m) x)
            | inr x ↦ none f b (omega (arith, x, g.positive)) fl (subst P same m)
          ]);
      takers_stay = g.left;
      taken_stay = λ m c v d pos vl e. st.other (bucket_at c v) (λ f.
          let same : c ≡ b = omega (arith, f, vl, wl) in
          elim g.mine [
            | inl x ↦ none (home_of k) b (omega (arith, pos, e, ap (store_in p).takers same)) (home_below k) x
            | inr x ↦ d (sym e ∙ ap (store_in p).takers same ∙ x)
          ]);
      more = g.more;
      grows = g.grows;
      keys = λ q c v d pos vl m. elim (cases_eq (bucket_at c (v + 1)) (bucket_at b w)) [
        | inl f ↦ (
            let same : c ≡ b = omega (arith, f, vl, wl) in
            let P : ℕ → Type 0 = λ x. InChain p.chains (home_of k) x in
            let z = g.keyed (subst P same m) (omega (arith, f, vl, wl)) in (
              λ e. absurd (zero_or k new q z.1 d pos (sym (ap (λ x. word_at now x) f ∙ st.here) ∙ e)),
              λ e. absurd (zero_or k (bucket p.words b w) q z.0 d pos (sym (ap (λ x. word_at p.words x) f) ∙ e)),
            ))
        | inr f ↦ (let e = st.other (bucket_at c (v + 1)) f in (λ x. sym e ∙ x, λ x. e ∙ x))
      ];
    })
