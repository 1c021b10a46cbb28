use Rattle.std.proofs.Common.{ℕ, ◌+◌, ◌<◌, ◌≤◌, ◌≡◌, ◌≢◌, ◌⊎◌, inl, inr, List, [], ◌∷◌, ◌++◌, Contains, length, Some, refl, sym, ◌∙◌, ap, subst, arith, slice_set}
use Rattle.std.proofs.lemmas.List.Elements.{Contains-append_left, Contains-push}
use Rattle.dn_model.specs.Regions.{bucket, bucket_at, home_of}
use Rattle.dn_model.specs.Index.{Leads, IsChain}
use Rattle.dn_model.proofs.HashLaws.{home_below}
use Rattle.dn_store.specs.State.{StoreState, with_at}
use Rattle.dn_store.specs.Changes.{linked}
use Rattle.dn_store.specs.Standing.{InChain, IsIndexed}
use Rattle.dn_store.specs.Overflow.{Rise, IsOverflow, with_bucket, IsLinking}
use Rattle.dn_store.specs.Represents.{Represents}
use Rattle.dn_store.proofs.At.{at_same, at_by}
use Rattle.dn_store.proofs.Stores.{IsStored}
use Rattle.dn_store.proofs.Frames.{first_of, behind_first, first_or_behind, none_of, chain_stays}
use Rattle.dn_store.proofs.Places.{of_three}
use Rattle.dn_store.proofs.Standings.{IsShaped, index_changes, stands_none}
use Rattle.dn_store.proofs.Buckets.{bucket_word, bucket_stored, in_chain_claimed, taken_in_none}

-- A bucket is linked behind its chain.

-- ---- a list with one more number
or_last : (cs : List ℕ) (new b : ℕ) → Contains (cs ++ new ∷ []) b → Contains cs b ⊎ (b ≡ new)
or_last [] new b m = elim (first_or_behind new [] b m) [ inl e ↦ inr (sym e) | inr n ↦ absurd (none_of b n) ]
or_last (c ∷ cs) new b m = elim (first_or_behind c (cs ++ new ∷ []) b m) [
  | inl e ↦ (let P : ℕ → Type 0 = λ x. Contains (c ∷ cs) x in inl (subst P e (first_of c cs)))
  | inr n ↦ elim (or_last cs new b n) [ inl x ↦ inl (behind_first c cs b x) | inr e ↦ inr e ]
]

rise_more : (low new : ℕ) (cs : List ℕ) → Rise low cs → ((c : ℕ) → Contains cs c → c < new) → low ≤ new → Rise low (cs ++ new ∷ [])
rise_more low new [] h lt le = (le, record {})
rise_more low new (c ∷ cs) h lt le = (h.0, rise_more (c + 1) new cs h.1 (λ d m. lt d (behind_first c cs d m)) (let l = lt c (first_of c cs) in omega (arith, l)))

-- numbers that rise up to 8,192 are few
rise_few : (low : ℕ) (cs : List ℕ) → Rise low cs → ((c : ℕ) → Contains cs c → c < 8192) → low ≤ 8192 → low + length cs ≤ 8192
rise_few low [] h lt le = omega (arith, le)
rise_few low (c ∷ cs) h lt le = let r = rise_few (c + 1) cs h.1 (λ d m. lt d (behind_first c cs d m)) (let l = lt c (first_of c cs) in omega (arith, l)) in omega (arith, r, h.0)

-- ---- what a chain has then
chain_or_new : (chains : ℕ → List ℕ) (home new g b : ℕ) → InChain (with_bucket chains home new) g b → InChain chains g b ⊎ ((g ≡ home) × (b ≡ new))
chain_or_new chains home new g b = at_by (λ (x : List ℕ). Contains (g ∷ x) b → InChain chains g b ⊎ ((g ≡ home) × (b ≡ new))) chains home (chains home ++ new ∷ []) g
    (λ e m. elim (or_last (g ∷ chains home) new b m) [ inl x ↦ (let P : List ℕ → Type 0 = λ y. Contains (g ∷ y) b in inl (subst P (sym (ap chains e)) x)) | inr y ↦ inr (e, y) ])
    (λ d m. inl m)

overflow_or_new : (chains : ℕ → List ℕ) (home new g b : ℕ) → Contains (with_bucket chains home new g) b → Contains (chains g) b ⊎ ((g ≡ home) × (b ≡ new))
overflow_or_new chains home new g b = at_by (λ (x : List ℕ). Contains x b → Contains (chains g) b ⊎ ((g ≡ home) × (b ≡ new))) chains home (chains home ++ new ∷ []) g
    (λ e m. elim (or_last (chains home) new b m) [ inl x ↦ (let P : List ℕ → Type 0 = λ y. Contains y b in inl (subst P (sym (ap chains e)) x)) | inr y ↦ inr (e, y) ])
    (λ d m. inl m)

still_in : (chains : ℕ → List ℕ) (home new g b : ℕ) → InChain chains g b → InChain (with_bucket chains home new) g b
still_in chains home new g b m = at_by (λ (x : List ℕ). Contains (g ∷ x) b) chains home (chains home ++ new ∷ []) g
    (λ e. let P : List ℕ → Type 0 = λ x. Contains (g ∷ (x ++ new ∷ [])) b in subst P (ap chains e) (Contains-append_left (g ∷ chains g) (new ∷ []) b m)) (λ d. m)

-- ---- the next words lead one bucket further
further : (words now : List ℕ) (last new b : ℕ) (cs : List ℕ) → bucket now last 7 ≡ new → ((c : ℕ) → c ≢ last → bucket now c 7 ≡ bucket words c 7) → bucket words last 7 ≡ 0 → bucket now new 7 ≡ 0 → 4096 ≤ new → new < 8192
    → Leads words b cs → Contains (b ∷ cs) last → Leads now b (cs ++ new ∷ [])
further words now last new b [] here other end zero low high h m = elim (first_or_behind b [] last m) [
  | inl e ↦ (ap (λ x. bucket now x 7) e ∙ here, low, high, zero)
  | inr n ↦ absurd (none_of last n)
]
further words now last new b (c ∷ cs) here other end zero low high h m =
    let before : b ≢ last = λ e. absurd (omega (arith, h.0, h.1, end, ap (λ x. bucket words x 7) e)) in
    (other b before ∙ h.0, h.1, h.2, further words now last new c cs here other end zero low high h.3 (elim (first_or_behind b (c ∷ cs) last m) [ inl e ↦ absurd (before e) | inr n ↦ n ]))

-- ---- what the link rests on, named once
record IsJoin (words now : List ℕ) (chains : ℕ → List ℕ) (s : StoreState) (k last new : ℕ) : Type 0 where
  h : Represents words chains s
  pos : 0 < k
  l : IsLinking words chains s.index s.takers k last new
  st : IsStored words now (bucket_at last 7) new

-- all words but the last bucket's next word stay
word_stays : (words now : List ℕ) (chains : ℕ → List ℕ) (s : StoreState) (k last new : ℕ) → IsJoin words now chains s k last new → (b i : ℕ) → i < 7 → bucket now b i ≡ bucket words b i
word_stays words now chains s k last new j b i il = j.st.other (bucket_at b i) (λ e. absurd (omega (arith, e, il)))

next_stays : (words now : List ℕ) (chains : ℕ → List ℕ) (s : StoreState) (k last new : ℕ) → IsJoin words now chains s k last new → (b : ℕ) → b ≢ last → bucket now b 7 ≡ bucket words b 7
next_stays words now chains s k last new j b d = j.st.other (bucket_at b 7) (λ e. d (omega (arith, e)))

-- the new bucket is in no chain yet
outside : (words now : List ℕ) (chains : ℕ → List ℕ) (s : StoreState) (k last new : ℕ) → IsJoin words now chains s k last new → (g : ℕ) → g < 4096 → InChain chains g new → ⊥
outside words now chains s k last new j g gl m = taken_in_none words chains s.bucket_count s.takers g new j.h.overflow j.l.own gl m

-- it has the key alone, at its first place
alone : (words now : List ℕ) (chains : ℕ → List ℕ) (s : StoreState) (k last new : ℕ) → IsJoin words now chains s k last new → (q b i : ℕ) → 0 < q → b ≡ new → i < 3 → bucket now b (i + 1) ≡ q → (i ≡ 0) × (q ≡ k)
alone words now chains s k last new j q b i qp e il f =
    let there : (i : ℕ) → i < 7 → bucket now b i ≡ bucket words new i = λ i lt. word_stays words now chains s k last new j b i lt ∙ ap (λ x. bucket words x i) e in
    let zero = λ (i : ℕ) (lt : i < 7) (one : i ≢ 1) (four : i ≢ 4). there i lt ∙ j.h.overflow.new new i j.l.own (omega (arith, lt)) one four in
    of_three i (λ x. bucket now b (x + 1) ≡ q → (x ≡ 0) × (q ≡ k)) il
    (λ y. (refl, sym y ∙ there 1 (omega arith) ∙ j.l.key))
    (λ y. absurd (omega (arith, qp, y, zero 2 (omega arith) (λ e. absurd (omega (arith, e))) (λ e. absurd (omega (arith, e))))))
    (λ y. absurd (omega (arith, qp, y, zero 3 (omega arith) (λ e. absurd (omega (arith, e))) (λ e. absurd (omega (arith, e))))))
    f

joined_chain : (words now : List ℕ) (chains : ℕ → List ℕ) (s : StoreState) (k last new : ℕ) → IsJoin words now chains s k last new → (g : ℕ) → g < 4096 → IsChain now g (with_bucket chains (home_of k) new g)
joined_chain words now chains s k last new j g gl =
    let home : ℕ = home_of k in
    let hl = home_below k in
    let t = j.h.overflow.taken new j.l.own in
    let longer : List ℕ = chains home ++ new ∷ [] in
    at_by (λ (y : List ℕ). IsChain now g y) chains home longer g
    (λ e. let P : ℕ → Type 0 = λ x. IsChain now x longer in subst P (sym e) (record {
      leads = further words now last new home (chains home) j.st.here (next_stays words now chains s k last new j) j.l.end
          (next_stays words now chains s k last new j new (λ e. let Q : ℕ → Type 0 = λ x. InChain chains home x in outside words now chains s k last new j home hl (subst Q (sym e) j.l.has))
          ∙ j.h.overflow.new new 7 j.l.own (omega arith) (λ e. absurd (omega (arith, e))) (λ e. absurd (omega (arith, e))))
          t.0 t.2 (j.h.reads.chains_are home hl).leads j.l.has;
      few = (let r = rise_few 4096 longer (rise_more 4096 new (chains home) (j.h.overflow.rise home hl) j.l.later t.0)
          (λ c m. elim (or_last (chains home) new c m) [ inl y ↦ j.h.indexed.below home c hl (behind_first home (chains home) c y) | inr y ↦ omega (arith, y, t.2) ]) (omega arith) in omega (arith, r));
    }))
    (λ d. chain_stays words now g (chains g) (λ b m. next_stays words now chains s k last new j b (λ e. let Q : ℕ → Type 0 = λ x. InChain chains g x in d (j.h.indexed.apart g home last gl hl (subst Q e m) j.l.has)))
    (j.h.reads.chains_are g gl))

joined_shape : (words now : List ℕ) (chains : ℕ → List ℕ) (s : StoreState) (k last new : ℕ) → IsJoin words now chains s k last new → IsShaped now (with_bucket chains (home_of k) new)
joined_shape words now chains s k last new j =
    let home : ℕ = home_of k in
    let x = j.h.indexed in
    let t = j.h.overflow.taken new j.l.own in
    let fresh : (g b : ℕ) → g < 4096 → b ≡ new → InChain chains g b → ⊥ = λ g b gl e m. (let Q : ℕ → Type 0 = λ y. InChain chains g y in outside words now chains s k last new j g gl (subst Q e m)) in
    record {
      below = λ g b gl m. elim (chain_or_new chains home new g b m) [ inl y ↦ x.below g b gl y | inr y ↦ omega (arith, y.1, t.2) ];
      apart = λ g f b gl fl m n. elim (chain_or_new chains home new g b m) [
        | inl y ↦ elim (chain_or_new chains home new f b n) [ inl z ↦ x.apart g f b gl fl y z | inr z ↦ absurd (fresh g b gl z.1 y) ]
        | inr y ↦ elim (chain_or_new chains home new f b n) [ inl z ↦ absurd (fresh f b fl y.1 z) | inr z ↦ y.0 ∙ sym z.0 ]
      ];
      homed = λ g b i gl m il qp. elim (chain_or_new chains home new g b m) [
        | inl y ↦ (let same = word_stays words now chains s k last new j b (i + 1) (omega (arith, il)) in ap home_of same ∙ x.homed g b i gl y il (omega (arith, same, qp)))
        | inr y ↦ ap home_of (alone words now chains s k last new j (bucket now b (i + 1)) b i qp y.1 il refl).1 ∙ sym y.0
      ];
    }

joined_index : (words now : List ℕ) (chains : ℕ → List ℕ) (s : StoreState) (k last new : ℕ) → IsJoin words now chains s k last new
    → IsIndexed now (with_bucket chains (home_of k) new) (with_at s.index k (Some (bucket words new 4)))
joined_index words now chains s k last new j =
    let home : ℕ = home_of k in
    let after : ℕ → List ℕ = with_bucket chains home new in
    let same = word_stays words now chains s k last new j in
    index_changes words now chains after s.index k (Some (bucket words new 4)) j.h.indexed (joined_shape words now chains s k last new j)
    (λ q qp d. record {
      back = λ b i p e. elim (chain_or_new chains home new (home_of q) b p.has) [
        | inl m ↦ (record { has = m; three = p.three }, sym (same b (i + 1) (omega (arith, p.three))) ∙ e)
        | inr y ↦ absurd (d (alone words now chains s k last new j q b i qp y.1 p.three e).1)
      ];
      forth = λ b i p e. (record { has = still_in chains home new (home_of q) b p.has; three = p.three }, same b (i + 1) (omega (arith, p.three)) ∙ e, same b (i + 4) (omega (arith, p.three)));
    })
    (record {
      b = new;
      i = 0;
      place = record { has = (let P : List ℕ → Type 0 = λ y. Contains (home ∷ y) new in subst P (sym (at_same chains home (chains home ++ new ∷ []) home refl)) (Contains-push (home ∷ chains home) new)); three = omega arith };
      key = same new 1 (omega arith) ∙ j.l.key;
      word = same new 4 (omega arith);
      only = λ c i p e. elim (chain_or_new chains home new home c p.has) [
        | inl m ↦ absurd (stands_none words chains s.index k c i j.h.indexed j.pos j.l.absent (record { has = m; three = p.three }) (sym (same c (i + 1) (omega (arith, p.three))) ∙ e))
        | inr y ↦ (y.1, (alone words now chains s k last new j k c i j.pos y.1 p.three e).0)
      ];
    })

joined_overflow : (words now : List ℕ) (chains : ℕ → List ℕ) (s : StoreState) (k last new : ℕ) → IsJoin words now chains s k last new
    → IsOverflow now (with_bucket chains (home_of k) new) s.bucket_count (with_at s.takers new 0)
joined_overflow words now chains s k last new j =
    let home : ℕ = home_of k in
    let hl = home_below k in
    let o = j.h.overflow in
    let t = o.taken new j.l.own in
    let claimed : last < 4096 + s.bucket_count = in_chain_claimed words chains s.bucket_count s.takers home last o hl j.l.has in
    let mine : (c : ℕ) → 0 < s.takers c → c ≢ last = λ c pos e. (let Q : ℕ → Type 0 = λ x. 0 < s.takers x in taken_in_none words chains s.bucket_count s.takers home last o (subst Q e pos) hl j.l.has) in
    record {
      claimed = λ g c gl m. elim (overflow_or_new chains home new g c m) [ inl y ↦ o.claimed g c gl y | inr y ↦ omega (arith, y.1, t.1) ];
      rise = λ g gl. at_by (λ (y : List ℕ). Rise 4096 y) chains home (chains home ++ new ∷ []) g (λ _. rise_more 4096 new (chains home) (o.rise home hl) j.l.later t.0) (λ _. o.rise g gl);
      taken = λ c. at_by (λ y. 0 < y → (4096 ≤ c) × (c < 4096 + s.bucket_count) × (c < 8192)) s.takers new 0 c (λ _ pos. absurd (omega (arith, pos))) (λ _ pos. o.taken c pos);
      loose = λ c g. at_by (λ y. 0 < y → g < 4096 → Contains (with_bucket chains home new g) c → ⊥) s.takers new 0 c (λ _ pos. absurd (omega (arith, pos)))
          (λ d pos gl m. elim (overflow_or_new chains home new g c m) [ inl y ↦ o.loose c g pos gl y | inr y ↦ d y.1 ]);
      untouched = λ c i le lt il. j.st.other (bucket_at c i) (λ e. absurd (omega (arith, e, il, claimed, le))) ∙ o.untouched c i le lt il;
      new = λ c i. at_by (λ y. 0 < y → i < 8 → i ≢ 1 → i ≢ 4 → bucket now c i ≡ 0) s.takers new 0 c (λ _ pos. absurd (omega (arith, pos)))
          (λ _ pos il one four. j.st.other (bucket_at c i) (λ e. mine c pos (omega (arith, e, il))) ∙ o.new c i pos il one four);
    }

-- the next word of the chain's last bucket names a bucket in which the key stands: the index gives the place word there
pub link : (words : List ℕ) (chains : ℕ → List ℕ) (s : StoreState) (k last new : ℕ) → Represents words chains s → 0 < k → IsLinking words chains s.index s.takers k last new
    → Represents (slice_set words (bucket_at last 7) new) (with_bucket chains (home_of k) new) (linked s k new (Some (bucket words new 4)))
link words chains s k last new h pos l =
    let now : List ℕ = slice_set words (bucket_at last 7) new in
    let low = h.indexed.below (home_of k) last (home_below k) l.has in
    let st = bucket_stored words chains s last 7 new h low (omega arith) in
    let j : IsJoin words now chains s k last new = record { h = h; pos = pos; l = l; st = st } in
    bucket_word words now chains (with_bucket chains (home_of k) new) s last 7 new (with_at s.index k (Some (bucket words new 4))) (with_at s.takers new 0) h low (omega arith) (omega arith) st
    (joined_chain words now chains s k last new j) (joined_index words now chains s k last new j) (joined_overflow words now chains s k last new j)
