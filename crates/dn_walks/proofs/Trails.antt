use Rattle.std.proofs.Common.{ℕ, suc, ◌+◌, ◌-◌, ◌==◌, ◌<◌, ◌≤◌, ◌≡◌, ◌≢◌, inl, inr, Bool, true, false, if◌then◌else◌, List, [], ◌∷◌, ◌++◌, Contains, length, Option, Some, None, refl, sym, ◌∙◌, ap, subst, arith, append_assoc, length-append}
use Rattle.std.proofs.lemmas.Bool.{cases_eq}
use Rattle.std.proofs.lemmas.Bool.Decides.{nat_tests}
use Rattle.std.proofs.lemmas.List.Elements.{Contains-append_right, Contains-append_cases}
use Rattle.dn_model.specs.Regions.{bucket, home_of}
use Rattle.dn_model.specs.Index.{Leads, IsChain}
use Rattle.dn_model.proofs.HashLaws.{home_below}
use Rattle.dn_index.specs.declared.places.Spot.{Spot}
use Rattle.dn_index.specs.declared.places.Trail.{Trail}
use Rattle.dn_index.specs.Walk.{spot, trail, first_free, noted, names_bucket}
use Rattle.dn_store.specs.State.{StoreState}
use Rattle.dn_store.specs.Standing.{InChain, IsPlaceOf, Stands}
use Rattle.dn_store.specs.Represents.{Represents}
use Rattle.dn_store.proofs.Frames.{first_of, first_or_behind, none_of}
use Rattle.dn_walks.specs.Trails.{Tracks, IsSpotOf, IsMet, MayBeFree}

-- How a walk comes along a chain.

-- ---- the walk begins
pub tracks_begun : (words : List ℕ) (chains : ℕ → List ℕ) (k : ℕ) → Tracks words chains k (trail (home_of k) 4096 None) 1
tracks_begun words chains k = record {
  positive = omega arith;
  front = [];
  rest = chains (home_of k);
  split = refl;
  behind = λ c i m. absurd (none_of c m);
  here = λ i il lt. absurd (omega (arith, lt));
  left = refl;
}

-- ---- a key word: the key is met there, or the walk goes on past it
pub tracks_in : (words : List ℕ) (chains : ℕ → List ℕ) (k : ℕ) (t : Trail) (number : ℕ) → Tracks words chains k t number → InChain chains (home_of k) t.bucket
tracks_in words chains k t number h =
    let P : List ℕ → Type 0 = λ x. Contains x t.bucket in subst P (sym h.split) (Contains-append_right h.front (t.bucket ∷ h.rest) t.bucket (first_of t.bucket h.rest))

pub spot_of : (words : List ℕ) (chains : ℕ → List ℕ) (k : ℕ) (t : Trail) (number : ℕ) → Tracks words chains k t number → number ≤ 3 → IsSpotOf chains k (spot t.bucket number)
spot_of words chains k t number h le = record {
  i = number - 1;
  number = omega (arith, h.positive);
  place = record { has = tracks_in words chains k t number h; three = omega (arith, h.positive, le) };
}

pub tracks_past : (words : List ℕ) (chains : ℕ → List ℕ) (k : ℕ) (t : Trail) (number word : ℕ) → Tracks words chains k t number → bucket words t.bucket number ≢ k → Tracks words chains k (noted t number word) (number + 1)
tracks_past words chains k t number word h d = record {
  positive = omega arith;
  front = h.front;
  rest = h.rest;
  split = h.split;
  behind = h.behind;
  here = λ i il lt. elim (cases_eq (i + 1) number) [
    | inl e ↦ λ f. d (ap (λ z. bucket words t.bucket z) (sym e) ∙ f)
    | inr n ↦ h.here i il (omega (arith, lt, n))
  ];
  left = h.left;
}

pub free_past : (words : List ℕ) (chains : ℕ → List ℕ) (k : ℕ) (t : Trail) (number word : ℕ) → Tracks words chains k t number → number ≤ 3 → word ≡ bucket words t.bucket number → MayBeFree words chains k t.free
    → MayBeFree words chains k (noted t number word).free
free_past words chains k t number word h le w f = by_free t.free f where
  by_test : (b : Bool) → (word == 0) ≡ b → MayBeFree words chains k (if b then Some (spot t.bucket number) else None)
  by_test true e = record { spot = spot_of words chains k t number h le; free = sym w ∙ (let z : word ≡ 0 = grind (arith, nat_tests) in z) }
  by_test false e = record {}

  by_free : (free : Option Spot) → MayBeFree words chains k free → MayBeFree words chains k (first_free free (spot t.bucket number) word)
  by_free (Some s) f = f
  by_free None f = by_test (word == 0) refl

-- ---- the next word
leads_split : (words : List ℕ) (h : ℕ) (cs front : List ℕ) (b : ℕ) (rest : List ℕ) → Leads words h cs → h ∷ cs ≡ front ++ b ∷ rest → Leads words b rest
leads_split words h cs [] b rest l e =
    let P : ℕ → Type 0 = λ x. Leads words x cs in
    let Q : List ℕ → Type 0 = λ x. Leads words b x in
    let x : h ≡ b = cc in let y : cs ≡ rest = cc in subst Q y (subst P x l)
leads_split words h [] (f ∷ []) b rest l e = absurd (cc e)
leads_split words h [] (f ∷ g ∷ fs) b rest l e = absurd (cc e)
leads_split words h (c ∷ cs) (f ∷ fs) b rest l e = leads_split words c cs fs b rest l.3 (let x : c ∷ cs ≡ fs ++ b ∷ rest = cc in x)

leads_on : (words : List ℕ) (chains : ℕ → List ℕ) (s : StoreState) (k : ℕ) (t : Trail) → Represents words chains s → (a : Tracks words chains k t 4) → Leads words t.bucket a.rest
leads_on words chains s k t h a = leads_split words (home_of k) (chains (home_of k)) a.front t.bucket a.rest (h.reads.chains_are (home_of k) (home_below k)).leads a.split

-- the key stands at no place of the buckets so far
so_far : (words : List ℕ) (chains : ℕ → List ℕ) (k : ℕ) (t : Trail) → (a : Tracks words chains k t 4) → (b i : ℕ) → Contains (a.front ++ t.bucket ∷ []) b → i < 3 → bucket words b (i + 1) ≢ k
so_far words chains k t a b i m il = elim (Contains-append_cases a.front (t.bucket ∷ []) b m) [
  | inl x ↦ a.behind b i x il
  | inr y ↦ elim (first_or_behind t.bucket [] b y) [
    | inl f ↦ λ g. a.here i il (omega (arith, il)) (ap (λ x. bucket words x (i + 1)) f ∙ g)
    | inr n ↦ absurd (none_of b n)
  ]
]

-- what the index gives for a key that stands nowhere
given_none : (words : List ℕ) (chains : ℕ → List ℕ) (k : ℕ) (place : Option ℕ) → Stands words chains k place → ((b i : ℕ) → IsPlaceOf chains k b i → bucket words b (i + 1) ≢ k) → place ≡ None
given_none words chains k None h nowhere = refl
given_none words chains k (Some p) h nowhere = absurd (nowhere h.b h.i h.place h.key)

-- and for one that stands here
given_here : (words : List ℕ) (chains : ℕ → List ℕ) (k b i : ℕ) (place : Option ℕ) → Stands words chains k place → IsPlaceOf chains k b i → bucket words b (i + 1) ≡ k → place ≡ Some (bucket words b (i + 4))
given_here words chains k b i None h at is = absurd (h b i at is)
given_here words chains k b i (Some p) h at is =
    let o = h.only b i at is in
    ap (λ x. Some x) (sym h.word ∙ sym (ap (λ x. bucket words x (i + 4)) o.0 ∙ ap (λ x. bucket words h.b (x + 4)) o.1))

-- the next word ends the chain: the index gives nothing for the key
pub tracks_none : (words : List ℕ) (chains : ℕ → List ℕ) (s : StoreState) (k : ℕ) (t : Trail) → Represents words chains s → 0 < k → Tracks words chains k t 4 → bucket words t.bucket 7 ≡ 0 → s.index k ≡ None
tracks_none words chains s k t h kp a z = by_rest a.rest refl (leads_on words chains s k t h a) where
  by_rest : (rest : List ℕ) → a.rest ≡ rest → Leads words t.bucket rest → s.index k ≡ None
  by_rest [] e l = given_none words chains k (s.index k) (h.indexed.stands k kp) (λ b i p.
      let P : List ℕ → Type 0 = λ x. Contains x b in so_far words chains k t a b i (subst P (a.split ∙ ap (λ x. a.front ++ t.bucket ∷ x) e) p.has) p.three)
  by_rest (c ∷ cs) e l = absurd (omega (arith, z, l.0, l.1))

-- where it names no bucket, it ends the chain
pub next_none : (words : List ℕ) (chains : ℕ → List ℕ) (s : StoreState) (k : ℕ) (t : Trail) (word : ℕ) → Represents words chains s → Tracks words chains k t 4 → bucket words t.bucket 7 ≡ word → names_bucket word ≡ false → word ≡ 0
next_none words chains s k t word h a z none = by_rest a.rest (leads_on words chains s k t h a) where
  by_rest : (rest : List ℕ) → Leads words t.bucket rest → word ≡ 0
  by_rest [] l = sym z ∙ l
  by_rest (c ∷ cs) l = let low : 0 < word = omega (arith, z, l.0, l.1) in let high : word < 8192 = omega (arith, z, l.0, l.2) in absurd (grind (arith, nat_tests))

-- or it leads to the next bucket, which the walk may enter
pub tracks_on : (words : List ℕ) (chains : ℕ → List ℕ) (s : StoreState) (k : ℕ) (t : Trail) (word : ℕ) → Represents words chains s → Tracks words chains k t 4 → bucket words t.bucket 7 ≡ word → word ≢ 0
    → (t.left ≢ 0) × Tracks words chains k (trail word (t.left - 1) t.free) 1
tracks_on words chains s k t word h a z d = by_rest a.rest refl (leads_on words chains s k t h a) where
  chain : IsChain words (home_of k) (chains (home_of k))
  chain = h.reads.chains_are (home_of k) (home_below k)

  by_rest : (rest : List ℕ) → a.rest ≡ rest → Leads words t.bucket rest → (t.left ≢ 0) × Tracks words chains k (trail word (t.left - 1) t.free) 1
  by_rest [] e l = absurd (d (sym z ∙ l))
  by_rest (c ∷ cs) e l =
      let w : c ≡ word = sym l.0 ∙ z in
      let whole : home_of k ∷ chains (home_of k) ≡ a.front ++ t.bucket ∷ c ∷ cs = a.split ∙ ap (λ x. a.front ++ t.bucket ∷ x) e in
      let count : suc (length (chains (home_of k))) ≡ length a.front + suc (suc (length cs)) = ap length whole ∙ length-append a.front (t.bucket ∷ c ∷ cs) in
      let few = chain.few in
      let left = a.left in (
        λ z. absurd (omega (arith, count, few, left, z)),
        record {
          positive = omega arith;
          front = a.front ++ t.bucket ∷ [];
          rest = cs;
          split = whole ∙ ap (λ x. a.front ++ t.bucket ∷ x ∷ cs) w ∙ sym (append_assoc a.front (t.bucket ∷ []) (word ∷ cs));
          behind = λ b i m il. so_far words chains k t a b i m il;
          here = λ i il lt. absurd (omega (arith, lt));
          left = omega (arith, left, count, few, length-append a.front (t.bucket ∷ []));
        },
      )

-- ---- where the key was met the index gives the word beside it
pub met_index : (words : List ℕ) (chains : ℕ → List ℕ) (s : StoreState) (k : ℕ) (sp : Spot) → Represents words chains s → 0 < k → IsMet words chains k sp → s.index k ≡ Some (bucket words sp.bucket (sp.number + 3))
met_index words chains s k sp h kp a =
    let c = a.spot in
    given_here words chains k sp.bucket c.i (s.index k) (h.indexed.stands k kp) c.place (ap (λ z. bucket words sp.bucket z) (sym c.number) ∙ a.key)
    ∙ ap (λ z. Some (bucket words sp.bucket z)) (let z : c.i + 4 ≡ sp.number + 3 = omega (arith, c.number) in z)
