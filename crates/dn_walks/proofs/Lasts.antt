use Rattle.std.proofs.Common.{ℕ, ◌≡◌, List, ◌∷◌, ◌++◌, Contains, sym, ◌∙◌, ap, subst, append_assoc}
use Rattle.std.proofs.lemmas.List.Elements.{Contains-append_right, Contains-append_left}
use Rattle.dn_model.specs.Regions.{bucket, home_of}
use Rattle.dn_index.specs.declared.places.Spot.{Spot}
use Rattle.dn_index.specs.declared.places.Trail.{Trail}
use Rattle.dn_index.specs.declared.places.WalkPlace.{WalkPlace}
use Rattle.dn_index.specs.declared.places.WalkPlace.TheVariants.{Key, Next, Match, Counter, Claim, FillPlace, FillKey, Link}
use Rattle.dn_store.specs.Standing.{InChain}
use Rattle.dn_store.proofs.Frames.{first_of}
use Rattle.dn_beside.specs.Pool.{Pool}
use Rattle.dn_beside.specs.Chains.{IsPathKept}
use Rattle.dn_walks.specs.Trails.{Tracks, IsSpotOf, IsMet}
use Rattle.dn_walks.specs.Finding.{KnowsFind}

-- What a walk that finds knows lasts where its path is kept.

-- a place of the chain stays one
chain_more : (chains after : ℕ → List ℕ) (k b : ℕ) (more : List ℕ) → after (home_of k) ≡ chains (home_of k) ++ more → InChain chains (home_of k) b → InChain after (home_of k) b
chain_more chains after k b more e m = let P : List ℕ → Type 0 = λ x. Contains (home_of k ∷ x) b in subst P (sym e) (Contains-append_left (home_of k ∷ chains (home_of k)) more b m)

pub spot_more : (chains after : ℕ → List ℕ) (k : ℕ) (s : Spot) (more : List ℕ) → after (home_of k) ≡ chains (home_of k) ++ more → IsSpotOf chains k s → IsSpotOf after k s
spot_more chains after k s more e h = record { i = h.i; number = h.number; place = record { has = chain_more chains after k s.bucket more e h.place.has; three = h.place.three } }

pub tracks_last : (k : ℕ) (t : Trail) (number : ℕ) (p q : Pool) → IsPathKept k p q → Tracks p.words p.chains k t number → Tracks q.words q.chains k t number
tracks_last k t number p q u h =
    let whole : home_of k ∷ q.chains (home_of k) ≡ h.front ++ t.bucket ∷ (h.rest ++ u.more) =
    ap (λ x. home_of k ∷ x) u.grows ∙ ap (λ x. x ++ u.more) h.split ∙ append_assoc h.front (t.bucket ∷ h.rest) u.more in
    let has : (b : ℕ) → Contains (h.front ++ t.bucket ∷ h.rest) b → InChain p.chains (home_of k) b = λ b m. (let P : List ℕ → Type 0 = λ x. Contains x b in subst P (sym h.split) m) in
    record {
      positive = h.positive;
      front = h.front;
      rest = h.rest ++ u.more;
      split = whole;
      behind = λ c i m il e. h.behind c i m il ((u.keys c i (record { has = has c (Contains-append_left h.front (t.bucket ∷ h.rest) c m); three = il })).0 e);
      here = λ i il lt e. h.here i il lt ((u.keys t.bucket i (record { has = has t.bucket (Contains-append_right h.front (t.bucket ∷ h.rest) t.bucket (first_of t.bucket h.rest)); three = il })).0 e);
      left = h.left;
    }

pub met_lasts : (k : ℕ) (s : Spot) (p q : Pool) → IsPathKept k p q → IsMet p.words p.chains k s → IsMet q.words q.chains k s
met_lasts k s p q u h = record {
  spot = spot_more p.chains q.chains k s u.more u.grows h.spot;
  key = ap (λ z. bucket q.words s.bucket z) h.spot.number ∙ (u.keys s.bucket h.spot.i h.spot.place).1 (ap (λ z. bucket p.words s.bucket z) (sym h.spot.number) ∙ h.key);
}

pub find_lasts : (k : ℕ) (place : WalkPlace) (p q : Pool) → IsPathKept k p q → KnowsFind p.words p.chains k place → KnowsFind q.words q.chains k place
find_lasts k (Key errand t number) p q u h = (h.0, h.1, tracks_last k t number p q u h.2)
find_lasts k (Next errand t) p q u h = (h.0, tracks_last k t 4 p q u h.1)
find_lasts k (Match errand s) p q u h = (h.0, met_lasts k s p q u h.1)
find_lasts k (Counter at last) p q u h = absurd h
find_lasts k (Claim at last) p q u h = absurd h
find_lasts k (FillPlace at s from) p q u h = absurd h
find_lasts k (FillKey s from) p q u h = absurd h
find_lasts k (Link last new) p q u h = absurd h
