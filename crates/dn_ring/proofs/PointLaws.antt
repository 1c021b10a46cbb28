use Rattle.std.proofs.Common.{◌≡◌, ℕ, ◌+◌, ◌*◌, ◌/◌, ◌%◌, ◌^◌, ◌<◌, ◌≤◌, List, [], ◌∷◌, Option, Some, None, Contains, fold, length, slice_index, sym, ◌∙◌, ap, subst, arith}
use Rattle.std.specs.Int.{w64, to_le_bytes}
use Rattle.std.proofs.lemmas.Grind.{get_or_default_zero}
use Rattle.std.proofs.lemmas.List.Elements.{Contains-get_or}
use Rattle.dn_word.specs.Hash.{hash_step}
use Rattle.dn_ring.specs.declared.points.Point.{Point}
use Rattle.dn_ring.specs.Ring.{point_of, distance, IsOwner}
use Rattle.dn_ring.specs.Counted.{nth_point}

-- the nearest of the first so many points, and of those as near one of the lowest lane
pub record IsNearest (live : List ℕ) (slot count : ℕ) (p : Point) : Type 0 where
  pub number : ℕ
  pub counted : number < count
  pub same : p ≡ nth_point live number
  pub nearest : (n : ℕ) → n < count → distance slot p.at ≤ distance slot (nth_point live n).at
  pub lowest : (n : ℕ) → n < count → distance slot p.at ≡ distance slot (nth_point live n).at
      → p.lane ≤ (nth_point live n).lane

-- the nearest of the first so many points, or none where there are none
abbrev pub IsNearestOf : List ℕ → ℕ → ℕ → Option Point → Type 0
IsNearestOf live slot count None = count ≡ 0
IsNearestOf live slot count (Some p) = IsNearest live slot count p

folded : (h : ℕ) (bytes : List ℕ) → h < 2 ^ 64 → fold hash_step h bytes < 2 ^ 64
folded h [] lt = lt
folded h (b ∷ bs) lt = folded (hash_step h b) bs (omega arith)

-- a point lies on the ring
pub point_below : (lane number : ℕ) → point_of lane number < 2 ^ 64
unfolding point_of
point_below lane number = folded 0xcbf29ce484222325 (to_le_bytes w64 (256 * lane + number)) (omega arith)

-- a point of a live lane by its number among all
pub record IsNumbered (live : List ℕ) (lane number n : ℕ) : Type 0 where
  pub below : n < 16 * length live
  pub same : nth_point live n ≡ record { at = point_of lane number; lane = lane }

placed : (l r lane number : ℕ) → l ≡ lane → r ≡ number → let p : Point = record { at = point_of l r; lane = l } in p ≡ record { at = point_of lane number; lane = lane }
placed l r lane number e d = cc

pub nth_at : (live : List ℕ) (k number lane : ℕ) → number < 16 → lane ≡ slice_index live k → nth_point live (16 * k + number) ≡ record { at = point_of lane number; lane = lane }
nth_at live k number lane below is =
    let q : (16 * k + number) / 16 ≡ k = omega arith in
    let r : (16 * k + number) % 16 ≡ number = omega arith in
    let l : slice_index live ((16 * k + number) / 16) ≡ lane = ap (λ i. slice_index live i) q ∙ sym is in
    placed _ _ lane number l r

pub numbered : (live : List ℕ) (lane number : ℕ) → Contains live lane → number < 16 → (n : ℕ) × IsNumbered live lane number n
numbered live lane number (k, within, there) below = (
  16 * k + number,
  record {
    below = omega arith;
    same = nth_at live k number lane below (sym there ∙ get_or_default_zero live k lane within);
  },
)

nearest_of : (live : List ℕ) (slot : ℕ) (p : Point) → IsNearest live slot (16 * length live) p → (number other n : ℕ) → p.at ≡ point_of p.lane number
    → (m : ℕ) × IsNumbered live other n m → distance slot (point_of p.lane number) ≤ distance slot (point_of other n)
nearest_of live slot p near number other n at (m, of) =
    let there : (nth_point live m).at ≡ point_of other n = ap (λ (q : Point). q.at) of.same in
    subst (λ a. distance slot a ≤ distance slot (point_of other n)) at (subst (λ a. distance slot p.at ≤ distance slot a) there (near.nearest m of.below))

lowest_of : (live : List ℕ) (slot : ℕ) (p : Point) → IsNearest live slot (16 * length live) p → (number other n : ℕ) → p.at ≡ point_of p.lane number
    → (m : ℕ) × IsNumbered live other n m → distance slot (point_of p.lane number) ≡ distance slot (point_of other n) → p.lane ≤ other
lowest_of live slot p near number other n at (m, of) same =
    let there : (nth_point live m).at ≡ point_of other n = ap (λ (q : Point). q.at) of.same in
    let lane : (nth_point live m).lane ≡ other = ap (λ (q : Point). q.lane) of.same in
    subst (λ l. p.lane ≤ l) lane (near.lowest m of.below (ap (distance slot) at ∙ same ∙ sym (ap (distance slot) there)))

-- the nearest of all points makes its lane the owner
pub nearest_owns : (live : List ℕ) (slot : ℕ) (p : Point) → IsNearest live slot (16 * length live) p → IsOwner live slot p.lane
nearest_owns live slot p near =
    let k : near.number / 16 < length live = omega (arith, near.counted) in
    let lane : p.lane ≡ slice_index live (near.number / 16) = ap (λ (q : Point). q.lane) near.same in
    let at : p.at ≡ point_of p.lane (near.number % 16) = ap (λ (q : Point). q.at) near.same ∙ ap (λ l. point_of l (near.number % 16)) (sym lane) in
    record {
      is_live = subst (λ l. Contains live l) (sym lane) (Contains-get_or live (near.number / 16) 0 k);
      number = near.number % 16;
      below = omega arith;
      first = record {
        nearest = λ other n h below. nearest_of live slot p near (near.number % 16) other n at (numbered live other n h below);
        lowest = λ other n h below. lowest_of live slot p near (near.number % 16) other n at (numbered live other n h below);
      };
    }
