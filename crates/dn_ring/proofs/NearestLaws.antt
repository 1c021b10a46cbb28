use Rattle.std.proofs.Common.{◌≡◌, ℕ, ◌+◌, ◌*◌, ◌<◌, ◌≤◌, ◌||◌, ◌&&◌, Bool, true, false, List, Option, Some, None, slice_index, nat_eq, nat_lt, if◌then◌else◌, refl, below_more, subst, arith}
use Rattle.std.proofs.lemmas.Bool.Decides.{nat_tests}
use Rattle.dn_ring.specs.declared.points.Point.{Point}
use Rattle.dn_ring.specs.Ring.{point_of, distance}
use Rattle.dn_ring.specs.Counted.{nth_point, is_before, nearer_of}
use Rattle.dn_ring.proofs.PointLaws.{nth_at, IsNearest, IsNearestOf}

-- a number is no greater than another, and at an equal one its lane is no higher
record IsFirst (a b l m : ℕ) : Type 0 where
  pub low : a ≤ b
  pub lane : a ≡ b → l ≤ m

before : (a b l m : ℕ) → (nat_lt a b || (nat_eq a b && nat_lt l m)) ≡ true → IsFirst a b l m
before a b l m e = record { low = grind (arith, nat_tests); lane = λ same. grind (arith, nat_tests) }

after : (a b l m : ℕ) → (nat_lt a b || (nat_eq a b && nat_lt l m)) ≡ false → IsFirst b a m l
after a b l m e = record { low = grind (arith, nat_tests); lane = λ same. grind (arith, nat_tests) }

chosen : (live : List ℕ) (slot n : ℕ) (q : Point) → IsNearest live slot n q → (b : Bool) → is_before slot (nth_point live n) q ≡ b
    → IsNearest live slot (n + 1) (if b then nth_point live n else q)
chosen live slot n q near true e =
    let f : IsFirst (distance slot (nth_point live n).at) (distance slot q.at) (nth_point live n).lane q.lane = before _ _ _ _ e in
    record {
      number = n;
      counted = omega arith;
      same = refl;
      nearest = below_more (λ m. distance slot (nth_point live n).at ≤ distance slot (nth_point live m).at) n
          (λ m h. let o = near.nearest m h in omega (arith, o, f.low)) (omega arith);
      lowest = below_more (λ m. distance slot (nth_point live n).at ≡ distance slot (nth_point live m).at → (nth_point live n).lane ≤ (nth_point live m).lane) n
          (λ m h same. let o = near.nearest m h in let l = near.lowest m h in omega (arith, o, l, same, f.low, f.lane)) (λ _. omega arith);
    }
chosen live slot n q near false e =
    let f : IsFirst (distance slot q.at) (distance slot (nth_point live n).at) q.lane (nth_point live n).lane = after _ _ _ _ e in
    record {
      number = near.number;
      counted = omega (arith, near.counted);
      same = near.same;
      nearest = below_more (λ m. distance slot q.at ≤ distance slot (nth_point live m).at) n near.nearest f.low;
      lowest = below_more (λ m. distance slot q.at ≡ distance slot (nth_point live m).at → q.lane ≤ (nth_point live m).lane) n near.lowest f.lane;
    }

-- the nearest of one point more
nearest_nth : (live : List ℕ) (slot n : ℕ) (first : Option Point) → IsNearestOf live slot n first → IsNearestOf live slot (n + 1) (Some (nearer_of slot first (nth_point live n)))
nearest_nth live slot n None none = record {
  number = n;
  counted = omega arith;
  same = refl;
  nearest = below_more (λ m. distance slot (nth_point live n).at ≤ distance slot (nth_point live m).at) n (λ m h. absurd (omega arith)) (omega arith);
  lowest = below_more (λ m. distance slot (nth_point live n).at ≡ distance slot (nth_point live m).at → (nth_point live n).lane ≤ (nth_point live m).lane) n
      (λ m h _. absurd (omega arith)) (λ _. omega arith);
}
nearest_nth live slot n (Some q) near = chosen live slot n q near (is_before slot (nth_point live n) q) refl

pub nearest_more : (live : List ℕ) (slot k number lane : ℕ) (first : Option Point) → number < 16 → lane ≡ slice_index live k → IsNearestOf live slot (16 * k + number) first
    → IsNearestOf live slot (16 * k + (number + 1)) (Some (nearer_of slot first (record { at = point_of lane number; lane = lane })))
nearest_more live slot k number lane first below is near =
    let count : 16 * k + number + 1 ≡ 16 * k + (number + 1) = omega arith in
    subst (λ n. IsNearestOf live slot n (Some (nearer_of slot first (record { at = point_of lane number; lane = lane })))) count
    (subst (λ (p : Point). IsNearestOf live slot (16 * k + number + 1) (Some (nearer_of slot first p))) (nth_at live k number lane below is)
    (nearest_nth live slot (16 * k + number) first near))
