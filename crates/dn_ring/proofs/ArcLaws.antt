use Rattle.std.proofs.Common.{length-set, replicate, zero, suc, ◌-◌, ◌%◌, ◌≡◌, ◌≢◌, ℕ, ◌+◌, ◌*◌, ◌/◌, ◌<◌, ◌≤◌, ◌⊎◌, inl, inr, Bool, true, false, List, Option, Some, None, length, nat_lt, slice_index, slice_index_or, slice_set, get_or-set_same, get_or-set_other, if◌then◌else◌, refl, below_more, sym, subst, ap, arith}
use Rattle.std.specs.List.Sorted.{IsStrictlyIncreasing}
use Rattle.std.proofs.lemmas.Bool.{cases_eq, ltb-true}
use Rattle.std.proofs.lemmas.List.{get_or-replicate, length-replicate}
use Rattle.std.proofs.lemmas.Bool.Decides.{nat_tests}
use Rattle.dn_ring.specs.declared.points.Point.{Point}
use Rattle.dn_ring.specs.Ring.{point_of}
use Rattle.dn_ring.specs.Counted.{nth_point, arc_of, lower_of, noted, IsLower, IsLowest, IsFirstOf, AreFirsts}
use Rattle.dn_ring.proofs.PointLaws.{nth_at, point_below}

rises : (live : List ℕ) → IsStrictlyIncreasing live → (i d : ℕ) → i + d < length live → slice_index live i ≤ slice_index live (i + d)
rises live up i zero h = let e : i + 0 ≡ i = omega arith in subst (λ k. slice_index live i ≤ slice_index live k) (sym e) (omega arith)
rises live up i (suc d) h =
    let below : slice_index live i ≤ slice_index live (i + d) = rises live up i d (omega arith) in
    let next : slice_index live (i + d) < slice_index live (i + d + 1) = up (i + d) (omega arith) in
    let e : i + d + 1 ≡ i + suc d = omega arith in
    subst (λ k. slice_index live i ≤ slice_index live k) e (omega arith)

-- of two points the one that is counted first is of no higher lane
lane_rises : (live : List ℕ) → IsStrictlyIncreasing live → (m n : ℕ) → m < n → n < 16 * length live → (nth_point live m).lane ≤ (nth_point live n).lane
lane_rises live up m n lt h =
    let e : m / 16 + (n / 16 - m / 16) ≡ n / 16 = omega arith in
    subst (λ k. slice_index live (m / 16) ≤ slice_index live k) e (rises live up (m / 16) (n / 16 - m / 16) (omega arith))

lower_self : (p : Point) → IsLower p p
lower_self p = record { at = omega arith; lane = λ _. omega arith }

-- a point that lies in the arc of a first one
picked : (live : List ℕ) → IsStrictlyIncreasing live → (n arc : ℕ) → n < 16 * length live → arc_of (nth_point live n) ≡ arc → (q : Point) → IsLowest live n arc q
    → (b : Bool) → nat_lt (nth_point live n).at q.at ≡ b → IsLowest live (n + 1) arc (if b then nth_point live n else q)
picked live up n arc within there q low true e =
    let lt : (nth_point live n).at < q.at = ltb-true _ _ e in
    record {
      number = n;
      counted = omega arith;
      same = refl;
      there = there;
      lowest = below_more (λ m. arc_of (nth_point live m) ≡ arc → IsLower (nth_point live n) (nth_point live m)) n
          (λ m h a. let o = (low.lowest m h a).at in record { at = omega (arith, o, lt); lane = λ same. absurd (omega (arith, o, lt, same)) })
          (λ _. lower_self (nth_point live n));
    }
picked live up n arc within there q low false e =
    let le : q.at ≤ (nth_point live n).at = grind (arith, nat_tests) in
    let was : (nth_point live low.number).lane ≤ (nth_point live n).lane = lane_rises live up low.number n low.counted within in
    let lane : q.lane ≡ (nth_point live low.number).lane = ap (λ (p : Point). p.lane) low.same in
    record {
      number = low.number;
      counted = omega (arith, low.counted);
      same = low.same;
      there = low.there;
      lowest = below_more (λ m. arc_of (nth_point live m) ≡ arc → IsLower q (nth_point live m)) n low.lowest
          (λ _. record { at = le; lane = λ _. omega (arith, was, lane) });
    }

inside : (live : List ℕ) → IsStrictlyIncreasing live → (n arc : ℕ) → n < 16 * length live → arc_of (nth_point live n) ≡ arc → (first : Option Point) → IsFirstOf live n arc first
    → IsFirstOf live (n + 1) arc (Some (lower_of first (nth_point live n)))
inside live up n arc within there None none = record {
  number = n;
  counted = omega arith;
  same = refl;
  there = there;
  lowest = below_more (λ m. arc_of (nth_point live m) ≡ arc → IsLower (nth_point live n) (nth_point live m)) n (λ m h a. absurd (none m h a)) (λ _. lower_self (nth_point live n));
}
inside live up n arc within there (Some q) low = picked live up n arc within there q low (nat_lt (nth_point live n).at q.at) refl

outside : (live : List ℕ) (n arc : ℕ) → arc_of (nth_point live n) ≢ arc → (first : Option Point) → IsFirstOf live n arc first → IsFirstOf live (n + 1) arc first
outside live n arc other None none = below_more (λ m. arc_of (nth_point live m) ≢ arc) n none other
outside live n arc other (Some q) low = record {
  number = low.number;
  counted = omega (arith, low.counted);
  same = low.same;
  there = low.there;
  lowest = below_more (λ m. arc_of (nth_point live m) ≡ arc → IsLower q (nth_point live m)) n low.lowest (λ a. absurd (other a));
}

arc_below : (live : List ℕ) (n : ℕ) → arc_of (nth_point live n) < 64
arc_below live n = let h = point_below (slice_index live (n / 16)) (n % 16) in omega (arith, h)

noted_at : (live : List ℕ) → IsStrictlyIncreasing live → (n : ℕ) (firsts : List (Option Point)) → n < 16 * length live → AreFirsts live n firsts
    → (arc : ℕ) → arc < 64 → (arc_of (nth_point live n) ≡ arc) ⊎ (arc_of (nth_point live n) ≢ arc)
    → IsFirstOf live (n + 1) arc (slice_index_or (noted firsts (nth_point live n)) arc None)
noted_at live up n firsts within are arc below (inl there) =
    let p : Point = nth_point live n in
    let v : Option Point = Some (lower_of (slice_index_or firsts (arc_of (nth_point live n)) None) (nth_point live n)) in
    let h : arc_of (nth_point live n) < length firsts = omega (arith, are.all, arc_below live n) in
    let same : slice_index_or (slice_set firsts (arc_of (nth_point live n)) v) (arc_of (nth_point live n)) None ≡ v = get_or-set_same firsts (arc_of (nth_point live n)) v None h in
    subst (λ a. IsFirstOf live (n + 1) a (slice_index_or (noted firsts (nth_point live n)) a None)) there
    (subst (λ (f : Option Point). IsFirstOf live (n + 1) (arc_of (nth_point live n)) f) (sym same)
    (inside live up n (arc_of (nth_point live n)) within refl (slice_index_or firsts (arc_of (nth_point live n)) None)
    (are.each (arc_of (nth_point live n)) (arc_below live n))))
noted_at live up n firsts within are arc below (inr other) =
    let v : Option Point = Some (lower_of (slice_index_or firsts (arc_of (nth_point live n)) None) (nth_point live n)) in
    let same : slice_index_or (slice_set firsts (arc_of (nth_point live n)) v) arc None ≡ slice_index_or firsts arc None =
    get_or-set_other firsts (arc_of (nth_point live n)) arc v None (λ e. other (sym e)) in
    subst (λ (f : Option Point). IsFirstOf live (n + 1) arc f) (sym same) (outside live n arc other (slice_index_or firsts arc None) (are.each arc below))

-- the firsts with one point more
noted_nth : (live : List ℕ) → IsStrictlyIncreasing live → (n : ℕ) (firsts : List (Option Point)) → n < 16 * length live → AreFirsts live n firsts
    → AreFirsts live (n + 1) (noted firsts (nth_point live n))
noted_nth live up n firsts within are = record {
  all = simp length-set are.all;
  each = λ arc below. noted_at live up n firsts within are arc below (cases_eq (arc_of (nth_point live n)) arc);
}

pub noted_more : (live : List ℕ) → IsStrictlyIncreasing live → (k number lane : ℕ) (firsts : List (Option Point)) → k < length live → number < 16 → lane ≡ slice_index live k
    → AreFirsts live (16 * k + number) firsts
    → AreFirsts live (16 * k + (number + 1)) (noted firsts (record { at = point_of lane number; lane = lane }))
noted_more live up k number lane firsts within below is are =
    let count : 16 * k + number + 1 ≡ 16 * k + (number + 1) = omega arith in
    subst (λ n. AreFirsts live n (noted firsts (record { at = point_of lane number; lane = lane }))) count
    (subst (λ (p : Point). AreFirsts live (16 * k + number + 1) (noted firsts p)) (nth_at live k number lane below is)
    (noted_nth live up (16 * k + number) firsts (omega arith) are))

-- no point so far
pub none_first : (live : List ℕ) → AreFirsts live 0 (replicate 64 None)
none_first live = record {
  all = length-replicate {A = Option Point} 64 None;
  each = λ arc below. subst (λ (f : Option Point). IsFirstOf live 0 arc f) (sym (get_or-replicate 64 arc None None below)) (λ n h. absurd (omega arith));
}
