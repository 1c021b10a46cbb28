use Rattle.std.specs.Prelude.{◌≡◌, ◌≢◌, ℕ, ◌/◌, ◌%◌, ◌^◌, ◌<◌, ◌≤◌, ◌||◌, ◌&&◌, Bool, List, Option, Some, None, length, nat_eq, nat_lt, slice_index, slice_index_or, slice_set, if◌then◌else◌}
use Rattle.dn_ring.specs.declared.points.Point.{Point}
use Rattle.dn_ring.specs.Ring.{point_of, distance}

-- the points of the live lanes, counted: 16 of the first lane, then 16 of the next
abbrev pub nth_point : List ℕ → ℕ → Point
nth_point live n = record { at = point_of (slice_index live (n / 16)) (n % 16); lane = slice_index live (n / 16) }

-- the arc that a point lies in: the slot whose 2^58 places are around it
abbrev pub arc_of : Point → ℕ
arc_of p = p.at / 2 ^ 58

-- of two points in one arc the lower, or the one that was there
abbrev pub lower_of : Option Point → Point → Point
lower_of None p = p
lower_of (Some q) p = if nat_lt p.at q.at then p else q

-- the first points of the arcs with one point more
abbrev pub noted : List (Option Point) → Point → List (Option Point)
noted firsts p = slice_set firsts (arc_of p) (Some (lower_of (slice_index_or firsts (arc_of p) None) p))

-- a point stands before another on the ring, or at its place and is of no higher lane
pub record IsLower (p q : Point) : Type 0 where
  pub at : p.at ≤ q.at
  pub lane : p.at ≡ q.at → p.lane ≤ q.lane

-- the lowest of the first so many points that lie in an arc
pub record IsLowest (live : List ℕ) (count arc : ℕ) (p : Point) : Type 0 where
  pub number : ℕ
  pub counted : number < count
  pub same : p ≡ nth_point live number
  pub there : arc_of p ≡ arc
  pub lowest : (n : ℕ) → n < count → arc_of (nth_point live n) ≡ arc → IsLower p (nth_point live n)

-- an arc's first point among the first so many, or that none of them lies there
abbrev pub IsFirstOf : List ℕ → ℕ → ℕ → Option Point → Type 0
IsFirstOf live count arc None = (n : ℕ) → n < count → arc_of (nth_point live n) ≢ arc
IsFirstOf live count arc (Some p) = IsLowest live count arc p

-- each of the 64 arcs with its first point
pub record AreFirsts (live : List ℕ) (count : ℕ) (firsts : List (Option Point)) : Type 0 where
  pub all : length firsts ≡ 64
  pub each : (arc : ℕ) → arc < 64 → IsFirstOf live count arc (slice_index_or firsts arc None)

-- whether a point is met before another from where a slot begins: it is nearer, or as near and of a lower lane
abbrev pub is_before : ℕ → Point → Point → Bool
is_before slot p q = nat_lt (distance slot p.at) (distance slot q.at)
    || (nat_eq (distance slot p.at) (distance slot q.at) && nat_lt p.lane q.lane)

-- of two points the one that is met first, or the one that was there
abbrev pub nearer_of : ℕ → Option Point → Point → Point
nearer_of slot None p = p
nearer_of slot (Some q) p = if is_before slot p q then p else q
