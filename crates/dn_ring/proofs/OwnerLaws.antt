use Rattle.std.proofs.Common.{◌≡◌, ◌≢◌, ℕ, ◌≤◌, List, sym, arith}
use Rattle.dn_ring.specs.Ring.{point_of, distance, IsOwner, IsOneMore}

-- a slot has one owner
pub one_owner : (live : List ℕ) (slot a b : ℕ) → IsOwner live slot a → IsOwner live slot b → a ≡ b
one_owner live slot a b x y =
    let le : distance slot (point_of a x.number) ≤ distance slot (point_of b y.number) = x.first.nearest b y.number y.is_live y.below in
    let ge : distance slot (point_of b y.number) ≤ distance slot (point_of a x.number) = y.first.nearest a x.number x.is_live x.below in
    let same : distance slot (point_of a x.number) ≡ distance slot (point_of b y.number) = omega arith in
    let ab : a ≤ b = x.first.lowest b y.number y.is_live y.below same in
    let ba : b ≤ a = y.first.lowest a x.number x.is_live x.below (sym same) in
    omega arith

-- an owner stays one where another lane is taken out
pub kept_owner : (lane : ℕ) (fewer more : List ℕ) (slot a : ℕ) → IsOneMore lane fewer more → IsOwner more slot a → a ≢ lane → IsOwner fewer slot a
kept_owner lane fewer more slot a one owner other = record {
  is_live = one.only a owner.is_live other;
  number = owner.number;
  below = owner.below;
  first = record {
    nearest = λ b n h. owner.first.nearest b n (one.kept b h);
    lowest = λ b n h. owner.first.lowest b n (one.kept b h);
  };
}

-- a lane that is added takes slots only for itself
pub added_takes : (lane : ℕ) (fewer more : List ℕ) (slot a b : ℕ) → IsOneMore lane fewer more → IsOwner fewer slot a → IsOwner more slot b → b ≢ lane → b ≡ a
added_takes lane fewer more slot a b one before after other = one_owner fewer slot b a (kept_owner lane fewer more slot b one after other) before
