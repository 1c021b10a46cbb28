use Rattle.std.proofs.Common.{ℕ, ◌+◌, ◌<◌, ◌≡◌, inl, inr, length, slice_index, sym, ◌∙◌, ap, subst, arith}
use Rattle.std.proofs.lemmas.List.Elements.{All-get_or}
use Rattle.dn_model.specs.Regions.{directory, IsLane}
use Rattle.dn_log.specs.Log.{Log, reach_of}
use Rattle.dn_lane.specs.State.{LaneState}
use Rattle.dn_beside.specs.Pool.{Pool, store_in}
use Rattle.dn_reach.specs.OwnLog.{HoldsLog}
use Rattle.dn_reach.proofs.Within.{reach_longer, spare_last}
use Rattle.dn_owners.proofs.Ats.{same_some}
use Rattle.dn_machine.specs.State.{Machine}
use Rattle.dn_machine.specs.Sound.{IsMachineAt, IsSound}
use Rattle.dn_parts.specs.Space.{Names, Spares, Has, HasSpace}
use Rattle.dn_parts.proofs.PartsRead.{by_words, seen, lane_of}

-- No two lanes have the same segment.

-- ---- a segment that a lane has is held by it
record IsHolding (p : Pool) (n q g : ℕ) : Type 0 where
  lane : IsLane n
  holder : (store_in p).holders g ≡ n

spare_at : (p : Pool) (m : Machine) (n q g : ℕ) (s : Spares (seen p m) n q g) → slice_index (reach_of s.l.base.known.log) q ≡ g
spare_at p m n q g s = ap (slice_index (reach_of s.l.base.known.log)) (sym s.next) ∙ spare_last s.l.base.known.log g s.spare

spare_inside : (p : Pool) (m : Machine) (n q g : ℕ) (s : Spares (seen p m) n q g) → q < length (reach_of s.l.base.known.log)
spare_inside p m n q g s = omega (arith, reach_longer s.l.base.known.log g s.spare, s.next)

held_by : (p : Pool) (m : Machine) (n q g : ℕ) → IsMachineAt p m → Has (seen p m) n q g → IsHolding p n q g
held_by p m n q g h (inl x) = record { lane = x.lane; holder = h.whole.represents.space.named n q g x.lane x.low x.word }
held_by p m n q g h (inr s) =
    let log : Log = s.l.base.known.log in
    record {
      lane = lane_of p m n s.l h s.runs;
      holder = ap (store_in p).holders (sym (spare_at p m n q g s))
          ∙ All-get_or (λ x. (store_in p).holders x ≡ n) (reach_of log) q 0 (spare_inside p m n q g s) (h.know.lanes n s.l s.runs).log.holders;
    }

-- ---- for one place
-- where the directory names the spare, it is for the place that this is to have
spare_named : (p : Pool) (m : Machine) (n q r g : ℕ) → IsMachineAt p m → Names p.words n q g → Spares (seen p m) n r g → q ≡ r
spare_named p m n q r g h x s =
    let log : Log = s.l.base.known.log in
    let own : HoldsLog p n log = (h.know.lanes n s.l s.runs).log in
    let P : ℕ → Type 0 = λ i. directory p.words i q ≡ g + 1 in
    let here : directory p.words log.lane q ≡ g + 1 = subst P (sym own.lane) x.word in
    let more = own.directory.no_more q x.low (omega (arith, here)) in
    own.apart.each q r more.0 (spare_inside p m n r g s) (omega (arith, more.1, here, spare_at p m n r g s))

spare_once : (p : Pool) (m : Machine) (n q r g : ℕ) (s : Spares (seen p m) n q g) (t : Spares (seen p m) n r g) → q ≡ r
spare_once p m n q r g s t =
    let same : s.l ≡ t.l = same_some s.l t.l (sym s.runs ∙ t.runs) in
    sym s.next ∙ ap (λ (l : LaneState). length l.base.known.log.segments) same ∙ t.next

once_by : (p : Pool) (m : Machine) (n q r g : ℕ) → IsMachineAt p m → Has (seen p m) n q g → Has (seen p m) n r g → q ≡ r
once_by p m n q r g h (inl x) (inl y) = h.whole.represents.space.once n q r x.lane x.low y.low (x.word ∙ sym y.word) (omega (arith, x.word))
once_by p m n q r g h (inl x) (inr t) = spare_named p m n q r g h x t
once_by p m n q r g h (inr s) (inl y) = sym (spare_named p m n r q g h y s)
once_by p m n q r g h (inr s) (inr t) = spare_once p m n q r g s t

once : (p : Pool) (m : Machine) (n q k r g : ℕ) → IsMachineAt p m → Has (seen p m) n q g → Has (seen p m) k r g → (n ≡ k) × (q ≡ r)
once p m n q k r g h x y =
    let same : n ≡ k = sym (held_by p m n q g h x).holder ∙ (held_by p m k r g h y).holder in
    let P : ℕ → Type 0 = λ i. Has (seen p m) i r g in
    (same, once_by p m n q r g h x (subst P (sym same) y))

-- ---- all of it
space_at : (segments : ℕ) (p : Pool) (m : Machine) → IsMachineAt p m → (store_in p).pool ≡ segments → HasSpace segments (seen p m)
space_at segments p m h e =
    let t = h.whole.represents.table in
    let P : ℕ → Type 0 = λ i. HasSpace i (seen p m) in
    subst P e (record {
      few = h.room.pool;
      size = t.size;
      format = t.format;
      claimed = λ n q g x.
          let held : IsHolding p n q g = held_by p m n q g h x in
          let low = h.whole.represents.space.claimed g (omega (arith, held.holder, held.lane.positive)) in
          (omega (arith, low.0, t.segment_count), low.1);
      once = λ n q k r g x y. once p m n q k r g h x y;
      segment_count = omega (arith, h.room.segments, t.segment_count);
      bucket_count = omega (arith, h.room.buckets, t.bucket_count);
    })

pub has_space : (segments : ℕ) (m : Machine) → IsSound segments m → HasSpace segments m
has_space segments m h = by_words (HasSpace segments) h.p m h.at.words (space_at segments h.p m h.at h.pool)
