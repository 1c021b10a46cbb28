use Rattle.std.proofs.Common.{ℕ, ◌+◌, ◌<◌, ◌≡◌, List, Option, Some, None, true, refl, sym, ◌∙◌, ap, subst, arith}
use Rattle.dn_word.specs.Ref.{ref_of}
use Rattle.dn_word.specs.declared.packed.place.Ref.{Ref}
use Rattle.dn_record.specs.declared.records.Record.{Record}
use Rattle.dn_model.specs.Regions.{bucket, IsLane}
use Rattle.dn_model.specs.Held.{is_authority, record_at}
use Rattle.dn_store.specs.Standing.{Stands}
use Rattle.dn_index.specs.declared.places.Spot.{Spot}
use Rattle.dn_index.specs.declared.places.WalkPlace.{WalkPlace}
use Rattle.dn_index.specs.declared.places.WalkPlace.TheVariants.{Key, Next, Match, Counter, Claim, FillPlace, FillKey, Link}
use Rattle.dn_merge.specs.Merge.{Merging}
use Rattle.dn_merge.specs.declared.places.MergePlace.{MergePlace}
use Rattle.dn_merge.specs.declared.places.MergePlace.TheVariants.{Gate, Mark, Directory, Header, Key as KeyOf, Walk, Pass}
use Rattle.dn_owners.proofs.Ats.{none_some, same_some}
use Rattle.dn_beside.specs.Pool.{Pool, store_in, IsWhole}
use Rattle.dn_walks.specs.Changing.{Fills, KnowsWalk}
use Rattle.dn_turns.specs.Knows.{KnowsMerge}
use Rattle.dn_machine.specs.State.{Machine}
use Rattle.dn_machine.specs.Sound.{IsMachineAt, IsSound}
use Rattle.dn_parts.specs.Sealed.{LeadsTo}
use Rattle.dn_parts.specs.Indexed.{StandsAt, new_from, new_at, new_in, new_of, IsNew, HasIndex}
use Rattle.dn_parts.proofs.PartsRead.{by_words, has_sealed, IsRecordAt, record_found}

-- The index, as a reader of the words finds it.

-- ---- where keys stand
-- the index gives the place of a key that stands in its chain, and there alone
record IsOnly (words : List ℕ) (chains : ℕ → List ℕ) (k b i : ℕ) (place : Option ℕ) : Type 0 where
  word : ℕ
  is : place ≡ Some word
  stands : bucket words b (i + 4) ≡ word
  only : (c j : ℕ) → StandsAt words chains k c j → (b ≡ c) × (i ≡ j)

is_only : (words : List ℕ) (chains : ℕ → List ℕ) (k b i : ℕ) (place : Option ℕ) → Stands words chains k place → StandsAt words chains k b i → IsOnly words chains k b i place
is_only words chains k b i None h x = absurd (h b i x.place x.key)
is_only words chains k b i (Some w) h x =
    let at = h.only b i x.place x.key in
    record {
      word = w;
      is = refl;
      stands = ap (λ c. bucket words c (i + 4)) at.0 ∙ ap (λ j. bucket words h.b (j + 4)) at.1 ∙ h.word;
      only = λ c j y. let other = h.only c j y.place y.key in (at.0 ∙ sym other.0, at.1 ∙ sym other.1);
    }

its_only : (p : Pool) (k b i : ℕ) → IsWhole p → 0 < k → StandsAt p.words p.chains k b i → IsOnly p.words p.chains k b i ((store_in p).index k)
its_only p k b i h pos x = is_only p.words p.chains k b i ((store_in p).index k) (h.represents.indexed.stands k pos) x

-- ---- where a place leads
leads_by : (p : Pool) (k w : ℕ) (r : Record) (o : Option Ref) → IsWhole p → ref_of w ≡ o → record_at (store_in p).logs o ≡ Some r → is_authority k r ≡ true → LeadsTo p.words k w
leads_by p k w r None h e f a = absurd (none_some r f)
leads_by p k w r (Some at) h e f a =
    let x : IsRecordAt at.offset ((store_in p).logs at.lane) r = record_found at.offset ((store_in p).logs at.lane) r f in
    record {
      at = at;
      names = e;
      p = x.p;
      offset = x.offset;
      of = record { sealed = has_sealed p at.lane x.p h x.has; authority = ap (is_authority k) x.entry ∙ a };
    }

leads : (p : Pool) (k b i : ℕ) → IsWhole p → 0 < k → StandsAt p.words p.chains k b i → LeadsTo p.words k (bucket p.words b (i + 4))
leads p k b i h pos x =
    let o : IsOnly p.words p.chains k b i ((store_in p).index k) = its_only p k b i h pos x in
    let l = h.sound.leading.leads k o.word o.is in
    let P : ℕ → Type 0 = λ w. LeadsTo p.words k w in
    subst P (sym o.stands) (leads_by p k o.word l.0 (ref_of o.word) h refl l.1 l.2)

-- ---- new buckets
fill_takes : (n k : ℕ) (p : Pool) (s : Spot) (from : Option ℕ) (c : ℕ) → Fills n k p s from → new_from s from ≡ Some c → (store_in p).takers c ≡ n
fill_takes n k p s None c h e = absurd (none_some c e)
fill_takes n k p s (Some last) c h e = ap (store_in p).takers (sym (same_some s.bucket c e)) ∙ h.1.taker

walk_takes : (n k : ℕ) (want : Option ℕ) (p : Pool) (w : WalkPlace) (c : ℕ) → KnowsWalk n k want p w → new_at w ≡ Some c → (store_in p).takers c ≡ n
walk_takes n k want p (Key errand t number) c h e = absurd (none_some c e)
walk_takes n k want p (Next errand t) c h e = absurd (none_some c e)
walk_takes n k want p (Match errand s) c h e = absurd (none_some c e)
walk_takes n k want p (Counter at last) c h e = absurd (none_some c e)
walk_takes n k want p (Claim at last) c h e = absurd (none_some c e)
walk_takes n k want p (FillPlace at s from) c h e = fill_takes n k p s from c h.1 e
walk_takes n k want p (FillKey s from) c h e = fill_takes n k p s from c h.1 e
walk_takes n k want p (Link last new) c h e = ap (store_in p).takers (sym (same_some new c e)) ∙ h.1

place_takes : (n : ℕ) (p : Pool) (x : MergePlace) (c : ℕ) → KnowsMerge n p x → new_in x ≡ Some c → (store_in p).takers c ≡ n
place_takes n p Gate c h e = absurd (none_some c e)
place_takes n p (Mark gate) c h e = absurd (none_some c e)
place_takes n p (Directory mark) c h e = absurd (none_some c e)
place_takes n p (Header mark from) c h e = absurd (none_some c e)
place_takes n p (KeyOf mark from to change) c h e = absurd (none_some c e)
place_takes n p (Walk to w) c h e = walk_takes n w.key _ p w.place c h.walk e
place_takes n p (Pass to) c h e = absurd (none_some c e)

-- the bucket is that merger's
record IsTaken (p : Pool) (n c : ℕ) : Type 0 where
  lane : IsLane n
  taker : (store_in p).takers c ≡ n

takes_by : (p : Pool) (m : Machine) (n c : ℕ) (o : Option Merging) → IsMachineAt p m → m.mergers n ≡ o → new_of o ≡ Some c → IsTaken p n c
takes_by p m n c None h is e = absurd (none_some c e)
takes_by p m n c (Some x) h is e = record { lane = h.actors.numbers n x is; taker = place_takes n p x.place c (h.know.mergers n x is).knows e }

takes : (p : Pool) (m : Machine) (n c : ℕ) → IsMachineAt p m → new_of (m.mergers n) ≡ Some c → IsTaken p n c
takes p m n c h e = takes_by p m n c (m.mergers n) h refl e

new_is : (p : Pool) (m : Machine) (n c : ℕ) → IsMachineAt p m → new_of (m.mergers n) ≡ Some c → IsNew p.words p.chains c
new_is p m n c h e =
    let t : IsTaken p n c = takes p m n c h e in
    let o = h.whole.represents.overflow in
    let some : 0 < (store_in p).takers c = omega (arith, t.taker, t.lane.positive) in
    let low = o.taken c some in
    record {
      least = low.0;
      most = low.2;
      claimed = omega (arith, low.1, h.whole.represents.table.bucket_count);
      loose = λ home lt has. o.loose c home some lt has;
      zeros = λ i lt u v. o.new c i some lt u v;
    }

-- ---- all of it
index_at : (p : Pool) (m : Machine) → IsMachineAt p m → HasIndex (record m { words = p.words })
index_at p m h =
    let i = h.whole.represents.indexed in
    let o = h.whole.represents.overflow in
    let count = h.whole.represents.table.bucket_count in
    record {
      chains = p.chains;
      leads = h.whole.represents.reads.chains_are;
      rise = o.rise;
      apart = i.apart;
      claimed = λ home c lt has. omega (arith, o.claimed home c lt has, count);
      untouched = λ c j le lt few. o.untouched c j (omega (arith, le, count)) lt few;
      new = λ n c e. new_is p m n c h e;
      own = λ n k c e f. sym (takes p m n c h e).taker ∙ (takes p m k c h f).taker;
      homed = i.homed;
      once = λ k b j c d pos x y. (its_only p k b j h.whole pos x).only c d y;
      places = λ k b j pos x. leads p k b j h.whole pos x;
    }

pub has_index : (segments : ℕ) (m : Machine) → IsSound segments m → HasIndex m
has_index segments m h = by_words HasIndex h.p m h.at.words (index_at h.p m h.at)
