use Rattle.std.proofs.Common.{ℕ, ◌+◌, ◌-◌, ◌%◌, ◌^◌, ◌==◌, ◌<◌, ◌≡◌, ◌≢◌, inl, inr, Bool, true, false, nat_lt, if◌then◌else◌, List, [], ◌∷◌, ◌++◌, Option, Some, None, refl, sym, ◌∙◌, ap, subst, arith, slice_set, append-nil}
use Rattle.std.proofs.lemmas.Bool.Decides.{nat_tests}
use Rattle.std.proofs.lemmas.List.{set-get_or}
use Rattle.dn_word.specs.Ref.{ref_word}
use Rattle.dn_word.specs.declared.packed.place.Ref.{Ref}
use Rattle.dn_act.specs.Action.{words_after, Performs}
use Rattle.dn_act.specs.declared.actions.Action.TheVariants.{Load, Store, Add}
use Rattle.dn_act.specs.Words.{word_at}
use Rattle.dn_act.proofs.Words.{word_at-set_other}
use Rattle.dn_model.specs.Regions.{bucket, bucket_at, home_of}
use Rattle.dn_model.proofs.HashLaws.{home_below}
use Rattle.dn_index.specs.declared.places.Spot.{Spot}
use Rattle.dn_index.specs.declared.places.Trail.{Trail}
use Rattle.dn_index.specs.declared.places.Errand.{Errand}
use Rattle.dn_index.specs.declared.places.Errand.TheVariants.{Find, Set, Remove}
use Rattle.dn_index.specs.declared.places.WalkPlace.{WalkPlace}
use Rattle.dn_index.specs.declared.places.WalkPlace.TheVariants.{Key, Next, Match, Counter, Claim, FillPlace, FillKey, Link}
use Rattle.dn_index.specs.declared.places.WalkTurn.TheVariants.{IndexFull}
use Rattle.dn_index.specs.declared.places.Step.{Step}
use Rattle.dn_index.specs.declared.places.Step.TheVariants.{On, End}
use Rattle.dn_index.specs.Walk.{Walking, walk_next, spot, trail, key_at, place_at, next_at, noted, past, names_bucket, onward, filling, at_end, step_at}
use Rattle.dn_store.specs.State.{with_at}
use Rattle.dn_store.specs.Overflow.{with_bucket}
use Rattle.dn_store.specs.Represents.{Represents}
use Rattle.dn_store.proofs.At.{at_same, at_other}
use Rattle.dn_store.proofs.Stores.{IsStored}
use Rattle.dn_store.proofs.Buckets.{bucket_stored, taken_in_none, place_filled, place_replaced, key_stored, key_cleared, own_placed, own_keyed}
use Rattle.dn_store.proofs.Claims.{bucket_claim, bucket_miss}
use Rattle.dn_store.proofs.Links.{link}
use Rattle.dn_beside.specs.Pool.{Pool, store_in}
use Rattle.dn_walks.specs.Trails.{Tracks, MayBeFree}
use Rattle.dn_walks.specs.IndexStep.{IndexState, with_index, IsIndexStep}
use Rattle.dn_walks.specs.Changing.{Wants, KnowsWalk, KnowsStep, asks_at, IsWalked}
use Rattle.dn_walks.proofs.Trails.{tracks_in, spot_of, tracks_past, free_past, tracks_none, next_none, tracks_on}
use Rattle.dn_walks.proofs.Seen.{index_of, seen_load, counted_index, seen_count, stored_index, seen_store}

-- A step of a merger's walk, place by place.

-- ---- what each rests on, and that the counter doesn't overflow where it is added to
pub record IsOn (n k : ℕ) (p : Pool) : Type 0 where
  pub was : Represents p.words p.chains (store_in p)
  pub lane : 0 < n
  pub key : 0 < k

abbrev pub IsFew : Pool → WalkPlace → Type 0
IsFew p place = asks_at place ≡ 1 → (store_in p).bucket_count + 1 < 2 ^ 64

pub record IsAt (n k : ℕ) (p : Pool) : Type 0 where
  pub was : Represents p.words p.chains (store_in p)
  pub lane : 0 < n
  pub key : 0 < k
  pub few : (store_in p).bucket_count + 1 < 2 ^ 64

-- what comes of an action, by the step to which it leads
record Comes (n : ℕ) (want : Option ℕ) (p : Pool) (place : WalkPlace) (k : ℕ) (step : Step) (now : List ℕ) : Type 0 where
  index : IndexState
  words : index.words ≡ now
  is : IsIndexStep n k want p index
  knows : KnowsStep n k want (with_index p index) step
  count : index.bucket_count ≡ (store_in p).bucket_count + asks_at place

-- ---- the places that load
loaded : (n k : ℕ) (want : Option ℕ) (p : Pool) (now : List ℕ) (at : ℕ) (place : WalkPlace) (step : Step) → asks_at place ≡ 0 → now ≡ words_after (Load at) p.words → Represents p.words p.chains (store_in p)
    → KnowsStep n k want p step → Comes n want p place k step now
loaded n k want p now at place step asks e h a = record {
  index = index_of p;
  words = sym (e ∙ set-get_or p.words at 0);
  is = seen_load n k want p h;
  knows = a;
  count = omega (arith, asks);
}

key_step : (n k : ℕ) (want : Option ℕ) (p : Pool) (errand : Errand) (t : Trail) (number word : ℕ) (now : List ℕ) → Represents p.words p.chains (store_in p) → KnowsWalk n k want p (Key errand t number)
    → Performs (Load (bucket_at t.bucket number)) word p.words now → Comes n want p (Key errand t number) k (step_at k (Key errand t number) word) now
key_step n k want p errand t number word now h a e = loaded n k want p now (bucket_at t.bucket number) (Key errand t number) (step_at k (Key errand t number) word) refl e.change h (by_key (word == k) refl) where
  by_number : (b : Bool) → (number == 3) ≡ b → bucket p.words t.bucket number ≢ k → KnowsStep n k want p (if b then On (Next errand (noted t number word)) else On (Key errand (noted t number word) (number + 1)))
  by_number true f d = (
    a.0,
    (let P : ℕ → Type 0 = λ x. Tracks p.words p.chains k (noted t number word) x in subst P (let z : number + 1 ≡ 4 = grind (arith, nat_tests) in z) (tracks_past p.words p.chains k t number word a.2 d)),
    free_past p.words p.chains k t number word a.2 a.1 e.answer a.3,
  )
  by_number false f d = (
    a.0,
    (let le = a.1 in let z : number ≢ 3 = grind (arith, nat_tests) in omega (arith, le, z)),
    tracks_past p.words p.chains k t number word a.2 d,
    free_past p.words p.chains k t number word a.2 a.1 e.answer a.3,
  )

  by_key : (b : Bool) → (word == k) ≡ b → KnowsStep n k want p (if b then On (Match errand (spot t.bucket number)) else past errand (noted t number word) number)
  by_key true f = (a.0, record { spot = spot_of p.words p.chains k t number a.2 a.1; key = sym e.answer ∙ (let z : word ≡ k = grind (arith, nat_tests) in z) })
  by_key false f = by_number (number == 3) refl (λ g. let z : word ≢ k = grind (arith, nat_tests) in z (e.answer ∙ g))

next_step : (n k : ℕ) (want : Option ℕ) (p : Pool) (errand : Errand) (t : Trail) (word : ℕ) (now : List ℕ) → IsOn n k p → KnowsWalk n k want p (Next errand t)
    → Performs (Load (bucket_at t.bucket 7)) word p.words now → Comes n want p (Next errand t) k (step_at k (Next errand t) word) now
next_step n k want p errand t word now g a e = loaded n k want p now (bucket_at t.bucket 7) (Next errand t) (step_at k (Next errand t) word) refl e.change g.was (by_word (names_bucket word) refl) where
  none : bucket p.words t.bucket 7 ≡ 0 → (store_in p).index k ≡ None
  none z = tracks_none p.words p.chains (store_in p) k t g.was g.key a.1 z

  fills : bucket p.words t.bucket 7 ≡ 0 → (free : Option Spot) → MayBeFree p.words p.chains k free → (at : Ref) → want ≡ Some (ref_word at) → KnowsStep n k want p (filling at t.bucket free)
  fills z (Some f) y at w = (w, (y, none z))
  fills z None y at w = (w, record { has = tracks_in p.words p.chains k t 4 a.1; end = z; absent = none z })

  ended : bucket p.words t.bucket 7 ≡ 0 → (x : Errand) → Wants want x → KnowsStep n k want p (at_end x t)
  ended z Find w = absurd w
  ended z (Set at) w = fills z t.free a.2 at w
  ended z Remove w = none z ∙ sym w

  by_left : (b : Bool) → (t.left == 0) ≡ b → word ≢ 0 → KnowsStep n k want p (if b then at_end errand t else On (Key errand (trail word (t.left - 1) t.free) 1))
  by_left true f d = absurd ((tracks_on p.words p.chains (store_in p) k t word g.was a.1 (sym e.answer) d).0 (let z : t.left ≡ 0 = grind (arith, nat_tests) in z))
  by_left false f d = (a.0, omega arith, (tracks_on p.words p.chains (store_in p) k t word g.was a.1 (sym e.answer) d).1, a.2)

  by_word : (b : Bool) → names_bucket word ≡ b → KnowsStep n k want p (if b then onward errand t word else at_end errand t)
  by_word true f = by_left (t.left == 0) refl (let z : word ≢ 0 = grind (arith, nat_tests) in z)
  by_word false f = ended (sym e.answer ∙ next_none p.words p.chains (store_in p) k t word g.was a.1 (sym e.answer) f) errand a.0

counter_step : (n k : ℕ) (want : Option ℕ) (p : Pool) (at : Ref) (last word : ℕ) (now : List ℕ) → Represents p.words p.chains (store_in p) → KnowsWalk n k want p (Counter at last) → Performs (Load 3) word p.words now
    → Comes n want p (Counter at last) k (step_at k (Counter at last) word) now
counter_step n k want p at last word now h a e = loaded n k want p now 3 (Counter at last) (step_at k (Counter at last) word) refl e.change h (by_word (nat_lt word 4096)) where
  by_word : (b : Bool) → KnowsStep n k want p (if b then On (Claim at last) else End (IndexFull word))
  by_word true = a
  by_word false = a.1.absent

-- ---- the add that claims a bucket
claim_step : (n k : ℕ) (want : Option ℕ) (p : Pool) (at : Ref) (last word : ℕ) (now : List ℕ) → IsOn n k p → (store_in p).bucket_count + 1 < 2 ^ 64 → KnowsWalk n k want p (Claim at last) → Performs (Add 3 1) word p.words now
    → Comes n want p (Claim at last) k (step_at k (Claim at last) word) now
claim_step n k want p at last word now g few a e = by_word (nat_lt word 4096) refl where
  total : ℕ
  total = (store_in p).bucket_count

  count : word ≡ total
  count = e.answer ∙ g.was.table.bucket_count

  is : slice_set p.words 3 (total + 1) ≡ now
  is = sym (e.change ∙ ap (λ z. slice_set p.words 3 z) (let z : (word_at p.words 3 + 1) % 2 ^ 64 ≡ total + 1 = omega (arith, few, g.was.table.bucket_count) in z))

  by_word : (b : Bool) → nat_lt word 4096 ≡ b → Comes n want p (Claim at last) k (if b then On (FillPlace at (spot (4096 + word) 1) (Some last)) else End (IndexFull word)) now
  by_word true f =
      let lt : word < 4096 = grind (arith, nat_tests) in
      let takers : ℕ → ℕ = with_at (store_in p).takers (4096 + total) n in
      record {
        index = counted_index p takers;
        words = is;
        is = seen_count n k want p takers (bucket_claim p.words p.chains (store_in p) n g.was (omega (arith, count, lt)))
            (λ m c d pos x. at_other (store_in p).takers (4096 + total) n c (λ y. let t = g.was.overflow.taken c (omega (arith, x, pos)) in absurd (omega (arith, t.1, y))) ∙ x);
        knows = (
          a.0,
          (
            record {
              has = a.1.has;
              end = word_at-set_other p.words 3 (bucket_at last 7) (total + 1) (λ x. absurd (omega (arith, x))) ∙ a.1.end;
              absent = a.1.absent;
            },
            record {
              taker = at_same (store_in p).takers (4096 + total) n (4096 + word) (ap (λ z. 4096 + z) count);
              first = refl;
              later = λ c m. omega (arith, g.was.overflow.claimed (home_of k) c (home_below k) m, count);
            },
          ),
        );
        count = refl;
      }
  by_word false f = record {
    index = counted_index p (store_in p).takers;
    words = is;
    is = seen_count n k want p (store_in p).takers (bucket_miss p.words p.chains (store_in p) g.was) (λ m c d pos x. x);
    knows = a.1.absent;
    count = refl;
  }

-- ---- where the key was met
match_step : (n k : ℕ) (want : Option ℕ) (p : Pool) (errand : Errand) (s : Spot) (word : ℕ) (now : List ℕ) → IsOn n k p → KnowsWalk n k want p (Match errand s) → Performs (next_at k (Match errand s)) word p.words now
    → Comes n want p (Match errand s) k (step_at k (Match errand s) word) now
match_step n k want p Find s word now g a e = absurd a.0
match_step n k want p (Set at) s word now g a e =
    let c = a.1.spot in
    let b : ℕ = s.bucket in
    let r : ℕ = ref_word at in
    let index : ℕ → Option ℕ = with_at (store_in p).index k (Some r) in
    record {
      index = stored_index p b (c.i + 4) r p.chains index (store_in p).takers;
      words = sym (e.change ∙ ap (λ z. slice_set p.words (bucket_at b z) r) (let z : s.number + 3 ≡ c.i + 4 = omega (arith, c.number) in z));
      is = seen_store n k want p b (c.i + 4) r p.chains index (store_in p).takers (record {
        was = g.was;
        is = place_replaced p.words p.chains (store_in p) k b c.i r g.was g.key c.place (ap (λ z. bucket p.words b z) (sym c.number) ∙ a.1.key);
        positive = g.lane;
        bucket_below = g.was.indexed.below (home_of k) b (home_below k) c.place.has;
        word_below = omega (arith, c.place.three);
        mine = inl c.place.has;
        change = inr (ap (λ z. with_at (store_in p).index k z) (sym a.0));
        keyed = λ m lt. absurd (omega (arith, lt));
        others = λ h ne. refl;
        more = [];
        grows = sym (append-nil (p.chains (home_of k)));
        left = λ m x d pos y. y;
      });
      knows = at_same (store_in p).index k (Some r) k refl ∙ sym a.0;
      count = omega arith;
    }
match_step n k want p Remove s word now g a e =
    let c = a.1.spot in
    let b : ℕ = s.bucket in
    let index : ℕ → Option ℕ = with_at (store_in p).index k None in
    let key : bucket p.words b (c.i + 1) ≡ k = ap (λ z. bucket p.words b z) (sym c.number) ∙ a.1.key in
    record {
      index = stored_index p b (c.i + 1) 0 p.chains index (store_in p).takers;
      words = sym (e.change ∙ ap (λ z. slice_set p.words (bucket_at b z) 0) c.number);
      is = seen_store n k want p b (c.i + 1) 0 p.chains index (store_in p).takers (record {
        was = g.was;
        is = key_cleared p.words p.chains (store_in p) k b c.i g.was g.key c.place key;
        positive = g.lane;
        bucket_below = g.was.indexed.below (home_of k) b (home_below k) c.place.has;
        word_below = omega (arith, c.place.three);
        mine = inl c.place.has;
        change = inr (ap (λ z. with_at (store_in p).index k z) (sym a.0));
        keyed = λ m lt. (inr key, inl refl);
        others = λ h ne. refl;
        more = [];
        grows = sym (append-nil (p.chains (home_of k)));
        left = λ m x d pos y. y;
      });
      knows = at_same (store_in p).index k None k refl ∙ sym a.0;
      count = omega arith;
    }

-- ---- the place word of a free place
fill_place_step : (n k : ℕ) (want : Option ℕ) (p : Pool) (at : Ref) (s : Spot) (from : Option ℕ) (word : ℕ) (now : List ℕ) → IsOn n k p → KnowsWalk n k want p (FillPlace at s from) → Performs (Store (place_at s) (ref_word at)) word p.words now
    → Comes n want p (FillPlace at s from) k (step_at k (FillPlace at s from) word) now
fill_place_step n k want p at s None word now g a e =
    let c = a.1.0.spot in
    let b : ℕ = s.bucket in
    let r : ℕ = ref_word at in
    let bl : b < 8192 = g.was.indexed.below (home_of k) b (home_below k) c.place.has in
    let wl : c.i + 4 < 8 = omega (arith, c.place.three) in
    let st : IsStored p.words (slice_set p.words (bucket_at b (c.i + 4)) r) (bucket_at b (c.i + 4)) r = bucket_stored p.words p.chains (store_in p) b (c.i + 4) r g.was bl wl in
    record {
      index = stored_index p b (c.i + 4) r p.chains (store_in p).index (store_in p).takers;
      words = sym (e.change ∙ ap (λ z. slice_set p.words (bucket_at b z) r) (let z : s.number + 3 ≡ c.i + 4 = omega (arith, c.number) in z));
      is = seen_store n k want p b (c.i + 4) r p.chains (store_in p).index (store_in p).takers (record {
        was = g.was;
        is = place_filled p.words p.chains (store_in p) k b c.i r g.was c.place (ap (λ z. bucket p.words b z) (sym c.number) ∙ a.1.0.free);
        positive = g.lane;
        bucket_below = bl;
        word_below = wl;
        mine = inl c.place.has;
        change = inl refl;
        keyed = λ m lt. absurd (omega (arith, lt));
        others = λ h ne. refl;
        more = [];
        grows = sym (append-nil (p.chains (home_of k)));
        left = λ m x d pos y. y;
      });
      knows = (
        record { word = r; wants = a.0; stands = ap (λ z. bucket (slice_set p.words (bucket_at b (c.i + 4)) r) b z) (let z : s.number + 3 ≡ c.i + 4 = omega (arith, c.number) in z) ∙ st.here },
        (record { spot = c; free = st.other (bucket_at b s.number) (λ f. absurd (omega (arith, f, c.number, c.place.three))) ∙ a.1.0.free }, a.1.1),
      );
      count = omega arith;
    }
fill_place_step n k want p at s (Some last) word now g a e =
    let own = a.1.1 in
    let b : ℕ = s.bucket in
    let r : ℕ = ref_word at in
    let tk : 0 < (store_in p).takers b = omega (arith, own.taker, g.lane) in
    let t = g.was.overflow.taken b tk in
    let st : IsStored p.words (slice_set p.words (bucket_at b 4) r) (bucket_at b 4) r = bucket_stored p.words p.chains (store_in p) b 4 r g.was t.2 (omega arith) in
    record {
      index = stored_index p b 4 r p.chains (store_in p).index (store_in p).takers;
      words = sym (e.change ∙ ap (λ z. slice_set p.words (bucket_at b z) r) (let z : s.number + 3 ≡ 4 = omega (arith, own.first) in z));
      is = seen_store n k want p b 4 r p.chains (store_in p).index (store_in p).takers (record {
        was = g.was;
        is = own_placed p.words p.chains (store_in p) b r g.was tk;
        positive = g.lane;
        bucket_below = t.2;
        word_below = omega arith;
        mine = inr own.taker;
        change = inl refl;
        keyed = λ m lt. absurd (omega (arith, lt));
        others = λ h ne. refl;
        more = [];
        grows = sym (append-nil (p.chains (home_of k)));
        left = λ m x d pos y. y;
      });
      knows = (
        record { word = r; wants = a.0; stands = ap (λ z. bucket (slice_set p.words (bucket_at b 4) r) b z) (let z : s.number + 3 ≡ 4 = omega (arith, own.first) in z) ∙ st.here },
        (
          record { has = a.1.0.has; end = st.other (bucket_at last 7) (λ f. absurd (omega (arith, f))) ∙ a.1.0.end; absent = a.1.0.absent },
          record { taker = own.taker; first = own.first; later = own.later },
        ),
      );
      count = omega arith;
    }

-- ---- and its key word
fill_key_step : (n k : ℕ) (want : Option ℕ) (p : Pool) (s : Spot) (from : Option ℕ) (word : ℕ) (now : List ℕ) → IsOn n k p → KnowsWalk n k want p (FillKey s from) → Performs (Store (key_at s) k) word p.words now
    → Comes n want p (FillKey s from) k (step_at k (FillKey s from) word) now
fill_key_step n k want p s None word now g a e =
    let c = a.1.0.spot in
    let b : ℕ = s.bucket in
    let free : bucket p.words b (c.i + 1) ≡ 0 = ap (λ z. bucket p.words b z) (sym c.number) ∙ a.1.0.free in
    let place : ℕ = bucket p.words b (c.i + 4) in
    let w : Some place ≡ want = ap (λ z. Some z) (ap (λ z. bucket p.words b z) (let z : c.i + 4 ≡ s.number + 3 = omega (arith, c.number) in z) ∙ a.0.stands) ∙ sym a.0.wants in
    let index : ℕ → Option ℕ = with_at (store_in p).index k (Some place) in
    record {
      index = stored_index p b (c.i + 1) k p.chains index (store_in p).takers;
      words = sym (e.change ∙ ap (λ z. slice_set p.words (bucket_at b z) k) c.number);
      is = seen_store n k want p b (c.i + 1) k p.chains index (store_in p).takers (record {
        was = g.was;
        is = key_stored p.words p.chains (store_in p) k b c.i g.was g.key c.place free a.1.1;
        positive = g.lane;
        bucket_below = g.was.indexed.below (home_of k) b (home_below k) c.place.has;
        word_below = omega (arith, c.place.three);
        mine = inl c.place.has;
        change = inr (ap (λ z. with_at (store_in p).index k z) w);
        keyed = λ m lt. (inl free, inr refl);
        others = λ h ne. refl;
        more = [];
        grows = sym (append-nil (p.chains (home_of k)));
        left = λ m x d pos y. y;
      });
      knows = at_same (store_in p).index k (Some place) k refl ∙ w;
      count = omega arith;
    }
fill_key_step n k want p s (Some last) word now g a e =
    let own = a.1.1 in
    let b : ℕ = s.bucket in
    let tk : 0 < (store_in p).takers b = omega (arith, own.taker, g.lane) in
    let t = g.was.overflow.taken b tk in
    let st : IsStored p.words (slice_set p.words (bucket_at b 1) k) (bucket_at b 1) k = bucket_stored p.words p.chains (store_in p) b 1 k g.was t.2 (omega arith) in
    record {
      index = stored_index p b 1 k p.chains (store_in p).index (store_in p).takers;
      words = sym (e.change ∙ ap (λ z. slice_set p.words (bucket_at b z) k) own.first);
      is = seen_store n k want p b 1 k p.chains (store_in p).index (store_in p).takers (record {
        was = g.was;
        is = own_keyed p.words p.chains (store_in p) b k g.was tk;
        positive = g.lane;
        bucket_below = t.2;
        word_below = omega arith;
        mine = inr own.taker;
        change = inl refl;
        keyed = λ m lt. absurd (taken_in_none p.words p.chains (store_in p).bucket_count (store_in p).takers (home_of k) b g.was.overflow tk (home_below k) m);
        others = λ h ne. refl;
        more = [];
        grows = sym (append-nil (p.chains (home_of k)));
        left = λ m x d pos y. y;
      });
      knows = (
        record { word = a.0.word; wants = a.0.wants; stands = st.other (bucket_at b 4) (λ f. absurd (omega (arith, f))) ∙ ap (λ z. bucket p.words b z) (let z : 4 ≡ s.number + 3 = omega (arith, own.first) in z) ∙ a.0.stands },
        own.taker,
        record {
          has = a.1.0.has;
          end = st.other (bucket_at last 7) (λ f. absurd (omega (arith, f))) ∙ a.1.0.end;
          own = tk;
          later = own.later;
          key = st.here;
          absent = a.1.0.absent;
        },
      );
      count = omega arith;
    }

-- ---- the next word of the last bucket
link_step : (n k : ℕ) (want : Option ℕ) (p : Pool) (last new word : ℕ) (now : List ℕ) → IsOn n k p → KnowsWalk n k want p (Link last new) → Performs (Store (bucket_at last 7) new) word p.words now
    → Comes n want p (Link last new) k (step_at k (Link last new) word) now
link_step n k want p last new word now g a e =
    let l = a.2 in
    let home : ℕ = home_of k in
    let place : ℕ = bucket p.words new 4 in
    let w : Some place ≡ want = ap (λ z. Some z) a.0.stands ∙ sym a.0.wants in
    let index : ℕ → Option ℕ = with_at (store_in p).index k (Some place) in
    let chains : ℕ → List ℕ = with_bucket p.chains home new in
    let takers : ℕ → ℕ = with_at (store_in p).takers new 0 in
    record {
      index = stored_index p last 7 new chains index takers;
      words = sym e.change;
      is = seen_store n k want p last 7 new chains index takers (record {
        was = g.was;
        is = link p.words p.chains (store_in p) k last new g.was g.key l;
        positive = g.lane;
        bucket_below = g.was.indexed.below home last (home_below k) l.has;
        word_below = omega arith;
        mine = inl l.has;
        change = inr (ap (λ z. with_at (store_in p).index k z) w);
        keyed = λ m lt. absurd (omega (arith, lt));
        others = λ h ne. at_other p.chains home (p.chains home ++ new ∷ []) h ne;
        more = new ∷ [];
        grows = at_same p.chains home (p.chains home ++ new ∷ []) home refl;
        left = λ m c d pos y. at_other (store_in p).takers new 0 c (λ f. d (sym y ∙ ap (store_in p).takers f ∙ a.1)) ∙ y;
      });
      knows = at_same (store_in p).index k (Some place) k refl ∙ w;
      count = omega arith;
    }

-- ---- any place
place_steps : (n k : ℕ) (want : Option ℕ) (p : Pool) (place : WalkPlace) (word : ℕ) (now : List ℕ) → IsOn n k p → IsFew p place → KnowsWalk n k want p place → Performs (next_at k place) word p.words now → Comes n want p place k (step_at k place word) now
place_steps n k want p (Key errand t number) word now g few a e = key_step n k want p errand t number word now g.was a e
place_steps n k want p (Next errand t) word now g few a e = next_step n k want p errand t word now g a e
place_steps n k want p (Match errand s) word now g few a e = match_step n k want p errand s word now g a e
place_steps n k want p (Counter at last) word now g few a e = counter_step n k want p at last word now g.was a e
place_steps n k want p (Claim at last) word now g few a e = claim_step n k want p at last word now g (few refl) a e
place_steps n k want p (FillPlace at s from) word now g few a e = fill_place_step n k want p at s from word now g a e
place_steps n k want p (FillKey s from) word now g few a e = fill_key_step n k want p s from word now g a e
place_steps n k want p (Link last new) word now g few a e = link_step n k want p last new word now g a e

pub walk_goes : (n : ℕ) (want : Option ℕ) (p : Pool) (w : Walking) (word : ℕ) (now : List ℕ) → IsOn n w.key p → IsFew p w.place → KnowsWalk n w.key want p w.place → Performs (walk_next w) word p.words now → IsWalked n want p w word now
walk_goes n want p w word now g few a e =
    let c = place_steps n w.key want p w.place word now g few a e in
    record { index = c.index; words = c.words; is = c.is; knows = c.knows; count = c.count }

pub walk_steps : (n : ℕ) (want : Option ℕ) (p : Pool) (w : Walking) (word : ℕ) (now : List ℕ) → IsAt n w.key p → KnowsWalk n w.key want p w.place → Performs (walk_next w) word p.words now → IsWalked n want p w word now
walk_steps n want p w word now g a e = walk_goes n want p w word now (record { was = g.was; lane = g.lane; key = g.key }) (λ asks. g.few) a e
