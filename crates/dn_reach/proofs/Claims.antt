use Rattle.std.proofs.Common.{ℕ, ◌+◌, ◌-◌, ◌%◌, ◌^◌, ◌<◌, ◌≤◌, ◌≡◌, ◌⊎◌, ◌++◌, inl, inr, List, [], ◌∷◌, All, length, slice_index, slice_set, option_to_list, Option, Some, None, refl, sym, ◌∙◌, ap, subst, arith, append-nil}
use Rattle.std.proofs.lemmas.Bool.{cases_lt}
use Rattle.std.proofs.lemmas.List.{length-append, get_or_append_left, get_or-append-add}
use Rattle.std.proofs.lemmas.List.Elements.{All-get_or, All-push}
use Rattle.dn_act.specs.Words.{word_at}
use Rattle.dn_act.specs.Action.{Performs}
use Rattle.dn_act.specs.declared.actions.Action.TheVariants.{Add}
use Rattle.dn_act.proofs.Words.{word_at-set_other}
use Rattle.dn_word.specs.Regions.{segment_counter_at}
use Rattle.dn_log.specs.Log.{Log, reach_of, IsFit, IsApart}
use Rattle.dn_model.specs.Regions.{directory, directory_at, IsLane}
use Rattle.dn_store.specs.State.{with_at}
use Rattle.dn_store.specs.Changes.{claimed, segment_wanted}
use Rattle.dn_store.specs.Represents.{Represents}
use Rattle.dn_store.proofs.At.{at_same, at_other}
use Rattle.dn_store.proofs.Claims.{segment_claim, segment_miss}
use Rattle.dn_owners.specs.Known.{Owners}
use Rattle.dn_owners.specs.Sound.{IsSound}
use Rattle.dn_owners.specs.Later.{IsLater}
use Rattle.dn_beside.specs.Pool.{Pool, store_in, IsWhole}
use Rattle.dn_beside.specs.Step.{IsStepBy, IsQuiet, by_lane}
use Rattle.dn_reach.specs.Directory.{NamesSegments}
use Rattle.dn_reach.specs.OwnLog.{HoldsLog, IsLaneOf}
use Rattle.dn_reach.specs.Steps.{after_claim, after_miss}
use Rattle.dn_reach.proofs.Flows.{later_same}
use Rattle.dn_reach.proofs.Lasts.{directory_kept}
use Rattle.dn_reach.proofs.OwnSteps.{IsOwnStep, own_step, stored_alike, low_not_of}

-- An add to the counter of segments.

-- what it finds, and what it leaves
pub record IsCounted (p : Pool) (word : ℕ) (now : List ℕ) : Type 0 where
  pub found : word ≡ (store_in p).segment_count
  pub stored : now ≡ slice_set p.words segment_counter_at ((store_in p).segment_count + 1)

next_count : (a b : ℕ) → a ≡ b → b < 2 ^ 64 - 1 → (a + 1) % 2 ^ 64 ≡ b + 1
next_count a b e lt = omega (arith, e, lt)

pub counted : (p : Pool) (word : ℕ) (now : List ℕ) → IsWhole p → (store_in p).segment_count < 2 ^ 64 - 1 → Performs (Add segment_counter_at 1) word p.words now → IsCounted p word now
counted p word now h lt f = record {
  found = f.answer ∙ h.represents.table.segment_count;
  stored = f.change ∙ ap (λ w. slice_set p.words segment_counter_at w) (next_count (word_at p.words segment_counter_at) (store_in p).segment_count h.represents.table.segment_count lt);
}

-- ---- owners read nothing of who claimed what
claimed_sound : (o : Owners) (n : ℕ) → IsSound o → IsSound (record o { store = claimed o.store n })
claimed_sound o n h = record {
  one = h.one;
  idle = h.idle;
  leading = h.leading;
  looks = h.looks;
  past = h.past;
  pending = h.pending;
  counted = h.counted;
  told = h.told;
  stamps = h.stamps;
  watched = h.watched;
}

wanted_sound : (o : Owners) → IsSound o → IsSound (record o { store = segment_wanted o.store })
wanted_sound o h = record {
  one = h.one;
  idle = h.idle;
  leading = h.leading;
  looks = h.looks;
  past = h.past;
  pending = h.pending;
  counted = h.counted;
  told = h.told;
  stamps = h.stamps;
  watched = h.watched;
}

claimed_later : (o : Owners) (n : ℕ) → IsLater o o → IsLater o (record o { store = claimed o.store n })
claimed_later o n l = record { logs = l.logs; gates = l.gates; marks = l.marks; epochs = l.epochs; floors = l.floors; promised = l.promised }

wanted_later : (o : Owners) → IsLater o o → IsLater o (record o { store = segment_wanted o.store })
wanted_later o l = record { logs = l.logs; gates = l.gates; marks = l.marks; epochs = l.epochs; floors = l.floors; promised = l.promised }

-- ---- as others see it
claim_own : (p : Pool) (n word : ℕ) (now : List ℕ) → IsWhole p → IsLane n → word < (store_in p).pool → IsCounted p word now → IsOwnStep n segment_counter_at p (after_claim p n now)
claim_own p n word now h lane low c =
    let s = store_in p in
    let P : List ℕ → Type 0 = λ ws. Represents ws p.chains (claimed s n) in
    record {
      whole = h;
      after = record { represents = subst P (sym c.stored) (segment_claim p.words p.chains s n h.represents (omega (arith, low, c.found))); sound = claimed_sound p.owners n h.sound; deeds = h.deeds; plain = h.plain };
      lane = lane;
      alike = stored_alike p.words now segment_counter_at (s.segment_count + 1) c.stored;
      beside = inl (omega arith);
      not_of = λ m l d. low_not_of m segment_counter_at s.holders (omega arith) (λ e. absurd (omega (arith, e)));
      later = claimed_later p.owners n (later_same p);
      named = λ m i l lt e. absurd (omega (arith, e));
      chains = refl;
      pool = refl;
      gates = λ m d. refl;
      logs = λ m d. refl;
      knows = λ m d. refl;
      holders = λ m g l e. at_other s.holders s.segment_count n g (λ same. absurd (omega (arith, same, (h.represents.space.claimed g (omega (arith, e, l.positive))).0))) ∙ e;
      marks = λ m. refl;
      deeds = λ t. refl;
      index = refl;
      takers = refl;
      bucket_count = refl;
      segments = omega arith;
      watch = refl;
      located = λ m k l r d look slot clear a. a;
    }

miss_own : (p : Pool) (n word : ℕ) (now : List ℕ) → IsWhole p → IsLane n → IsCounted p word now → IsOwnStep n segment_counter_at p (after_miss p now)
miss_own p n word now h lane c =
    let s = store_in p in
    let P : List ℕ → Type 0 = λ ws. Represents ws p.chains (segment_wanted s) in
    record {
      whole = h;
      after = record { represents = subst P (sym c.stored) (segment_miss p.words p.chains s h.represents); sound = wanted_sound p.owners h.sound; deeds = h.deeds; plain = h.plain };
      lane = lane;
      alike = stored_alike p.words now segment_counter_at (s.segment_count + 1) c.stored;
      beside = inl (omega arith);
      not_of = λ m l d. low_not_of m segment_counter_at s.holders (omega arith) (λ e. absurd (omega (arith, e)));
      later = wanted_later p.owners (later_same p);
      named = λ m i l lt e. absurd (omega (arith, e));
      chains = refl;
      pool = refl;
      gates = λ m d. refl;
      logs = λ m d. refl;
      knows = λ m d. refl;
      holders = λ m g l e. e;
      marks = λ m. refl;
      deeds = λ t. refl;
      index = refl;
      takers = refl;
      bucket_count = refl;
      segments = omega arith;
      watch = refl;
      located = λ m k l r d look slot clear a. a;
    }

pub claim_step : (p : Pool) (n word : ℕ) (now : List ℕ) → IsWhole p → IsLane n → (store_in p).segment_count < 2 ^ 64 - 1 → Performs (Add segment_counter_at 1) word p.words now → word < (store_in p).pool → IsStepBy (by_lane n) p (after_claim p n now)
claim_step p n word now h l few f low = own_step n segment_counter_at p (after_claim p n now) (claim_own p n word now h l low (counted p word now h few f))

pub miss_step : (p : Pool) (n word : ℕ) (now : List ℕ) → IsWhole p → IsLane n → (store_in p).segment_count < 2 ^ 64 - 1 → Performs (Add segment_counter_at 1) word p.words now → IsStepBy (by_lane n) p (after_miss p now)
miss_step p n word now h l few f = own_step n segment_counter_at p (after_miss p now) (miss_own p n word now h l (counted p word now h few f))

pub claim_quiet : (p : Pool) (n : ℕ) (now : List ℕ) → IsQuiet p (after_claim p n now)
claim_quiet p n now = record { held = λ k v pos h. h; promised = λ k. refl }

pub miss_quiet : (p : Pool) (now : List ℕ) → IsQuiet p (after_miss p now)
miss_quiet p now = record { held = λ k v pos h. h; promised = λ k. refl }

-- ---- the lane's log
counter_directory : (p : Pool) (log : Log) (new : ℕ) → IsFit log → NamesSegments p.words log → NamesSegments (slice_set p.words segment_counter_at new) log
counter_directory p log new fit d = directory_kept p.words (slice_set p.words segment_counter_at new) log.lane log refl fit
    (λ q lt. word_at-set_other p.words segment_counter_at (directory_at log.lane q) new (λ e. absurd (omega (arith, e)))) d

pub miss_log : (p : Pool) (n : ℕ) (log : Log) (word : ℕ) (now : List ℕ) → IsLaneOf p n log → Performs (Add segment_counter_at 1) word p.words now → HoldsLog (after_miss p now) n log
miss_log p n log word now h f =
    let s = h.own in
    let P : List ℕ → Type 0 = λ ws. NamesSegments ws log in
    record {
      lane = s.lane;
      pool = s.pool;
      len = s.len;
      fit = s.fit;
      apart = s.apart;
      holders = s.holders;
      directory = subst P (sym f.change) (counter_directory p log ((word_at p.words segment_counter_at + 1) % 2 ^ 64) s.fit s.directory);
    }

-- without a spare a lane's segments are its own
reach_alone : (log : Log) → log.spare ≡ None → reach_of log ≡ log.segments
reach_alone log e = ap (λ (s : Option ℕ). log.segments ++ option_to_list s) e ∙ append-nil log.segments

-- a number that all others are below is apart from them
last_differs : (gs : List ℕ) (g i : ℕ) → All (λ x. x < g) gs → i < length gs → slice_index (gs ++ g ∷ []) i < g
last_differs gs g i h l = omega (arith, get_or_append_left gs (g ∷ []) 0 i l, All-get_or (λ x. x < g) gs i 0 l h)

last_is : (gs : List ℕ) (g i : ℕ) → i ≡ length gs → slice_index (gs ++ g ∷ []) i ≡ g
last_is gs g i e = ap (λ n. slice_index (gs ++ g ∷ []) n) (e ∙ plus_none (length gs)) ∙ get_or-append-add gs (g ∷ []) 0 0
  where
    plus_none : (n : ℕ) → n ≡ n + 0
    plus_none n = omega arith

apart_more : (gs : List ℕ) (g : ℕ) → All (λ x. x < g) gs → IsApart gs → IsApart (gs ++ g ∷ [])
apart_more gs g h a = record { each = λ i j il jl e. ends i j (cases_lt i (length gs)) (cases_lt j (length gs)) il jl e } where
  long : length (gs ++ g ∷ []) ≡ length gs + 1
  long = length-append gs (g ∷ [])

  ends : (i j : ℕ) → (i < length gs) ⊎ (length gs ≤ i) → (j < length gs) ⊎ (length gs ≤ j) → i < length (gs ++ g ∷ []) → j < length (gs ++ g ∷ [])
      → slice_index (gs ++ g ∷ []) i ≡ slice_index (gs ++ g ∷ []) j → i ≡ j
  ends i j (inl x) (inl y) il jl e = a.each i j x y (sym (get_or_append_left gs (g ∷ []) 0 i x) ∙ e ∙ get_or_append_left gs (g ∷ []) 0 j y)
  ends i j (inl x) (inr y) il jl e = absurd (omega (arith, last_differs gs g i h x, last_is gs g j (omega (arith, jl, long, y)), e))
  ends i j (inr x) (inl y) il jl e = absurd (omega (arith, last_differs gs g j h y, last_is gs g i (omega (arith, il, long, x)), e))
  ends i j (inr x) (inr y) il jl e = omega (arith, il, jl, long, x, y)

-- the segments of a lane without a spare
record IsOwnOnly (p : Pool) (n : ℕ) (log : Log) : Type 0 where
  count : length log.segments < 256
  low : All (λ g. g < (store_in p).segment_count) log.segments
  each : All (λ g. g < log.pool) log.segments
  apart : IsApart log.segments
  holders : All (λ g. (store_in p).holders g ≡ n) log.segments
  no_more : (q : ℕ) → q < 256 → 0 < directory p.words log.lane q → (q < length log.segments) × (directory p.words log.lane q ≡ slice_index log.segments q + 1)

own_only : (p : Pool) (n : ℕ) (log : Log) → IsLaneOf p n log → log.spare ≡ None → length log.segments < 256 → IsOwnOnly p n log
own_only p n log h e few =
    let r = reach_alone log e in
    let s = h.own in
    let Each : List ℕ → Type 0 = λ gs. All (λ g. g < log.pool) gs in
    let Apart : List ℕ → Type 0 = λ gs. IsApart gs in
    let Holds : List ℕ → Type 0 = λ gs. All (λ g. (store_in p).holders g ≡ n) gs in
    let More : List ℕ → Type 0 = λ gs. (q : ℕ) → q < 256 → 0 < directory p.words log.lane q → (q < length gs) × (directory p.words log.lane q ≡ slice_index gs q + 1) in
    let own : Holds log.segments = subst Holds r s.holders in
    record {
      count = few;
      low = λ i d lt. let held = own i d lt in (h.whole.represents.space.claimed _ (omega (arith, held, h.lane.positive))).0;
      each = subst Each r s.fit.each;
      apart = subst Apart r s.apart;
      holders = own;
      no_more = subst More r s.directory.no_more;
    }

pub claim_log : (p : Pool) (n : ℕ) (log : Log) (word : ℕ) (now : List ℕ) → IsLaneOf p n log → (store_in p).segment_count < 2 ^ 64 - 1 → log.spare ≡ None → length log.segments < 256
    → Performs (Add segment_counter_at 1) word p.words now → word < (store_in p).pool → HoldsLog (after_claim p n now) n (record log { spare = Some word })
claim_log p n log word now h few none room f low =
    let s = h.own in
    let o = own_only p n log h none room in
    let c = counted p word now h.whole few f in
    let count : ℕ = (store_in p).segment_count in
    let Low : ℕ → Type 0 = λ w. All (λ g. g < w) log.segments in
    let Holds : ℕ → Type 0 = λ w. All (λ g. with_at (store_in p).holders w n g ≡ n) (log.segments ++ word ∷ []) in
    let P : List ℕ → Type 0 = λ ws. NamesSegments ws log in
    let d : NamesSegments now log = subst P (sym c.stored) (counter_directory p log (count + 1) s.fit s.directory) in
    let same : (q : ℕ) → q < 256 → directory now log.lane q ≡ directory p.words log.lane q = λ q lt. ap (λ ws. word_at ws (directory_at log.lane q)) c.stored ∙ word_at-set_other p.words segment_counter_at (directory_at log.lane q) (count + 1) (λ e. absurd (omega (arith, e))) in
    record {
      lane = s.lane;
      pool = s.pool;
      len = s.len;
      fit = record {
        lane = s.fit.lane;
        pool = s.fit.pool;
        count = omega (arith, room, length-append log.segments (word ∷ []));
        len = s.fit.len;
        each = All-push (λ g. g < log.pool) log.segments word o.each (omega (arith, low, s.pool));
      };
      apart = apart_more log.segments word (subst Low (sym c.found) o.low) o.apart;
      holders = subst Holds c.found (All-push (λ g. with_at (store_in p).holders word n g ≡ n) log.segments word
          (λ i x lt. let held = o.holders i x lt in at_other (store_in p).holders word n _ (λ e. absurd (omega (arith, e, c.found, o.low i x lt))) ∙ held)
          (at_same (store_in p).holders word n word refl));
      directory = record {
        named = d.named;
        no_more = λ q lt pos.
            let m = o.no_more q lt (omega (arith, pos, same q lt)) in
            (omega (arith, m.0, length-append log.segments (word ∷ [])), same q lt ∙ m.1 ∙ ap (λ g. g + 1) (sym (get_or_append_left log.segments (word ∷ []) 0 q m.0)));
      };
    }
