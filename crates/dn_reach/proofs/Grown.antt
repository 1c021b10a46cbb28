use Rattle.std.proofs.Common.{ℕ, ◌+◌, ◌*◌, ◌/◌, ◌%◌, ◌^◌, ◌<◌, ◌≤◌, ◌≡◌, inl, inr, Bool, true, false, nat_lt, if◌then◌else◌, List, [], ◌∷◌, ◌++◌, length, slice_index, Option, Some, None, option_to_list, Contains, refl, sym, ◌∙◌, ap, arith, append-nil, length-append}
use Rattle.std.proofs.lemmas.Bool.{cases_eq, ltb-true, ltb-false}
use Rattle.std.proofs.lemmas.List.{get_or_append_left}
use Rattle.std.proofs.lemmas.List.Elements.{Contains-append_left, Contains-append_right}
use Rattle.std.proofs.Math.Seq.{get_or-append_seam}
use Rattle.std.specs.Option.{option_map}
use Rattle.dn_act.specs.Words.{word_at}
use Rattle.dn_log.specs.Log.{Log, reach_of, plan_of, sealed_of, new_segment_of, word_of, IsFit}
use Rattle.dn_log.specs.declared.plans.Plan.{Plan}
use Rattle.dn_log.specs.declared.plans.NewSegment.{NewSegment}
use Rattle.dn_log.specs.declared.staging.Staged.{Staged}
use Rattle.dn_model.specs.Regions.{directory, directory_at, place, offsets}
use Rattle.dn_model.specs.Log.{Stand, IsCovered}
use Rattle.dn_services.specs.Staged.{placed, directory_staged}
use Rattle.dn_owners.proofs.Logs.{nil_has, head_has, tail_has}
use Rattle.dn_reach.specs.Directory.{NamesSegments}
use Rattle.dn_reach.specs.Staging.{AreFlowing}

-- The log that a plan leaves, once all that was staged stands in the pool.

-- ---- staged words that all stand in the pool
pub record AreThere (words : List ℕ) (all : List Staged) : Type 0 where
  pub each : (s : Staged) → Contains all s → word_at words s.at ≡ s.word

-- once none waits, all of them do
pub all_there : (words : List ℕ) (all : List Staged) → AreFlowing words [] all → AreThere words all
all_there words all f = record { each = λ s c. elim (f.there s c) [ inl n ↦ absurd (nil_has s n) | inr e ↦ e ] }

pub there_left : (words : List ℕ) (xs ys : List Staged) → AreThere words (xs ++ ys) → AreThere words xs
there_left words xs ys h = record { each = λ s c. h.each s (Contains-append_left xs ys s c) }

pub there_right : (words : List ℕ) (xs ys : List Staged) → AreThere words (xs ++ ys) → AreThere words ys
there_right words xs ys h = record { each = λ s c. h.each s (Contains-append_right xs ys s c) }

there_head : (words : List ℕ) (x : Staged) (xs : List Staged) → AreThere words (x ∷ xs) → word_at words x.at ≡ x.word
there_head words x xs h = h.each x (head_has x xs)

there_tail : (words : List ℕ) (x : Staged) (xs : List Staged) → AreThere words (x ∷ xs) → AreThere words xs
there_tail words x xs h = record { each = λ s c. h.each s (tail_has x xs s c) }

-- ---- These segments and this spare are those of before, in the same order; the directory names the segments, and they
-- reach up to the end.
pub record IsGrown (words : List ℕ) (log : Log) (end : ℕ) (segments : List ℕ) (spare : Option ℕ) : Type 0 where
  pub reach : segments ++ option_to_list spare ≡ reach_of log
  pub named : (q : ℕ) → q < length segments → directory words log.lane q ≡ slice_index segments q + 1
  pub enough : end ≤ 1024 * length segments

-- the lane's own segments are enough
own_grown : (words : List ℕ) (log : Log) (end : ℕ) → NamesSegments words log → nat_lt (1024 * length log.segments) end ≡ false → IsGrown words log end log.segments log.spare
own_grown words log end d e = record { reach = refl; named = d.named; enough = ltb-false (1024 * length log.segments) end e }

abbrev log_at : ℕ → ℕ → ℕ → List ℕ → Option ℕ → Log
log_at lane pool len segments spare = record { lane = lane; pool = pool; len = len; segments = segments; spare = spare }

abbrev next_named : List ℕ → Option ℕ → Option NewSegment
next_named segments spare = option_map (λ segment. record { number = length segments; segment = segment }) spare

-- or the spare is one of them now
spare_named : (words : List ℕ) (lane pool len : ℕ) (segments : List ℕ) (g q : ℕ) → NamesSegments words (log_at lane pool len segments (Some g))
    → word_at words (directory_at lane (length segments)) ≡ g + 1 → q < length (segments ++ g ∷ []) → directory words lane q ≡ slice_index (segments ++ g ∷ []) q + 1
spare_named words lane pool len segments g q d w lt = elim (cases_eq q (length segments)) [
  | inl e ↦ (let seam : slice_index (segments ++ g ∷ []) q ≡ g = ap (λ i. slice_index (segments ++ g ∷ []) i) e ∙ get_or-append_seam segments g [] 0 in
      ap (λ i. word_at words (directory_at lane i)) e ∙ w ∙ ap (λ x. x + 1) (sym seam))
  | inr n ↦ (let below : q < length segments = omega (arith, n, lt, length-append segments (g ∷ [])) in
      d.named q below ∙ ap (λ x. x + 1) (sym (get_or_append_left segments (g ∷ []) 0 q below)))
]

spare_by : (words : List ℕ) (lane pool len : ℕ) (segments : List ℕ) (spare : Option ℕ) (end : ℕ) → NamesSegments words (log_at lane pool len segments spare)
    → 1024 * length segments < end → end ≤ 1024 * length (segments ++ option_to_list spare)
    → AreThere words (directory_staged (log_at lane pool len segments spare) (next_named segments spare))
    → IsGrown words (log_at lane pool len segments spare) end (segments ++ option_to_list spare) None
spare_by words lane pool len segments None end d lt le h = absurd (omega (arith, lt, le, ap (λ (s : List ℕ). length s) (append-nil segments)))
spare_by words lane pool len segments (Some g) end d lt le h = record {
  reach = append-nil (segments ++ g ∷ []);
  named = λ q below. spare_named words lane pool len segments g q d (there_head words (record { at = directory_at lane (length segments); word = g + 1 }) [] h) below;
  enough = le;
}

spare_grown : (words : List ℕ) (log : Log) (end : ℕ) → NamesSegments words log → nat_lt (1024 * length log.segments) end ≡ true → nat_lt (1024 * length (reach_of log)) end ≡ false
    → AreThere words (directory_staged log (next_named log.segments log.spare)) → IsGrown words log end (reach_of log) None
spare_grown words log end d e n h =
    spare_by words log.lane log.pool log.len log.segments log.spare end d (ltb-true (1024 * length log.segments) end e) (ltb-false (1024 * length (reach_of log)) end n) h

-- ---- either way it is the log that is sealed
abbrev pub grown : Log → ℕ → List ℕ → Option ℕ → Log
grown log end segments spare = record { lane = log.lane; pool = log.pool; len = end; segments = segments; spare = spare }

pub record IsReached (words : List ℕ) (log : Log) (plan : Plan) : Type 0 where
  pub segments : List ℕ
  pub spare : Option ℕ
  pub grows : IsGrown words log plan.len segments spare
  pub sealed : sealed_of log plan ≡ grown log plan.len segments spare

pub reached : (words : List ℕ) (log : Log) (n : ℕ) → NamesSegments words log → (plan_of log n).need_segment ≡ false → AreThere words (directory_staged log (new_segment_of log (plan_of log n))) → IsReached words log (plan_of log n)
reached words log n d room there = by_test (nat_lt (1024 * length log.segments) (plan_of log n).len) refl there where
  by_test : (b : Bool) → nat_lt (1024 * length log.segments) (plan_of log n).len ≡ b → AreThere words (directory_staged log (if b then next_named log.segments log.spare else None)) → IsReached words log (plan_of log n)
  by_test true e t = record {
    segments = reach_of log;
    spare = None;
    grows = spare_grown words log (plan_of log n).len d e room t;
    sealed = ap (λ (b : Bool). if b then grown log (plan_of log n).len (reach_of log) None else grown log (plan_of log n).len log.segments log.spare) e;
  }
  by_test false e t = record {
    segments = log.segments;
    spare = log.spare;
    grows = own_grown words log (plan_of log n).len d e;
    sealed = ap (λ (b : Bool). if b then grown log (plan_of log n).len (reach_of log) None else grown log (plan_of log n).len log.segments log.spare) e;
  }

-- ---- where the words up to the end stand
segment_below : (o end n : ℕ) → o < end → end ≤ 1024 * n → o / 1024 < n
segment_below o end n lt le = omega arith

grown_directory : (words : List ℕ) (log : Log) (end : ℕ) (segments : List ℕ) (spare : Option ℕ) → IsGrown words log end segments spare → (q : ℕ) → q < length segments
    → directory words log.lane q ≡ slice_index (reach_of log) q + 1
grown_directory words log end segments spare g q lt =
    g.named q lt ∙ ap (λ x. x + 1) (sym (get_or_append_left segments (option_to_list spare) 0 q lt) ∙ ap (λ (s : List ℕ). slice_index s q) g.reach)

same_place : (d s r : ℕ) → d ≡ s + 1 → 97280 + (d * 1024 + r) ≡ 98304 + (1024 * s + r)
same_place d s r e = omega arith

grown_place : (words : List ℕ) (log : Log) (end : ℕ) (segments : List ℕ) (spare : Option ℕ) → IsGrown words log end segments spare → (o : ℕ) → o < end → place words log.lane o ≡ word_of log o
grown_place words log end segments spare g o lt =
    same_place (directory words log.lane (o / 1024)) (slice_index (reach_of log) (o / 1024)) (o % 1024)
    (grown_directory words log end segments spare g (o / 1024) (segment_below o end (length segments) lt g.enough))

pub grown_few : (words : List ℕ) (log : Log) (end : ℕ) (segments : List ℕ) (spare : Option ℕ) → IsGrown words log end segments spare → IsFit log → length segments ≤ 256
grown_few words log end segments spare g fit = omega (arith, fit.count, length-append segments (option_to_list spare), ap (λ (s : List ℕ). length s) g.reach)

pub grown_covered : (words : List ℕ) (log : Log) (end : ℕ) (segments : List ℕ) (spare : Option ℕ) → IsGrown words log end segments spare → IsFit log → IsCovered words log.lane end
grown_covered words log end segments spare g fit = λ o lt.
    let below : o / 1024 < length segments = segment_below o end (length segments) lt g.enough in
    let named = grown_directory words log end segments spare g (o / 1024) below in
    (omega (arith, below, grown_few words log end segments spare g fit), omega (arith, named))

-- a log's words fit the gate's bits
pub end_fits : (words : List ℕ) (log : Log) (end : ℕ) (segments : List ℕ) (spare : Option ℕ) → IsGrown words log end segments spare → IsFit log → end < 2 ^ 24
end_fits words log end segments spare g fit = omega (arith, grown_few words log end segments spare g fit, g.enough)

-- words that were staged at offsets up to the end
pub stand_placed : (words : List ℕ) (log : Log) (end : ℕ) (segments : List ℕ) (spare : Option ℕ) → IsGrown words log end segments spare → (at : ℕ) (xs : List ℕ) → at + length xs ≤ end
    → AreThere words (placed log at xs) → Stand (offsets words log.lane) at xs
stand_placed words log end segments spare g at [] le h = tt
stand_placed words log end segments spare g at (x ∷ xs) le h = (
  ap (λ i. word_at words i) (grown_place words log end segments spare g at (omega arith)) ∙ there_head words (record { at = word_of log at; word = x }) (placed log (at + 1) xs) h,
  stand_placed words log end segments spare g (at + 1) xs (omega arith) (there_tail words (record { at = word_of log at; word = x }) (placed log (at + 1) xs) h),
)
