use Rattle.std.proofs.Common.{ℕ, ◌+◌, ◌*◌, ◌<◌, ◌≤◌, ◌≡◌, ◌++◌, inl, inr, Bool, true, false, nat_lt, if◌then◌else◌, List, [], ◌∷◌, All, Contains, length, get_or, Option, Some, None, option_map, refl, sym, ap, arith}
use Rattle.std.proofs.lemmas.Bool.{ltb-false}
use Rattle.std.proofs.lemmas.List.Elements.{Contains-append_cases, Contains-get_or}
use Rattle.dn_record.specs.Grammar.{IsRecord}
use Rattle.dn_record.specs.Record.{spelling, length_in_words, key_of}
use Rattle.dn_record.specs.declared.records.Record.{Record}
use Rattle.dn_record.specs.declared.records.Record.TheVariants.{Put, Delete, Share, Unshare, Loose, LooseDelete, Pad}
use Rattle.dn_record.proofs.SpelledLemmas.{length-spelling}
use Rattle.dn_log.specs.Log.{Log, reach_of, plan_of, start_of, rest_of, is_short, word_of, new_segment_of, IsFit, IsApart}
use Rattle.dn_log.specs.declared.plans.NewSegment.{NewSegment}
use Rattle.dn_log.specs.declared.staging.Staged.{Staged}
use Rattle.dn_log.proofs.PlanLaws.{start-past}
use Rattle.dn_model.specs.Regions.{directory_at}
use Rattle.dn_model.proofs.LogLaws.{spelled_within, some_words}
use Rattle.dn_services.specs.Staged.{placed, directory_staged, pad_staged, GoApart}
use Rattle.dn_services.proofs.ApartLaws.{staged-apart}
use Rattle.dn_owners.proofs.Ats.{none_some}
use Rattle.dn_owners.proofs.Logs.{nil_has, cons_cases}
use Rattle.dn_reach.specs.Staging.{IsDirectoryWord, IsLogWord, MayStageAll}
use Rattle.dn_reach.specs.Placing.{plan_for, staged_for}
use Rattle.dn_reach.proofs.Within.{directory_inside}

-- The words that are staged for a record are such as a lane may stage.

-- words at consecutive offsets
placed_may : (log : Log) (from : ℕ) (words : List ℕ) (x : Staged) → log.len ≤ from → from + length words ≤ 1024 * length (reach_of log) → Contains (placed log from words) x → IsLogWord log x
placed_may log from [] x past within c = absurd (nil_has x c)
placed_may log from (w ∷ ws) x past within c = elim (cons_cases (let t : Staged = record { at = word_of log from; word = w } in t) (placed log (from + 1) ws) x c) [
  | inl e ↦ record { offset = from; past = past; within = omega (arith, within); at_is = ap (λ (t : Staged). t.at) (sym e) }
  | inr k ↦ placed_may log (from + 1) ws x (omega (arith, past)) (omega (arith, within)) k
]

-- a plan that needs no segment ends within the segments
pub plan_within : (log : Log) (words : ℕ) → (plan_of log words).need_segment ≡ false → start_of log.len words + words ≤ 1024 * length (reach_of log)
plan_within log words e = ltb-false (1024 * length (reach_of log)) (start_of log.len words + words) e

-- the pad's header
pad_starts : (len words : ℕ) → is_short len words ≡ true → len < start_of len words
pad_starts len words e =
    let start : start_of len words ≡ len + rest_of len = ap (λ (b : Bool). if b then len + rest_of len else len) e in
    omega (arith, start)

pad_may : (log : Log) (words : ℕ) (x : Staged) (b : Bool) → start_of log.len words + words ≤ 1024 * length (reach_of log) → is_short log.len words ≡ b
    → Contains (pad_staged log (if b then Some (log.len, rest_of log.len) else None)) x → IsLogWord log x
pad_may log words x false fits e c = absurd (nil_has x c)
pad_may log words x true fits e c = placed_may log log.len (spelling (Pad (rest_of log.len))) x (omega arith) (omega (arith, pad_starts log.len words e, fits)) c

-- the directory's word
directory_may : (log : Log) (x : Staged) (b : Bool) (spare : Option ℕ) → log.spare ≡ spare
    → Contains (directory_staged log (if b then option_map (λ segment. (let new : NewSegment = record { number = length log.segments; segment = segment } in new)) spare else None)) x → IsDirectoryWord log x
directory_may log x false spare e c = absurd (nil_has x c)
directory_may log x true None e c = absurd (nil_has x c)
directory_may log x true (Some g) e c =
    elim (cons_cases (let t : Staged = record { at = directory_at log.lane (length log.segments); word = g + 1 } in t) [] x c) [
      | inl f ↦ record { segment = g; is_spare = e; at_is = ap (λ (t : Staged). t.at) (sym f); word_is = ap (λ (t : Staged). t.word) (sym f) }
      | inr k ↦ absurd (nil_has x k)
    ]

directory_may_all : (log : Log) (words : ℕ) (x : Staged) → Contains (directory_staged log (new_segment_of log (plan_of log words))) x → IsDirectoryWord log x
directory_may_all log words x c = directory_may log x (nat_lt (1024 * length log.segments) (plan_of log words).len) log.spare refl c

pub staged_may : (log : Log) (r : Record) → IsRecord r → (plan_for log r).need_segment ≡ false → MayStageAll log (staged_for log r)
staged_may log r h room = λ x c.
    let n : ℕ = length_in_words r in
    let fits = plan_within log n room in
    elim (Contains-append_cases (directory_staged log (new_segment_of log (plan_of log n))) (pad_staged log (plan_of log n).pad ++ placed log (plan_of log n).at (spelling r)) x c) [
      | inl d ↦ inl (directory_may_all log n x d)
      | inr t ↦ inr (elim (Contains-append_cases (pad_staged log (plan_of log n).pad) (placed log (plan_of log n).at (spelling r)) x t) [
        | inl p ↦ pad_may log n x (is_short log.len n) fits refl p
        | inr q ↦ placed_may log (start_of log.len n) (spelling r) x (start-past log.len n) (omega (arith, fits, spelled_within r h)) q
      ])
    ]

-- ---- and go apart
-- a record with a key has 130 words at most
pub words_few : (r : Record) (k : ℕ) → IsRecord r → key_of r ≡ Some k → length_in_words r ≤ 130
words_few (Put key value) k h e = let s = h.value_fits.is_short in omega (arith, s)
words_few (Delete key) k h e = omega arith
words_few (Share key cell opening) k h e = omega arith
words_few (Unshare key at) k h e = omega arith
words_few (Loose key value) k h e = let s = h.value_fits.is_short in omega (arith, s)
words_few (LooseDelete key) k h e = omega arith
words_few (Pad words) k h e = absurd (none_some k e)

pub spelled_whole : (r : Record) (k : ℕ) → key_of r ≡ Some k → length (spelling r) ≡ length_in_words r
spelled_whole (Put key value) k e = length-spelling (Put key value)
spelled_whole (Delete key) k e = refl
spelled_whole (Share key cell opening) k e = refl
spelled_whole (Unshare key at) k e = refl
spelled_whole (Loose key value) k e = length-spelling (Loose key value)
spelled_whole (LooseDelete key) k e = refl
spelled_whole (Pad words) k e = absurd (none_some k e)

directory_low : (log : Log) (words : ℕ) → IsFit log → All (λ (s : Staged). s.at < 98304) (directory_staged log (new_segment_of log (plan_of log words)))
directory_low log words fit = λ i d lt.
    let x : Staged = get_or (directory_staged log (new_segment_of log (plan_of log words))) i d in
    let low = (directory_inside log x fit (directory_may_all log words x (Contains-get_or (directory_staged log (new_segment_of log (plan_of log words))) i d lt))).1 in
    omega (arith, low)

pub staged_go_apart : (log : Log) (r : Record) (k : ℕ) → IsFit log → IsApart (reach_of log) → IsRecord r → key_of r ≡ Some k → (plan_for log r).need_segment ≡ false → GoApart (staged_for log r)
staged_go_apart log r k fit apart h e room =
    staged-apart log (length_in_words r) (spelling r) apart (omega (arith, some_words r h)) (omega (arith, words_few r k h e)) (spelled_whole r k e) room (directory_low log (length_in_words r) fit)
