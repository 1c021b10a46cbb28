use Rattle.std.proofs.Common.{ℕ, ◌+◌, ◌*◌, ◌<◌, ◌≤◌, ◌≡◌, ◌⊎◌, ◌++◌, [], ◌∷◌, length, slice_index, option_to_list, Option, Some, inl, inr, ◌∙◌, ap, arith}
use Rattle.std.proofs.lemmas.List.{length-append, get_or-append-add}
use Rattle.dn_log.specs.Log.{Log, reach_of, IsFit}
use Rattle.dn_log.specs.declared.staging.Staged.{Staged}
use Rattle.dn_log.proofs.WordLaws.{word_of-past, word_of-below}
use Rattle.dn_reach.specs.Staging.{IsDirectoryWord, MayStage}

-- Where the words go that a lane may stage.

pub few_segments : (log : Log) → IsFit log → length log.segments ≤ 256
few_segments log fit = omega (arith, fit.count, length-append log.segments (option_to_list log.spare))

-- with a spare one a lane's segments are one more
pub reach_longer : (log : Log) (g : ℕ) → log.spare ≡ Some g → length (reach_of log) ≡ length log.segments + 1
reach_longer log g e = ap (λ (s : Option ℕ). length (log.segments ++ option_to_list s)) e ∙ length-append log.segments (g ∷ [])

-- the directory's word lies in the directory
pub directory_inside : (log : Log) (x : Staged) → IsFit log → (d : IsDirectoryWord log x) → (length log.segments < 256) × (x.at < 32768)
directory_inside log x fit d =
    let few : length log.segments < 256 = omega (arith, fit.count, reach_longer log d.segment d.is_spare) in
    (few, omega (arith, few, d.at_is, fit.lane))

-- behind the words at the pool's front, beside the buckets, and within the pool
pub may_past : (log : Log) (x : Staged) → MayStage log x → 1024 ≤ x.at
may_past log x (inl d) = omega (arith, d.at_is)
may_past log x (inr w) = omega (arith, w.at_is, word_of-past log w.offset)

pub may_outside : (log : Log) (x : Staged) → IsFit log → MayStage log x → (x.at < 32768) ⊎ (98304 ≤ x.at)
may_outside log x fit (inl d) = inl (directory_inside log x fit d).1
may_outside log x fit (inr w) = inr (omega (arith, w.at_is, word_of-past log w.offset))

pub may_below : (log : Log) (x : Staged) → IsFit log → MayStage log x → x.at < 98304 + 1024 * log.pool
may_below log x fit (inl d) = omega (arith, (directory_inside log x fit d).1)
may_below log x fit (inr w) = omega (arith, w.at_is, word_of-below log w.offset fit w.within)

-- what the spare's number is in the lane's segments
pub spare_last : (log : Log) (g : ℕ) → log.spare ≡ Some g → slice_index (reach_of log) (length log.segments) ≡ g
spare_last log g e =
    ap (λ (s : Option ℕ). slice_index (log.segments ++ option_to_list s) (length log.segments)) e
    ∙ ap (λ i. slice_index (log.segments ++ g ∷ []) i) (plus_none (length log.segments)) ∙ get_or-append-add log.segments (g ∷ []) 0 0
  where
    plus_none : (n : ℕ) → n ≡ n + 0
    plus_none n = omega arith
