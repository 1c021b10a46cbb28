use Rattle.std.proofs.Common.{ℕ, ◌≡◌, ◌≢◌, ◌<◌, ◌≤◌, ◌+◌, ◌*◌, ◌++◌, false, List, [], ◌∷◌, length, Option, Some, None, All, arith}
use Rattle.std.proofs.lemmas.Bool.{ltb-false}
use Rattle.std.proofs.lemmas.List.Elements.{All-nil, All-cons, All-head}
use Rattle.std.proofs.lemmas.List.Kept.{AllPairs-cons}
use Rattle.dn_log.specs.Log.{Log, plan_of, reach_of, word_of, new_segment_of, IsApart, Fills}
use Rattle.dn_log.specs.declared.plans.NewSegment.{NewSegment}
use Rattle.dn_log.specs.declared.staging.Staged.{Staged}
use Rattle.dn_log.proofs.WordLaws.{word_of-past, word_of-apart}
use Rattle.dn_log.proofs.PlanLaws.{plan-fills}
use Rattle.dn_services.specs.Staged.{placed, directory_staged, pad_staged, staged_of, GoApart}

-- an offset before those of consecutive words has another word of the pool
placed-past : (log : Log) (from at : ℕ) (words : List ℕ) → IsApart (reach_of log) → from < at → at + length words ≤ 1024 * length (reach_of log) → All (λ (s : Staged). word_of log from ≢ s.at) (placed log at words)
placed-past log from at [] apart before within = All-nil (λ (s : Staged). word_of log from ≢ s.at)
placed-past log from at (w ∷ ws) apart before within =
    All-cons (λ (s : Staged). word_of log from ≢ s.at) _ (placed log (at + 1) ws) (λ e. absurd (differs (word_of-apart log from at apart (omega (arith, before, within)) (omega (arith, within)) e)))
    (placed-past log from (at + 1) ws apart (omega (arith, before)) (omega (arith, within)))
  where
    differs : from ≡ at → ⊥
    differs e = omega (arith, before, e)

placed-apart : (log : Log) (at : ℕ) (words : List ℕ) → IsApart (reach_of log) → at + length words ≤ 1024 * length (reach_of log) → GoApart (placed log at words)
placed-apart log at [] apart within = λ i j d h k. absurd (none j k)
  where
    none : (j : ℕ) → j < 0 → ⊥
    none j k = omega (arith, k)
placed-apart log at (w ∷ ws) apart within =
    AllPairs-cons (λ (a b : Staged). a.at ≢ b.at) _ (placed log (at + 1) ws)
    (placed-past log at (at + 1) ws apart (omega arith) (omega (arith, within)))
    (placed-apart log (at + 1) ws apart (omega (arith, within)))

-- with a pad's header before them
padded-apart : (log : Log) (pad : Option (ℕ × ℕ)) (len at count : ℕ) (words : List ℕ) → IsApart (reach_of log) → Fills pad len at count → at + length words ≤ 1024 * length (reach_of log) → GoApart (pad_staged log pad ++ placed log at words)
padded-apart log None len at count words apart fills within = placed-apart log at words apart within
padded-apart log (Some pad) len at count words apart fills within =
    AllPairs-cons (λ (a b : Staged). a.at ≢ b.at) _ (placed log at words)
    (placed-past log pad.0 at words apart (omega (arith, fills.ends, fills.least)) within)
    (placed-apart log at words apart within)

-- all lie in segments
placed-in_segments : (log : Log) (at : ℕ) (words : List ℕ) → All (λ (s : Staged). 98304 ≤ s.at) (placed log at words)
placed-in_segments log at [] = All-nil (λ (s : Staged). 98304 ≤ s.at)
placed-in_segments log at (w ∷ ws) = All-cons (λ (s : Staged). 98304 ≤ s.at) _ (placed log (at + 1) ws) (word_of-past log at) (placed-in_segments log (at + 1) ws)

padded-in_segments : (log : Log) (pad : Option (ℕ × ℕ)) (at : ℕ) (words : List ℕ) → All (λ (s : Staged). 98304 ≤ s.at) (pad_staged log pad ++ placed log at words)
padded-in_segments log None at words = placed-in_segments log at words
padded-in_segments log (Some pad) at words = All-cons (λ (s : Staged). 98304 ≤ s.at) _ (placed log at words) (word_of-past log pad.0) (placed-in_segments log at words)

-- with a directory word before them
whole-apart : (log : Log) (new : Option NewSegment) (behind : List Staged) → All (λ (s : Staged). s.at < 98304) (directory_staged log new) → All (λ (s : Staged). 98304 ≤ s.at) behind → GoApart behind
    → GoApart (directory_staged log new ++ behind)
whole-apart log None behind before past apart = apart
whole-apart log (Some new) behind before past apart =
    AllPairs-cons (λ (a b : Staged). a.at ≢ b.at) _ behind (λ k d h. differs _ _ (All-head (λ (s : Staged). s.at < 98304) _ [] before) (past k d h)) apart
  where
    differs : (a b : ℕ) → a < 98304 → 98304 ≤ b → a ≡ b → ⊥
    differs a b h k e = omega (arith, h, k, e)

-- what is written for a record goes to different words of the pool
pub staged-apart : (log : Log) (count : ℕ) (words : List ℕ) → IsApart (reach_of log) → 1 ≤ count → count ≤ 1024 → length words ≡ count
    → (plan_of log count).need_segment ≡ false → All (λ (s : Staged). s.at < 98304) (directory_staged log (new_segment_of log (plan_of log count)))
    → GoApart (staged_of log count words)
staged-apart log count words apart least most same room before =
    let within : (plan_of log count).at + length words ≤ 1024 * length (reach_of log) =
    (let fits : (plan_of log count).at + count ≤ 1024 * length (reach_of log) = ltb-false (1024 * length (reach_of log)) ((plan_of log count).at + count) room in omega (arith, fits, same)) in
    whole-apart log (new_segment_of log (plan_of log count))
    (pad_staged log (plan_of log count).pad ++ placed log (plan_of log count).at words)
    before
    (padded-in_segments log (plan_of log count).pad (plan_of log count).at words)
    (padded-apart log (plan_of log count).pad log.len (plan_of log count).at count words apart (plan-fills log count least most) within)
