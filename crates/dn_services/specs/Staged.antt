use Rattle.std.specs.Prelude.{ℕ, ◌≢◌, ◌+◌, ◌++◌, ◌<◌, List, [], ◌∷◌, All, AllPairs, Option, Some, None}
use Rattle.dn_act.specs.Words.{pool_size}
use Rattle.dn_word.specs.Regions.{directory_at}
use Rattle.dn_record.specs.Record.{spelling}
use Rattle.dn_record.specs.declared.records.Record.TheVariants.{Pad}
use Rattle.dn_log.specs.Log.{Log, plan_of, new_segment_of, word_of}
use Rattle.dn_log.specs.declared.plans.Plan.{Plan}
use Rattle.dn_log.specs.declared.plans.NewSegment.{NewSegment}
use Rattle.dn_log.specs.declared.staging.Staged.{Staged}

-- What is written for a record, before the gate says that it is sealed.

-- words at consecutive offsets of a log
abbrev pub placed : Log → ℕ → List ℕ → List Staged
placed log offset [] = []
placed log offset (w ∷ ws) = (record { at = word_of log offset; word = w }) ∷ placed log (offset + 1) ws

-- the directory word of a new segment: its number in the pool, plus 1
abbrev pub directory_staged : Log → Option NewSegment → List Staged
directory_staged log None = []
directory_staged log (Some new) = (record { at = directory_at log.lane new.number; word = new.segment + 1 }) ∷ []

-- the words of a pad: its header
abbrev pub pad_staged : Log → Option (ℕ × ℕ) → List Staged
pad_staged log None = []
pad_staged log (Some pad) = placed log pad.0 (spelling (Pad pad.1))

-- by a plan: the directory word, the pad, the record
abbrev pub staged_by : Log → Plan → List ℕ → List Staged
staged_by log plan words =
    directory_staged log (new_segment_of log plan) ++ (pad_staged log plan.pad ++ placed log plan.at words)

-- of a record of so many words, spelled by these
abbrev pub staged_of : Log → ℕ → List ℕ → List Staged
staged_of log count words = staged_by log (plan_of log count) words

-- they go to words of a pool of so many segments
abbrev pub AreWithin : ℕ → List Staged → Type 0
AreWithin pool staged = All (λ (s : Staged). s.at < pool_size pool) staged

-- no two of them go to the same word, so that the pool is the same in whatever order they flow
abbrev pub GoApart : List Staged → Type 0
GoApart staged = AllPairs (λ (a b : Staged). a.at ≢ b.at) staged
