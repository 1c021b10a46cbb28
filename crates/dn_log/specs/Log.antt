use Rattle.std.specs.Prelude.{◌≡◌, ℕ, ◌+◌, ◌-◌, ◌*◌, ◌/◌, ◌%◌, ◌<◌, ◌≤◌, ◌++◌, Bool, List, length, All, Option, Some, None, nat_lt, slice_index, option_to_list, if◌then◌else◌}
use Rattle.std.specs.Option.{option_map}
use Rattle.dn_word.specs.Regions.{segments_at}
use Rattle.dn_log.specs.declared.plans.Plan.{Plan}
use Rattle.dn_log.specs.declared.plans.NewSegment.{NewSegment}

-- a lane's log: the lane's number, the pool's segments, the sealed length in words, the lane's segments in order, a spare one
pub record Log : Type 0 where
  pub lane : ℕ
  pub pool : ℕ
  pub len : ℕ
  pub segments : List ℕ
  pub spare : Option ℕ

-- the lane's segments with the spare behind them
abbrev pub reach_of : Log → List ℕ
reach_of log = log.segments ++ option_to_list log.spare

-- how many words of the segment in use are left; at its end the whole next one is
abbrev pub rest_of : ℕ → ℕ
rest_of len = 1024 - len % 1024

-- whether the rest is too short for a record of so many words
abbrev pub is_short : ℕ → ℕ → Bool
is_short len words = nat_lt (rest_of len) words

-- where the record begins: at the sealed length, or in the next segment
abbrev pub start_of : ℕ → ℕ → ℕ
start_of len words = if is_short len words then len + rest_of len else len

-- a rest that is too short is a pad; a segment is needed where the lane's own and the spare don't reach
abbrev pub plan_of : Log → ℕ → Plan
plan_of log words = record {
  pad = if is_short log.len words then Some (log.len, rest_of log.len) else None;
  at = start_of log.len words;
  len = start_of log.len words + words;
  need_segment = nat_lt (1024 * length (reach_of log)) (start_of log.len words + words);
}

-- the plan is the one that the log gives now for a record of so many words
pub record IsPlan (log : Log) (plan : Plan) (words : ℕ) : Type 0 where
  pub least : 1 ≤ words
  pub most : words ≤ 1024
  pub same : plan ≡ plan_of log words

-- what a plan promises of where the record goes
pub record IsPlaced (log : Log) (plan : Plan) (words : ℕ) : Type 0 where
  -- past what is sealed
  pub past : log.len ≤ plan.at
  -- for all its words
  pub whole : plan.len ≡ plan.at + words
  -- its first and its last word lie in one segment
  pub together : plan.at / 1024 ≡ (plan.len - 1) / 1024

-- a pad begins at the sealed length, ends with its segment where the record begins, and is too short for the record
pub record IsPad (pad : ℕ × ℕ) (from to words : ℕ) : Type 0 where
  pub begins : pad.0 ≡ from
  pub ends : pad.0 + pad.1 ≡ to
  pub segment_ends : to % 1024 ≡ 0
  pub least : 1 ≤ pad.1
  pub short : pad.1 < words

-- without a pad the record begins at the sealed length
abbrev pub Fills : Option (ℕ × ℕ) → ℕ → ℕ → ℕ → Type 0
Fills None from to words = from ≡ to
Fills (Some pad) from to words = IsPad pad from to words

-- the log after its plan was sealed: the spare is used where the lane's own segments don't reach
abbrev pub sealed_of : Log → Plan → Log
sealed_of log plan = if nat_lt (1024 * length log.segments) plan.len
    then record log { len = plan.len; segments = reach_of log; spare = None }
    else record log { len = plan.len }

-- the spare under the next number of the lane's directory, where the plan goes past the lane's own segments
abbrev pub new_segment_of : Log → Plan → Option NewSegment
new_segment_of log plan = if nat_lt (1024 * length log.segments) plan.len
    then option_map (λ segment. record { number = length log.segments; segment = segment }) log.spare
    else None

-- the pool's word of an offset
abbrev pub word_of : Log → ℕ → ℕ
word_of log offset = segments_at + (1024 * slice_index (reach_of log) (offset / 1024) + offset % 1024)

-- a log that fits the pool
pub record IsFit (log : Log) : Type 0 where
  pub lane : log.lane < 64
  pub pool : log.pool ≤ 8192
  pub count : length (reach_of log) ≤ 256
  pub len : log.len ≤ 1024 * length log.segments
  pub each : All (λ g. g < log.pool) (reach_of log)

-- no segment is named twice
pub record IsApart (segments : List ℕ) : Type 0 where
  pub each : (i j : ℕ) → i < length segments → j < length segments → slice_index segments i ≡ slice_index segments j → i ≡ j
