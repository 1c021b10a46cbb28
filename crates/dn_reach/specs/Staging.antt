use Rattle.std.specs.Prelude.{◌≡◌, ◌⊎◌, ◌≤◌, ◌<◌, ℕ, ◌+◌, ◌*◌, List, length, Contains, Some}
use Rattle.dn_word.specs.Regions.{directory_at}
use Rattle.dn_act.specs.Words.{word_at}
use Rattle.dn_log.specs.Log.{Log, reach_of, word_of}
use Rattle.dn_log.specs.declared.staging.Staged.{Staged}

-- What a lane may have staged for its log, whatever becomes of it: no word that others read yet.

-- the directory's word for the spare, behind those of the lane's own segments
pub record IsDirectoryWord (log : Log) (x : Staged) : Type 0 where
  pub segment : ℕ
  pub is_spare : log.spare ≡ Some segment
  pub at_is : x.at ≡ directory_at log.lane (length log.segments)
  pub word_is : x.word ≡ segment + 1

-- a word behind what is sealed, within the lane's segments and the spare
pub record IsLogWord (log : Log) (x : Staged) : Type 0 where
  pub offset : ℕ
  pub past : log.len ≤ offset
  pub within : offset < 1024 * length (reach_of log)
  pub at_is : x.at ≡ word_of log offset

abbrev pub MayStage : Log → Staged → Type 0
MayStage log x = IsDirectoryWord log x ⊎ IsLogWord log x

abbrev pub MayStageAll : Log → List Staged → Type 0
MayStageAll log all = (x : Staged) → Contains all x → MayStage log x

-- each of these words is staged or stands in the pool, and nothing else is staged
pub record AreFlowing (words : List ℕ) (staged all : List Staged) : Type 0 where
  pub there : (x : Staged) → Contains all x → Contains staged x ⊎ (word_at words x.at ≡ x.word)
  pub known : (x : Staged) → Contains staged x → Contains all x
