use Rattle.std.specs.Prelude.{◌≡◌, ◌≢◌, ◌<◌, ℕ, List, Option, length}
use Rattle.std.specs.Io.KnownBytes.{IsAtEnd}
use Rattle.dn_io.specs.Rose.{Rose}
use Rattle.dn_io.specs.declared.statuses.Status.{Status}
use Rattle.dn_io.specs.declared.statuses.Status.TheVariants as status
use Rattle.dinomo.specs.Ending.{Change, Ends}
use Rattle.dinomo.specs.Pool.{pool_segments}
use Rattle.dinomo.specs.Verdict.{Verdict, Deserves}

-- What a play is handed, at a moment: the bytes that its source has left and those that its sink has written, where these tell
-- them; the words of its pool; and how many reads, writes and accesses failed so far.
pub record Handed : Type 0 where
  pub left : Option (List ℕ)
  pub reads : ℕ
  pub written : Option (List ℕ)
  pub writes : ℕ
  pub words : List ℕ
  pub accesses : ℕ

abbrev pub change_of : Handed → Handed → Change
change_of old new = record { words = old.words; now = new.words; old = old.written; new = new.written }

-- What a play of the source's script ends with and leaves: what `play` promises, and `run` for the word `play`.
pub record Plays (old new : Handed) (end : Status) : Type 0 where
  -- what was read deserved some verdict: that of the source's bytes, where it tells them
  pub verdict : Verdict
  pub told : Deserves (pool_segments (length old.words)) old.left verdict
  -- by verdict and status it is said what was written, and what the pool's words are; a status that the verdict doesn't allow
  -- never comes
  pub ends : Ends verdict (change_of old new) end
  pub read_to_end : end ≡ status.Ok → IsAtEnd new.left
  -- each fault has its own count that rose, and a count rises with that fault alone
  pub read_fault : end ≡ status.ReadFault → Rose old.reads new.reads
  pub no_read_fault : end ≢ status.ReadFault → new.reads ≡ old.reads
  pub write_fault : end ≡ status.WriteFault → Rose old.writes new.writes
  pub no_write_fault : end ≢ status.WriteFault → new.writes ≡ old.writes
  pub pool_fault : end ≡ status.PoolFault → old.accesses < new.accesses
  pub no_fault : end ≢ status.PoolFault → new.accesses ≡ old.accesses
