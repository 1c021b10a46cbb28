use Rattle.std.proofs.Common.{length, ◌≡◌, ◌≢◌, ◌⊎◌, inl, inr, ℕ, List, Option, Some, None, ap, sym, refl, subst, ◌∙◌}
use Rattle.dn_io.specs.Rose.{Rose}
use Rattle.dn_io.specs.Whole.{WroteFront}
use Rattle.dn_io.specs.declared.statuses.Status.{Status}
use Rattle.dn_io.specs.declared.statuses.Status.TheVariants as status
use Rattle.dn_script.specs.Script.{BadLine}
use Rattle.dn_script.specs.declared.scripts.Script.{Script}
use Rattle.dn_whole.specs.Whole.{Plays}
use Rattle.dn_whole.specs.declared.ends.End.{End}
use Rattle.dn_whole.specs.declared.ends.End.TheVariants as end
use Rattle.dinomo.specs.Ending.{Change, Ends, EndsPlayed, EndsBad, IsUntouched, Writes, status_of}
use Rattle.dinomo.specs.Plays.{Handed, Plays as PlaysTo, change_of}
use Rattle.dinomo.specs.Pool.{pool_segments}
use Rattle.dinomo.specs.Verdict.{Verdict, Long, Bad, Played, Deserves, IsRead, verdict_of}

-- What a status says, from what was done.

-- ---- an output that was made, and then written, whole or in part
pub no_fault : (e : End) → status_of e ≢ status.WriteFault
no_fault end.Done is = absurd (cc)
no_fault end.Long is = absurd (cc)
no_fault end.IndexFull is = absurd (cc)

ended : (script : Script) (c : Change) (e : End) (output : List ℕ) → Plays script c.words c.now output e → Writes c.old c.new output
    → EndsPlayed script c (status_of e)
ended script c end.Done output p w = record { output = output; play = p; written = w }
ended script c end.Long output p w = record { output = output; play = p; written = w }
ended script c end.IndexFull output p w = record { output = output; play = p; written = w }

pub written : (script : Script) (c : Change) (e : End) (output bytes : List ℕ) (s result : Status) → Plays script c.words c.now output e
    → bytes ≡ output → s ≡ status_of e
    → (result ≡ s) ⊎ (result ≡ status.WriteFault) → (result ≢ status.WriteFault → Writes c.old c.new bytes)
    → (result ≡ status.WriteFault → s ≢ status.WriteFault → WroteFront c.old c.new bytes) → EndsPlayed script c result
written script c e output bytes s result p all same (inl is) whole part =
    let to : result ≡ status_of e = is ∙ same in
    subst (EndsPlayed script c) (sym to) (ended script c e bytes (subst (λ (xs : List ℕ). Plays script c.words c.now xs e) (sym all) p)
    (whole (λ f. no_fault e (sym to ∙ f))))
written script c e output bytes s result p all same (inr is) whole part =
    subst (EndsPlayed script c) (sym is) (record {
      end = e;
      output = bytes;
      play = subst (λ (xs : List ℕ). Plays script c.words c.now xs e) (sym all) p;
      part = part is (λ f. no_fault e (sym same ∙ f));
    })

-- ---- a script that wasn't read, or for which there was no memory
abbrev pub some_verdict : ℕ → Option (List ℕ) → Verdict
some_verdict segments None = Long
some_verdict segments (Some bytes) = verdict_of segments bytes

pub deserved : (segments : ℕ) (left : Option (List ℕ)) → Deserves segments left (some_verdict segments left)
deserved segments None bytes is = absurd (cc)
deserved segments (Some b) bytes is = let same : b ≡ bytes = cc in ap (verdict_of segments) (sym same)

pub unread : (v : Verdict) (c : Change) → IsUntouched c → Ends v c status.ReadFault
unread Long c h = h
unread (Bad bad) c h = h
unread (Played script) c h = h

pub wanting : (v : Verdict) (c : Change) → IsUntouched c → Ends v c status.OutOfMemory
wanting Long c h = h
wanting (Bad bad) c h = h
wanting (Played script) c h = record { words = inl h.words; unwritten = h.unwritten }

-- ---- what a play promises then
pub refused : (old new : Handed) (bad : BadLine) (end : Status) → IsRead (pool_segments (length old.words)) old.left old.reads new.reads (Bad bad)
    → EndsBad bad (change_of old new) end → end ≢ status.ReadFault → end ≢ status.PoolFault → (end ≡ status.WriteFault → Rose old.writes new.writes)
    → (end ≢ status.WriteFault → new.writes ≡ old.writes) → new.accesses ≡ old.accesses → PlaysTo old new end
refused old new bad end read ends no_read no_pool failed wrote same = record {
  verdict = Bad bad;
  told = read.told;
  ends = ends;
  read_to_end = λ is. absurd (subst (EndsBad bad (change_of old new)) is ends);
  read_fault = λ is. absurd (no_read is);
  no_read_fault = λ is. read.reads;
  write_fault = failed;
  no_write_fault = wrote;
  pool_fault = λ is. absurd (no_pool is);
  no_fault = λ is. same;
}

pub not_read : (old new : Handed) → Rose old.reads new.reads → IsUntouched (change_of old new) → new.writes ≡ old.writes → new.accesses ≡ old.accesses
    → PlaysTo old new status.ReadFault
not_read old new rose same writes accesses = record {
  verdict = some_verdict (pool_segments (length old.words)) old.left;
  told = deserved (pool_segments (length old.words)) old.left;
  ends = unread (some_verdict (pool_segments (length old.words)) old.left) (change_of old new) same;
  read_to_end = λ is. absurd (cc);
  read_fault = λ is. rose;
  no_read_fault = λ not_so. absurd (not_so refl);
  write_fault = λ is. absurd (cc);
  no_write_fault = λ not_so. writes;
  pool_fault = λ is. absurd (cc);
  no_fault = λ not_so. accesses;
}

pub no_memory : (old new : Handed) → new.reads ≡ old.reads → IsUntouched (change_of old new) → new.writes ≡ old.writes → new.accesses ≡ old.accesses
    → PlaysTo old new status.OutOfMemory
no_memory old new reads same writes accesses = record {
  verdict = some_verdict (pool_segments (length old.words)) old.left;
  told = deserved (pool_segments (length old.words)) old.left;
  ends = wanting (some_verdict (pool_segments (length old.words)) old.left) (change_of old new) same;
  read_to_end = λ is. absurd (cc);
  read_fault = λ is. absurd (cc);
  no_read_fault = λ not_so. reads;
  write_fault = λ is. absurd (cc);
  no_write_fault = λ not_so. writes;
  pool_fault = λ is. absurd (cc);
  no_fault = λ not_so. accesses;
}
