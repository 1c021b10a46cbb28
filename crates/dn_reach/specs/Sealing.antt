use Rattle.std.specs.Prelude.{◌≡◌, ℕ, true, false, [], Some}
use Rattle.dn_record.specs.Grammar.{IsRecord}
use Rattle.dn_record.specs.Record.{key_of}
use Rattle.dn_record.specs.declared.records.Record.{Record}
use Rattle.dn_log.specs.Log.{Log}
use Rattle.dn_model.specs.Regions.{slot_of}
use Rattle.dn_model.specs.OneLog.{is_plain}
use Rattle.dn_owners.specs.Known.{Look}
use Rattle.dn_beside.specs.Pool.{Pool}
use Rattle.dn_reach.specs.Staging.{AreFlowing}
use Rattle.dn_reach.specs.Placing.{plan_for, staged_for}

-- What a lane knows while it writes a put or delete of key k: the plan of its record has room, and the call under way has
-- looked at the key's slot.
pub record MayWrite (p : Pool) (n : ℕ) (log : Log) (k : ℕ) (r : Record) : Type 0 where
  pub spelled : IsRecord r
  pub plain : is_plain r ≡ true
  pub key : key_of r ≡ Some k
  pub room : (plan_for log r).need_segment ≡ false
  pub look : Look
  pub looked : (p.owners.knows n).look ≡ Some look
  pub slot : slot_of k ≡ look.slot

-- Once all its words stand in the pool, its exchange of the gate may seal it.
pub record MaySeal (p : Pool) (n : ℕ) (log : Log) (k : ℕ) (r : Record) : Type 0 where
  pub may : MayWrite p n log k r
  pub flowed : AreFlowing p.words [] (staged_for log r)
