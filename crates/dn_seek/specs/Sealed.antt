use Rattle.std.specs.Prelude.{◌≡◌, ℕ, true, Some}
use Rattle.dn_word.specs.declared.packed.place.Ref.{Ref}
use Rattle.dn_record.specs.declared.records.Record.{Record}
use Rattle.dn_model.specs.Held.{record_at, is_authority}
use Rattle.dn_model.specs.OneLog.{is_plain}
use Rattle.dn_beside.specs.Pool.{Pool, store_in}

-- A record of a key is sealed at a place, in the log of whatever lane: a Put or a Delete.
pub record IsSealed (p : Pool) (key : ℕ) (r : Record) (at : Ref) : Type 0 where
  pub there : record_at (store_in p).logs (Some at) ≡ Some r
  pub of_key : is_authority key r ≡ true
  pub plain : is_plain r ≡ true
