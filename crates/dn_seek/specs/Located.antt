use Rattle.std.specs.Prelude.{◌≡◌, ℕ, Bool, true, false}
use Rattle.dn_record.specs.declared.records.Record.{Record}
use Rattle.dn_record.specs.declared.records.Record.TheVariants.{Delete}
use Rattle.dn_model.specs.Held.{is_authority}
use Rattle.dn_model.specs.OneLog.{is_plain}
use Rattle.dn_locate.specs.Fetch.{Fetching}
use Rattle.dn_locate.specs.declared.fetches.Wish.{Wish}
use Rattle.dn_plan.specs.declared.phases.Way.{Way}
use Rattle.dn_plan.specs.declared.phases.Way.TheVariants.{Index}
use Rattle.dn_store.specs.Holding.{authority_in}
use Rattle.dn_owners.specs.Sound.{Agrees}
use Rattle.dn_beside.specs.Pool.{Pool, store_in}
use Rattle.dn_seek.specs.Fetching.{Brings}

-- How a location ends: with the record that is the key's authority. One that ends without a record ends as with a Delete
-- of the key, which has no authority then.
pub record IsLocatedAs (p : Pool) (key : ℕ) (wish : Wish) (f : Fetching) (way : Way) (fetched : Bool) : Type 0 where
  pub of : Record
  pub agrees : Agrees (authority_in (store_in p) key) key of
  pub of_key : is_authority key of ≡ true
  pub plain : is_plain of ≡ true
  pub brings : fetched ≡ true → Brings p key wish of f
  pub without : fetched ≡ false → (of ≡ Delete key) × (way ≡ Index)
