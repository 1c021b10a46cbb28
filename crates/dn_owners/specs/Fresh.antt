use Rattle.std.specs.Prelude.{ℕ, ◌&&◌, None, nat_le}
use Rattle.dn_store.specs.Fresh.{fresh_store}
use Rattle.dn_owners.specs.Known.{Owners, knowing_nothing}

-- the owners that an opening for so many lanes leaves: the lanes run and know nothing yet, nothing is watched or
-- promised
abbrev pub fresh_owners : ℕ → ℕ → (ℕ → ℕ) → Owners
fresh_owners pool lanes owners = record {
  store = fresh_store pool owners;
  knows = λ n. knowing_nothing (nat_le 1 n && nat_le n lanes);
  watch = None;
  promised = λ k. 0;
}
