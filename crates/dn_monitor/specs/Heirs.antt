use Rattle.std.specs.Prelude.{◌≡◌, ◌≢◌, ℕ, ◌<◌, List, [], slice_index, replicate}
use Rattle.dn_ring.specs.Ring.{IsOwner}

-- The lanes that a takeover gives the slots to: each slot's owner on the ring of the live lanes; nobody where none is
-- live.
pub record AreHeirs (live heirs : List ℕ) : Type 0 where
  pub owners : live ≢ [] → (slot : ℕ) → slot < 64 → IsOwner live slot (slice_index heirs slot)
  pub nobody : live ≡ [] → (slot : ℕ) → slice_index heirs slot ≡ 0

-- The heirs of an order that is no takeover: nobody, for each of the 64 slots.
abbrev pub no_heirs : List ℕ
no_heirs = replicate 64 0
