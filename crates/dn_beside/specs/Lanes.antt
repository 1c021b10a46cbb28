use Rattle.std.specs.Prelude.{◌≡◌, ◌≢◌, ◌⊎◌, ℕ, ◌+◌, ◌*◌, ◌<◌, false, Some, None}
use Rattle.dn_word.specs.declared.packed.deed.Deed.{Deed}
use Rattle.dn_word.specs.declared.packed.deed.DeedState.TheVariants.{Owned}
use Rattle.dn_act.specs.Words.{word_at}
use Rattle.dn_record.specs.declared.records.Record.{Record}
use Rattle.dn_model.specs.Regions.{gate_at, directory, slot_of}
use Rattle.dn_store.specs.Holding.{waiting, authority_in}
use Rattle.dn_owners.specs.Known.{Look}
use Rattle.dn_owners.specs.Sound.{Agrees}
use Rattle.dn_beside.specs.Pool.{Pool, store_in}
use Rattle.dn_beside.specs.Chains.{IsPathKept}

-- What a step of another actor leaves to lane n.

-- its own words: its directory, the segments that it holds, and its gate but for the bit
pub record LeavesOwn (n : ℕ) (p q : Pool) : Type 0 where
  pub pool : (store_in q).pool ≡ (store_in p).pool
  pub len : ((store_in q).gates n).len ≡ ((store_in p).gates n).len
  pub gate : ((store_in q).gates n).fenced ≡ false → word_at q.words (gate_at n) ≡ word_at p.words (gate_at n)
  pub directory : (i : ℕ) → i < 256 → directory q.words n i ≡ directory p.words n i
  pub holders : (g : ℕ) → (store_in p).holders g ≡ n → (store_in q).holders g ≡ n
  pub segments : (g i : ℕ) → i < 1024 → (store_in p).holders g ≡ n
      → word_at q.words (98304 + (g * 1024 + i)) ≡ word_at p.words (98304 + (g * 1024 + i))

-- a deed becomes Owned by a grant alone, which has a later epoch
abbrev pub IsMoved : Deed → Deed → Type 0
IsMoved old new = (new ≡ old) ⊎ ((new.epoch ≡ old.epoch → new.state ≢ Owned))

-- and what it knows of a key of the slot at which it has looked
pub record LeavesKey (n k : ℕ) (p q : Pool) : Type 0 where
  -- the record that it has located
  pub located : (r : Record) → Agrees (authority_in (store_in p) k) k r → Agrees (authority_in (store_in q) k) k r
  -- how far it has found the key in its chain, where none of its records is unmerged
  pub found : waiting (store_in p) n k ≡ None → IsPathKept k p q

-- all that it rests on, that of a key as long as its gate has no bit
pub record LeavesLane (n : ℕ) (p q : Pool) : Type 0 where
  pub own : LeavesOwn n p q
  pub log : (store_in q).logs n ≡ (store_in p).logs n
  pub knows : q.owners.knows n ≡ p.owners.knows n
  pub deeds : (t : ℕ) → t < 64 → IsMoved ((store_in p).deeds t) ((store_in q).deeds t)
  pub keys : (k : ℕ) (l : Look) → 0 < k → (p.owners.knows n).look ≡ Some l → slot_of k ≡ l.slot
      → ((store_in q).gates n).fenced ≡ false → LeavesKey n k p q
