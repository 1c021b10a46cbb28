use Rattle.std.proofs.Common.{ℕ, inl, inr}
use Rattle.dn_act.specs.declared.actions.Action.{Action}
use Rattle.dn_act.specs.declared.actions.Action.TheVariants.{Load, Store, Cas, Or, Add}
use Rattle.dn_index.specs.Footprint.{Purpose, Finds, Sets, Removes, Footprint, SetsWord, IsOfBucket}
use Rattle.dn_merge.specs.Words.{IsOfMerger}

-- a word that a walk stores is one of a bucket
sets_within : (key at word : ℕ) → SetsWord key at word → IsOfBucket at
sets_within key at word h = elim h [ inl k ↦ k.0.0 | inr o ↦ elim o [ inl p ↦ p.0 | inr n ↦ n.0.0 ] ]

-- the merger may do what its walk may
pub walk_within : (lane key : ℕ) (p : Purpose) (action : Action) → Footprint p key action → IsOfMerger lane action
walk_within lane key Finds (Load at) h = inr (inr h)
walk_within lane key Finds (Store at word) h = absurd h
walk_within lane key Finds (Cas at old new) h = absurd h
walk_within lane key Finds (Or at bits) h = absurd h
walk_within lane key Finds (Add at by) h = absurd h
walk_within lane key Sets (Load at) h = inr h
walk_within lane key Sets (Store at word) h = inr (sets_within key at word h)
walk_within lane key Sets (Cas at old new) h = absurd h
walk_within lane key Sets (Or at bits) h = absurd h
walk_within lane key Sets (Add at by) h = h
walk_within lane key Removes (Load at) h = inr (inr h)
walk_within lane key Removes (Store at word) h = inr h.0.0
walk_within lane key Removes (Cas at old new) h = absurd h
walk_within lane key Removes (Or at bits) h = absurd h
walk_within lane key Removes (Add at by) h = absurd h
