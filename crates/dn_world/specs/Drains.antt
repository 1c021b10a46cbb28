use Rattle.std.specs.Prelude.{◌≡◌, ◌≤◌, ℕ, zero, suc, ◌+◌, List, [], ◌++◌, replicate}
use Rattle.dn_drain.specs.Alone.{Alone, merger_or}
use Rattle.dn_drain.specs.Drained.{idle_of}
use Rattle.dn_drain.specs.Ends.{Drains}
use Rattle.dn_drain.specs.declared.drains.Merged.{Merged}
use Rattle.dn_merge.specs.declared.mergers.MergeTurn.{MergeTurn}
use Rattle.dn_merge.specs.declared.mergers.MergeTurn.TheVariants.{IndexFull}
use Rattle.dn_outcomes.specs.Runs.{after}
use Rattle.dn_outcomes.specs.State.{World}
use Rattle.dn_outcomes.specs.declared.events.Event.{Event}
use Rattle.dn_outcomes.specs.declared.events.Event.TheVariants.{Merge}

-- How far mergers go that drain the lanes of a world: each up to the first of its actions that ends its drain, and no further. So
-- the world alone determines what they do.

-- lane n's merger over the words of a world
abbrev pub alone_of : World → ℕ → Alone
alone_of w n = record { words = w.machine.words; merger = merger_or n (w.machine.mergers n) }

-- behind these events it acts alone up to the end of its drain, which has this answer
pub record DrainsLane (w : World) (n : ℕ) (before es : List (Event × List ℕ)) (end : MergeTurn) : Type 0 where
  pub count : ℕ
  pub drains : Drains (alone_of (after w before) n) count end
  pub events : es ≡ before ++ replicate count (Merge n, [])

-- lanes 1 to n are drained, one after the other
abbrev pub DrainsLanes : World → ℕ → List (Event × List ℕ) → Type 0
DrainsLanes w zero es = es ≡ []
DrainsLanes w (suc n) es = (before : List (Event × List ℕ)) × (merged : Merged) × DrainsLanes w n before × DrainsLane w (n + 1) before es (idle_of merged)

-- All lanes are drained, and these are the words then.
pub record DrainsAll (w : World) (now : List ℕ) : Type 0 where
  pub es : List (Event × List ℕ)
  pub drains : DrainsLanes w w.made es
  pub words : (after w es).machine.words ≡ now

-- All lanes before this one are drained, its merger finds the index full by this counter, and these are the words then.
pub record FillsIndex (w : World) (lane counter : ℕ) (now : List ℕ) : Type 0 where
  pub before : ℕ
  pub next : before + 1 ≡ lane
  pub most : lane ≤ w.made
  pub drained : List (Event × List ℕ)
  pub drains : DrainsLanes w before drained
  pub es : List (Event × List ℕ)
  pub fills : DrainsLane w lane drained es (IndexFull counter)
  pub words : (after w es).machine.words ≡ now
