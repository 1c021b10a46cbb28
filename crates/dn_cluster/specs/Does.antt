use Rattle.std.specs.Prelude.{◌≡◌, ℕ, Bool, List, ◌∷◌, [], ◌++◌}
use Rattle.dn_word.specs.declared.positions.Position.{Position}
use Rattle.dn_route.specs.CallersOrder.{Told, told_now}
use Rattle.dn_callers.specs.Callers.{Standing}
use Rattle.dn_machine.specs.State.{resting}
use Rattle.dn_machine.specs.Events.{Event, Tells, happens}
use Rattle.dn_machine.specs.Sound.{IsSound}
use Rattle.dn_cluster.specs.State.{ClusterState}
use Rattle.dn_cluster.specs.Machine.{machine_of, session_at}

-- What a call does, as an event of the machine that the cluster is over the words of its pool.

-- nobody acts yet, and no call was made
pub record Rests (c : ClusterState) : Type 0 where
  pub is : (words : List ℕ) → machine_of words c [] [] ≡ resting words

-- some receipts and told positions make it sound
pub record CanBeSound (words : List ℕ) (c : ClusterState) : Type 0 where
  pub told : List Told
  pub receipts : List Standing
  pub sound : IsSound c.segments (machine_of words c told receipts)

-- An event without an action, whatever the words, the receipts, and what was told.
pub record Does (c d : ClusterState) (e : Event) : Type 0 where
  pub is : (words : List ℕ) (told : List Told) (receipts : List Standing)
      → machine_of words d told receipts ≡ happens (machine_of words c told receipts) e

-- A session is told a position, which it is from then on.
pub record IsTold (c d : ClusterState) (s : ℕ) (position : Position) : Type 0 where
  pub is : (words : List ℕ) (told : List Told) (receipts : List Standing)
      → machine_of words d (told ++ told_now (session_at c s) position ∷ []) receipts
      ≡ happens (machine_of words c told receipts) (Tells s position)

-- An event with an action, at which these receipts join, whatever receipts and told positions make the machine sound
-- before it. The machine is sound after it.
pub record IsEvent (words : List ℕ) (c : ClusterState) (now : List ℕ) (d : ClusterState) (joined : List Standing) (e : Event) (told : List Told) (receipts : List Standing) : Type 0 where
  pub happens_so : machine_of now d told (receipts ++ joined) ≡ happens (machine_of words c told receipts) e
  pub sound : IsSound d.segments (machine_of now d told (receipts ++ joined))

pub record Happens (words : List ℕ) (c : ClusterState) (now : List ℕ) (d : ClusterState) (joined : List Standing) (e : Event) : Type 0 where
  pub is : (told : List Told) (receipts : List Standing) → IsSound c.segments (machine_of words c told receipts)
      → IsEvent words c now d joined e told receipts

-- A failed action was done or not done: the words are those after that event of the machine, whatever its receipts.
pub record FailsAs (words : List ℕ) (c : ClusterState) (now : List ℕ) (e : Bool → Event) : Type 0 where
  pub done : Bool
  pub so : (told : List Told) (receipts : List Standing) → now ≡ (happens (machine_of words c told receipts) (e done)).words
