use Rattle.std.specs.Prelude.{ℕ, true, false, max, List, ◌++◌, Option, Some, None, nat_le}
use Rattle.std.specs.List.{filter}
use Rattle.dn_word.specs.declared.packed.gate.Gate.{Gate}
use Rattle.dn_word.specs.declared.packed.deed.Deed.{Deed}
use Rattle.dn_model.specs.declared.logs.Placed.{Placed}
use Rattle.dn_store.specs.State.{with_at}
use Rattle.dn_store.specs.Changes.{sealed, gated, marked, deeded, indexed}
use Rattle.dn_owners.specs.declared.plain.Pending.{Pending}
use Rattle.dn_owners.specs.Counting.{pending_in}
use Rattle.dn_owners.specs.Known.{Look, Knows, Watch, Owners, knowing_nothing}

-- Whatever an actor does that concerns owners.
pub data Event : Type 0 where
  -- Lanes. Lane n looks at a deed of an epoch that it has learnt, or of one that it learns by this; its call or task
  -- ends
  Look_known : (n : ℕ) → (l : Look) → Event
  Look_new : (n : ℕ) → (l : Look) → Event
  End : (n : ℕ) → Event
  -- its gate's stamp is raised, or its gate seals records
  Raise : (n : ℕ) → (gate : Gate) → Event
  Seal : (n : ℕ) → (gate : Gate) → (more : List Placed) → Event
  -- a stamp of a key is promised by a lane's receipt
  Promise : (n k stamp : ℕ) → Event
  -- it drops pending records before an offset
  Trim : (n to : ℕ) → Event
  -- Mergers. The index is set, or a key is taken out, for a record of lane n's log; its mark goes past a record
  Set : (n k : ℕ) → (p : Placed) → (place : Option ℕ) → Event
  Pass : (n to : ℕ) → (p : Placed) → Event
  -- The monitor. The bit of a gate
  Fence : (n : ℕ) → (gate : Gate) → Event
  -- the exchanges to Leaving (the monitor's) and to Released (the lane's)
  Leave : (t : ℕ) → (d : Deed) → Event
  Release : (t : ℕ) → (d : Deed) → Event
  -- the load of a gate past Released or the bit, and then the grant, by a move or by a takeover, to a lane or to nobody
  Watches : (w : Watch) → Event
  Grant : (w : Watch) → (d : Deed) → Event
  -- the grant of a slot of nobody
  Adopt : (t : ℕ) → (d : Deed) → Event
  -- The world. A lane is stopped; a new lane begins
  Stop : (n : ℕ) → Event
  Begin : (n : ℕ) → Event

-- ---- What an event changes, and how: of the store, of what an actor knows, of what was promised.
abbrev pub learns : Owners → ℕ → Knows → Owners
learns o n v = record o { knows = with_at o.knows n v }

abbrev pub happens : Owners → Event → Owners
happens o (Look_known n l) = learns o n (record (o.knows n) { look = Some l })
happens o (Look_new n l) = learns o n (record (o.knows n) {
  look = Some l;
  learnt = with_at (o.knows n).learnt l.slot (Some (record { epoch = l.epoch; from = (o.store.gates n).len }));
})
happens o (End n) = learns o n (record (o.knows n) { look = None })
happens o (Raise n gate) = record o { store = gated o.store n gate }
happens o (Seal n gate more) = record o {
  store = sealed o.store n gate more;
  knows = with_at o.knows n (record (o.knows n) { pending = (o.knows n).pending ++ pending_in more });
}
happens o (Promise n k stamp) = record o { promised = with_at o.promised k (max (o.promised k) stamp) }
happens o (Trim n to) = learns o n (record (o.knows n) {
  pending = filter (λ (q : Pending). nat_le to q.offset) (o.knows n).pending;
  dropped = to;
})
happens o (Set n k p place) = record o { store = indexed o.store k place }
happens o (Pass n to p) = record o { store = marked o.store n to }
happens o (Fence n gate) = record o { store = gated o.store n gate }
happens o (Leave t d) = record o { store = deeded o.store t d }
happens o (Release t d) = record o { store = deeded o.store t d }
happens o (Watches w) = record o { watch = Some w }
happens o (Grant w d) = record o { store = deeded o.store w.slot d; watch = None }
happens o (Adopt t d) = record o { store = deeded o.store t d; watch = None }
happens o (Stop n) = learns o n (knowing_nothing false)
happens o (Begin n) = learns o n (knowing_nothing true)
