use Rattle.std.specs.Prelude.{ℕ, false, List, [], ◌∷◌, ◌++◌, Some}
use Rattle.dn_word.specs.Ref.{ref_word}
use Rattle.dn_word.specs.declared.packed.deed.DeedState.TheVariants.{Owned, Leaving, Released}
use Rattle.dn_record.specs.declared.records.Record.TheVariants.{Put}
use Rattle.dn_model.specs.declared.logs.Placed.{Placed}
use Rattle.dn_owners.specs.Known.{Watch, Owners}
use Rattle.dn_owners.specs.Fresh.{fresh_owners}
use Rattle.dn_owners.specs.Events.{Event, Look_new, End, Seal, Promise, Trim, Set, Pass, Leave, Release, Watches, Grant}

-- A run by hand: slot 3 moves from lane 1, which has sealed a put of its key 5, to lane 2.

-- an opening for two lanes, with all slots lane 1's
abbrev pub opened : ℕ → Owners
opened pool = fresh_owners pool 2 (λ t. 1)

abbrev pub first_put : Placed
first_put = record { offset = 0; entry = Put 5 (97 ∷ []) }

-- a put of lane 1, made at stamp 1
abbrev pub putting : List Event
putting =
    Look_new 1 (record { slot = 3; epoch = 1; floor = 0 })
    ∷ Seal 1 (record { fenced = false; stamp = 1; len = 3 }) (first_put ∷ [])
    ∷ Promise 1 5 1
    ∷ End 1
    ∷ []

-- it is merged: three words
abbrev pub merging : List Event
merging =
    Set 1 5 first_put (Some (ref_word (record { lane = 1; offset = 0 })))
    ∷ Pass 1 3 first_put
    ∷ Trim 1 3
    ∷ []

abbrev pub leaving : List Event
leaving = Leave 3 (record { state = Leaving; epoch = 1; lane = 1; floor = 0 }) ∷ []

abbrev pub released : List Event
released = Release 3 (record { state = Released; epoch = 1; lane = 1; floor = 0 }) ∷ []

-- the gate of lane 1 is loaded
abbrev pub its_gate : Watch
its_gate = record { slot = 3; lane = 1; len = 3; stamp = 1 }

abbrev pub loading : List Event
loading = Watches its_gate ∷ []

-- the grant to lane 2, with this epoch and this floor; and lane 2 looks
abbrev pub granting : ℕ → ℕ → List Event
granting epoch floor =
    Grant its_gate (record { state = Owned; epoch = epoch; lane = 2; floor = floor })
    ∷ Look_new 2 (record { slot = 3; epoch = epoch; floor = floor })
    ∷ []

abbrev pub moving : List Event
moving = putting ++ merging ++ leaving ++ released ++ loading ++ granting 2 1

-- Lane 2 puts and is merged, and the slot goes back to lane 1, in this epoch.
abbrev pub later_put : Placed
later_put = record { offset = 0; entry = Put 5 (98 ∷ []) }

abbrev pub returning : ℕ → List Event
returning epoch =
    Seal 2 (record { fenced = false; stamp = 2; len = 3 }) (later_put ∷ [])
    ∷ End 2
    ∷ Set 2 5 later_put (Some (ref_word (record { lane = 2; offset = 0 })))
    ∷ Pass 2 3 later_put
    ∷ Leave 3 (record { state = Leaving; epoch = 1; lane = 2; floor = 1 })
    ∷ Release 3 (record { state = Released; epoch = 1; lane = 2; floor = 1 })
    ∷ Watches (record { slot = 3; lane = 2; len = 3; stamp = 2 })
    ∷ Grant (record { slot = 3; lane = 2; len = 3; stamp = 2 }) (record { state = Owned; epoch = epoch; lane = 1; floor = 2 })
    ∷ []
