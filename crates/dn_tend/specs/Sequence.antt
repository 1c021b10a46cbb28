use Rattle.std.specs.Prelude.{ℕ, ◌+◌, ◌-◌, ◌^◌, ◌==◌, max, nat_lt, true, false, Option, Some, None, if◌then◌else◌}
use Rattle.dn_word.specs.Cell.{cell_word}
use Rattle.dn_word.specs.Deed.{deed_of, deed_word}
use Rattle.dn_word.specs.Gate.{gate_of}
use Rattle.dn_word.specs.Regions.{cell_counter_at, cell_at, cell_key_at}
use Rattle.dn_word.specs.declared.packed.cell.Cell.{Cell}
use Rattle.dn_word.specs.declared.packed.deed.DeedState.TheVariants.{Released as GivenUp}
use Rattle.dn_word.specs.declared.packed.place.Ref.{Ref}
use Rattle.dn_act.specs.declared.actions.Action.TheVariants.{Load, Store, Cas, Add}
use Rattle.dn_model.specs.Regions.{deed_at, slot_of, gate_at, mark_at}
use Rattle.dn_plan.specs.Plan.{is_owner}
use Rattle.dn_plan.specs.declared.results.Effect.TheVariants.{Epoch, DropBelow, Bar}
use Rattle.dn_tend.specs.Tend.{asks_to_leave, cell_in}
use Rattle.dn_tend.specs.Program.{TaskPlan, Return, Learn, Do, Locate, FindRoom, Seal}
use Rattle.dn_tend.specs.declared.tasks.Task.{Task}
use Rattle.dn_tend.specs.declared.tasks.Task.TheVariants as task
use Rattle.dn_tend.specs.declared.tasks.TaskAnswer.TheVariants.{Released, NotLeaving, Trimmed, Shared, Plain, Unshared, NotOwner, Fenced, Again, NoCell, Worn}
use Rattle.dn_tend.specs.declared.tasks.TendFound.{TendFound}
use Rattle.dn_tend.specs.declared.tasks.TendFound.TheVariants.{Nothing, At, Shared as IsShared}
use Rattle.dn_tend.specs.declared.tasks.TendSeal.TheVariants as seal

-- The tasks of a lane, as plans to read.

-- ---- a slot is given up: epoch, lane and floor of its deed stay
abbrev pub release : ℕ → ℕ → TaskPlan
release lane slot =
    Do (Load (deed_at slot))
    (λ deed. Learn (Epoch slot (deed_of deed).epoch)
    (if asks_to_leave lane deed
    then Do (Cas (deed_at slot) deed (deed_word (record (deed_of deed) { state = GivenUp })))
    (λ seen. if seen == deed then Return Released else Return (Again deed seen))
    else Return (NotLeaving deed)))

-- ---- merged records are no longer pending
abbrev pub trim : ℕ → TaskPlan
trim lane = Do (Load (mark_at lane)) (λ mark. Learn (DropBelow mark) (Return (Trimmed mark)))

-- ---- a key is shared
-- its cell is opened, whatever it held
abbrev pub opens : ℕ → ℕ → TaskPlan
opens cell opening = Do (Cas (cell_at cell) 0 opening) (λ old. Return (Shared cell))

-- its key word is stored, and then the Share is sealed
abbrev pub names : ℕ → ℕ → ℕ → ℕ → TaskPlan
names key gate opening cell =
    Do (Store (cell_key_at cell) key) (λ old. Seal (seal.Share cell opening gate) (opens cell opening))

-- a cell is claimed
abbrev pub claims : ℕ → ℕ → ℕ → TaskPlan
claims key gate opening =
    Do (Load cell_counter_at)
    (λ counter. if nat_lt counter 256
    then Do (Add cell_counter_at 1) (λ cell. if nat_lt cell 256 then names key gate opening cell else Return (NoCell cell))
    else Return (NoCell counter))

-- at the stamp after the greater of the gate's and the floor
abbrev pub share_gate : ℕ → ℕ → ℕ → Option Ref → TaskPlan
share_gate lane key floor place =
    Do (Load (gate_at lane))
    (λ gate. if (gate_of gate).fenced
    then Learn (Bar gate) (Return (Fenced gate))
    else (if max (gate_of gate).stamp floor == 2 ^ 31 - 1
    then Return (Worn (2 ^ 31 - 1))
    else FindRoom (claims key gate (cell_word (record { closed = false; stamp = max (gate_of gate).stamp floor + 1; at = place })))))

abbrev pub share_found : ℕ → ℕ → ℕ → TendFound → TaskPlan
share_found lane key floor Nothing = share_gate lane key floor None
share_found lane key floor (At place) = share_gate lane key floor (Some place)
share_found lane key floor (IsShared cell opening) = Return (Shared cell)

abbrev pub share : ℕ → ℕ → TaskPlan
share lane key =
    Do (Load (deed_at (slot_of key)))
    (λ look. Learn (Epoch (slot_of key) (deed_of look).epoch)
    (if is_owner lane look then Locate (λ found. share_found lane key (deed_of look).floor found) else Return (NotOwner look)))

-- ---- a key's sharing ends
-- the Unshare names the record that the closed cell does
abbrev pub unshares : ℕ → ℕ → Cell → TaskPlan
unshares gate stamp cell = Seal (seal.Unshare cell.at stamp gate) (Return Unshared)

-- a cell that isn't closed is closed, with the same stamp and record
abbrev pub closes : ℕ → ℕ → ℕ → ℕ → Cell → TaskPlan
closes gate stamp at seen cell =
    if cell.closed then unshares gate stamp cell
    else Do (Cas (cell_at at) seen (cell_word (record cell { closed = true })))
    (λ found. if found == seen then unshares gate stamp cell else Return (Again seen found))

-- at the stamp after the greatest of the gate's, the floor and the cell's
abbrev pub meets_cell : ℕ → ℕ → ℕ → ℕ → Cell → TaskPlan
meets_cell floor gate at seen cell =
    if max (max (gate_of gate).stamp floor) cell.stamp == 2 ^ 31 - 1
    then Return (Worn (2 ^ 31 - 1))
    else closes gate (max (max (gate_of gate).stamp floor) cell.stamp + 1) at seen cell

-- a cell that isn't open yet says what its opening word does
abbrev pub unshare_gate : ℕ → ℕ → ℕ → ℕ → TaskPlan
unshare_gate lane floor at opening =
    Do (Load (gate_at lane))
    (λ gate. if (gate_of gate).fenced
    then Learn (Bar gate) (Return (Fenced gate))
    else FindRoom (Do (Load (cell_at at)) (λ seen. meets_cell floor gate at seen (cell_in opening seen))))

abbrev pub unshare_found : ℕ → ℕ → TendFound → TaskPlan
unshare_found lane floor Nothing = Return Plain
unshare_found lane floor (At place) = Return Plain
unshare_found lane floor (IsShared cell opening) = unshare_gate lane floor cell opening

abbrev pub unshare : ℕ → ℕ → TaskPlan
unshare lane key =
    Do (Load (deed_at (slot_of key)))
    (λ look. Learn (Epoch (slot_of key) (deed_of look).epoch)
    (if is_owner lane look then Locate (λ found. unshare_found lane (deed_of look).floor found) else Return (NotOwner look)))

abbrev pub task_plan : ℕ → Task → TaskPlan
task_plan lane (task.Release slot) = release lane slot
task_plan lane task.Trim = trim lane
task_plan lane (task.Share key) = share lane key
task_plan lane (task.Unshare key) = unshare lane key
