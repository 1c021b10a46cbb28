use Rattle.std.specs.Prelude.{◌≡◌, ◌≢◌, ◌⊎◌, ℕ, ◌-◌, ◌^◌, ◌≤◌, true, false, Option, Some, None}
use Rattle.dn_word.specs.Gate.{gate_of}
use Rattle.dn_word.specs.Regions.{gate_at, mark_at, deed_at, cell_at, cell_counter_at}
use Rattle.dn_word.specs.declared.packed.place.Ref.{Ref}
use Rattle.dn_act.specs.declared.actions.Action.TheVariants.{Load, Cas, Add}
use Rattle.dn_locate.specs.Fetch.{Fetching}
use Rattle.dn_model.specs.Regions.{slot_of}
use Rattle.dn_plan.specs.Plan.{is_owner}
use Rattle.dn_tend.specs.Tend.{asks_to_leave, given_up, closed_word, share_stamp, unshare_stamp}
use Rattle.dn_tend.specs.declared.phases.TendAct.TheVariants as at
use Rattle.dn_tend.specs.declared.phases.Share.{Share}
use Rattle.dn_tend.specs.declared.phases.TendAct.{TendAct}
use Rattle.dn_tend.specs.declared.phases.TendLocate.{TendLocate}
use Rattle.dn_tend.specs.declared.phases.TendLocate.TheVariants as locate
use Rattle.dn_tend.specs.declared.phases.TendSealing.{TendSealing}
use Rattle.dn_tend.specs.declared.phases.TendSealing.TheVariants as seal_phase
use Rattle.dn_tend.specs.declared.phases.Unshare.{Unshare}
use Rattle.dn_tend.specs.declared.tasks.TaskAnswer.{TaskAnswer}
use Rattle.dn_tend.specs.declared.tasks.TaskAnswer.TheVariants as answer
use Rattle.dn_tend.specs.declared.tasks.TendFound.{TendFound}
use Rattle.dn_tend.specs.declared.tasks.TendFound.TheVariants as said
use Rattle.dn_ask.specs.Ask.{key_in, wish_in}
use Rattle.dn_ask.specs.declared.asks.Act.TheVariants as act
use Rattle.dn_ask.specs.declared.asks.Locate.TheVariants as asks_place
use Rattle.dn_ask.specs.declared.asks.Seal.TheVariants as asks_seal
use Rattle.dn_find.specs.Find.{Sought, found_of}
use Rattle.dn_find.specs.declared.finds.Find.{Find}
use Rattle.dn_services.specs.declared.seals.Seal.{Seal}
use Rattle.dn_find.specs.Sequence.{located}
use Rattle.dn_find.specs.declared.finds.Found.{Found}
use Rattle.dn_find.specs.declared.finds.Found.TheVariants as found
use Rattle.dn_services.specs.Room.{HasAll, IsPoolFull}
use Rattle.dn_lane.specs.Asked.{brief_of, words_in}
use Rattle.dn_lane.specs.CallCauses.{Does, FindsGate, Exchanges, Counts, IsShut}
use Rattle.dn_lane.specs.Sequence.{said_of}
use Rattle.dn_lane.specs.State.{LaneState}
use Rattle.dn_lane.specs.declared.modes.Mode.{Mode}
use Rattle.dn_lane.specs.declared.modes.Mode.TheVariants as mode

-- When each answer of a task comes: by the lane's next action, and by the word that it finds.

abbrev pub lane_of : LaneState → ℕ
lane_of l = l.base.known.log.lane

-- ---- what the task waits for
-- the word of an action of its own
abbrev pub IsAt : LaneState → TendAct → Type 0
IsAt l phase = l.mode ≡ mode.Acting (act.Task phase)

-- the place of its key's record
abbrev pub Seeks : LaneState → TendLocate → Type 0
Seeks l phase = (find : Find) × (l.mode ≡ mode.Finding (asks_place.Task phase) find)

-- the seal of its record
abbrev pub Seals : LaneState → TendSealing → Type 0
Seals l phase = (s : Seal) × (l.mode ≡ mode.Sealing (asks_seal.Task phase) s)

-- ---- what is located
-- what the key's record says, once the last word of it is loaded, or that there is none
abbrev pub said_by : Found → Fetching → Option TendFound
said_by (found.More find) f = None
said_by (found.Here way there) f = Some (said_of (located way there f))

abbrev pub said_then : Sought → Option TendFound
said_then s = said_by s.found s.fetch

-- what a load tells of the record of the key, which the lane locates
abbrev pub told_in : LaneState → Mode → ℕ → Option TendFound
told_in l mode.Idle word = None
told_in l (mode.Acting wait) word = None
told_in l (mode.Finding wait find) word =
    let b = brief_of (lane_of l) l.asked in
    said_then (found_of l.base.fetch (key_in b wait) (wish_in b wait) find word)
told_in l (mode.Claiming wait claim) word = None
told_in l (mode.Sealing wait seal) word = None

abbrev pub Tells : LaneState → ℕ → TendFound → Type 0
Tells l word found = (at : ℕ) × Does l (Load at) × (told_in l l.mode word ≡ Some found)

-- ---- the causes
-- the key that is to be shared has a Share that names the cell; or the cell was to be opened behind the Share of this task,
-- whatever word that exchange found
abbrev pub IsSharedNow : LaneState → ℕ → ℕ → Type 0
IsSharedNow l word cell =
    ((key : ℕ) × (look : ℕ) × (opening : ℕ) × Seeks l (locate.Share key look) × Tells l word (said.Shared cell opening))
    ⊎ ((share : Share) × IsAt l (at.Open share cell) × Does l (Cas (cell_at cell) 0 share.opening))

-- the key whose sharing is to end isn't shared: it has no value, or its value stands in a record
abbrev pub IsPlainNow : LaneState → ℕ → Type 0
IsPlainNow l word =
    (key : ℕ) × (look : ℕ) × Seeks l (locate.Unshare key look) × (Tells l word said.Nothing ⊎ ((place : Ref) × Tells l word (said.At place)))

-- the exchange of a deed or a cell begins from this word
abbrev pub BeginsFrom : LaneState → ℕ → Type 0
BeginsFrom l old =
    ((slot : ℕ) × IsAt l (at.GiveUp slot old) × Does l (Cas (deed_at slot) old (given_up old)))
    ⊎ ((unshare : Unshare) × (gate : ℕ) × (stamp : ℕ) × IsAt l (at.Close unshare gate old stamp)
    × Does l (Cas (cell_at unshare.cell) old (closed_word unshare.opening old)))

-- the deed of the key's slot is loaded, to share the key or to end its sharing
abbrev pub Looks : LaneState → ℕ → Type 0
Looks l key = (IsAt l (at.ShareLook key) ⊎ IsAt l (at.UnshareLook key)) × Does l (Load (deed_at (slot_of key)))

-- the record needs a segment, which the lane sees once it has loaded the gate, and the lane has all that it may have; or the
-- counter of claimed segments, loaded or found by the add, is at least the number of the pool's
abbrev pub HasNoRoom : LaneState → ℕ → ℕ → ℕ → Type 0
HasNoRoom l word counter segments =
    (FindsGate l word false × HasAll l.base.known (words_in l.asked) counter segments)
    ⊎ (Counts l × IsPoolFull l.base.known word counter segments)

-- no stamp is left for the record: the greater of the loaded gate's stamp and the floor of the deed that the task loaded before is
-- the last stamp; of an Unshare the greatest of these and the loaded cell's
abbrev pub IsShareWorn : LaneState → ℕ → Type 0
IsShareWorn l word =
    (key : ℕ) × (look : ℕ) × (place : Option Ref) × IsAt l (at.ShareGate key look place)
    × Does l (Load (gate_at (lane_of l))) × ((gate_of word).fenced ≡ false) × (share_stamp look word ≡ 2 ^ 31 - 1)

abbrev pub IsUnshareWorn : LaneState → ℕ → Type 0
IsUnshareWorn l word =
    (unshare : Unshare) × (gate : ℕ) × IsAt l (at.Cell unshare gate)
    × Does l (Load (cell_at unshare.cell)) × (unshare_stamp unshare gate word ≡ 2 ^ 31 - 1)

-- ---- the cause of each answer
abbrev pub TaskCause : LaneState → ℕ → TaskAnswer → Type 0
-- the exchange of the deed, which asked the lane to leave, was done
TaskCause l word answer.Released =
    (slot : ℕ) × (old : ℕ) × IsAt l (at.GiveUp slot old) × Does l (Cas (deed_at slot) old (given_up old))
    × (asks_to_leave (lane_of l) old ≡ true) × (word ≡ old)
-- the deed that was loaded doesn't ask the lane to leave
TaskCause l word (answer.NotLeaving look) =
    (slot : ℕ) × IsAt l (at.Deed slot) × Does l (Load (deed_at slot)) × (look ≡ word) × (asks_to_leave (lane_of l) word ≡ false)
-- the lane's mark was loaded
TaskCause l word (answer.Trimmed mark) = IsAt l at.Mark × Does l (Load (mark_at (lane_of l))) × (mark ≡ word)
TaskCause l word (answer.Shared cell) = IsSharedNow l word cell
TaskCause l word answer.Plain = IsPlainNow l word
-- the exchange of the gate, which seals the Unshare, was done
TaskCause l word answer.Unshared =
    (unshare : Unshare) × (place : Option Ref) × (stamp : ℕ) × (old : ℕ) × Seals l (seal_phase.Unshare unshare place stamp old)
    × Exchanges l old × (word ≡ old)
-- the deed that was loaded, of the key's slot, isn't Owned by the lane
TaskCause l word (answer.NotOwner look) = (key : ℕ) × Looks l key × (look ≡ word) × (is_owner (lane_of l) word ≡ false)
TaskCause l word (answer.Fenced told) = (told ≡ word) × IsShut l word
-- the exchange of a deed or a cell found another word than it began from
TaskCause l word (answer.Again old seen) = (seen ≡ word) × (word ≢ old) × BeginsFrom l old
-- the counter of claimed cells, loaded or found by the add, is at least their number
TaskCause l word (answer.NoCell counter) =
    (Does l (Load cell_counter_at) ⊎ Does l (Add cell_counter_at 1)) × (counter ≡ word) × (256 ≤ word)
TaskCause l word (answer.Full counter segments) = HasNoRoom l word counter segments
TaskCause l word (answer.Worn stamp) = (stamp ≡ 2 ^ 31 - 1) × (IsShareWorn l word ⊎ IsUnshareWorn l word)
