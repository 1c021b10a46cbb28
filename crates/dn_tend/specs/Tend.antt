use Rattle.std.specs.Prelude.{ℕ, ◌+◌, ◌-◌, ◌^◌, ◌==◌, ◌&&◌, max, nat_lt, Bool, true, false, Option, Some, None, if◌then◌else◌}
use Rattle.dn_word.specs.Cell.{cell_of, cell_word}
use Rattle.dn_word.specs.Deed.{deed_of, deed_word}
use Rattle.dn_word.specs.Gate.{gate_of}
use Rattle.dn_word.specs.Regions.{cell_counter_at, cell_at, cell_key_at}
use Rattle.dn_word.specs.declared.packed.cell.Cell.{Cell}
use Rattle.dn_word.specs.declared.packed.deed.DeedState.{DeedState}
use Rattle.dn_word.specs.declared.packed.deed.DeedState.TheVariants.{Nobody, Owned, Leaving, Released as GivenUp}
use Rattle.dn_word.specs.declared.packed.place.Ref.{Ref}
use Rattle.dn_act.specs.declared.actions.Action.{Action}
use Rattle.dn_act.specs.declared.actions.Action.TheVariants.{Load, Store, Cas, Add}
use Rattle.dn_model.specs.Regions.{deed_at, slot_of, gate_at, mark_at}
use Rattle.dn_plan.specs.Plan.{is_owner}
use Rattle.dn_plan.specs.declared.results.Effect.{Effect}
use Rattle.dn_plan.specs.declared.results.Effect.TheVariants.{Epoch, DropBelow, Bar}
use Rattle.dn_tend.specs.declared.tasks.TaskAnswer.{TaskAnswer}
use Rattle.dn_tend.specs.declared.tasks.TaskAnswer.TheVariants.{Released, NotLeaving, Trimmed, Shared, Plain, Unshared, NotOwner, Fenced, Again, NoCell, Worn}
use Rattle.dn_tend.specs.declared.tasks.TendFound.{TendFound}
use Rattle.dn_tend.specs.declared.tasks.TendFound.TheVariants as found
use Rattle.dn_tend.specs.declared.tasks.TendSeal.{TendSeal}
use Rattle.dn_tend.specs.declared.tasks.TendSeal.TheVariants as sealing
use Rattle.dn_tend.specs.declared.phases.Unshare.{Unshare}
use Rattle.dn_tend.specs.declared.phases.TendAct.{TendAct}
use Rattle.dn_tend.specs.declared.phases.TendAct.TheVariants as at
use Rattle.dn_tend.specs.declared.phases.TendLocate.{TendLocate}
use Rattle.dn_tend.specs.declared.phases.TendLocate.TheVariants as locate
use Rattle.dn_tend.specs.declared.phases.TendRoom.{TendRoom}
use Rattle.dn_tend.specs.declared.phases.TendRoom.TheVariants as find
use Rattle.dn_tend.specs.declared.phases.TendSealing.{TendSealing}
use Rattle.dn_tend.specs.declared.phases.TendSealing.TheVariants as seal
use Rattle.dn_tend.specs.declared.phases.TendThen.{TendThen}
use Rattle.dn_tend.specs.declared.phases.TendThen.TheVariants as thence
use Rattle.dn_tend.specs.declared.phases.TendAfter.{TendAfter}
use Rattle.dn_tend.specs.declared.phases.TendAfter.TheVariants as after
use Rattle.dn_tend.specs.declared.phases.TendNext.{TendNext}
use Rattle.dn_tend.specs.declared.phases.TendNext.TheVariants as next
use Rattle.dn_tend.specs.declared.phases.TendTurn.{TendTurn}

-- What a task does in each phase, and what comes after it.

-- ---- the words that are written
-- a deed that its lane has given up: epoch, lane and floor stay
abbrev pub given_up : ℕ → ℕ
given_up deed = deed_word (record (deed_of deed) { state = GivenUp })

-- what a cell begins with: the stamp of the Share, and the record that has the value, if any
abbrev pub opening_word : ℕ → Option Ref → ℕ
opening_word stamp place = cell_word (record { closed = false; stamp = stamp; at = place })

-- what a cell says: a cell that nobody has opened yet says what its opening word does
abbrev pub cell_in : ℕ → ℕ → Cell
cell_in opening seen = if seen == 0 then cell_of opening else cell_of seen

-- its closed form has the same stamp and record
abbrev pub closed_word : ℕ → ℕ → ℕ
closed_word opening seen = cell_word (record (cell_in opening seen) { closed = true })

-- ---- the actions
abbrev pub action_in : ℕ → TendAct → Action
action_in lane (at.Deed slot) = Load (deed_at slot)
action_in lane (at.GiveUp slot deed) = Cas (deed_at slot) deed (given_up deed)
action_in lane at.Mark = Load (mark_at lane)
action_in lane (at.ShareLook key) = Load (deed_at (slot_of key))
action_in lane (at.ShareGate key look place) = Load (gate_at lane)
action_in lane (at.Count share) = Load cell_counter_at
action_in lane (at.Claim share) = Add cell_counter_at 1
action_in lane (at.Name share cell) = Store (cell_key_at cell) share.key
action_in lane (at.Open share cell) = Cas (cell_at cell) 0 share.opening
action_in lane (at.UnshareLook key) = Load (deed_at (slot_of key))
action_in lane (at.UnshareGate unshare) = Load (gate_at lane)
action_in lane (at.Cell unshare gate) = Load (cell_at unshare.cell)
action_in lane (at.Close unshare gate seen stamp) = Cas (cell_at unshare.cell) seen (closed_word unshare.opening seen)

abbrev pub seal_in : TendSealing → TendSeal
seal_in (seal.Share share cell) = sealing.Share cell share.opening share.gate
seal_in (seal.Unshare unshare place stamp gate) = sealing.Unshare place stamp gate

-- ---- the forms of what comes next
abbrev pub acts : TendAct → TendNext
acts phase = next.After (after.Then (thence.Act phase))

abbrev pub rooms : TendRoom → TendNext
rooms phase = next.After (after.Room phase)

abbrev pub seals : TendSealing → TendNext
seals phase = next.After (after.Then (thence.Seal phase))

abbrev pub ends : TaskAnswer → TendNext
ends answer = next.After (after.Then (thence.Done answer))

abbrev pub goes : TendNext → TendTurn
goes to = record { effect = None; next = to }

abbrev pub learns : Effect → TendNext → TendTurn
learns effect to = record { effect = Some effect; next = to }

-- ---- after a look
abbrev pub is_leaving : DeedState → Bool
is_leaving Nobody = false
is_leaving Owned = false
is_leaving Leaving = true
is_leaving GivenUp = false

-- the deed asks this lane to leave
abbrev pub asks_to_leave : ℕ → ℕ → Bool
asks_to_leave lane deed = is_leaving (deed_of deed).state && ((deed_of deed).lane == lane)

abbrev pub left : ℕ → ℕ → ℕ → TendTurn
left lane slot deed =
    learns (Epoch slot (deed_of deed).epoch)
    (if asks_to_leave lane deed then acts (at.GiveUp slot deed) else ends (NotLeaving deed))

abbrev pub looked : ℕ → ℕ → ℕ → TendLocate → TendTurn
looked lane key deed phase =
    learns (Epoch (slot_of key) (deed_of deed).epoch) (if is_owner lane deed then next.Locate phase else ends (NotOwner deed))

-- ---- after an exchange
abbrev pub exchanged : ℕ → ℕ → TendNext → TendTurn
exchanged old seen behind = goes (if seen == old then behind else ends (Again old seen))

-- ---- the gate
abbrev pub barred : ℕ → TendTurn
barred gate = learns (Bar gate) (ends (Fenced gate))

-- a Share has the stamp after the greater of the gate's and the floor
abbrev pub share_stamp : ℕ → ℕ → ℕ
share_stamp look gate = max (gate_of gate).stamp (deed_of look).floor

abbrev pub shares : ℕ → ℕ → ℕ → Option Ref → ℕ → TendNext
shares key look stamp place gate =
    if stamp == 2 ^ 31 - 1 then ends (Worn (2 ^ 31 - 1))
    else rooms (find.Share (record { key = key; look = look; gate = gate; opening = opening_word (stamp + 1) place }))

abbrev pub share_gated : ℕ → ℕ → Option Ref → ℕ → TendTurn
share_gated key look place gate =
    if (gate_of gate).fenced then barred gate else goes (shares key look (share_stamp look gate) place gate)

abbrev pub unshare_gated : Unshare → ℕ → TendTurn
unshare_gated unshare gate = if (gate_of gate).fenced then barred gate else goes (rooms (find.Unshare unshare gate))

-- ---- the cell
-- a pool has 256 cells
abbrev pub counted : ℕ → TendNext → TendTurn
counted counter behind = goes (if nat_lt counter 256 then behind else ends (NoCell counter))

-- an Unshare has the stamp after the greatest of the gate's, the floor and the cell's
abbrev pub unshare_stamp : Unshare → ℕ → ℕ → ℕ
unshare_stamp unshare gate seen = max (max (gate_of gate).stamp (deed_of unshare.look).floor) (cell_in unshare.opening seen).stamp

abbrev pub unshare_seal : Unshare → ℕ → ℕ → ℕ → TendSealing
unshare_seal unshare gate seen stamp = seal.Unshare unshare (cell_in unshare.opening seen).at stamp gate

-- a cell that is closed stays as it is
abbrev pub closes : Unshare → ℕ → ℕ → ℕ → TendNext
closes unshare gate seen stamp =
    if (cell_in unshare.opening seen).closed then seals (unshare_seal unshare gate seen stamp) else acts (at.Close unshare gate seen stamp)

abbrev pub cell_met : Unshare → ℕ → ℕ → TendNext
cell_met unshare gate seen =
    if unshare_stamp unshare gate seen == 2 ^ 31 - 1 then ends (Worn (2 ^ 31 - 1))
    else closes unshare gate seen (unshare_stamp unshare gate seen + 1)

-- ---- what comes after each wait
abbrev pub taken_in : ℕ → TendAct → ℕ → TendTurn
taken_in lane (at.Deed slot) word = left lane slot word
taken_in lane (at.GiveUp slot deed) word = exchanged deed word (ends Released)
taken_in lane at.Mark word = learns (DropBelow word) (ends (Trimmed word))
taken_in lane (at.ShareLook key) word = looked lane key word (locate.Share key word)
taken_in lane (at.ShareGate key look place) word = share_gated key look place word
taken_in lane (at.Count share) word = counted word (acts (at.Claim share))
taken_in lane (at.Claim share) word = counted word (acts (at.Name share word))
taken_in lane (at.Name share cell) word = goes (seals (seal.Share share cell))
taken_in lane (at.Open share cell) word = goes (ends (Shared cell))
taken_in lane (at.UnshareLook key) word = looked lane key word (locate.Unshare key word)
taken_in lane (at.UnshareGate unshare) word = unshare_gated unshare word
taken_in lane (at.Cell unshare gate) word = goes (cell_met unshare gate word)
taken_in lane (at.Close unshare gate seen stamp) word = exchanged seen word (seals (unshare_seal unshare gate seen stamp))

-- a key that is shared already has its cell
abbrev pub share_located : ℕ → ℕ → TendFound → TendThen
share_located key look found.Nothing = thence.Act (at.ShareGate key look None)
share_located key look (found.At place) = thence.Act (at.ShareGate key look (Some place))
share_located key look (found.Shared cell opening) = thence.Done (Shared cell)

abbrev pub unshare_located : ℕ → ℕ → TendFound → TendThen
unshare_located key look found.Nothing = thence.Done Plain
unshare_located key look (found.At place) = thence.Done Plain
unshare_located key look (found.Shared cell opening) =
    thence.Act (at.UnshareGate (record { key = key; look = look; cell = cell; opening = opening }))

abbrev pub located_in : TendLocate → TendFound → TendAfter
located_in (locate.Share key look) found = after.Then (share_located key look found)
located_in (locate.Unshare key look) found = after.Then (unshare_located key look found)

abbrev pub roomed_in : TendRoom → TendThen
roomed_in (find.Share share) = thence.Act (at.Count share)
roomed_in (find.Unshare unshare gate) = thence.Act (at.Cell unshare gate)

abbrev pub sealed_in : TendSealing → TendNext
sealed_in (seal.Share share cell) = acts (at.Open share cell)
sealed_in (seal.Unshare unshare place stamp gate) = ends Unshared
