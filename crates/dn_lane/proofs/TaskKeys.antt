use Rattle.std.proofs.Common.{◌≡◌, ℕ, ◌==◌, ◌^◌, ◌-◌, Bool, true, false, nat_lt, refl, if◌then◌else◌}
use Rattle.dn_word.specs.Gate.{gate_of}
use Rattle.dn_plan.specs.Plan.{is_owner}
use Rattle.dn_ask.specs.Ask.{task_key, task_record_key}
use Rattle.dn_tend.specs.Plan.{begun_in}
use Rattle.dn_tend.specs.Tend.{taken_in, located_in, roomed_in, sealed_in, asks_to_leave, share_stamp, cell_in, unshare_stamp}
use Rattle.dn_tend.specs.declared.tasks.Task.{Task}
use Rattle.dn_tend.specs.declared.tasks.Task.TheVariants as task
use Rattle.dn_tend.specs.declared.tasks.TendFound.{TendFound}
use Rattle.dn_tend.specs.declared.tasks.TendFound.TheVariants as found
use Rattle.dn_tend.specs.declared.phases.TendAct.{TendAct}
use Rattle.dn_tend.specs.declared.phases.TendAct.TheVariants as at
use Rattle.dn_tend.specs.declared.phases.TendLocate.{TendLocate}
use Rattle.dn_tend.specs.declared.phases.TendLocate.TheVariants as locate
use Rattle.dn_tend.specs.declared.phases.TendRoom.{TendRoom}
use Rattle.dn_tend.specs.declared.phases.TendRoom.TheVariants as find
use Rattle.dn_tend.specs.declared.phases.TendSealing.{TendSealing}
use Rattle.dn_tend.specs.declared.phases.TendSealing.TheVariants as seal
use Rattle.dn_tend.specs.declared.phases.TendThen.{TendThen}
use Rattle.dn_tend.specs.declared.phases.TendThen.TheVariants as thence
use Rattle.dn_tend.specs.declared.phases.TendAfter.{TendAfter}
use Rattle.dn_tend.specs.declared.phases.TendAfter.TheVariants as after
use Rattle.dn_tend.specs.declared.phases.TendNext.{TendNext}
use Rattle.dn_tend.specs.declared.phases.TendNext.TheVariants as next
use Rattle.dn_tend.specs.declared.phases.TendTurn.{TendTurn}
use Rattle.dn_lane.specs.Sequence.{key_in}

-- A task has one key wherever it stands.

abbrev pub KeyAct : ℕ → TendAct → Type 0
KeyAct key (at.Deed slot) = Unit {0}
KeyAct key (at.GiveUp slot deed) = Unit {0}
KeyAct key at.Mark = Unit {0}
KeyAct key (at.ShareLook k) = k ≡ key
KeyAct key (at.ShareGate k look place) = k ≡ key
KeyAct key (at.Count share) = share.key ≡ key
KeyAct key (at.Claim share) = share.key ≡ key
KeyAct key (at.Name share cell) = share.key ≡ key
KeyAct key (at.Open share cell) = share.key ≡ key
KeyAct key (at.UnshareLook k) = k ≡ key
KeyAct key (at.UnshareGate unshare) = unshare.key ≡ key
KeyAct key (at.Cell unshare gate) = unshare.key ≡ key
KeyAct key (at.Close unshare gate seen stamp) = unshare.key ≡ key

abbrev pub KeyRoom : ℕ → TendRoom → Type 0
KeyRoom key (find.Share share) = share.key ≡ key
KeyRoom key (find.Unshare unshare gate) = unshare.key ≡ key

abbrev pub KeyThen : ℕ → TendThen → Type 0
KeyThen key (thence.Act phase) = KeyAct key phase
KeyThen key (thence.Seal phase) = task_record_key phase ≡ key
KeyThen key (thence.Done answer) = Unit {0}

abbrev pub KeyAfter : ℕ → TendAfter → Type 0
KeyAfter key (after.Room phase) = KeyRoom key phase
KeyAfter key (after.Then to) = KeyThen key to

abbrev pub KeyNext : ℕ → TendNext → Type 0
KeyNext key (next.Locate phase) = task_key phase ≡ key
KeyNext key (next.After to) = KeyAfter key to

pick : (key : ℕ) (b : Bool) (x y : TendNext) → KeyNext key x → KeyNext key y → KeyNext key (if b then x else y)
pick key true x y h k = h
pick key false x y h k = k

pick_turn : (key : ℕ) (b : Bool) (x y : TendTurn) → KeyNext key x.next → KeyNext key y.next → KeyNext key (if b then x else y).next
pick_turn key true x y h k = h
pick_turn key false x y h k = k

pub taken_keys : (lane key : ℕ) (phase : TendAct) (word : ℕ) → KeyAct key phase → KeyNext key (taken_in lane phase word).next
taken_keys lane key (at.Deed slot) word h = pick key (asks_to_leave lane word) _ _ tt tt
taken_keys lane key (at.GiveUp slot deed) word h = pick key (word == deed) _ _ tt tt
taken_keys lane key at.Mark word h = tt
taken_keys lane key (at.ShareLook k) word h = pick key (is_owner lane word) _ _ h tt
taken_keys lane key (at.ShareGate k look place) word h =
    pick_turn key (gate_of word).fenced _ _ tt (pick key (share_stamp look word == 2 ^ 31 - 1) _ _ tt h)
taken_keys lane key (at.Count share) word h = pick key (nat_lt word 256) _ _ h tt
taken_keys lane key (at.Claim share) word h = pick key (nat_lt word 256) _ _ h tt
taken_keys lane key (at.Name share cell) word h = h
taken_keys lane key (at.Open share cell) word h = tt
taken_keys lane key (at.UnshareLook k) word h = pick key (is_owner lane word) _ _ h tt
taken_keys lane key (at.UnshareGate unshare) word h = pick_turn key (gate_of word).fenced _ _ tt h
taken_keys lane key (at.Cell unshare gate) word h =
    pick key (unshare_stamp unshare gate word == 2 ^ 31 - 1) _ _ tt (pick key (cell_in unshare.opening word).closed _ _ h h)
taken_keys lane key (at.Close unshare gate seen stamp) word h = pick key (word == seen) _ _ h tt

pub located_keys : (key : ℕ) (phase : TendLocate) (f : TendFound) → task_key phase ≡ key → KeyAfter key (located_in phase f)
located_keys key (locate.Share k look) found.Nothing h = h
located_keys key (locate.Share k look) (found.At place) h = h
located_keys key (locate.Share k look) (found.Shared cell opening) h = tt
located_keys key (locate.Unshare k look) found.Nothing h = tt
located_keys key (locate.Unshare k look) (found.At place) h = tt
located_keys key (locate.Unshare k look) (found.Shared cell opening) h = h

pub roomed_keys : (key : ℕ) (phase : TendRoom) → KeyRoom key phase → KeyThen key (roomed_in phase)
roomed_keys key (find.Share share) h = h
roomed_keys key (find.Unshare unshare gate) h = h

pub sealed_keys : (key : ℕ) (phase : TendSealing) → task_record_key phase ≡ key → KeyNext key (sealed_in phase)
sealed_keys key (seal.Share share cell) h = h
sealed_keys key (seal.Unshare unshare place stamp gate) h = tt

pub begun_keys : (t : Task) → KeyNext (key_in t) (begun_in t)
begun_keys (task.Release slot) = tt
begun_keys task.Trim = tt
begun_keys (task.Share key) = refl
begun_keys (task.Unshare key) = refl
