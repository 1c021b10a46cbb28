use Rattle.std.specs.Prelude.{ℕ, ◌≡◌, ◌<◌, ◌≤◌, ◌^◌, ◌==◌, false, List, [], ◌∷◌, Some, if◌then◌else◌}
use Rattle.dn_word.specs.Regions.{gate_at}
use Rattle.dn_word.specs.Cell.{cell_of}
use Rattle.dn_word.specs.Gate.{gate_word}
use Rattle.dn_word.specs.declared.packed.place.Ref.{Ref}
use Rattle.dn_act.specs.declared.actions.Action.{Action}
use Rattle.dn_act.specs.declared.actions.Action.TheVariants.{Store, Cas}
use Rattle.dn_hist.specs.Calls.{key_of}
use Rattle.dn_hist.specs.declared.calls.Call.{Call}
use Rattle.dn_log.specs.Log.{plan_of}
use Rattle.dn_log.specs.declared.plans.Plan.{Plan}
use Rattle.dn_log.specs.declared.staging.Staged.{Staged}
use Rattle.dn_known.specs.State.{KnownState}
use Rattle.dn_known.specs.Sealed.{sealed_by}
use Rattle.dn_plan.specs.declared.phases.Sealing.{Sealing}
use Rattle.dn_tend.specs.declared.tasks.TendSeal.{TendSeal}
use Rattle.dn_tend.specs.declared.tasks.TendSeal.TheVariants as task
use Rattle.dn_services.specs.Spelled.{call_words}
use Rattle.dn_services.specs.Staged.{AreWithin}
use Rattle.dn_services.specs.declared.seals.Seal.{Seal}
use Rattle.dn_services.specs.declared.seals.SealTurn.{SealTurn}
use Rattle.dn_services.specs.declared.seals.SealTurn.TheVariants as turn

-- the seal of a put or delete
abbrev pub call_seal : Call → Sealing → Seal
call_seal call sealing =
    record { key = key_of call; words = call_words call; gate = sealing.gate; stamp = sealing.stamp }

-- and of a task's record: a Share has the stamp of the word with which its cell is opened
abbrev pub task_seal : ℕ → TendSeal → Seal
task_seal key (task.Share cell opening gate) =
    record { key = key; words = 3; gate = gate; stamp = (cell_of opening).stamp }
task_seal key (task.Unshare at stamp gate) = record { key = key; words = 3; gate = gate; stamp = stamp }

-- where the record goes
abbrev pub plan_in : KnownState → Seal → Plan
plan_in k s = plan_of k.log s.words

abbrev pub place_in : KnownState → Seal → Ref
place_in k s = record { lane = k.log.lane; offset = (plan_in k s).at }

-- the gate word with its stamp, and the log's length behind it
abbrev pub new_gate : KnownState → Seal → ℕ
new_gate k s = gate_word (record { fenced = false; stamp = s.stamp; len = (plan_in k s).len })

-- the gate is exchanged once no word waits
abbrev pub next_of : KnownState → Seal → List Staged → Action
next_of k s [] = Cas (gate_at k.log.lane) s.gate (new_gate k s)
next_of k s (w ∷ ws) = Store w.at w.word

-- A word has flowed; or the exchange was done where it found the gate that it began from. If it wasn't, the lane knows
-- what it knew.
abbrev pub turn_of : KnownState → Seal → ℕ → List Staged → SealTurn
turn_of k s word [] = if word == s.gate then turn.Sealed (place_in k s) else turn.Shut (place_in k s)
turn_of k s word (w ∷ ws) = turn.More

abbrev pub known_after : KnownState → Seal → ℕ → List Staged → KnownState
known_after k s word [] = if word == s.gate then sealed_by k (plan_in k s) (Some s.key) else k
known_after k s word (w ∷ ws) = k

abbrev pub waits_after : List Staged → List Staged
waits_after [] = []
waits_after (w ∷ ws) = ws

-- a record has room, and is sure of its place among the pending ones
pub record IsReady (k : KnownState) (words : ℕ) : Type 0 where
  pub room : (plan_of k.log words).need_segment ≡ false
  pub spare : 1 ≤ k.pending.spare

-- a record is being sealed
pub record IsSealing (k : KnownState) (s : Seal) (waits : List Staged) : Type 0 where
  pub least : 1 ≤ s.words
  pub most : s.words ≤ 130
  pub stamp : s.stamp < 2 ^ 31
  pub ready : IsReady k s.words
  pub within : AreWithin k.log.pool waits
