use Rattle.std.specs.Prelude.{◌≡◌, ◌≢◌, ◌<◌, ◌^◌, ℕ, false, Option, Some}
use Rattle.dn_word.specs.Gate.{gate_of}
use Rattle.dn_word.specs.Need.{raised_of}
use Rattle.dn_record.specs.Grammar.{IsValue}
use Rattle.dn_hist.specs.Calls.{key_of}
use Rattle.dn_hist.specs.declared.calls.Call.{Call}
use Rattle.dn_hist.specs.declared.calls.Call.TheVariants.{Get, Put, Delete}
use Rattle.dn_model.specs.Regions.{slot_of}
use Rattle.dn_plan.specs.Plan.{need_of}
use Rattle.dn_plan.specs.declared.phases.Raised.{Raised}
use Rattle.dn_lane.specs.Asked.{brief_of, call_in}
use Rattle.dn_lane.specs.declared.asked.Asked.{Asked}
use Rattle.dn_lane.specs.declared.asked.Asked.TheVariants as asked
use Rattle.dn_owners.specs.Known.{Look}
use Rattle.dn_learnt.specs.Heeding.{look_by}

-- The call that a lane is asked.

-- it has a key, and a value that a record can have
abbrev pub IsCall : Call → Type 0
IsCall (Get key) = key ≢ 0
IsCall (Put key value) = (key ≢ 0) × IsValue value
IsCall (Delete key) = key ≢ 0

abbrev pub IsCalled : Asked → Type 0
IsCalled asked.Nothing = ⊥
IsCalled (asked.Call call view room) = IsCall call × (view.last.stamp < 2 ^ 31)
IsCalled asked.Task = ⊥

abbrev pub key_in : Asked → ℕ
key_in a = key_of (call_in a)

-- By what the lane has looked at: the slot of the call's key, where it found this deed.
pub record HasLook (seen : Option Look) (a : Asked) (deed : ℕ) : Type 0 where
  pub called : IsCalled a
  pub looked : seen ≡ Some (look_by (slot_of (key_in a)) deed)

-- and it has loaded a gate without the bit, by which it has its position
pub record HasRaised (seen : Option Look) (n : ℕ) (a : Asked) (r : Raised) : Type 0 where
  pub look : HasLook seen a r.look
  pub clear : (gate_of r.gate).fenced ≡ false
  pub rule : raised_of (need_of (brief_of n a) r.look) (gate_of r.gate).stamp ≡ Some r.to
