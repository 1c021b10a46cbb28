use Rattle.std.proofs.Common.{ℕ, ◌<◌, ◌≡◌, ◌≢◌, true, Some, refl, arith}
use Rattle.dn_record.specs.Grammar.{IsRecord}
use Rattle.dn_record.specs.Record.{key_of as record_key}
use Rattle.dn_hist.specs.Calls.{key_of}
use Rattle.dn_hist.specs.declared.calls.Call.{Call}
use Rattle.dn_hist.specs.declared.calls.Call.TheVariants.{Get, Put, Delete}
use Rattle.dn_model.specs.OneLog.{is_plain}
use Rattle.dn_lane.specs.Asked.{call_in}
use Rattle.dn_lane.specs.declared.asked.Asked.{Asked}
use Rattle.dn_lane.specs.declared.asked.Asked.TheVariants as asked
use Rattle.dn_receipts.specs.Sealing.{record_of}
use Rattle.dn_lanes.specs.Calls.{IsCall, IsCalled, key_in}

-- What is so of the call that a lane is asked.

above : (k : ℕ) → k ≢ 0 → 0 < k
above k d = omega (arith, d)

pub call_positive : (call : Call) → IsCall call → 0 < key_of call
call_positive (Get key) h = above key h
call_positive (Put key value) h = above key h.0
call_positive (Delete key) h = above key h

pub call_record : (call : Call) → IsCall call → IsRecord (record_of call)
call_record (Get key) h = record { fields_fit = h; value_fits = tt }
call_record (Put key value) h = record { fields_fit = h.0; value_fits = h.1 }
call_record (Delete key) h = record { fields_fit = h; value_fits = tt }

pub call_plain : (call : Call) → is_plain (record_of call) ≡ true
call_plain (Get key) = refl
call_plain (Put key value) = refl
call_plain (Delete key) = refl

pub call_key : (call : Call) → record_key (record_of call) ≡ Some (key_of call)
call_key (Get key) = refl
call_key (Put key value) = refl
call_key (Delete key) = refl

pub is_call : (a : Asked) → IsCalled a → IsCall (call_in a)
is_call asked.Nothing h = absurd h
is_call (asked.Call call view room) h = h.0
is_call asked.Task h = absurd h

pub positive : (a : Asked) → IsCalled a → 0 < key_in a
positive a h = call_positive (call_in a) (is_call a h)
