use Rattle.std.specs.Prelude.{ℕ, ◌≡◌, ◌≢◌, ◌<◌, ◌^◌, None}
use Rattle.dn_hist.specs.Calls.{key_of}
use Rattle.dn_hist.specs.declared.calls.Call.{Call}
use Rattle.dn_hist.specs.declared.calls.Call.TheVariants.{Get, Put, Delete}
use Rattle.dn_hist.specs.declared.receipts.SessionView.{SessionView}
use Rattle.dn_plan.specs.declared.phases.Brief.{Brief}
use Rattle.dn_plan.specs.declared.phases.Kind.{Kind}
use Rattle.dn_plan.specs.declared.phases.Kind.TheVariants as kind
use Rattle.dn_services.specs.Spelled.{call_words, IsWrite}
use Rattle.dn_lane.specs.declared.asked.Asked.{Asked}
use Rattle.dn_lane.specs.declared.asked.Asked.TheVariants as asked

-- What a lane was asked, as its plan sees it.

-- what is shown of no session
abbrev pub no_view : SessionView
no_view = record { session = 0; number = 0; last = record { stamp = 0; rank = 0; session = 0 }; hint = None }

abbrev pub kind_of : Call → Kind
kind_of (Get key) = kind.Get
kind_of (Put key value) = kind.Put
kind_of (Delete key) = kind.Delete

-- the call; of a task, or where nothing was asked, a get of key 0, which no call has
abbrev pub call_in : Asked → Call
call_in asked.Nothing = Get 0
call_in (asked.Call call view room) = call
call_in asked.Task = Get 0

abbrev pub view_in : Asked → SessionView
view_in asked.Nothing = no_view
view_in (asked.Call call view room) = view
view_in asked.Task = no_view

abbrev pub number_in : Asked → ℕ
number_in a = (view_in a).number

abbrev pub brief_of : ℕ → Asked → Brief
brief_of lane a = record { lane = lane; key = key_of (call_in a); kind = kind_of (call_in a); view = view_in a }

-- the words of the record that is sealed: of a task 3
abbrev pub words_in : Asked → ℕ
words_in asked.Nothing = 3
words_in (asked.Call call view room) = call_words call
words_in asked.Task = 3

-- a get seals none
abbrev pub MaySeal : Asked → Type 0
MaySeal asked.Nothing = Unit {0}
MaySeal (asked.Call call view room) = IsWrite call
MaySeal asked.Task = Unit {0}

-- a call has a key, and its session's last stamp its range
abbrev pub FitsAsked : Asked → Type 0
FitsAsked asked.Nothing = Unit {0}
FitsAsked (asked.Call call view room) = (key_of call ≢ 0) × (view.last.stamp < 2 ^ 31)
FitsAsked asked.Task = Unit {0}

-- the location of a key changes at most the room for its value
pub record SameAsked (old new : Asked) : Type 0 where
  pub call : call_in new ≡ call_in old
  pub view : view_in new ≡ view_in old
  pub words : words_in new ≡ words_in old
  pub fits : FitsAsked old → FitsAsked new
  pub seals : MaySeal old → MaySeal new
