use Rattle.std.proofs.Common.{ℕ, ◌≡◌, ◌≢◌, ◌⊎◌, inl, inr, Bool, true, false, List, Option, Some, None, refl, sym, subst}
use Rattle.dn_hist.specs.Calls.{key_of}
use Rattle.dn_hist.specs.declared.calls.Call.{Call}
use Rattle.dn_hist.specs.declared.receipts.Receipt.{Receipt}
use Rattle.dn_hist.specs.declared.receipts.SessionView.{SessionView}
use Rattle.dn_locate.specs.Fetch.{Fetching}
use Rattle.dn_owners.proofs.Ats.{none_some}
use Rattle.dn_plan.specs.declared.phases.Way.{Way}
use Rattle.dn_ask.specs.declared.asks.End.{End as EndOf}
use Rattle.dn_ask.specs.declared.asks.End.TheVariants as end
use Rattle.dn_ask.specs.declared.asks.Locate.{Locate}
use Rattle.dn_find.specs.declared.finds.Found.{Found}
use Rattle.dn_find.specs.declared.finds.Found.TheVariants as found
use Rattle.dn_lane.specs.Ends.{turn_by}
use Rattle.dn_lane.specs.Found.{kept_in}
use Rattle.dn_lane.specs.Taken.{Taken, taken_by, here_of, sought_by}
use Rattle.dn_lane.specs.Turns.{turned, turn_going, left, left_going}
use Rattle.dn_lane.specs.declared.asked.Asked.{Asked}
use Rattle.dn_lane.specs.declared.asked.Asked.TheVariants as asked
use Rattle.dn_lane.specs.declared.base.Base.{Base}
use Rattle.dn_lane.specs.declared.modes.Going.{Going}
use Rattle.dn_lane.specs.declared.modes.Going.TheVariants.{On, End}
use Rattle.dn_lane.specs.declared.modes.Mode.{Mode}
use Rattle.dn_lane.specs.declared.modes.Mode.TheVariants as mode
use Rattle.dn_lanes.specs.Stepped.{receipt_by}
use Rattle.dn_callers.specs.Callers.{Callers}
use Rattle.dn_callers.specs.Sessions.{IsUnderWay}
use Rattle.dn_machine.specs.Given.{IsOfSession}
use Rattle.dn_machine.specs.Sound.{IsCallOf}

-- A lane's call stays the same while it is under way, and is gone when it ends.

abbrev pub SameCall : Asked → Asked → Type 0
SameCall asked.Nothing b = b ≡ asked.Nothing
SameCall (asked.Call call view room) b = (value : List ℕ) × (b ≡ asked.Call call view value)
SameCall asked.Task b = b ≡ asked.Task

same_call : (a : Asked) → SameCall a a
same_call asked.Nothing = refl
same_call (asked.Call call view room) = (room, refl)
same_call asked.Task = refl

kept_same : (a : Asked) (v : Option (List ℕ)) → SameCall a (kept_in a v).asked
kept_same asked.Nothing v = refl
kept_same (asked.Call call view room) None = (room, refl)
kept_same (asked.Call call view room) (Some value) = (value, refl)
kept_same asked.Task v = refl

here_same : (a : Asked) (f : Fetching) (way : Way) (b : Bool) → SameCall a (here_of a f way b).asked
here_same a f way true = kept_same a _
here_same a f way false = same_call a

sought_same : (g : Base) (a : Asked) (wait : Locate) (x : Found) → SameCall a (sought_by g a wait x).asked
sought_same g a wait (found.More find) = same_call a
sought_same g a wait (found.Here way there) = here_same a g.fetch way there

pub taken_same : (g : Base) (a : Asked) (m : Mode) (word : ℕ) → SameCall a (taken_by g a m word).asked
taken_same g a mode.Idle word = same_call a
taken_same g a (mode.Acting wait) word = same_call a
taken_same g a (mode.Finding wait find) word = sought_same _ a wait _
taken_same g a (mode.Claiming wait claim) word = same_call a
taken_same g a (mode.Sealing wait seal) word = same_call a

-- ---- what the lane is asked afterwards
left_by : (g : Base) (b : Asked) (going : Going) → ((left_going g b going).asked ≡ b) ⊎ ((left_going g b going).asked ≡ asked.Nothing)
left_by g b (On m) = inl refl
left_by g b (End e) = inr refl

not_call : (call : Call) (view : SessionView) (room : List ℕ) → (let a : Asked = asked.Nothing in a) ≡ asked.Call call view room → ⊥
not_call call view room e = absurd (cc e)

-- of a session's call it is still that, or nothing
session_same : (s : ℕ) (a b : Asked) → SameCall a b → IsOfSession s b → IsOfSession s a
session_same s asked.Nothing b same h = subst (IsOfSession s) same h
session_same s (asked.Call call view room) b same h = subst (IsOfSession s) same.1 h
session_same s asked.Task b same h = subst (IsOfSession s) same h

pub session_left : (s : ℕ) (a : Asked) (t : Taken) → SameCall a t.asked → IsOfSession s (left t).asked → IsOfSession s a
session_left s a t same h = elim (left_by t.base t.asked t.going) [
  | inl e ↦ session_same s a t.asked same (subst (IsOfSession s) e h)
  | inr e ↦ absurd (subst (IsOfSession s) e h)
]

call_same : (c : Callers) (a b : Asked) → SameCall a b → IsCallOf c a → IsCallOf c b
call_same c asked.Nothing b same h = subst (IsCallOf c) (sym same) h
call_same c (asked.Call call view room) b same h = subst (IsCallOf c) (sym same.1) h
call_same c asked.Task b same h = subst (IsCallOf c) (sym same) h

pub call_left : (c : Callers) (a : Asked) (t : Taken) → SameCall a t.asked → IsCallOf c a → IsCallOf c (left t).asked
call_left c a t same h = elim (left_by t.base t.asked t.going) [
  | inl e ↦ subst (IsCallOf c) (sym e) (call_same c a t.asked same h)
  | inr e ↦ subst (IsCallOf c) (sym e) tt
]

-- ---- a receipt is that of a call, which is gone then
pub record IsAnswer (c : Callers) (a : Asked) : Type 0 where
  pub call : Call
  pub view : SessionView
  pub room : List ℕ
  pub is : a ≡ asked.Call call view room
  pub under_way : IsUnderWay c view
  pub key : key_of call ≢ 0

ended_call : (c : Callers) (a : Asked) (b : Asked) (e : EndOf) (r : Receipt) → SameCall a b → IsCallOf c a → receipt_by (turn_by b e) ≡ Some r → IsAnswer c a
ended_call c asked.Nothing b e r same h is = absurd (nothing e (subst (λ x. receipt_by (turn_by x e) ≡ Some r) same is)) where
  nothing : (x : EndOf) → receipt_by (turn_by asked.Nothing x) ≡ Some r → ⊥
  nothing (end.Call ending) i = none_some r i
  nothing (end.Task answer) i = none_some r i
ended_call c (asked.Call call view room) b e r same h is = record { call = call; view = view; room = room; is = refl; under_way = h.0; key = h.1 }
ended_call c asked.Task b e r same h is = absurd (task e (subst (λ x. receipt_by (turn_by x e) ≡ Some r) same is)) where
  task : (x : EndOf) → receipt_by (turn_by asked.Task x) ≡ Some r → ⊥
  task (end.Call ending) i = none_some r i
  task (end.Task answer) i = none_some r i

pub answer_of : (c : Callers) (a : Asked) (t : Taken) (r : Receipt) → SameCall a t.asked → IsCallOf c a → receipt_by (turned t) ≡ Some r → IsAnswer c a
answer_of c a t r same h is = by_going t.going is where
  by_going : (going : Going) → receipt_by (turn_going t.asked going) ≡ Some r → IsAnswer c a
  by_going (On m) i = absurd (none_some r i)
  by_going (End e) i = ended_call c a t.asked e r same h i

pub gone : (t : Taken) (r : Receipt) → receipt_by (turned t) ≡ Some r → (left t).asked ≡ asked.Nothing
gone t r is = by_going t.going is where
  by_going : (going : Going) → receipt_by (turn_going t.asked going) ≡ Some r → (left_going t.base t.asked going).asked ≡ asked.Nothing
  by_going (On m) i = absurd (none_some r i)
  by_going (End e) i = refl
