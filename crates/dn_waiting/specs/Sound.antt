use Rattle.std.specs.Prelude.{ℕ, ◌≡◌, ◌+◌, ◌==◌, ◌≤◌, Bool, false, List, [], ◌∷◌, Option, Some, None, Contains, cond, length}
use Rattle.dn_hist.specs.declared.receipts.SessionView.{SessionView}
use Rattle.dn_waiting.specs.declared.calls.OpenCall.{OpenCall}
use Rattle.dn_waiting.specs.declared.calls.Place.{Place}
use Rattle.dn_waiting.specs.declared.calls.Place.TheVariants.{Loading, Queued, Begun}
use Rattle.dn_waiting.specs.State.{WaitingState, call_of, at_lane}

-- ---- the places of a call
abbrev pub waits_by : ℕ → Place → Bool
waits_by lane (Loading named) = false
waits_by lane (Queued at) = at == lane
waits_by lane (Begun at) = false

-- the call waits in the queue of this lane
abbrev pub waits_at : ℕ → Option OpenCall → Bool
waits_at lane None = false
waits_at lane (Some c) = waits_by lane c.place

abbrev pub runs_by : ℕ → Place → Bool
runs_by lane (Loading named) = false
runs_by lane (Queued at) = false
runs_by lane (Begun at) = at == lane

-- the call is under way at this lane
abbrev pub runs_at : ℕ → Option OpenCall → Bool
runs_at lane None = false
runs_at lane (Some c) = runs_by lane c.place

abbrev pub IsAtLoad : Place → Type 0
IsAtLoad (Loading named) = Unit {0}
IsAtLoad (Queued lane) = ⊥
IsAtLoad (Begun lane) = ⊥

-- there is a call, and its deed is to be loaded
abbrev pub IsLoading : Option OpenCall → Type 0
IsLoading None = ⊥
IsLoading (Some c) = IsAtLoad c.place

-- there is a call, and the view shows its number
abbrev pub Shows : SessionView → Option OpenCall → Type 0
Shows view None = ⊥
Shows view (Some c) = c.number ≡ view.number

-- ---- ranges
abbrev pub IsSession : ℕ → Type 0
IsSession session = (1 ≤ session) × (session ≤ 1000)

abbrev pub IsLane : ℕ → Type 0
IsLane lane = (1 ≤ lane) × (lane ≤ 63)

abbrev pub IsLaneOrNone : Option ℕ → Type 0
IsLaneOrNone None = Unit {0}
IsLaneOrNone (Some lane) = IsLane lane

-- a load goes to a lane that there is, or by the route
abbrev pub HasLane : Place → Type 0
HasLane (Loading named) = IsLaneOrNone named
HasLane (Queued lane) = Unit {0}
HasLane (Begun lane) = Unit {0}

-- a call that has no end yet has had at most seven refused attempts
pub record IsOpen (c : OpenCall) : Type 0 where
  pub refused : c.refused ≤ 7
  pub place : HasLane c.place

abbrev pub IsOpenCall : Option OpenCall → Type 0
IsOpenCall None = Unit {0}
IsOpenCall (Some c) = IsOpen c

-- ---- in how many places a call is
-- how many of the attempts are the session's
abbrev pub how_often : ℕ → List SessionView → ℕ
how_often session [] = 0
how_often session (view ∷ views) = cond (view.session == session) 1 0 + how_often session views

abbrev pub is_of : ℕ → Option SessionView → Bool
is_of session None = false
is_of session (Some view) = view.session == session

-- A session's call is in the queue of a lane exactly once where it waits there, and in no other; it is under way at a
-- lane exactly where it says so. The attempts at lanes have the numbers of their calls.
pub record IsSound (w : WaitingState) : Type 0 where
  pub sessions : length w.calls ≡ 1001
  pub made : length w.lanes ≡ 64
  pub open_calls : (session : ℕ) → IsOpenCall (call_of w session)
  pub queues : (lane session : ℕ) → how_often session (at_lane w lane).queue ≡ cond (waits_at lane (call_of w session)) 1 0
  pub begun : (lane session : ℕ) → is_of session (at_lane w lane).begun ≡ runs_at lane (call_of w session)
  pub numbers : (lane : ℕ) (view : SessionView) → Contains (at_lane w lane).queue view → Shows view (call_of w view.session)
  pub number : (lane : ℕ) (view : SessionView) → (at_lane w lane).begun ≡ Some view → Shows view (call_of w view.session)
