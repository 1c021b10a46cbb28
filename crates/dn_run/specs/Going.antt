use Rattle.std.specs.Prelude.{◌≡◌, ℕ, List, [], ◌++◌, None, All}
use Rattle.dn_callers.specs.Sessions.{IsSession}
use Rattle.dn_lanes.specs.Calls.{IsCall}
use Rattle.dn_outcomes.specs.Sound.{IsWorld, MayHappen}
use Rattle.dn_outcomes.specs.State.{World}
use Rattle.dn_script.specs.Fit.{IsLine}
use Rattle.dn_script.specs.declared.scripts.Line.{Line}
use Rattle.dn_waiting.specs.State.{call_of}
use Rattle.dn_model.specs.Regions.{slot_of}
use Rattle.dn_monitor.specs.Heirs.{no_heirs}
use Rattle.dn_monitor.specs.Monitor.{IsOrder}
use Rattle.dn_monitor.specs.declared.orders.Order.TheVariants.{Move}
use Rattle.dn_run.specs.Doing.{Doing, Rest, Start, Finish, Repeat, Give, Order, Merge, Drop}
use Rattle.dn_run.specs.Headline.{call_left, calls_left, call_started, calls_started}
use Rattle.dn_run.specs.Run.{Run, IsRunOf}

-- What is so at every moment of a run.

-- sessions alone have calls
abbrev pub HaveCalls : World → Type 0
HaveCalls w = (s : ℕ) → (IsSession s → ⊥) → call_of w.waiting s ≡ None

-- what is left of a line may be done
abbrev pub IsDoing : Doing → Type 0
IsDoing Rest = Unit {0}
IsDoing (Start s lane start call) = IsSession s × IsCall call
IsDoing (Finish s) = Unit {0}
IsDoing (Repeat e k) = ((w : World) → MayHappen w e no_heirs) × (call_started e ≡ [])
IsDoing (Give key n whole) = IsOrder (Move (slot_of key) n)
IsDoing (Order slot n) = Unit {0}
IsDoing (Merge slot) = Unit {0}
IsDoing Drop = Unit {0}

-- the run of these lines over a world
pub record IsGoing (w : World) (lines : List Line) (r : Run) : Type 0 where
  pub of : IsRunOf w r
  pub sound : IsWorld r.world
  pub own : HaveCalls r.world
  pub doing : IsDoing r.doing
  pub left : All IsLine r.lines
  pub starts : calls_started r.past ++ (call_left r.doing ++ calls_left r.lines) ≡ calls_left lines
