use Rattle.std.specs.Prelude.{ℕ, Bool, false, List, [], map}
use Rattle.dn_hist.specs.declared.receipts.Receipt.{Receipt}
use Rattle.dn_route.specs.SessionState.{SessionState, opened}
use Rattle.dn_route.specs.CallersOrder.{Told}

-- a receipt that stands, and whether its session was answered it: a call whose put was sealed may end without an answer
pub record Standing : Type 0 where
  pub receipt : Receipt
  pub answered : Bool

abbrev pub receipts_of : List Standing → List Receipt
receipts_of standings = map (λ (x : Standing). x.receipt) standings

-- The callers of a run: each session by its number, and whether it is closed, which makes no call any more; what
-- sessions were told, and the receipts, both as they came.
pub record Callers : Type 0 where
  pub sessions : ℕ → SessionState
  pub closed : ℕ → Bool
  pub told : List Told
  pub receipts : List Standing

-- before the first call
abbrev pub fresh_callers : Callers
fresh_callers = record { sessions = opened; closed = λ s. false; told = []; receipts = [] }
