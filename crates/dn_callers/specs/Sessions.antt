use Rattle.std.specs.Prelude.{◌≡◌, ℕ, ◌≤◌, true, false, Contains}
use Rattle.dn_hist.specs.CallersOrder.{IsBefore}
use Rattle.dn_hist.specs.declared.receipts.Receipt.{Receipt}
use Rattle.dn_hist.specs.declared.receipts.SessionView.{SessionView}
use Rattle.dn_route.specs.CallersOrder.{KeepsCallersOrder, Knows, IsGood}
use Rattle.dn_callers.specs.Callers.{Standing, receipts_of, Callers}

-- sessions count from 1 to 1,000
pub record IsSession (s : ℕ) : Type 0 where
  pub least : 1 ≤ s
  pub most : s ≤ 1000

-- What is sound of callers.
pub record AreSessions (c : Callers) : Type 0 where
  pub numbers : (s : ℕ) → IsSession s → (c.sessions s).session ≡ s
  pub order : KeepsCallersOrder c.told (receipts_of c.receipts)
  -- a session that isn't closed knows what it was answered and told, and was answered each of its receipts
  pub knows : (s : ℕ) → IsSession s → c.closed s ≡ false → Knows c.told (receipts_of c.receipts) (c.sessions s)
  pub answered : (s : ℕ) (x : Standing) → IsSession s → c.closed s ≡ false → Contains c.receipts x
      → x.receipt.position.session ≡ s → x.answered ≡ true
  -- a receipt without an answer is its session's last
  pub last : (x y : Standing) → Contains c.receipts x → Contains c.receipts y
      → y.receipt.position.session ≡ x.receipt.position.session → x.answered ≡ false
      → y.receipt.number ≤ x.receipt.number

-- A call is under way, with this view, at a lane that runs.
pub record IsUnderWay (c : Callers) (view : SessionView) : Type 0 where
  pub session : IsSession view.session
  pub unclosed : c.closed view.session ≡ false
  pub number : view.number ≤ (c.sessions view.session).number
  pub good : IsGood c.told (receipts_of c.receipts) view

-- a receipt of that call: it stands behind the last position that the session knew
pub record IsReceiptOf (view : SessionView) (r : Receipt) : Type 0 where
  pub session : r.position.session ≡ view.session
  pub number : r.number ≡ view.number
  pub behind : IsBefore view.last r.position
