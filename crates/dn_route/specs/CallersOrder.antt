use Rattle.std.specs.Prelude.{◌≡◌, ◌⊎◌, ℕ, ◌<◌, ◌≤◌, List, Contains}
use Rattle.dn_word.specs.declared.positions.Position.{Position}
use Rattle.dn_hist.specs.CallersOrder.{IsBefore, IsInCallersOrder}
use Rattle.dn_hist.specs.declared.receipts.Receipt.{Receipt}
use Rattle.dn_hist.specs.declared.receipts.SessionView.{SessionView}
use Rattle.dn_route.specs.SessionState.{SessionState}

-- that a session was told a position, at the time when its last call had this number
pub record Told : Type 0 where
  pub session : ℕ
  pub number : ℕ
  pub position : Position

-- a session is told this position now
abbrev pub told_now : SessionState → Position → Told
told_now s position = record { session = s.session; number = s.number; position = position }

-- A history is in caller's order with what sessions were told: the receipts of each session rise in number and in
-- position, and those of the calls that it starts after it was told a position have greater positions.
pub record KeepsCallersOrder (told : List Told) (receipts : List Receipt) : Type 0 where
  pub rises : IsInCallersOrder receipts
  pub behind : (t : Told) (r : Receipt) → Contains told t → Contains receipts r → r.position.session ≡ t.session
      → t.number < r.number → IsBefore t.position r.position

-- a position is no greater than another
abbrev pub IsUpTo : Position → Position → Type 0
IsUpTo a b = (a ≡ b) ⊎ IsBefore a b

-- A session knows what it was answered and told: its receipts have numbers up to its last call's and positions up to
-- its last position, and so has what it was told.
pub record Knows (told : List Told) (receipts : List Receipt) (s : SessionState) : Type 0 where
  pub numbers : (r : Receipt) → Contains receipts r → r.position.session ≡ s.session → r.number ≤ s.number
  pub positions : (r : Receipt) → Contains receipts r → r.position.session ≡ s.session → IsUpTo r.position s.last
  pub told_numbers : (t : Told) → Contains told t → t.session ≡ s.session → t.number ≤ s.number
  pub told_positions : (t : Told) → Contains told t → t.session ≡ s.session → IsUpTo t.position s.last

-- A view is good for a call that isn't answered yet: it has a greater number than the session's receipts, and its last
-- position is at least theirs and at least what the session was told before the call got its number.
pub record IsGood (told : List Told) (receipts : List Receipt) (view : SessionView) : Type 0 where
  pub numbers : (r : Receipt) → Contains receipts r → r.position.session ≡ view.session → r.number < view.number
  pub positions : (r : Receipt) → Contains receipts r → r.position.session ≡ view.session → IsUpTo r.position view.last
  pub told_positions : (t : Told) → Contains told t → t.session ≡ view.session → t.number < view.number
      → IsUpTo t.position view.last
