use Rattle.std.specs.Prelude.{ℕ, true, false, List, [], ◌∷◌, ◌++◌}
use Rattle.dn_word.specs.declared.positions.Position.{Position}
use Rattle.dn_hist.specs.declared.receipts.Receipt.{Receipt}
use Rattle.dn_store.specs.State.{with_at}
use Rattle.dn_route.specs.SessionState.{SessionState, numbered, heard, refreshed}
use Rattle.dn_route.specs.CallersOrder.{told_now}
use Rattle.dn_callers.specs.Callers.{Callers}

-- Each way in which callers change.

abbrev pub with_session : Callers → ℕ → SessionState → Callers
with_session c s now = record c { sessions = with_at c.sessions s now }

-- a session gives a call its number
abbrev pub numbered_at : Callers → ℕ → Callers
numbered_at c s = with_session c s (numbered (c.sessions s))

-- it is told a position by another session
abbrev pub told_at : Callers → ℕ → Position → Callers
told_at c s p = record (with_session c s (heard (c.sessions s) p)) { told = c.told ++ told_now (c.sessions s) p ∷ [] }

-- it is answered a receipt
abbrev pub answered_by : Callers → Receipt → Callers
answered_by c r =
    record (with_session c r.position.session (heard (c.sessions r.position.session) r.position)) {
      receipts = c.receipts ++ (record { receipt = r; answered = true }) ∷ [];
    }

-- it makes no call any more
abbrev pub closed_at : Callers → ℕ → Callers
closed_at c s = record c { closed = with_at c.closed s true }

-- a receipt stands without an answer, and its session is closed
abbrev pub unanswered_by : Callers → Receipt → Callers
unanswered_by c r =
    record (closed_at c r.position.session) {
      receipts = c.receipts ++ (record { receipt = r; answered = false }) ∷ [];
    }

-- it learns a route from the word of a deed, and cells of keys
abbrev pub routed_at : Callers → ℕ → ℕ → ℕ → Callers
routed_at c s slot word = with_session c s (refreshed (c.sessions s) slot word)

abbrev pub hinted_at : Callers → ℕ → List (ℕ × ℕ) → Callers
hinted_at c s pairs = with_session c s (record (c.sessions s) { hints = pairs })
