use Rattle.std.proofs.Common.{ℕ, ◌≡◌}
use Rattle.dn_machine.specs.State.{Machine}

-- Two machines all of whose parts are equal are equal.

pub record SameParts (m k : Machine) : Type 0 where
  pub words : m.words ≡ k.words
  pub lanes : (n : ℕ) → m.lanes n ≡ k.lanes n
  pub mergers : (n : ℕ) → m.mergers n ≡ k.mergers n
  pub monitor : m.monitor ≡ k.monitor
  pub sessions : (s : ℕ) → m.callers.sessions s ≡ k.callers.sessions s
  pub closed : (s : ℕ) → m.callers.closed s ≡ k.callers.closed s
  pub told : m.callers.told ≡ k.callers.told
  pub receipts : m.callers.receipts ≡ k.callers.receipts
  pub loads : (s : ℕ) → m.loads s ≡ k.loads s

pub same_machine : (m k : Machine) → SameParts m k → m ≡ k
same_machine m k h = λ i. record {
  words = h.words i;
  lanes = λ n. h.lanes n i;
  mergers = λ n. h.mergers n i;
  monitor = h.monitor i;
  callers = record {
    sessions = λ s. h.sessions s i;
    closed = λ s. h.closed s i;
    told = h.told i;
    receipts = h.receipts i;
  };
  loads = λ s. h.loads s i;
}
