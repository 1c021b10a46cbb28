use Rattle.std.specs.Prelude.{ℕ, ◌+◌, ◌-◌, ◌^◌, ◌||◌, ◌&&◌, Bool, List, [], nat_eq, nat_lt, min, length}
use Rattle.std.specs.List.{list_any}

-- a source in memory: what is left, which calls fail, and how many came and failed
pub record InputState : Type 0 where
  pub left : List ℕ
  pub failing : List ℕ
  pub calls : ℕ
  pub faults : ℕ

-- a sink in memory: what was written, for how many bytes there is room, which calls fail, and how many came and failed
pub record OutputState : Type 0 where
  pub written : List ℕ
  pub room : ℕ
  pub failing : List ℕ
  pub calls : ℕ
  pub faults : ℕ

-- a source of these bytes, before the first call
abbrev pub fresh_input : List ℕ → List ℕ → InputState
fresh_input bytes failing = record { left = bytes; failing = failing; calls = 0; faults = 0 }

-- a sink with so much room, before the first call
abbrev pub fresh_output : ℕ → List ℕ → OutputState
fresh_output room failing = record { written = []; room = room; failing = failing; calls = 0; faults = 0 }

-- one more, unless the count stands at its last value
abbrev pub counted : ℕ → ℕ
counted n = min (n + 1) (2 ^ 64 - 1)

-- the call of this number is to fail
abbrev pub is_listed : List ℕ → ℕ → Bool
is_listed failing number = list_any (λ n. nat_eq n number) failing

-- how many bytes of a piece fit
abbrev pub fitting : OutputState → List ℕ → ℕ
fitting sink piece = min (length piece) (sink.room - length sink.written)

-- a write fails: it is listed, or no byte of its piece fits though it has one
abbrev pub is_refused : OutputState → List ℕ → Bool
is_refused sink piece = is_listed sink.failing (counted sink.calls) || (nat_eq (fitting sink piece) 0 && nat_lt 0 (length piece))
