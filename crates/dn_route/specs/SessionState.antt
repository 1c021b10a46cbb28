use Rattle.std.specs.Prelude.{ℕ, ◌+◌, ◌==◌, List, [], Option, find, replicate, slice_set, if◌then◌else◌}
use Rattle.std.specs.Option.{option_map}
use Rattle.std.specs.Ordering.{is_lt}
use Rattle.dn_word.specs.Deed.{deed_of}
use Rattle.dn_word.specs.declared.positions.Position.{Position}
use Rattle.dn_hist.specs.Receipt.{position_cmp}
use Rattle.dn_hist.specs.declared.receipts.SessionView.{SessionView}

-- what a session keeps between its calls
pub record SessionState : Type 0 where
  -- its own number
  pub session : ℕ
  -- the number of its last call
  pub number : ℕ
  -- the last position that it knows
  pub last : Position
  -- for each slot the lane that its calls go to, 0 where none is known
  pub routes : List ℕ
  -- keys with the cells that it was told of
  pub hints : List (ℕ × ℕ)

-- a session that has made no call and knows no position but the first of its own
abbrev pub opened : ℕ → SessionState
opened session = record {
  session = session;
  number = 0;
  last = record { stamp = 0; rank = 0; session = session };
  routes = replicate 64 0;
  hints = [];
}

-- the cell of the first pair with this key
abbrev pub hint_of : List (ℕ × ℕ) → ℕ → Option ℕ
hint_of hints key = option_map (λ (pair : ℕ × ℕ). pair.1) (find (λ (pair : ℕ × ℕ). pair.0 == key) hints)

-- what the session shows with a call on this key
abbrev pub view_of : SessionState → ℕ → SessionView
view_of s key = record { session = s.session; number = s.number; last = s.last; hint = hint_of s.hints key }

-- the session with one call more
abbrev pub numbered : SessionState → SessionState
numbered s = record s { number = s.number + 1 }

-- the greater of two positions
abbrev pub greater_of : Position → Position → Position
greater_of a b = if is_lt (position_cmp a b) then b else a

-- the session that was told a position
abbrev pub heard : SessionState → Position → SessionState
heard s position = record s { last = greater_of s.last position }

-- the session whose route of a slot is the lane that a deed's word names
abbrev pub refreshed : SessionState → ℕ → ℕ → SessionState
refreshed s slot word = record s { routes = slice_set s.routes slot (deed_of word).lane }
