use Rattle.std.proofs.Common.{ℕ, ◌≡◌, ◌≢◌, ◌+◌, Bool, true, false, cond, Option, Some, None, nat_lt, refl, sym, ◌∙◌, arith}
use borrow.Author.Tests.{ltb-true}
use Rattle.std.proofs.lemmas.Bool.{eqb-true}
use Rattle.dn_waiting.specs.declared.calls.OpenCall.{OpenCall}
use Rattle.dn_waiting.specs.declared.calls.Place.{Place}
use Rattle.dn_waiting.specs.declared.calls.Place.TheVariants.{Loading, Queued, Begun}
use Rattle.dn_waiting.specs.declared.calls.AttemptEnd.{AttemptEnd}
use Rattle.dn_waiting.specs.declared.calls.AttemptEnd.TheVariants.{Made, Spent, Refused}
use Rattle.dn_waiting.specs.Attempts.{placed, refused_once, settled}
use Rattle.dn_waiting.specs.Sound.{IsOpenCall, IsLaneOrNone, IsLoading, IsAtLoad, HasLane, waits_at, waits_by, runs_at, runs_by}
use Rattle.dn_waiting.proofs.Counts.{own_test, other_test}
use Rattle.dn_waiting.proofs.Steps.{Keeps}

-- What is known of a call by where it stands.

-- it is neither in a queue nor under way
pub record IsAway (o : Option OpenCall) : Type 0 where
  pub waits : (m : ℕ) → waits_at m o ≡ false
  pub runs : (m : ℕ) → runs_at m o ≡ false

pub none_away : IsAway None
none_away = record { waits = λ m. refl; runs = λ m. refl }

load_waits : (m : ℕ) (p : Place) → IsAtLoad p → waits_by m p ≡ false
load_waits m (Loading named) h = refl
load_waits m (Queued l) h = absurd h
load_waits m (Begun l) h = absurd h

load_runs : (m : ℕ) (p : Place) → IsAtLoad p → runs_by m p ≡ false
load_runs m (Loading named) h = refl
load_runs m (Queued l) h = absurd h
load_runs m (Begun l) h = absurd h

pub loading_away : (o : Option OpenCall) → IsLoading o → IsAway o
loading_away None h = absurd h
loading_away (Some c) h = record { waits = λ m. load_waits m c.place h; runs = λ m. load_runs m c.place h }

-- ---- a call in a queue
waits_only_by : (l m : ℕ) (p : Place) → waits_by l p ≡ true → m ≢ l → waits_by m p ≡ false
waits_only_by l m (Loading named) h d = refl
waits_only_by l m (Queued n) h d = other_test n m (λ e. d (sym e ∙ eqb-true n l h))
waits_only_by l m (Begun n) h d = refl

pub waits_only : (l m : ℕ) (o : Option OpenCall) → waits_at l o ≡ true → m ≢ l → waits_at m o ≡ false
waits_only l m None h d = refl
waits_only l m (Some c) h d = waits_only_by l m c.place h d

waits_not_runs_by : (l m : ℕ) (p : Place) → waits_by l p ≡ true → runs_by m p ≡ false
waits_not_runs_by l m (Loading named) h = refl
waits_not_runs_by l m (Queued n) h = refl
waits_not_runs_by l m (Begun n) h = cc

pub waits_not_runs : (l m : ℕ) (o : Option OpenCall) → waits_at l o ≡ true → runs_at m o ≡ false
waits_not_runs l m None h = refl
waits_not_runs l m (Some c) h = waits_not_runs_by l m c.place h

-- ---- a call under way
runs_only_by : (l m : ℕ) (p : Place) → runs_by l p ≡ true → m ≢ l → runs_by m p ≡ false
runs_only_by l m (Loading named) h d = refl
runs_only_by l m (Queued n) h d = refl
runs_only_by l m (Begun n) h d = other_test n m (λ e. d (sym e ∙ eqb-true n l h))

pub runs_only : (l m : ℕ) (o : Option OpenCall) → runs_at l o ≡ true → m ≢ l → runs_at m o ≡ false
runs_only l m None h d = refl
runs_only l m (Some c) h d = runs_only_by l m c.place h d

runs_not_waits_by : (l m : ℕ) (p : Place) → runs_by l p ≡ true → waits_by m p ≡ false
runs_not_waits_by l m (Loading named) h = refl
runs_not_waits_by l m (Queued n) h = cc
runs_not_waits_by l m (Begun n) h = refl

pub runs_not_waits : (l m : ℕ) (o : Option OpenCall) → runs_at l o ≡ true → waits_at m o ≡ false
runs_not_waits l m None h = refl
runs_not_waits l m (Some c) h = runs_not_waits_by l m c.place h

-- ---- a call that is placed
pub placed_keeps : (o : Option OpenCall) (p : Place) → Keeps o (placed o p)
placed_keeps None p = tt
placed_keeps (Some c) p = λ u h. h

pub placed_open : (o : Option OpenCall) (p : Place) → IsOpenCall o → HasLane p → IsOpenCall (placed o p)
placed_open None p h x = tt
placed_open (Some c) p h x = record { refused = h.refused; place = x }

pub queued_runs : (l m : ℕ) (o : Option OpenCall) → runs_at m (placed o (Queued l)) ≡ false
queued_runs l m None = refl
queued_runs l m (Some c) = refl

pub queued_own : (l : ℕ) (o : Option OpenCall) → IsLoading o → waits_at l (placed o (Queued l)) ≡ true
queued_own l None h = absurd h
queued_own l (Some c) h = own_test l

pub queued_other : (l m : ℕ) (o : Option OpenCall) → m ≢ l → waits_at m (placed o (Queued l)) ≡ false
queued_other l m None d = refl
queued_other l m (Some c) d = other_test l m (λ e. d (sym e))

pub begun_waits : (l m : ℕ) (o : Option OpenCall) → waits_at m (placed o (Begun l)) ≡ false
begun_waits l m None = refl
begun_waits l m (Some c) = refl

pub begun_own : (l : ℕ) (o : Option OpenCall) → waits_at l o ≡ true → runs_at l (placed o (Begun l)) ≡ true
begun_own l None h = h
begun_own l (Some c) h = own_test l

pub begun_other : (l m : ℕ) (o : Option OpenCall) → m ≢ l → runs_at m (placed o (Begun l)) ≡ false
begun_other l m None d = refl
begun_other l m (Some c) d = other_test l m (λ e. d (sym e))

-- ---- a call of which an attempt is refused
refused_away_by : (c : OpenCall) (named : Option ℕ) (b : Bool) → IsAway (cond b (Some (record c { refused = c.refused + 1; place = Loading named })) None)
refused_away_by c named true = record { waits = λ m. refl; runs = λ m. refl }
refused_away_by c named false = none_away

pub refused_away : (o : Option OpenCall) (named : Option ℕ) → IsAway (refused_once o named)
refused_away None named = none_away
refused_away (Some c) named = refused_away_by c named (nat_lt c.refused 7)

refused_keeps_by : (c : OpenCall) (named : Option ℕ) (b : Bool) → Keeps (Some c) (cond b (Some (record c { refused = c.refused + 1; place = Loading named })) None)
refused_keeps_by c named true = λ u h. h
refused_keeps_by c named false = tt

pub refused_keeps : (o : Option OpenCall) (named : Option ℕ) → Keeps o (refused_once o named)
refused_keeps None named = tt
refused_keeps (Some c) named = refused_keeps_by c named (nat_lt c.refused 7)

refused_open_by : (c : OpenCall) (named : Option ℕ) → IsLaneOrNone named → (b : Bool) → nat_lt c.refused 7 ≡ b
    → IsOpenCall (cond b (Some (record c { refused = c.refused + 1; place = Loading named })) None)
refused_open_by c named h true e = record { refused = omega (arith, ltb-true c.refused 7 e); place = h }
refused_open_by c named h false e = tt

pub refused_open : (o : Option OpenCall) (named : Option ℕ) → IsLaneOrNone named → IsOpenCall (refused_once o named)
refused_open None named h = tt
refused_open (Some c) named h = refused_open_by c named h (nat_lt c.refused 7) refl

-- ---- and of which one has ended
pub settled_away : (end : AttemptEnd) (o : Option OpenCall) → IsAway (settled end o)
settled_away Made o = none_away
settled_away Spent o = none_away
settled_away Refused o = refused_away o None

pub settled_keeps : (end : AttemptEnd) (o : Option OpenCall) → Keeps o (settled end o)
settled_keeps Made o = tt
settled_keeps Spent o = tt
settled_keeps Refused o = refused_keeps o None

pub settled_open : (end : AttemptEnd) (o : Option OpenCall) → IsOpenCall (settled end o)
settled_open Made o = tt
settled_open Spent o = tt
settled_open Refused o = refused_open o None tt
