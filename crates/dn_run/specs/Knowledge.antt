use Rattle.std.specs.Prelude.{◌≡◌, ℕ, false, List, [], ◌∷◌, ◌++◌, Option, Some, None}
use Rattle.dn_word.specs.declared.positions.Position.{Position}
use Rattle.dn_hist.specs.declared.receipts.Receipt.{Receipt}
use Rattle.dn_store.specs.State.{with_at}
use Rattle.dn_route.specs.CallersOrder.{Told}
use Rattle.dn_route.specs.SessionState.{opened, greater_of}
use Rattle.dn_outcomes.specs.State.{World}
use Rattle.dn_outcomes.specs.declared.events.Event.{Event}
use Rattle.dn_outcomes.specs.declared.events.Event.TheVariants.{Tell}
use Rattle.dn_script.specs.Asked.{calls_of}
use Rattle.dn_script.specs.declared.asked.AskedCall.{AskedCall}
use Rattle.dn_run.specs.Asked.{call_numbered}
use Rattle.dn_run.specs.Happening.{Happening}
use Rattle.dn_run.specs.Run.{Run}

-- What sessions know, by what has happened alone.

-- the last position of each session, the calls that got a number, and what sessions were told, in order
pub record Knowledge : Type 0 where
  pub lasts : ℕ → Position
  pub asked : List AskedCall
  pub told : List Told

-- before the first call a session knows the first position of its own
abbrev pub nothing_known : Knowledge
nothing_known = record { lasts = λ s. (opened s).last; asked = []; told = [] }

-- ---- a session knows the position of its receipt, where that is greater than its last one
abbrev pub lasts_heard : Option Receipt → (ℕ → Position) → ℕ → Position
lasts_heard None lasts = lasts
lasts_heard (Some r) lasts = with_at lasts r.position.session (greater_of (lasts r.position.session) r.position)

-- ---- session t is told the last position of session s, with the number of its own last call
abbrev pub lasts_told : Event → (ℕ → Position) → ℕ → Position
lasts_told (Tell s t) lasts = with_at lasts t (greater_of (lasts t) (lasts s))
lasts_told other lasts = lasts

abbrev pub told_by : Event → Knowledge → List Told
told_by (Tell s t) k = (record { session = t; number = calls_of t k.asked; position = k.lasts s }) ∷ []
told_by other k = []

-- ---- all that has happened
abbrev pub learns : Knowledge → Happening → Knowledge
learns k x = record {
  lasts = lasts_heard x.receipt (lasts_told x.event k.lasts);
  asked = k.asked ++ call_numbered x.event x.outcome;
  told = k.told ++ told_by x.event k;
}

abbrev pub known_behind : Knowledge → List Happening → Knowledge
known_behind k [] = k
known_behind k (x ∷ xs) = known_behind (learns k x) xs

abbrev pub known_by : List Happening → Knowledge
known_by past = known_behind nothing_known past

-- ---- a world whose sessions know nothing yet, and aren't closed
pub record IsUnheard (w : World) : Type 0 where
  pub lasts : (s : ℕ) → (w.machine.callers.sessions s).last ≡ (opened s).last
  pub unclosed : (s : ℕ) → w.machine.callers.closed s ≡ false

-- ---- What a run's sessions know, and were told, is what has happened alone.
pub record KnowsSo (r : Run) : Type 0 where
  pub lasts : (s : ℕ) → (r.world.machine.callers.sessions s).last ≡ (known_by r.past).lasts s
  pub told : r.world.machine.callers.told ≡ (known_by r.past).told
