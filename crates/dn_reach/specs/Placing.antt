use Rattle.std.specs.Prelude.{ℕ, List, [], ◌∷◌, ◌++◌, Option, Some, None}
use Rattle.dn_record.specs.Record.{spelling, length_in_words}
use Rattle.dn_record.specs.declared.records.Record.{Record}
use Rattle.dn_record.specs.declared.records.Record.TheVariants.{Pad}
use Rattle.dn_log.specs.Log.{Log, plan_of}
use Rattle.dn_log.specs.declared.plans.Plan.{Plan}
use Rattle.dn_log.specs.declared.staging.Staged.{Staged}
use Rattle.dn_model.specs.declared.logs.Placed.{Placed}
use Rattle.dn_services.specs.Staged.{staged_of}

-- A record in a log: its plan, the words that are staged for it, and what the log has more once it is sealed.
abbrev pub plan_for : Log → Record → Plan
plan_for log r = plan_of log (length_in_words r)

abbrev pub staged_for : Log → Record → List Staged
staged_for log r = staged_of log (length_in_words r) (spelling r)

-- the pad, where the plan has one, and the record behind it
abbrev pub pads_of : Option (ℕ × ℕ) → List Placed
pads_of None = []
pads_of (Some pad) = record { offset = pad.0; entry = Pad pad.1 } ∷ []

abbrev pub placed_by : Plan → Record → List Placed
placed_by plan r = pads_of plan.pad ++ record { offset = plan.at; entry = r } ∷ []
