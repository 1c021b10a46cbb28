use Rattle.std.specs.Prelude.{◌&&◌, Bool, true, false, List, Option, Some, None, count_by}
use Rattle.dn_hist.specs.declared.calls.Call.{Call}
use Rattle.dn_hist.specs.declared.calls.Call.TheVariants.{Get}
use Rattle.dn_hist.specs.declared.receipts.Receipt.{Receipt}
use Rattle.dn_plan.specs.declared.phases.Way.{Way}
use Rattle.dn_plan.specs.declared.phases.Way.TheVariants.{Pending, Index}
use Rattle.dn_outcomes.specs.declared.outcomes.CallAnswer.{CallAnswer}
use Rattle.dn_outcomes.specs.declared.outcomes.CallAnswer.TheVariants.{Made}
use Rattle.dn_outcomes.specs.declared.outcomes.Outcome.{Outcome}
use Rattle.dn_outcomes.specs.declared.outcomes.Outcome.TheVariants.{Numbered, Answered, GivenUp}
use Rattle.dn_run.specs.Happening.{Happening, makes_call}
use Rattle.dn_run.specs.declared.counts.Counts.{Counts}

-- What is counted over a run.

-- a call gets a number
abbrev pub numbers_call : Outcome → Bool
numbers_call (Numbered number) = true
numbers_call other = false

-- a call is given up
abbrev pub gives_up : Outcome → Bool
gives_up (Answered s number answer given) = given
gives_up (GivenUp s number) = true
gives_up other = false

-- ---- a get is made, and was located in this way
abbrev pub is_get : Call → Bool
is_get (Get key) = true
is_get other = false

abbrev pub is_of_get : Option Receipt → Bool
is_of_get None = false
is_of_get (Some r) = is_get r.call

abbrev pub went_by : (Way → Bool) → CallAnswer → Bool
went_by its (Made way) = its way
went_by its other = false

abbrev pub went : (Way → Bool) → Outcome → Bool
went its (Answered s number answer given) = went_by its answer
went its other = false

abbrev pub gets : (Way → Bool) → Happening → Bool
gets its x = is_of_get x.receipt && went its x.outcome

abbrev pub is_pending : Way → Bool
is_pending Pending = true
is_pending Index = false

abbrev pub is_index : Way → Bool
is_index Pending = false
is_index Index = true

-- ---- all
abbrev pub counts_of : List Happening → Counts
counts_of past = record {
  calls = count_by (λ (x : Happening). numbers_call x.outcome) past;
  made = count_by (λ (x : Happening). makes_call x.outcome) past;
  refused = count_by (λ (x : Happening). x.refused) past;
  given = count_by (λ (x : Happening). gives_up x.outcome) past;
  pending = count_by (gets is_pending) past;
  index = count_by (gets is_index) past;
}
