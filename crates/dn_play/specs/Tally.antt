use Rattle.std.specs.Prelude.{ℕ, ◌+◌, ◌<◌, ◌^◌, ◌&&◌, Bool, cond}
use Rattle.dn_outcomes.specs.declared.outcomes.Outcome.{Outcome}
use Rattle.dn_run.specs.Counts.{numbers_call, gives_up, went, is_pending, is_index}
use Rattle.dn_run.specs.Happening.{makes_call}
use Rattle.dn_run.specs.declared.counts.Counts.{Counts}

-- What an event adds to what is counted: by its outcome, by whether the receipt that came to stand is of a get, and by whether it
-- refused an attempt.

abbrev pub one_if : Bool → ℕ
one_if b = cond b 1 0

abbrev pub added : Counts → Outcome → Bool → Bool → Counts
added c o get refused = record {
  calls = c.calls + one_if (numbers_call o);
  made = c.made + one_if (makes_call o);
  refused = c.refused + one_if refused;
  given = c.given + one_if (gives_up o);
  pending = c.pending + one_if (get && went is_pending o);
  index = c.index + one_if (get && went is_index o);
}

-- there is room for one more
pub record HasRoom (c : Counts) : Type 0 where
  pub calls : c.calls < 2 ^ 31
  pub made : c.made < 2 ^ 31
  pub refused : c.refused < 2 ^ 31
  pub given : c.given < 2 ^ 31
  pub pending : c.pending < 2 ^ 31
  pub index : c.index < 2 ^ 31
