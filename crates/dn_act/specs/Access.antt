use Rattle.std.specs.Prelude.{◌≡◌, ℕ, ◌<◌, Result, OnOk, OnErr}

-- What an access leaves of the count of faults: one that answered left it, and one that failed raised it. So it never falls,
-- none rose where an answer came, and a failure is never made up.
pub record CountsFault {A E : Type 0} (result : Result A E) (old new : ℕ) : Type 0 where
  pub answered : OnOk result (new ≡ old)
  pub failed : OnErr result (old < new)
