use Rattle.std.specs.Prelude.{ℕ, nat_lt, if◌then◌else◌}
use Rattle.dn_act.specs.declared.actions.Action.{Action}
use Rattle.dn_act.specs.declared.actions.Action.TheVariants.{Load, Add}
use Rattle.dn_log.specs.declared.claims.Claim.{Claim}
use Rattle.dn_log.specs.declared.claims.Claim.TheVariants.{Reading, Taking}
use Rattle.dn_log.specs.declared.claims.ClaimTurn.{ClaimTurn}
use Rattle.dn_log.specs.declared.claims.ClaimTurn.TheVariants.{More, Got, Full}

-- a load of the pool's segment counter, then an add of 1
abbrev pub next_of : Claim → Action
next_of (Reading pool segments) = Load 1
next_of (Taking pool segments) = Add 1 1

-- a counter below the pool's number of segments goes on, and found by the add it is the segment; else the pool is full
abbrev pub turn_of : Claim → ℕ → ClaimTurn
turn_of (Reading pool segments) word = if nat_lt word pool then More else Full word segments
turn_of (Taking pool segments) word = if nat_lt word pool then Got word else Full word segments

abbrev pub claim_after : Claim → ℕ → Claim
claim_after (Reading pool segments) word = if nat_lt word pool then Taking pool segments else Reading pool segments
claim_after (Taking pool segments) word = Taking pool segments
