use Rattle.std.proofs.Common.{ℕ, ◌<◌, ◌^◌, arith}
use Rattle.std.proofs.lemmas.List.Elements.{All-from_get_or}
use Rattle.std.proofs.lemmas.Bool.Decides.{nat_tests}
use Rattle.dn_world.proofs.tests.plays.is_value.Goals as goal

pub returns : goal.returns
returns c = λ e. record { is_short = grind (arith, nat_tests, e); are_bytes = All-from_get_or (λ (byte : ℕ). byte < 2 ^ 8) c.args.bytes.now 0 (λ i lt. omega (arith, c.type_inv.bytes i)) }
