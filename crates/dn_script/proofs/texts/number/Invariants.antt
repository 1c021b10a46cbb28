use Rattle.std.proofs.Common.{◌≡◌, ◌<◌, ◌+◌, ◌-◌, ◌*◌, ◌^◌, fold, drop}
use Rattle.std.specs.List.{list_all}
use Rattle.dn_script.specs.Number.{is_digit, fitting, number_of}
use Rattle.dn_script.proofs.texts.number.Given as goal

-- the number so far and the digits left are the number
abbrev pub invariant-loop-digit : goal.invariant-loop-digit
invariant-loop-digit l = record {
  same : fitting (list_all is_digit (drop l.digit-index l.digits)) (fold (λ number digit. 10 * number + (digit - 48)) l.value (drop l.digit-index l.digits)) ≡ fitting (list_all is_digit l.digits) (number_of l.digits);
  fits : l.value < 2 ^ 64;
}
