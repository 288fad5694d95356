use Rattle.std.proofs.Common.{◌≡◌, take}
use Rattle.http_messages.proofs.Common.{AllDigits, digits_value}
use Rattle.http_messages.proofs.routes.digits_value.Given as goal

abbrev pub invariant-loop-digit : goal.invariant-loop-digit
invariant-loop-digit l = record {
  value : l.value ≡ digits_value 10 (take l.digit-index l.digits);
  digits : AllDigits 10 (take l.digit-index l.digits);
}
