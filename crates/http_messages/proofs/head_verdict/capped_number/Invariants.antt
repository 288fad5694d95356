use Rattle.std.proofs.Common.{◌≡◌, ◌+◌, min, take}
use Rattle.http_messages.proofs.Common.{digits_value, longest_body}
use Rattle.http_messages.proofs.head_verdict.capped_number.Given as goal

abbrev pub invariant-loop-digit : goal.invariant-loop-digit
invariant-loop-digit l = l.value ≡ min (digits_value 10 (take l.digit-index l.digits)) (longest_body + 1)
