use Rattle.std.proofs.Common.{◌≡◌, length}
use Rattle.http_messages.proofs.Common.{strip_zeros}
use Rattle.http_messages.proofs.head_verdict.without_zeros.Given as goal

abbrev pub invariant-loop-rest : goal.invariant-loop-rest
invariant-loop-rest l = strip_zeros l.rest ≡ strip_zeros l.bytes

abbrev pub decreases-loop-rest : goal.decreases-loop-rest
decreases-loop-rest l = length l.rest
