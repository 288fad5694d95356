use Rattle.std.proofs.Common.{◌≡◌, length}
use Rattle.http_messages.specs.Targets.{after_authority}
use Rattle.http_messages.proofs.targets.after_authority.Given as goal

abbrev pub invariant-loop-rest : goal.invariant-loop-rest
invariant-loop-rest l = after_authority l.rest ≡ after_authority l.target

abbrev pub decreases-loop-rest : goal.decreases-loop-rest
decreases-loop-rest l = length l.rest
