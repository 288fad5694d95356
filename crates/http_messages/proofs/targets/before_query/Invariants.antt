use Rattle.std.proofs.Common.{◌≡◌, ◌++◌, take, drop}
use Rattle.http_messages.specs.Targets.{before_query}
use Rattle.http_messages.proofs.targets.before_query.Given as goal

abbrev pub invariant-loop-i : goal.invariant-loop-i
invariant-loop-i l = before_query l.target ≡ take l.i l.target ++ before_query (drop l.i l.target)
