use Rattle.std.proofs.Common.{◌≡◌, ◌++◌, replicate}
use Rattle.desk_core.proofs.slip.push_spaces.Given as goal

abbrev pub invariant-loop : goal.invariant-loop
invariant-loop l = l.slip.items ≡ l.initial.slip.items ++ replicate l.counter 32
