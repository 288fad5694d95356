use Rattle.std.proofs.Common.{◌≡◌, ◌++◌}
use Rattle.isad_core.proofs.Common.{indent}
use Rattle.isad_core.proofs.print.push_indent.Given as goal

abbrev pub invariant-loop : goal.invariant-loop
invariant-loop l = l.out.items ≡ l.initial.out.items ++ indent l.counter
