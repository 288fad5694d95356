use Rattle.std.proofs.Common.{◌≡◌, ◌++◌, length}
use Rattle.isad_core.proofs.Common.{one_line}
use Rattle.isad_core.proofs.print.push_one_line.Given as goal

-- what was printed, with what the rest will print
abbrev pub invariant-loop-rest : goal.invariant-loop-rest
invariant-loop-rest l = l.out.items ++ one_line l.rest ≡ l.initial.out.items ++ one_line l.initial.rest

abbrev pub decreases-loop-rest : goal.decreases-loop-rest
decreases-loop-rest l = length l.rest
