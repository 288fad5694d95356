use Rattle.adoption.proofs.Alike.{AreAlikeTo}
use Rattle.adoption.proofs.schema_comparison.are_same.Given as goal

abbrev pub invariant-loop-at : goal.invariant-loop-at
invariant-loop-at g l = AreAlikeTo l.at l.fn.these l.fn.plain
