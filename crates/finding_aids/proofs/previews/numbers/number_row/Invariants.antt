use Rattle.std.proofs.Common.{◌++◌, List, take}
use Rattle.finding_aids.proofs.Common.{AreNumbered, BoxKey}
use Rattle.finding_aids.proofs.previews.numbers.number_row.Given as goal

abbrev pub invariant-loop-container : goal.invariant-loop-container
invariant-loop-container l = (seen : List BoxKey) → AreNumbered seen l.initial.numbers → AreNumbered (seen ++ take l.container-index l.boxes) l.numbers
