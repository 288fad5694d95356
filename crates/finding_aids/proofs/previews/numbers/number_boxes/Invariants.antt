use Rattle.std.proofs.Common.{take}
use Rattle.finding_aids.proofs.Common.{AreNumbered, Row, flat_map}
use Rattle.finding_aids.proofs.previews.numbers.number_boxes.Given as goal

abbrev pub invariant-loop-row : goal.invariant-loop-row
invariant-loop-row l = AreNumbered (flat_map (λ (row : Row). row.values.boxes) (take l.row-index l.rows)) l.numbers
