use Rattle.std.proofs.Common.{◌≡◌, drop}
use Rattle.public_queries.proofs.Common.{nearest_lines}
use Rattle.public_queries.proofs.page_lines.nearest_boxes.Given as goal

abbrev pub invariant-loop-unit : goal.invariant-loop-unit
invariant-loop-unit l = nearest_lines l.units ≡ nearest_lines (drop l.unit-index l.units)
