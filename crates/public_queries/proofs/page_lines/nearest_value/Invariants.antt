use Rattle.std.proofs.Common.{◌≡◌, drop, map}
use Rattle.public_queries.proofs.Common.{coded_of, nearest_value}
use Rattle.public_queries.proofs.page_lines.nearest_value.Given as goal

abbrev pub invariant-loop-unit : goal.invariant-loop-unit
invariant-loop-unit l = nearest_value l.element (map coded_of l.units) ≡ nearest_value l.element (map coded_of (drop l.unit-index l.units))
