use Rattle.std.proofs.Common.{◌≡◌, take, map}
use Rattle.public_queries.proofs.Common.{coded_of, filter_map, page_line}
use Rattle.public_queries.proofs.page_lines.page_lines.Given as goal

abbrev pub invariant-loop-element : goal.invariant-loop-element
invariant-loop-element l = l.lines ≡ filter_map (page_line (map coded_of l.units)) (take l.element-index l.elements)
