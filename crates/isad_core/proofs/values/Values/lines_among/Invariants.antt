use Rattle.std.proofs.Common.{◌≡◌, take}
use Rattle.isad_core.specs.Values.{lines_among}
use Rattle.isad_core.proofs.values.Values.lines_among.Given as goal

abbrev pub invariant-loop-element : goal.invariant-loop-element
invariant-loop-element l = l.lines ≡ lines_among (take l.element-index l.elements) l.self
