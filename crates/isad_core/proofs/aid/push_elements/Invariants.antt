use Rattle.std.proofs.Common.{◌≡◌, ◌++◌, take}
use Rattle.isad_core.proofs.Common.{element_text, flat_map, indent, line}
use Rattle.isad_core.proofs.aid.push_elements.Given as goal

abbrev pub invariant-loop-element : goal.invariant-loop-element
invariant-loop-element l = l.out.items ≡ l.initial.out.items ++ flat_map (λ x. line (indent l.depth ++ element_text x.0 x.1)) (take l.element-index l.lines)
