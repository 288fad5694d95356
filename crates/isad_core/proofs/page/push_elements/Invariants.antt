use Rattle.std.proofs.Common.{◌≡◌, ◌++◌, take}
use Rattle.isad_core.proofs.Common.{flat_map, found_element}
use Rattle.isad_core.proofs.page.push_elements.Given as goal

abbrev pub invariant-loop-element : goal.invariant-loop-element
invariant-loop-element l = l.out.items ≡ l.initial.out.items ++ flat_map found_element (take l.element-index l.lines)
