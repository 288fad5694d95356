use Rattle.std.proofs.Common.{◌≡◌, ◌++◌, take}
use Rattle.isad_core.proofs.Common.{container_text, flat_map, indent, line}
use Rattle.isad_core.proofs.aid.push_containers.Given as goal

abbrev pub invariant-loop-number : goal.invariant-loop-number
invariant-loop-number l = l.out.items ≡ l.initial.out.items ++ flat_map (λ x. line (indent l.depth ++ container_text x.0 x.1)) (take l.number-index l.boxes)
