use Rattle.std.proofs.Common.{◌≡◌, ◌++◌, take}
use Rattle.isad_core.proofs.Common.{flat_map, found_container}
use Rattle.isad_core.proofs.page.push_containers.Given as goal

abbrev pub invariant-loop-number : goal.invariant-loop-number
invariant-loop-number l = l.out.items ≡ l.initial.out.items ++ flat_map found_container (take l.number-index l.boxes)
