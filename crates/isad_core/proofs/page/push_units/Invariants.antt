use Rattle.std.proofs.Common.{◌≡◌, ◌++◌, take}
use Rattle.isad_core.proofs.Common.{flat_map, unit_below}
use Rattle.isad_core.proofs.page.push_units.Given as goal

abbrev pub invariant-loop-number : goal.invariant-loop-number
invariant-loop-number l = l.out.items ≡ l.initial.out.items ++ flat_map unit_below (take l.number-index l.below)
