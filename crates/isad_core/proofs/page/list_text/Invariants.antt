use Rattle.std.proofs.Common.{◌≡◌, take}
use Rattle.isad_core.proofs.Common.{flat_map, numbered_line}
use Rattle.isad_core.proofs.page.list_text.Given as goal

abbrev pub invariant-loop-number : goal.invariant-loop-number
invariant-loop-number l = l.out.items ≡ flat_map numbered_line (take l.number-index l.units)
