use Rattle.std.proofs.Common.{◌≡◌, map, take}
use Rattle.access.proofs.Common.{allows, with_permit}
use Rattle.access.proofs.clean_units.with_permits.Given as goal

abbrev pub invariant-loop-mark : goal.invariant-loop-mark
invariant-loop-mark l = l.all.items ≡ map (with_permit (allows l.today l.permits)) (take l.mark-index l.marks)
