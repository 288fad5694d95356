use Rattle.std.proofs.Common.{vec_len}
use Rattle.finding_aids.proofs.Common.{HasGrown}
use Rattle.finding_aids.proofs.previews.trees.plant.Given as goal

abbrev pub invariant-loop-slot : goal.invariant-loop-slot
invariant-loop-slot l = HasGrown l.rows l.slots.items l.tops.items

abbrev pub decreases-loop-slot : goal.decreases-loop-slot
decreases-loop-slot l = vec_len l.slots
