use Rattle.std.proofs.Common.{arith, ap}
use Rattle.std.proofs.Math.Seq.{map-set_same}
use Rattle.std.proofs.lemmas.Grind.{common_steps}
use Rattle.std.proofs.lemmas.Option.{gets}
use Rattle.finding_aids.proofs.Common.{Slot}
use Rattle.finding_aids.proofs.previews.trees.put_at.Goals as goal

pub returns-clause-places : goal.returns-clause-places
returns-clause-places c =
    map-set_same (λ (slot : Slot). slot.place) c.args.slots.now.items c.args.index _ c.index_mut-slot.result.now
    (ap (λ (slot : Slot). slot.place) c.index_mut-slot.ensures.value)

pub returns-clause-ok : goal.returns-clause-ok
returns-clause-ok c = λ j. grind (arith, common_steps, gets)
