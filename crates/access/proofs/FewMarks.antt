-- How many marks a catalogue has.
use Rattle.std.proofs.Common.{◌≤◌, List, length, sym, ap, ◌∙◌, arith}
use Rattle.isad_core.specs.Limits.{most_units}
use Rattle.catalogue_core.proofs.NodeLemmas.{length-nodes}
use Rattle.catalogue_core.specs.Bounds.{IsKept}
use Rattle.access.proofs.Common.{AreWalkMarks, Catalogue, Mark, Unit, mark_of, size, size-each, without_number}

pub few_marks : (c : Catalogue) (marks : List Mark) → IsKept c → AreWalkMarks c.forest marks
    → length marks ≤ most_units
few_marks c marks kept it =
    let few = kept.places.few in
    let ids = size-each (λ (u : Unit). u.id) c.forest in
    let same = sym (size-each without_number it.forest) ∙ ap size it.theirs ∙ size-each mark_of c.forest in
    let long = ap length it.walked ∙ length-nodes it.forest in
    omega (arith, few, ids, same, long)
