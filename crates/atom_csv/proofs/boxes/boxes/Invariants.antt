use Rattle.std.proofs.Common.{take, filter}
use Rattle.atom_csv.proofs.Common.{HoldsContainers, borrowed_fields, is_named_box, triples}
use Rattle.atom_csv.proofs.boxes.boxes.Given as goal

abbrev pub invariant-loop-i : goal.invariant-loop-i
invariant-loop-i l = HoldsContainers l.kept.known l.kept.boxes
    (filter is_named_box (take l.i (triples (borrowed_fields l.name-items) (borrowed_fields l.locations.items) (borrowed_fields l.kinds.items))))
