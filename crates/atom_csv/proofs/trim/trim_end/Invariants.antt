use Rattle.std.proofs.Common.{◌≡◌, ◌≤◌, length, take}
use Rattle.atom_csv.specs.Fields as spec
use Rattle.atom_csv.proofs.Common.{IsCharBoundary}
use Rattle.atom_csv.proofs.trim.trim_end.Given as goal

abbrev pub invariant-loop-end : goal.invariant-loop-end
invariant-loop-end l = record {
  within : l.end ≤ length l.text;
  same : spec.trim_end (take l.end l.text) ≡ spec.trim_end l.text;
  whole : IsCharBoundary l.text l.end;
}

abbrev pub decreases-loop-end : goal.decreases-loop-end
decreases-loop-end l = l.end
