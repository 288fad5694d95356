use Rattle.std.proofs.Common.{◌≡◌, ◌≤◌, ◌-◌, length, drop}
use Rattle.atom_csv.specs.Fields as spec
use Rattle.atom_csv.proofs.Common.{IsCharBoundary}
use Rattle.atom_csv.proofs.trim.trim_start.Given as goal

abbrev pub invariant-loop-start : goal.invariant-loop-start
invariant-loop-start l = record {
  within : l.start ≤ length l.text;
  same : spec.trim_start (drop l.start l.text) ≡ spec.trim_start l.text;
  whole : IsCharBoundary l.text l.start;
}

abbrev pub decreases-loop-start : goal.decreases-loop-start
decreases-loop-start l = length l.text - l.start
