use Rattle.std.proofs.Common.{◌≡◌, map, take, true}
use Rattle.atom_csv.proofs.Common.{fields_of, is_blank, trimmed}
use Rattle.atom_csv.proofs.findings.is_blank.Given as goal

abbrev pub invariant-loop-field : goal.invariant-loop-field
invariant-loop-field l = record {
  same : l.field-iterator.row.now ≡ l.row;
  blank : is_blank (map trimmed (take l.field-iterator.at (fields_of l.row))) ≡ true;
}
