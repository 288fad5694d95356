use Rattle.std.proofs.Common.{◌≡◌, map, take}
use Rattle.atom_csv.proofs.Common.{borrowed_fields, fields_of, trimmed}
use Rattle.atom_csv.proofs.header.names.Given as goal

abbrev pub invariant-loop-field : goal.invariant-loop-field
invariant-loop-field l = record {
  same : l.field-iterator.row.now ≡ l.row;
  done : borrowed_fields l.names.items ≡ map trimmed (take l.field-iterator.at (fields_of l.row));
}
