use Rattle.std.proofs.Common.{◌≡◌, ◌+◌, ◌-◌, ◌<◌, ◌≤◌, ◌++◌, List, length, map}
use Rattle.isad_core.specs.Limits.{most_rows}
use Rattle.atom_csv.proofs.Common.{Fields, IsReading, TellsRows, rows_left, trimmed}
use Rattle.atom_csv.proofs.read.below.Given as goal

abbrev pub invariant-loop-row : goal.invariant-loop-row
invariant-loop-row l = record {
  reading : IsReading l.reader;
  few : l.number ≤ most_rows + 2;
  fits : l.rows.translations < l.number;
  told : (above : List Fields) × (l.number ≡ length above + 2) × TellsRows l.header above l.rows
      × (map (map trimmed) (rows_left l.fn.reader) ≡ above ++ map (map trimmed) (rows_left l.reader));
}

abbrev pub decreases-loop-row : goal.decreases-loop-row
decreases-loop-row l = most_rows + 3 - l.number
