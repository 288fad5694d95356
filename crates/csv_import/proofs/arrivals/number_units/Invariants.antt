use Rattle.std.proofs.Common.{◌≡◌, ◌≤◌, ◌+◌, ◌++◌, drop, length}
use Rattle.csv_import.proofs.Common.{Bytes, Catalogue, KnowsUnits, get_by_text, units_from}
use Rattle.csv_import.proofs.Arrived.{AreTold}
use Rattle.csv_import.proofs.arrivals.number_units.Given as goal

abbrev pub invariant-loop-row : goal.invariant-loop-row
invariant-loop-row l = record {
  few : length l.arrivals.items ≤ l.row-index;
  units : units_from (get_by_text l.import.catalogued.now) l.import.next l.import.rows.now
      ≡ l.units.items ++ units_from (get_by_text l.import.catalogued.now) (l.import.next + length l.arrivals.items) (drop l.row-index l.import.rows.now);
  so_far : (c : Catalogue) (source : Bytes) → KnowsUnits c source l.import.rows.now (get_by_text l.import.catalogued.now)
      → AreTold c.forest source l.import.next (get_by_text l.numbers) l.arrivals.items l.import.rows.now (drop l.row-index l.import.rows.now);
}
