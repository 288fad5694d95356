use Rattle.std.proofs.Common.{◌≤◌, drop}
use Rattle.csv_import.proofs.Common.{AreGoodUnits, Bytes, Catalogue, HasCleanDisk, KnowsUnits, LeavesUnchanged}
use Rattle.csv_import.proofs.Common.{OfficeRow, Represents, get_by_text, state}
use Rattle.csv_import.proofs.Planned.{IsPlanned}
use Rattle.csv_import.proofs.row_plan.plan.Given as goal

abbrev pub invariant-loop-row : goal.invariant-loop-row
invariant-loop-row g l = record {
  looks : LeavesUnchanged (state g.S.Store l.fn.tables) (state g.S.Store l.tables);
  few : l.new ≤ l.row-index;
  so_far : HasCleanDisk (state g.S.Store l.tables) → (o : OfficeRow) (c : Catalogue) → Represents g.P.Places.represents g.P.Versioned.version (state g.S.Store l.fn.tables).now o c → AreGoodUnits c → (source : Bytes) → KnowsUnits c source l.rows (get_by_text l.catalogued)
      → IsPlanned c.forest source (get_by_text l.depths) l.new l.rows (drop l.row-index l.rows);
}
