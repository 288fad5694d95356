use Rattle.std.proofs.Common.{take}
use Rattle.csv_import.proofs.Common.{AllByRecursion, AreGoodUnits, Catalogue, HasCleanDisk, IsAsked, KnowsAsked}
use Rattle.csv_import.proofs.Common.{LeavesUnchanged, OfficeRow, RepresentsEntering, contains_text, get_by_text, state}
use Rattle.csv_import.proofs.numbers.known_units.Given as goal

abbrev pub invariant-loop-row : goal.invariant-loop-row
invariant-loop-row g l = record {
  looks : LeavesUnchanged (state g.S.Store l.initial.tables) (state g.S.Store l.tables);
  so_far : HasCleanDisk (state g.S.Store l.tables) → (o : OfficeRow) (c : Catalogue) → RepresentsEntering g.P.Versioned.version (state g.S.Store l.initial.tables).now o c → AreGoodUnits c
      → KnowsAsked c l.source (contains_text l.asked) (get_by_text l.numbers) × AllByRecursion (IsAsked c l.source (contains_text l.asked)) (take l.row-index l.rows);
}
