use Rattle.std.proofs.Common.{take}
use Rattle.catalogue_store.proofs.Common.{AreWholeMarksOfEach, Catalogue, HasCleanDisk, LeavesUnchanged, OfficeRow}
use Rattle.catalogue_store.proofs.Common.{Represents, state}
use Rattle.catalogue_store.proofs.container_marks.marks_of_units.Given as goal

abbrev pub invariant-loop-unit : goal.invariant-loop-unit
invariant-loop-unit g l = record {
  looks : LeavesUnchanged (state g.S.Store l.initial.tables) (state g.S.Store l.tables);
  so_far : HasCleanDisk (state g.S.Store l.tables) → (o : OfficeRow) (c : Catalogue) → Represents g.P.Places.represents g.P.Versioned.version (state g.S.Store l.initial.tables).now o c
      → AreWholeMarksOfEach c.forest (take l.unit-index l.units) l.found.items;
}
