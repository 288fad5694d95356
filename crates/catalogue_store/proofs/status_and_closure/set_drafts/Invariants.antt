use Rattle.std.proofs.Common.{take, [], ◌∷◌}
use Rattle.office_tables.specs.Schema as tables
use Rattle.catalogue_store.proofs.Common.{Catalogue, Goes, HasCleanDisk, OfficeRow, OnlyTouches, Represents, state}
use Rattle.catalogue_store.proofs.Common.{with_status}
use Rattle.catalogue_store.proofs.status_and_closure.set_drafts.Given as goal

abbrev pub invariant-loop-unit : goal.invariant-loop-unit
invariant-loop-unit g l = record {
  goes : Goes (state g.S.Store l.initial.tables) (state g.S.Store l.tables);
  represents : HasCleanDisk (state g.S.Store l.tables) → (o : OfficeRow) (c : Catalogue) → Represents g.P.Places.represents g.P.Versioned.version (state g.S.Store l.initial.tables).now o c
      → Represents g.P.Places.represents g.P.Versioned.version (state g.S.Store l.tables).now o (with_status (take l.unit-index l.units) l.draft c);
  only : HasCleanDisk (state g.S.Store l.tables) → OnlyTouches (tables.unit.tree ∷ []) (state g.S.Store l.initial.tables).now (state g.S.Store l.tables).now;
}
