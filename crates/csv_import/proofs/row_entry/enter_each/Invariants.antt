use Rattle.std.proofs.Common.{◌+◌, ◌≤◌, length}
use Rattle.csv_import.specs.PendingImport.{AreNext}
use Rattle.csv_import.proofs.Common.{Catalogue, Goes, HasCleanDisk, OfficeRow, OnlyTouches, RepresentsEntering}
use Rattle.csv_import.proofs.Common.{described_trees, get_by_text, state}
use Rattle.csv_import.proofs.KnownUnits.{AreComing}
use Rattle.csv_import.proofs.row_entry.enter_each.Given as goal

abbrev pub invariant-loop-row : goal.invariant-loop-row
invariant-loop-row g l = record {
  few : l.counts.changed + l.counts.new + l.counts.same ≤ length l.yielded;
  goes : Goes (state g.S.Store l.initial.tables) (state g.S.Store l.tables);
  only : HasCleanDisk (state g.S.Store l.tables) → OnlyTouches described_trees (state g.S.Store l.initial.tables).now (state g.S.Store l.tables).now;
  so_far : HasCleanDisk (state g.S.Store l.tables) → (o : OfficeRow) (c : Catalogue) → RepresentsEntering g.P.Versioned.version (state g.S.Store l.initial.tables).now o c → AreNext l.import l.units c
      → (d : Catalogue) × RepresentsEntering g.P.Versioned.version (state g.S.Store l.tables).now o d × AreComing l.import.source.now l.import.rows.now (get_by_text l.import.catalogued.now) l.units l.import.next (length l.yielded) l.counts c d;
}
