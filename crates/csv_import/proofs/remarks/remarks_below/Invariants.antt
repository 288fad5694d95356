use Rattle.std.proofs.Common.{◌≡◌, ◌++◌, drop, length}
use Rattle.office_core.specs.ImportReply as reply
use Rattle.csv_import.proofs.Common.{Bytes, Catalogue, HasCleanDisk, HaveParents, IsRanked, LeavesUnchanged, OfficeRow}
use Rattle.csv_import.proofs.Common.{Represents, state}
use Rattle.csv_import.proofs.remarks.remarks_below.Given as goal

abbrev pub invariant-loop-row : goal.invariant-loop-row
invariant-loop-row g l = record {
  looks : LeavesUnchanged (state g.S.Store l.initial.tables) (state g.S.Store l.tables);
  so_far : HasCleanDisk (state g.S.Store l.tables) → (source : Bytes) (o : OfficeRow) (c : Catalogue) → Represents g.P.Places.represents g.P.Versioned.version (state g.S.Store l.initial.tables).now o c → HaveParents source l.rows l.parents c
      → (reply.remarks c.forest source l.rows ≡ l.told ++ reply.remarks c.forest source (drop (length l.yielded) l.rows)) × IsRanked c l.last;
}
