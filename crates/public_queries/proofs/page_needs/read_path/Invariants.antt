use Rattle.std.proofs.Common.{◌≡◌, take}
use Rattle.public_queries.proofs.Common.{AreMarksOf, Catalogue, HasCleanDisk, IsTellable, LeavesUnchanged, OfficeRow}
use Rattle.public_queries.proofs.Common.{Represents, all_needed, state}
use Rattle.public_queries.proofs.page_needs.read_path.Given as goal

abbrev pub invariant-loop-place : goal.invariant-loop-place
invariant-loop-place g l = record {
  looks : LeavesUnchanged (state g.S.Store l.initial.tables) (state g.S.Store l.tables);
  so_far : HasCleanDisk (state g.S.Store l.tables) → (o : OfficeRow) (c : Catalogue) → Represents g.P.Places.represents g.P.Versioned.version (state g.S.Store l.initial.tables).now o c
      → IsTellable c → (of : AreMarksOf c l.way) → l.units.items ≡ take l.place (all_needed c.containers l.way of.units);
}
