use Rattle.std.proofs.Common.{◌≡◌, ◌++◌, List, drop}
use Rattle.public_queries.proofs.Common.{Catalogue, HasCleanDisk, IsTellable, KeepsUnits, LeavesUnchanged, OfficeRow}
use Rattle.public_queries.proofs.Common.{Represents, Walked, aid, along, repository_of, state}
use Rattle.public_queries.proofs.aids.units_text.Given as goal

abbrev pub invariant-loop-unit : goal.invariant-loop-unit
invariant-loop-unit g l = record {
  looks : LeavesUnchanged (state g.S.Store l.initial.tables) (state g.S.Store l.tables);
  so_far : HasCleanDisk (state g.S.Store l.tables) → (o : OfficeRow) (c : Catalogue) → Represents g.P.Places.represents g.P.Versioned.version (state g.S.Store l.initial.tables).now o c → IsTellable c
      → (rows : List Walked) → KeepsUnits l.known.day c l.kept rows
      → aid (along (repository_of l.known) c.containers l.base l.initial.ids.items rows) ≡ l.out.items ++ aid (along (repository_of l.known) c.containers l.base l.ids.items (drop l.unit-index rows));
}
