use Rattle.std.proofs.Common.{◌≡◌, take}
use Rattle.std.specs.List.{find}
use Rattle.public_queries.proofs.Common.{Catalogue, HasCleanDisk, LeavesUnchanged, OfficeRow, Represents, filter_map}
use Rattle.public_queries.proofs.Common.{has_id, nodes, public_head, state}
use Rattle.public_queries.proofs.public_heads.public_heads.Given as goal

abbrev pub invariant-loop-unit : goal.invariant-loop-unit
invariant-loop-unit g l = record {
  looks : LeavesUnchanged (state g.S.Store l.initial.tables) (state g.S.Store l.tables);
  so_far : HasCleanDisk (state g.S.Store l.tables) → (o : OfficeRow) (c : Catalogue) → Represents g.P.Places.represents g.P.Versioned.version (state g.S.Store l.initial.tables).now o c
      → l.heads.items ≡ filter_map (λ unit. public_head (find (has_id unit) (nodes c.forest))) (take l.unit-index l.units);
}
