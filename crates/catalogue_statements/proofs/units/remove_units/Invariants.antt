use Rattle.std.proofs.Common.{◌≡◌, List, map, take}
use Rattle.office_tables.specs.Schema as tables
use Rattle.catalogue_statements.proofs.Common.{AreListed, AreRemoved, Goes, HasCleanDisk, OnlyTouches, Rises, Unit}
use Rattle.catalogue_statements.proofs.Common.{by_number, cells_of_unit, state, unit_tables}
use Rattle.catalogue_statements.proofs.units.remove_units.Given as goal

abbrev pub invariant-loop-id : goal.invariant-loop-id
invariant-loop-id g l =
    Goes (state g.S.Store l.initial.tables) (state g.S.Store l.tables)
    × ((HasCleanDisk (state g.S.Store l.tables) → OnlyTouches unit_tables (state g.S.Store l.initial.tables).now (state g.S.Store l.tables).now)
    × (HasCleanDisk (state g.S.Store l.tables) → (xs : List Unit) → (state g.S.Store l.initial.tables).now.trees tables.unit.tree ≡ map cells_of_unit xs → Rises by_number xs → AreListed l.ids xs
    → AreRemoved (take l.id-index l.ids) (state g.S.Store l.initial.tables).now (state g.S.Store l.tables).now))
