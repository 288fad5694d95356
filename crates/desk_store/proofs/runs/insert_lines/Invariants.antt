use Rattle.std.proofs.Common.{List, [], ◌∷◌, ◌++◌, map, take}
use Rattle.office_tables.specs.Schema as tables
use Rattle.desk_store.proofs.Common.{Goes, HasCleanDisk, HasNumbered, OnlyTouches, RunLineRow, line_of_run}
use Rattle.desk_store.proofs.Common.{run_line_cells, state}
use Rattle.desk_store.proofs.runs.insert_lines.Given as goal

abbrev pub invariant-loop-line : goal.invariant-loop-line
invariant-loop-line g l =
    Goes (state g.S.Store l.initial.tables) (state g.S.Store l.tables)
    × ((HasCleanDisk (state g.S.Store l.tables) → OnlyTouches (tables.run_line.tree ∷ []) (state g.S.Store l.initial.tables).now (state g.S.Store l.tables).now)
    × (HasCleanDisk (state g.S.Store l.tables) → (ls : List RunLineRow) → HasNumbered run_line_cells ((state g.S.Store l.initial.tables).now.trees tables.run_line.tree) ls
    → HasNumbered run_line_cells ((state g.S.Store l.tables).now.trees tables.run_line.tree) (ls ++ map (line_of_run l.run) (take l.line-index l.taken))))
