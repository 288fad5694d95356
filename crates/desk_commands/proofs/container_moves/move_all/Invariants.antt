use Rattle.std.proofs.Common.{[], ◌∷◌, take}
use Rattle.desk_core.specs.DeskRows.{Desk}
use Rattle.office_tables.specs.Schema as tables
use Rattle.desk_commands.proofs.Common.{Goes, HasCleanDisk, OnlyTouches, RepresentsDesk, state, with_all_placed}
use Rattle.desk_commands.proofs.container_moves.move_all.Given as goal

abbrev pub invariant-loop-container : goal.invariant-loop-container
invariant-loop-container g l = record {
  goes : Goes (state g.S.Store l.initial.tables) (state g.S.Store l.tables);
  only : HasCleanDisk (state g.S.Store l.tables) → OnlyTouches (tables.holding.tree ∷ []) (state g.S.Store l.initial.tables).now (state g.S.Store l.tables).now;
  so_far : HasCleanDisk (state g.S.Store l.tables) → (d : Desk) → RepresentsDesk (state g.S.Store l.initial.tables).now.trees d
      → RepresentsDesk (state g.S.Store l.tables).now.trees (with_all_placed l.place (take l.container-index l.containers) d);
}
