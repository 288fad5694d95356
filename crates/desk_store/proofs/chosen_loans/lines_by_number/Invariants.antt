use Rattle.std.proofs.Common.{◌≡◌, take}
use Rattle.desk_store.proofs.ChosenLines.{found_line}
use Rattle.desk_store.proofs.Common.{Desk, HasCleanDisk, LeavesUnchanged, RepresentsDesk, filter_map, state}
use Rattle.desk_store.proofs.chosen_loans.lines_by_number.Given as goal

abbrev pub invariant-loop-container : goal.invariant-loop-container
invariant-loop-container g l = record {
  looks : LeavesUnchanged (state g.S.Store l.fn.tables) (state g.S.Store l.tables);
  so_far : HasCleanDisk (state g.S.Store l.tables) → (d : Desk) → RepresentsDesk (state g.S.Store l.fn.tables).now.trees d
      → l.lines.items ≡ filter_map (found_line d.holdings) (take l.container-index l.ascending);
}
