use Rattle.std.proofs.Common.{take}
use Rattle.desk_store.proofs.Common.{AllZip, HasCleanDisk, IsToldLine, LeavesUnchanged, RepresentsQueues, Storage}
use Rattle.desk_store.proofs.Common.{state}
use Rattle.desk_store.proofs.run_lines.candidates_of.Given as goal

abbrev pub invariant-loop-line : goal.invariant-loop-line
invariant-loop-line g l = record {
  looks : LeavesUnchanged (state g.S.Store l.fn.tables) (state g.S.Store l.tables);
  so_far : HasCleanDisk (state g.S.Store l.tables) → (s : Storage) → RepresentsQueues (state g.S.Store l.fn.tables).now tt s
      → AllZip (IsToldLine s) (take l.line-index l.fn.lines) l.told.items;
}
