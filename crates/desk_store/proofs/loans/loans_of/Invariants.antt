use Rattle.std.proofs.Common.{◌≡◌, take}
use Rattle.desk_store.proofs.Common.{Desk, HasCleanDisk, LeavesUnchanged, RepresentsDesk, loans_in, state}
use Rattle.desk_store.proofs.loans.loans_of.Given as goal

abbrev pub invariant-loop-line : goal.invariant-loop-line
invariant-loop-line g l = record {
  looks : LeavesUnchanged (state g.S.Store l.fn.tables) (state g.S.Store l.tables);
  so_far : HasCleanDisk (state g.S.Store l.tables) → (d : Desk) → RepresentsDesk (state g.S.Store l.fn.tables).now.trees d
      → l.loans.items ≡ loans_in d (take l.line-index l.lines);
}
