use Rattle.std.proofs.Common.{◌≡◌, take}
use Rattle.desk_store.proofs.Common.{Desk, HasCleanDisk, LeavesUnchanged, RepresentsDesk, on_shelf, state}
use Rattle.desk_store.proofs.run_candidates.on_shelf_by_number.Given as goal

abbrev pub invariant-loop-order : goal.invariant-loop-order
invariant-loop-order g l = record {
  looks : LeavesUnchanged (state g.S.Store l.fn.tables) (state g.S.Store l.tables);
  so_far : HasCleanDisk (state g.S.Store l.tables) → (d : Desk) → RepresentsDesk (state g.S.Store l.fn.tables).now.trees d
      → l.kept.items ≡ on_shelf d (take l.order-index l.orders);
}
