use Rattle.std.proofs.Common.{◌≡◌, map, filter, nat_eq, take}
use Rattle.desk_store.proofs.Common.{Desk, HasCleanDisk, HoldingRow, LeavesUnchanged, RepresentsDesk, list_any, state}
use Rattle.desk_store.proofs.Common.{waits_for}
use Rattle.desk_store.proofs.desk_containers.at_desk.Given as goal

abbrev pub invariant-loop-container : goal.invariant-loop-container
invariant-loop-container g l = record {
  looks : LeavesUnchanged (state g.S.Store l.fn.tables) (state g.S.Store l.tables);
  containers : HasCleanDisk (state g.S.Store l.tables) → (d : Desk) → RepresentsDesk (state g.S.Store l.fn.tables).now.trees d
      → l.container-items ≡ map (λ (h : HoldingRow). h.container) (filter (λ (h : HoldingRow). nat_eq 1 h.place) d.holdings);
  so_far : HasCleanDisk (state g.S.Store l.tables) → (d : Desk) → RepresentsDesk (state g.S.Store l.fn.tables).now.trees d
      → l.told.items ≡ map (λ c. (c, list_any (waits_for c) d.orders)) (take l.container-index l.container-items);
}
