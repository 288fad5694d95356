use Rattle.std.proofs.Common.{◌≡◌, List, map, take}
use Rattle.catalogue_store.proofs.Common.{BoxKey, HasCleanDisk, LeavesUnchanged, RepresentsContainers, box_number}
use Rattle.catalogue_store.proofs.Common.{state}
use Rattle.catalogue_store.proofs.unit_values.boxes_of.Given as goal

abbrev pub invariant-loop-number : goal.invariant-loop-number
invariant-loop-number g l =
    LeavesUnchanged (state g.S.Store l.initial.tables) (state g.S.Store l.tables)
    × (HasCleanDisk (state g.S.Store l.tables) → (boxes : List BoxKey) → RepresentsContainers (state g.S.Store l.initial.tables).now.trees boxes → (bs : List BoxKey) → l.numbers ≡ map (box_number boxes) bs → l.keys ≡ take l.number-index bs)
