use Rattle.std.proofs.Common.{◌≡◌, List, [], ◌∷◌, take}
use Rattle.office_tables.specs.Schema as tables
use Rattle.catalogue_statements.proofs.Common.{AreHoused, BoxKey, Goes, HasCleanDisk, HousingRow, OnlyTouches}
use Rattle.catalogue_statements.proofs.Common.{WithHousings, state, with_boxes}
use Rattle.catalogue_statements.proofs.HousingLemmas.{cells_in}
use Rattle.catalogue_statements.proofs.housing.insert_housings.Given as goal

abbrev pub invariant-loop-key : goal.invariant-loop-key
invariant-loop-key g l =
    (l.place ≡ l.key-index)
    × (Goes (state g.S.Store l.initial.tables) (state g.S.Store l.tables)
    × ((HasCleanDisk (state g.S.Store l.tables) → OnlyTouches (tables.container.tree ∷ tables.housing.tree ∷ []) (state g.S.Store l.initial.tables).now (state g.S.Store l.tables).now)
    × (HasCleanDisk (state g.S.Store l.tables) → (boxes : List BoxKey) (xs : List HousingRow) → AreHoused (state g.S.Store l.initial.tables).now.trees boxes xs
    → let seen = take l.key-index l.values.boxes in (ys : List HousingRow) × AreHoused (state g.S.Store l.tables).now.trees (with_boxes boxes seen) ys × WithHousings l.unit (cells_in (with_boxes boxes seen) seen) xs ys)))
