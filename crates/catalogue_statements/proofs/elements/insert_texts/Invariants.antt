use Rattle.std.proofs.Common.{◌≡◌, List, [], ◌∷◌}
use Rattle.office_tables.specs.Schema as tables
use Rattle.catalogue_statements.proofs.Common.{AreElements, ElementRow, Goes, HasCleanDisk, OnlyTouches, WithTexts}
use Rattle.catalogue_statements.proofs.Common.{state}
use Rattle.catalogue_statements.proofs.TextLemmas.{first_cells}
use Rattle.catalogue_statements.proofs.elements.insert_texts.Given as goal

abbrev pub invariant-loop-text : goal.invariant-loop-text
invariant-loop-text g l =
    (l.place ≡ l.text-index)
    × (Goes (state g.S.Store l.initial.tables) (state g.S.Store l.tables)
    × ((HasCleanDisk (state g.S.Store l.tables) → OnlyTouches (tables.element.tree ∷ []) (state g.S.Store l.initial.tables).now (state g.S.Store l.tables).now)
    × (HasCleanDisk (state g.S.Store l.tables) → (xs : List ElementRow) → AreElements (state g.S.Store l.initial.tables).now.trees xs
    → (ys : List ElementRow) × AreElements (state g.S.Store l.tables).now.trees ys × WithTexts l.unit (first_cells l.text-index l.values.texts) xs ys)))
