-- Units that are removed from the tables, with all rows about them.
use Rattle.office_tables.specs.Schema as tables
use Rattle.std.specs.Prelude.{◌≡◌, ℕ, not, true, List, [], ◌∷◌, map, filter, nat_eq}
use Rattle.std.specs.List.{IsDistinct, list_any}
use Rattle.sqlite.specs.Tree.{Trees}
use Rattle.sqlite.specs.Effect.{Database}
use Rattle.desk_core.specs.DeskRows.{PermitRow}
use Rattle.office_tables.specs.RowNumbers.{HasNumbered}
use Rattle.office_tables.specs.Order.{Rises}
use Rattle.office_tables.specs.Permits.{permit_cells}
use Rattle.catalogue_statements.specs.Rows.{cells_of_unit, by_number, ElementRow, element_row, HousingRow, housing_row}
use Rattle.office_tables.specs.Step.{OnlyTouches}
use Rattle.catalogue_core.specs.Units.{Unit}

-- the records that have none of these numbers
abbrev pub without_records : {A : Type 0} → (A → ℕ) → List ℕ → List A → List A
without_records number ids xs = filter (λ x. not (list_any (nat_eq (number x)) ids)) xs

-- each of these numbers is a unit's, and none occurs twice
pub record AreListed (ids : List ℕ) (xs : List Unit) : Type 0 where
  pub distinct : IsDistinct nat_eq ids
  pub there : (n : ℕ) → list_any (nat_eq n) ids ≡ true → list_any (λ (u : Unit). nat_eq n u.id) xs ≡ true

-- the table of units, and those whose rows go with a unit
abbrev pub unit_tables : List ℕ
unit_tables = tables.permit.tree ∷ tables.unit.tree ∷ tables.element.tree ∷ tables.housing.tree ∷ []

-- the rows of these units are gone, with their rows in `element` and `housing` and the permits for them; all other rows
-- remain
pub record AreRemoved (ids : List ℕ) (old new : Database) : Type 0 where
  pub units : (xs : List Unit) → old.trees tables.unit.tree ≡ map cells_of_unit xs → Rises by_number xs → new.trees tables.unit.tree ≡ map cells_of_unit (without_records (λ u. u.id) ids xs)
  pub elements : (xs : List ElementRow) → HasNumbered element_row (old.trees tables.element.tree) xs → HasNumbered element_row (new.trees tables.element.tree) (without_records (λ e. e.unit) ids xs)
  pub housings : (xs : List HousingRow) → HasNumbered housing_row (old.trees tables.housing.tree) xs → HasNumbered housing_row (new.trees tables.housing.tree) (without_records (λ h. h.unit) ids xs)
  pub permits : (xs : List PermitRow) → HasNumbered permit_cells (old.trees tables.permit.tree) xs → HasNumbered permit_cells (new.trees tables.permit.tree) (without_records (λ p. p.unit) ids xs)
  pub only : OnlyTouches unit_tables old new

-- the rows of the table of units, and of the tables whose rows go with a unit
pub record HasUnitTables (db : Trees) : Type 0 where
  pub units : List Unit
  pub unit_rows : db tables.unit.tree ≡ map cells_of_unit units
  pub units_rise : Rises by_number units
  pub elements : List ElementRow
  pub element_rows : HasNumbered element_row (db tables.element.tree) elements
  pub housings : List HousingRow
  pub housing_rows : HasNumbered housing_row (db tables.housing.tree) housings
  pub permits : List PermitRow
  pub permit_rows : HasNumbered permit_cells (db tables.permit.tree) permits
