-- Opening a new day.
use Rattle.std.specs.Prelude.{◌≡◌, ℤ, [], ◌∷◌, ⊤}
use Rattle.sqlite.specs.Effect.{Database}
use Rattle.desk_core.specs.DeskRows.{Desk}
use Rattle.office_tables.specs.Schema as tables
use Rattle.office_tables.specs.SharedRows.{OfficeRow, office_cells}
use Rattle.desk_store.specs.Seats.{all_free}
use Rattle.desk_store.specs.Representation.{RepresentsDesk, IsLegible}

-- the desk, and the office's row
pub record House : Type 0 where
  pub office : OfficeRow
  pub desk : Desk

-- the tables represent the desk, and the office's row is the only one of its table
pub record RepresentsBoth (db : Database) (beside : ⊤) (house : House) : Type 0 where
  pub office : db.trees tables.office.tree ≡ office_cells house.office ∷ []
  pub desk : RepresentsDesk db.trees house.desk

abbrev pub IsLegibleHouse : House → Type 0
IsLegibleHouse house = IsLegible house.desk

-- it is another day, and nobody sits; nothing else is changed
abbrev pub opened_house : ℤ → House → House
opened_house day house = record { office = record house.office { day = day }; desk = all_free house.desk }
