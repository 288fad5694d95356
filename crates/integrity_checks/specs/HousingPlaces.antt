-- Whether no container of a unit has a place above the number of the unit's containers, if the rows of each unit stand
-- together.
use Rattle.std.specs.Prelude.{◌≡◌, ℕ, suc, Bool, not, cond, ◌&&◌, List, [], ◌∷◌, ◌++◌, filter_map, nat_eq, nat_le}
use Rattle.std.specs.List.{list_all}
use Rattle.sqlite.specs.Order.{Row}
use Rattle.catalogue_core.specs.CatalogueRows.{HousingRow}
use Rattle.office_tables.specs.Cells.{has_unread}
use Rattle.integrity_checks.specs.ScanAnswers.{housing_in_answer}
use Rattle.integrity_checks.specs.declared.housing.Housed.{Housed}

-- the row as the definitions of the catalogue's causes have it
abbrev pub row_of_housed : Housed → HousingRow
row_of_housed row = record { unit = row.unit; ord = row.ord; container = row.container }

-- the higher of two places
abbrev pub higher : ℕ → ℕ → ℕ
higher a b = cond (nat_le a b) b a

-- `count` rows of `unit` came before these, `highest` is the highest place among them, and the next rows may be of the
-- same unit
abbrev pub are_filled : ℕ → ℕ → ℕ → List HousingRow → Bool
are_filled unit count highest [] = nat_le highest count
are_filled unit count highest (row ∷ rows) =
    cond (nat_eq row.unit unit)
    (are_filled unit (suc count) (higher highest row.ord) rows)
    (nat_le highest count && are_filled row.unit 1 row.ord rows)

-- What was kept of rows: the last unit, the number of its rows, the highest place among them, and the highest container
-- of all. `are_good`: the units before it are filled, and each row can be read and has numbers from 1 on.
pub record AreSummedUp (rows : List Row) (are_good : Bool) (unit count highest last : ℕ) : Type 0 where
  pub filled : (more : List HousingRow)
      → (not (has_unread housing_in_answer rows) && are_filled 0 0 0 (filter_map housing_in_answer rows ++ more)) ≡ (are_good && are_filled unit count highest more)
  pub contained : (n : ℕ) → nat_le last n ≡ list_all (λ (row : HousingRow). nat_le row.container n) (filter_map housing_in_answer rows)
