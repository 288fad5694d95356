-- Why the tables of a file represent no sound state, whatever their cells are: the number of the first cause. A row
-- with a cell that its column cannot have cannot be read, so the cause of its table holds. The rows that can be read
-- are judged as usual.
use Rattle.std.specs.Prelude.{ℕ, pos, Bool, false, ◌||◌, List, [], ◌∷◌, ◌++◌, filter_map, Option, unwrap_or}
use Rattle.sqlite.specs.Tree.{Trees}
use Rattle.office_tables.specs.Versions.{Version, encoding}
use Rattle.catalogue_core.specs.CatalogueRows.{OfficeRow}
use Rattle.office_core.specs.Words.{first}
use Rattle.office_tables.specs.Schema as tables
use Rattle.office_tables.specs.Cells.{has_unread}
use Rattle.office_tables.specs.CatalogueCells.{read_office, read_unit, read_element}
use Rattle.office_tables.specs.DeskCells.{read_order, read_holding}
use Rattle.row_decoding.specs.TableRows.{catalogue_in, desk_in, places_are_unread, containers_are_unread}
use Rattle.row_decoding.specs.TableRows.{registration_is_unread, runs_are_unread}
use Rattle.state_encoding.specs.OfficeRows.{OfficeRows}
use Rattle.state_encoding.specs.Causes.{catalogue_tests, first_held, desk_tests}

-- ---- the rows that can be read

-- a row that no office has, which is used if the office's row cannot be read
abbrev pub no_office : OfficeRow
no_office = record { version = 0; country = []; repo = []; seats = 0; daily = 0; hands = 0; run_size = 0; day = pos 0; next_unit = 0 }

abbrev pub rows_in : Version → Trees → OfficeRows
rows_in version db =
    record {
      office = unwrap_or (first (filter_map read_office (db tables.office.tree))) no_office;
      catalogue = catalogue_in version db;
      desk = desk_in db;
    }

-- ---- the causes

-- for each cause, whether some row of its tables cannot be read
abbrev pub unread : Version → Trees → List Bool
unread version db =
    has_unread read_office (db tables.office.tree)
    ∷ places_are_unread (encoding version) db
    ∷ has_unread read_unit (db tables.unit.tree)
    ∷ has_unread read_element (db tables.element.tree)
    ∷ containers_are_unread db
    ∷ registration_is_unread db
    ∷ has_unread read_order (db tables.orders.tree)
    ∷ has_unread read_holding (db tables.holding.tree)
    ∷ runs_are_unread db
    ∷ false
    ∷ []

-- at each position, whether either holds
abbrev pub either_of : List Bool → List Bool → List Bool
either_of (a ∷ these) (b ∷ those) = (a || b) ∷ either_of these those
either_of _ _ = []

-- the number of the first cause that holds for tables that must be of this version, 1 to 10
abbrev pub cell_cause : Version → Trees → Option ℕ
cell_cause version db =
    first_held (either_of (unread version db) (catalogue_tests version (rows_in version db) ++ desk_tests (rows_in version db)))
