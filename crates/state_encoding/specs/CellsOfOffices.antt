-- The trees that represent an office: each table has the rows of the office's state, as cells, and no others. The order
-- of the rows has no meaning, nor has the hidden number of a row without an INTEGER PRIMARY KEY.
use Rattle.std.specs.Prelude.{◌≡◌, List, [], ◌∷◌, None, map, IsPermutation}
use Rattle.sqlite.specs.Order.{Row}
use Rattle.sqlite.specs.Tree.{Trees}
use Rattle.office_tables.specs.Versions.{Version}
use Rattle.desk_core.specs.DeskRows.{Desk}
use Rattle.catalogue_core.specs.CatalogueRows.{CatalogueRows, PlaceRows, LinkRows, SpanRows}
use Rattle.office_core.specs.State.{State}
use Rattle.office_core.specs.SoundOffice.{IsSoundOffice}
use Rattle.office_tables.specs.Schema as tables
use Rattle.office_tables.specs.RowNumbers.{HasNumbered}
use Rattle.office_tables.specs.Permits.{permit_cells}
pub use Rattle.office_tables.specs.RowCells.{unit_cells, element_cells, container_cells, housing_cells, link_cells}
pub use Rattle.office_tables.specs.RowCells.{span_cells}
pub use Rattle.office_tables.specs.RowCells.{reader_cells, seat_cells, order_cells, holding_cells, run_cells}
pub use Rattle.office_tables.specs.RowCells.{run_line_cells}
use Rattle.office_tables.specs.SharedRows.{office_cells}
use Rattle.state_encoding.specs.Causes.{first_held, MeetsKeys}
use Rattle.state_encoding.specs.CellCauses.{rows_in, unread, cell_cause}
use Rattle.state_encoding.specs.RowSoundness.{IsCatalogueOf}
use Rattle.state_encoding.specs.OfficeRows.{OfficeRows, tables as tables_of, state_of}

-- ---- the trees that represent an office

-- the table has these rows, in any order
pub record HasRowsInAnyOrder {R : Type 0} (cells : R → Row) (there : List Row) (rows : List R) : Type 0 where
  pub stored : List R
  pub are : there ≡ map cells stored
  pub tell : IsPermutation rows stored

-- the table of the places has the rows of the version
abbrev pub HasPlaces : Trees → PlaceRows → Type 0
HasPlaces db (LinkRows links) = HasRowsInAnyOrder link_cells (db tables.link.tree) links
HasPlaces db (SpanRows spans) = HasRowsInAnyOrder span_cells (db tables.span.tree) spans

pub record HasCatalogue (db : Trees) (c : CatalogueRows) : Type 0 where
  pub units : HasRowsInAnyOrder unit_cells (db tables.unit.tree) c.units
  pub places : HasPlaces db c.places
  pub elements : HasNumbered element_cells (db tables.element.tree) c.elements
  pub containers : HasRowsInAnyOrder container_cells (db tables.container.tree) c.containers
  pub housings : HasNumbered housing_cells (db tables.housing.tree) c.housings

pub record HasDesk (db : Trees) (d : Desk) : Type 0 where
  pub readers : HasRowsInAnyOrder reader_cells (db tables.reader.tree) d.readers
  pub seats : HasRowsInAnyOrder seat_cells (db tables.seat.tree) d.seats
  pub orders : HasRowsInAnyOrder order_cells (db tables.orders.tree) d.orders
  pub holdings : HasRowsInAnyOrder holding_cells (db tables.holding.tree) d.holdings
  pub runs : HasRowsInAnyOrder run_cells (db tables.run.tree) d.runs
  pub run_lines : HasNumbered run_line_cells (db tables.run_line.tree) d.run_lines
  pub permits : HasNumbered permit_cells (db tables.permit.tree) d.permits

pub record HasTables (db : Trees) (t : OfficeRows) : Type 0 where
  pub office : db tables.office.tree ≡ office_cells t.office ∷ []
  pub catalogue : HasCatalogue db t.catalogue
  pub desk : HasDesk db t.desk

-- the tables of this version represent the state
abbrev pub HasTablesOf : Version → Trees → State → Type 0
HasTablesOf version db s = HasTables db (tables_of version s)

-- some trees represent the state
abbrev pub IsRepresentedByTrees : Version → State → Type 0
IsRepresentedByTrees version s = (db : Trees) × HasTablesOf version db s

-- ---- what is read of a sound office

-- every row is read: the desk's are the rows of the state in the order of their keys, the catalogue's up to their order
pub record IsRead (version : Version) (db : Trees) (s : State) : Type 0 where
  pub all : first_held (unread version db) ≡ None
  pub catalogue : IsCatalogueOf version (rows_in version db) s
  pub desk : (rows_in version db).desk ≡ (tables_of version s).desk

abbrev pub SoundOfficesAreRead : Version → Trees → State → Type 0
SoundOfficesAreRead version db s = HasTablesOf version db s → IsSoundOffice s → IsRead version db s

-- the tables meet the keys, have no cause, and describe the state
pub record TablesDescribe (version : Version) (db : Trees) (s : State) : Type 0 where
  pub keys : MeetsKeys (rows_in version db)
  pub causes : cell_cause version db ≡ None
  pub state : state_of (rows_in version db) ≡ s

abbrev pub SoundOfficesAreTold : Version → Trees → State → Type 0
SoundOfficesAreTold version db s = HasTablesOf version db s → IsSoundOffice s → TablesDescribe version db s
