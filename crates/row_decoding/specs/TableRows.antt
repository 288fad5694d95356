-- The rows of tables of doubtful origin that can be read, each table's in the order of its key, and whether some cannot
-- be read.
use Rattle.std.specs.Prelude.{ℕ, Bool, ◌||◌, ◌&&◌, List, filter_map, nat_eq, nat_lt}
use Rattle.sqlite.specs.Tree.{Trees}
use Rattle.tree_core.specs.declared.rows.Link.{Link}
use Rattle.tree_core.specs.declared.rows.Span.{Span}
use Rattle.tree_core.specs.Encodings.{TreeEncoding, Links, Spans}
use Rattle.office_tables.specs.Versions.{Version, encoding}
use Rattle.desk_core.specs.DeskRows.{Desk, ReaderRow, SeatRow, OrderRow, HoldingRow, RunRow, RunLineRow, PermitRow}
use Rattle.desk_core.specs.Orders.{in_order}
use Rattle.catalogue_core.specs.CatalogueRows.{CatalogueRows, UnitRow, ElementRow, ContainerRow, HousingRow, PlaceRows}
use Rattle.catalogue_core.specs.CatalogueRows.{LinkRows, SpanRows}
use Rattle.office_tables.specs.Cells.{has_unread}
use Rattle.office_tables.specs.CatalogueCells.{read_unit, read_link, read_span, read_element, read_container}
use Rattle.office_tables.specs.CatalogueCells.{read_housing}
use Rattle.office_tables.specs.DeskCells.{read_reader, read_seat, read_order, read_holding, read_run, read_run_line}
use Rattle.office_tables.specs.DeskCells.{read_permit}
use Rattle.office_tables.specs.Schema as tables

-- `by`: by one number; `then_by`: by one number, then by a second
abbrev pub by : {X : Type 0} → (X → ℕ) → X → X → Bool
by number a b = nat_lt (number a) (number b)

abbrev pub then_by : {X : Type 0} → (X → ℕ) → (X → ℕ) → X → X → Bool
then_by number second a b = nat_lt (number a) (number b) || (nat_eq (number a) (number b) && nat_lt (second a) (second b))

-- ---- the catalogue

-- links by unit, spans by their first number and then by unit
abbrev pub places_in : TreeEncoding → Trees → PlaceRows
places_in Links db = LinkRows (in_order (by (λ (row : Link). row.id)) (filter_map read_link (db tables.link.tree)))
places_in Spans db =
    SpanRows (in_order (then_by (λ (row : Span). row.lft) (λ (row : Span). row.id)) (filter_map read_span (db tables.span.tree)))

abbrev pub containers_in : Trees → List ContainerRow
containers_in db = in_order (by (λ (row : ContainerRow). row.id)) (filter_map read_container (db tables.container.tree))

abbrev pub catalogue_in : Version → Trees → CatalogueRows
catalogue_in version db =
    record {
      units = in_order (by (λ (row : UnitRow). row.id)) (filter_map read_unit (db tables.unit.tree));
      places = places_in (encoding version) db;
      elements = in_order (then_by (λ (row : ElementRow). row.unit) (λ (row : ElementRow). row.k)) (filter_map read_element (db tables.element.tree));
      containers = containers_in db;
      housings = in_order (then_by (λ (row : HousingRow). row.unit) (λ (row : HousingRow). row.ord)) (filter_map read_housing (db tables.housing.tree));
    }

-- ---- the reading room

abbrev pub readers_in : Trees → List ReaderRow
readers_in db = in_order (by (λ (row : ReaderRow). row.ticket)) (filter_map read_reader (db tables.reader.tree))

abbrev pub desk_in : Trees → Desk
desk_in db =
    record {
      readers = readers_in db;
      seats = in_order (by (λ (row : SeatRow). row.seat)) (filter_map read_seat (db tables.seat.tree));
      orders = in_order (by (λ (row : OrderRow). row.id)) (filter_map read_order (db tables.orders.tree));
      holdings = in_order (by (λ (row : HoldingRow). row.container)) (filter_map read_holding (db tables.holding.tree));
      runs = in_order (by (λ (row : RunRow). row.id)) (filter_map read_run (db tables.run.tree));
      run_lines = in_order (then_by (λ (row : RunLineRow). row.run) (λ (row : RunLineRow). row.container)) (filter_map read_run_line (db tables.run_line.tree));
      permits = in_order (then_by (λ (row : PermitRow). row.ticket) (λ (row : PermitRow). row.unit)) (filter_map read_permit (db tables.permit.tree));
    }

-- ---- some row cannot be read, for the causes that have several tables

abbrev pub places_are_unread : TreeEncoding → Trees → Bool
places_are_unread Links db = has_unread read_link (db tables.link.tree)
places_are_unread Spans db = has_unread read_span (db tables.span.tree)

abbrev pub containers_are_unread : Trees → Bool
containers_are_unread db =
    has_unread read_container (db tables.container.tree) || has_unread read_housing (db tables.housing.tree)

abbrev pub registration_is_unread : Trees → Bool
registration_is_unread db =
    has_unread read_reader (db tables.reader.tree)
    || (has_unread read_seat (db tables.seat.tree) || has_unread read_permit (db tables.permit.tree))

abbrev pub runs_are_unread : Trees → Bool
runs_are_unread db = has_unread read_run (db tables.run.tree) || has_unread read_run_line (db tables.run_line.tree)
