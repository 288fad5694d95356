-- All the rows that represent a state, in either version, and the state that rows describe.
use Rattle.std.specs.Prelude.{◌≡◌, ℕ, zero, suc, false, List, [], ◌∷◌, length, map, filter, filter_map, find, Option}
use Rattle.std.specs.Prelude.{Some, None, option_map, unwrap_or, nat_eq}
use Rattle.std.specs.List.{flat_map}
use Rattle.isad_core.specs.Texts.{Bytes}
use Rattle.isad_core.specs.declared.values.BoxKey.{BoxKey}
use Rattle.isad_core.specs.declared.values.Values.{Values}
use Rattle.tree_core.specs.Forest.{nodes, each}
use Rattle.office_tables.specs.Versions.{Version, version_number, encoding}
use Rattle.desk_core.specs.DeskRows.{Desk, SeatRow, waiting_for, RunRow, RunLineRow, PermitRow}
use Rattle.catalogue_core.specs.Units.{Unit}
use Rattle.catalogue_core.specs.CatalogueRows.{CatalogueRows, OfficeRow, UnitRow, unit_row, element_rows_from}
use Rattle.catalogue_core.specs.CatalogueRows.{container_row, HousingRow, housing_row, place_rows, places_said}
use Rattle.catalogue_core.specs.CatalogueRows.{box_from, text_said, housings_of}
use Rattle.office_core.specs.Words.{nth}
use Rattle.office_core.specs.Laws.{numbers_from}
use Rattle.office_core.specs.State.{Line, Run, Permit, State}
use Rattle.state_encoding.specs.DeskEncoding.{rows_from, reader_rows, reader_from, seat_rows, order_rows, order_from}
use Rattle.state_encoding.specs.DeskEncoding.{past_in, holding_rows, place_in, run_rows, run_line_rows, permit_rows}

-- ---- all tables

-- the office's own row, and the rows of its catalogue and of its desk
pub record OfficeRows : Type 0 where
  pub office : OfficeRow
  pub catalogue : CatalogueRows
  pub desk : Desk

abbrev pub unit_number : Unit → ℕ
unit_number unit = unit.id

-- the rows that represent a state; a table has no other rows
abbrev pub tables : Version → State → OfficeRows
tables version s =
    record {
      office = record {
        version = version_number version;
        country = s.settings.country;
        repo = s.settings.repo;
        seats = s.settings.seats;
        daily = s.settings.daily;
        hands = s.settings.hands;
        run_size = s.settings.run_size;
        day = s.day;
        next_unit = s.catalogue.next;
      };
      catalogue = record {
        units = map unit_row (nodes s.catalogue.forest);
        places = place_rows (encoding version) (each unit_number s.catalogue.forest);
        elements = flat_map (λ (unit : Unit). element_rows_from unit.id 1 unit.values.texts) (nodes s.catalogue.forest);
        containers = rows_from container_row 1 s.catalogue.containers;
        housings = flat_map (λ (unit : Unit). rows_from (housing_row s.catalogue.containers unit.id) 1 unit.values.boxes) (nodes s.catalogue.forest);
      };
      desk = record {
        readers = reader_rows s;
        seats = seat_rows s;
        orders = order_rows s;
        holdings = holding_rows s;
        runs = run_rows s;
        run_lines = run_line_rows s;
        permits = permit_rows s;
      };
    }

-- ---- the state that rows describe

-- the container of a row
abbrev pub box_at : List BoxKey → Option HousingRow → Option BoxKey
box_at boxes None = None
box_at boxes (Some row) = nth boxes row.container

-- the containers at `more` positions from n on
abbrev pub boxes_from : List BoxKey → List HousingRow → ℕ → ℕ → List BoxKey
boxes_from boxes mine n more =
    filter_map (λ m. box_at boxes (find (λ (row : HousingRow). nat_eq row.ord m) mine)) (numbers_from n more)

-- the containers of a unit, in the unit's order
abbrev pub boxes_from_rows : List BoxKey → List HousingRow → ℕ → List BoxKey
boxes_from_rows boxes housings u = boxes_from boxes (housings_of u housings) 1 (length (housings_of u housings))

abbrev pub values_from_rows : CatalogueRows → ℕ → Bytes → Values
values_from_rows c u level =
    record {
      level = level;
      texts = map (text_said c.elements u) (numbers_from 1 25);
      boxes = boxes_from_rows (map box_from c.containers) c.housings u;
    }

abbrev pub unit_from : CatalogueRows → UnitRow → Unit
unit_from c row =
    record {
      id = row.id;
      source = row.source;
      legacy = row.legacy;
      values = values_from_rows c row.id row.level;
      draft = row.draft;
      until = row.until;
    }

-- the unit with this number, or an empty one if no row has the number
abbrev pub unit_from_rows : CatalogueRows → ℕ → Unit
unit_from_rows c u =
    unwrap_or (option_map (unit_from c) (find (λ (row : UnitRow). nat_eq row.id u) c.units))
    (record { id = u; source = []; legacy = []; values = values_from_rows c u []; draft = false; until = None })

-- who sits on each seat from n on; the first number is the count of seats
abbrev pub seats_from_rows : ℕ → ℕ → List SeatRow → List (Option ℕ)
seats_from_rows zero n rows = []
seats_from_rows (suc more) n rows =
    option_map (λ (row : SeatRow). row.ticket) (find (λ (row : SeatRow). nat_eq row.seat n) rows) ∷ seats_from_rows more (suc n) rows

abbrev pub line_from : RunLineRow → Line
line_from row = record { container = row.container; order = row.order_no; ticket = row.ticket }

abbrev pub run_from : List RunLineRow → RunRow → Run
run_from lines row =
    record { day = row.day; lines = map line_from (filter (λ (line : RunLineRow). nat_eq line.run row.id) lines) }

abbrev pub permits_from_rows : List PermitRow → ℕ → List Permit
permits_from_rows rows t =
    map (λ (row : PermitRow). record { unit = row.unit; until = row.until }) (filter (λ (row : PermitRow). nat_eq row.ticket t) rows)

abbrev pub state_of : OfficeRows → State
state_of t =
    record {
      settings = record {
        country = t.office.country;
        repo = t.office.repo;
        seats = t.office.seats;
        daily = t.office.daily;
        hands = t.office.hands;
        run_size = t.office.run_size;
      };
      day = t.office.day;
      catalogue = record {
        forest = each (unit_from_rows t.catalogue) (places_said t.catalogue.places);
        containers = map box_from t.catalogue.containers;
        next = t.office.next_unit;
      };
      readers = map reader_from t.desk.readers;
      seats = seats_from_rows t.office.seats 1 t.desk.seats;
      orders = map order_from t.desk.orders;
      runs = map (run_from t.desk.run_lines) t.desk.runs;
      place = place_in t.desk.holdings;
      queue = λ c. waiting_for c t.desk.orders;
      past = past_in t.desk.orders;
      permits = permits_from_rows t.desk.permits;
    }

-- ---- what is read back from the rows of a state: all of it but the forest

pub record SaysAllButUnits (version : Version) (s : State) : Type 0 where
  pub settings : (state_of (tables version s)).settings ≡ s.settings
  pub day : (state_of (tables version s)).day ≡ s.day
  pub next : (state_of (tables version s)).catalogue.next ≡ s.catalogue.next
  pub boxes : (state_of (tables version s)).catalogue.containers ≡ s.catalogue.containers
  pub readers : (state_of (tables version s)).readers ≡ s.readers
  pub seats : (state_of (tables version s)).seats ≡ s.seats
  pub orders : (state_of (tables version s)).orders ≡ s.orders
  pub runs : (state_of (tables version s)).runs ≡ s.runs
  pub places : (state_of (tables version s)).place ≡ s.place
  pub queues : (state_of (tables version s)).queue ≡ s.queue
  pub past : (state_of (tables version s)).past ≡ s.past
  pub permits : (state_of (tables version s)).permits ≡ s.permits

-- the rows describe the units too, and so all of the state
abbrev pub SaysUnits : Version → State → Type 0
SaysUnits version s = (state_of (tables version s)).catalogue.forest ≡ s.catalogue.forest
