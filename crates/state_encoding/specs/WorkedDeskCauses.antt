-- The rows of a small sound office, and which of the causes 6 to 10 hold after a few of them are changed.
use Rattle.std.specs.Prelude.{◌≡◌, ℕ, suc, ℤ, pos, ◌+ℤ◌, ◌-ℤ◌, true, false, Bool, List, [], ◌∷◌, map, Some, None, codes}
use Rattle.isad_core.specs.Limits.{first_day, last_day, most_permits}
use Rattle.tree_core.specs.WorkedExamples.{link_of}
use Rattle.desk_core.specs.DeskRows.{Desk, ReaderRow, SeatRow, OrderRow, HoldingRow, RunLineRow, PermitRow}
use Rattle.catalogue_core.specs.CatalogueRows.{CatalogueRows, LinkRows, UnitRow}
use Rattle.state_encoding.specs.OfficeRows.{OfficeRows}
use Rattle.office_core.specs.Laws.{numbers_from}
use Rattle.office_core.specs.WorkedExamples.{february_1, march_1, march_2, year_end}
use Rattle.state_encoding.specs.Causes.{desk_tests}

-- ---- which of the causes 6, 7, 8, 9 and 10 hold

abbrev pub none_of_them : List Bool
none_of_them = false ∷ false ∷ false ∷ false ∷ false ∷ []

abbrev pub just_6 : List Bool
just_6 = true ∷ false ∷ false ∷ false ∷ false ∷ []

abbrev pub just_7 : List Bool
just_7 = false ∷ true ∷ false ∷ false ∷ false ∷ []

abbrev pub just_8 : List Bool
just_8 = false ∷ false ∷ true ∷ false ∷ false ∷ []

abbrev pub just_9 : List Bool
just_9 = false ∷ false ∷ false ∷ true ∷ false ∷ []

abbrev pub just_10 : List Bool
just_10 = false ∷ false ∷ false ∷ false ∷ true ∷ []

-- ---- the rows

abbrev pub ann_row : ReaderRow
ann_row = record { ticket = 1; name = codes "Ann"; until = year_end }

abbrev pub bob_row : ReaderRow
bob_row = record { ticket = 2; name = codes "Bob"; until = march_1 }

abbrev pub ann_sits : SeatRow
ann_sits = record { seat = 1; ticket = 1 }

-- Ann has container 1
abbrev pub first_order : OrderRow
first_order = record { id = 1; ticket = 1; container = 1; day = february_1; state = 2 }

-- Bob waits for it
abbrev pub second_order : OrderRow
second_order = record { id = 2; ticket = 2; container = 1; day = march_1; state = 1 }

-- Bob has had container 2
abbrev pub third_order : OrderRow
third_order = record { id = 3; ticket = 2; container = 2; day = march_1; state = 3 }

abbrev pub out_with_ann : HoldingRow
out_with_ann = record { container = 1; place = 2; held_by = Some 1 }

abbrev pub at_the_desk : HoldingRow
at_the_desk = record { container = 2; place = 1; held_by = None }

abbrev pub first_line : RunLineRow
first_line = record { run = 1; container = 1; order_no = 1; ticket = 1 }

abbrev pub second_line : RunLineRow
second_line = record { run = 1; container = 2; order_no = 3; ticket = 2 }

abbrev pub permit_of_bob : PermitRow
permit_of_bob = record { ticket = 2; unit = 1; until = year_end }

abbrev pub plans_row : UnitRow
plans_row = record { id = 1; source = codes "a"; legacy = codes "1"; level = []; draft = false; until = Some february_1 }

-- one unit in two containers
abbrev pub catalogue : CatalogueRows
catalogue =
    record {
      units = plans_row ∷ [];
      places = LinkRows (link_of 1 None 1 ∷ []);
      elements = [];
      containers = record { id = 1; name = codes "Box 1"; location = []; kind = [] }
          ∷ record { id = 2; name = codes "Box 2"; location = []; kind = [] } ∷ [];
      housings = record { unit = 1; ord = 1; container = 1 } ∷ record { unit = 1; ord = 2; container = 2 } ∷ [];
    }

-- two readers, three orders, one run
abbrev pub desk : Desk
desk =
    record {
      readers = ann_row ∷ bob_row ∷ [];
      seats = ann_sits ∷ [];
      orders = first_order ∷ second_order ∷ third_order ∷ [];
      holdings = out_with_ann ∷ at_the_desk ∷ [];
      runs = record { id = 1; day = march_1 } ∷ [];
      run_lines = first_line ∷ second_line ∷ [];
      permits = permit_of_bob ∷ [];
    }

abbrev pub sound : OfficeRows
sound =
    record {
      office = record { version = 1; country = codes "GB"; repo = codes "0999"; seats = 2; daily = 2; hands = 1; run_size = 2; day = march_1; next_unit = 2 };
      catalogue = catalogue;
      desk = desk;
    }

-- a day that is past the calendar
abbrev pub year_10000 : ℤ
year_10000 = last_day +ℤ pos 1

-- and one that is before it
abbrev pub day_of_1899 : ℤ
day_of_1899 = first_day -ℤ pos 1

-- n units, and a permit for each
abbrev pub many_units : ℕ → List UnitRow
many_units n = map (λ u. record plans_row { id = u }) (numbers_from 1 n)

abbrev pub many_permits : ℕ → List PermitRow
many_permits n = map (λ u. record permit_of_bob { unit = u }) (numbers_from 1 n)

-- which causes hold if the office's desk has these rows
abbrev pub tests_with : Desk → List Bool
tests_with rows = desk_tests (record sound { desk = rows })

-- which causes hold if the office has these units, and its desk these rows
abbrev pub tests_among : List UnitRow → Desk → List Bool
tests_among units rows = desk_tests (record sound { catalogue = record catalogue { units = units }; desk = rows })

-- which causes hold after some of the rows are changed
pub record DeskCausesTold : Type 0 where
  pub nothing : desk_tests sound ≡ none_of_them
  -- readers
  pub ticket_left_out : tests_with (record desk { readers = ann_row ∷ bob_row ∷ record bob_row { ticket = 4 } ∷ [] }) ≡ just_6
  pub blank_name : tests_with (record desk { readers = ann_row ∷ record bob_row { name = codes "  " } ∷ [] }) ≡ just_6
  pub ticket_for_ever : tests_with (record desk { readers = ann_row ∷ record bob_row { until = year_10000 } ∷ [] }) ≡ just_6
  -- seats
  pub seat_of_another_office : tests_with (record desk { seats = ann_sits ∷ record { seat = 3; ticket = 2 } ∷ [] }) ≡ just_6
  pub a_third_seat : desk_tests (record sound { office = record sound.office { seats = 3 }; desk = record desk { seats = ann_sits ∷ record { seat = 3; ticket = 2 } ∷ [] } }) ≡ none_of_them
  pub seat_without_a_number : tests_with (record desk { seats = record { seat = 0; ticket = 2 } ∷ ann_sits ∷ [] }) ≡ just_6
  pub stranger_sits : tests_with (record desk { seats = ann_sits ∷ record { seat = 2; ticket = 3 } ∷ [] }) ≡ just_6
  -- permits
  pub permit_for_no_unit : tests_with (record desk { permits = record permit_of_bob { unit = 2 } ∷ [] }) ≡ just_6
  pub permit_of_a_stranger : tests_with (record desk { permits = record permit_of_bob { ticket = 3 } ∷ [] }) ≡ just_6
  pub permit_for_ever : tests_with (record desk { permits = record permit_of_bob { until = year_10000 } ∷ [] }) ≡ just_6
  pub permits_to_the_limit : tests_among (many_units most_permits) (record desk { permits = many_permits most_permits }) ≡ none_of_them
  pub permit_past_the_limit : tests_among (many_units (suc most_permits)) (record desk { permits = many_permits (suc most_permits) }) ≡ just_6
  -- orders
  pub order_left_out : tests_with (record desk { orders = first_order ∷ second_order ∷ third_order ∷ record third_order { id = 5; day = february_1 } ∷ [] }) ≡ just_7
  pub order_of_a_stranger : tests_with (record desk { orders = first_order ∷ record second_order { ticket = 3 } ∷ third_order ∷ [] }) ≡ just_7
  pub order_for_no_container : tests_with (record desk { orders = first_order ∷ record second_order { container = 3 } ∷ third_order ∷ [] }) ≡ just_7
  pub order_in_no_state : tests_with (record desk { orders = first_order ∷ record second_order { state = 5 } ∷ third_order ∷ [] }) ≡ just_7
  pub order_before_1900 : tests_with (record desk { orders = first_order ∷ record second_order { day = day_of_1899 } ∷ third_order ∷ [] }) ≡ just_7
  pub order_of_tomorrow : tests_with (record desk { orders = first_order ∷ record second_order { day = march_2 } ∷ third_order ∷ [] }) ≡ just_7
  pub one_too_many_that_day : tests_with (record desk { orders = first_order ∷ second_order ∷ third_order ∷ record third_order { id = 4 } ∷ [] }) ≡ just_7
  pub two_tickets_that_day : tests_with (record desk { orders = first_order ∷ second_order ∷ third_order ∷ record third_order { id = 4; ticket = 1 } ∷ [] }) ≡ none_of_them
  pub a_third_that_day : desk_tests (record sound { office = record sound.office { daily = 3 }; desk = record desk { orders = first_order ∷ second_order ∷ third_order ∷ record third_order { id = 4 } ∷ [] } }) ≡ none_of_them
  pub order_twice : tests_with (record desk { orders = first_order ∷ second_order ∷ third_order ∷ record first_order { id = 4; state = 1 } ∷ [] }) ≡ just_7
  pub order_again_once_done : tests_with (record desk { orders = first_order ∷ second_order ∷ third_order ∷ record third_order { id = 4; day = february_1; state = 1 } ∷ [] }) ≡ none_of_them
  -- places
  pub no_such_container : tests_with (record desk { holdings = out_with_ann ∷ record { container = 3; place = 1; held_by = None } ∷ [] }) ≡ just_8
  pub no_such_place : tests_with (record desk { holdings = out_with_ann ∷ record at_the_desk { place = 3 } ∷ [] }) ≡ just_8
  pub named_at_the_desk : tests_with (record desk { holdings = out_with_ann ∷ record at_the_desk { held_by = Some 3 } ∷ [] }) ≡ just_8
  pub out_with_nobody : tests_with (record desk { holdings = out_with_ann ∷ record at_the_desk { place = 2 } ∷ [] }) ≡ just_8
  pub out_with_a_done_order : tests_with (record desk { orders = record first_order { state = 3 } ∷ second_order ∷ third_order ∷ [] }) ≡ just_8
  pub out_with_an_order_for_another : desk_tests (record sound { office = record sound.office { hands = 2 }; desk = record desk { holdings = out_with_ann ∷ record { container = 2; place = 2; held_by = Some 1 } ∷ [] } }) ≡ just_8
  pub out_and_not_held : tests_with (record desk { holdings = at_the_desk ∷ [] }) ≡ just_8
  -- runs
  pub run_left_out : tests_with (record desk { runs = record { id = 1; day = march_1 } ∷ record { id = 3; day = march_1 } ∷ []; run_lines = first_line ∷ record second_line { run = 3 } ∷ [] }) ≡ just_9
  pub run_before_1900 : tests_with (record desk { runs = record { id = 1; day = day_of_1899 } ∷ [] }) ≡ just_9
  pub run_of_tomorrow : tests_with (record desk { runs = record { id = 1; day = march_2 } ∷ [] }) ≡ just_9
  pub run_of_nothing : tests_with (record desk { run_lines = [] }) ≡ just_9
  pub run_of_too_many : desk_tests (record sound { office = record sound.office { run_size = 1 } }) ≡ just_9
  pub line_of_no_run : tests_with (record desk { run_lines = first_line ∷ record second_line { run = 2 } ∷ [] }) ≡ just_9
  pub line_of_no_order : tests_with (record desk { run_lines = first_line ∷ record second_line { order_no = 4 } ∷ [] }) ≡ just_9
  pub line_of_another_container : tests_with (record desk { run_lines = record first_line { container = 2 } ∷ [] }) ≡ just_9
  pub line_of_another_ticket : tests_with (record desk { run_lines = first_line ∷ record second_line { ticket = 1 } ∷ [] }) ≡ just_9
  -- the day
  pub holder_without_a_seat : tests_with (record desk { seats = [] }) ≡ just_10
  pub two_in_one_hand : tests_with (record desk { orders = first_order ∷ second_order ∷ record third_order { ticket = 1; state = 2 } ∷ []; holdings = out_with_ann ∷ record { container = 2; place = 2; held_by = Some 3 } ∷ []; run_lines = first_line ∷ [] }) ≡ just_10
  pub draft_is_out : tests_among (record plans_row { draft = true } ∷ []) desk ≡ just_10
  pub closed_is_out : tests_among (record plans_row { until = Some march_2 } ∷ []) desk ≡ just_10
  pub out_by_a_permit : tests_among (record plans_row { until = Some march_2 } ∷ []) (record desk { permits = record permit_of_bob { ticket = 1 } ∷ [] }) ≡ none_of_them
