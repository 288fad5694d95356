-- Whether the reading room's tables can be a desk's, whatever their cells are. Each table has one cause, which also
-- holds if some row of it cannot be read. The tables of readers, seats and permits share one, and so do those of runs.
use Rattle.std.specs.Prelude.{ℕ, ℤ, Bool, ◌||◌, cond, List, filter_map, Option, Some, None}
use Rattle.sqlite.specs.Order.{Row}
use Rattle.sqlite.specs.Tree.{Trees}
use Rattle.isad_core.specs.Words.{stands}
use Rattle.desk_core.specs.declared.reader.Limits.{Limits}
use Rattle.desk_core.specs.DeskCauses.{Around, readers_are_bad, orders_are_bad, holdings_are_bad, runs_are_bad}
use Rattle.office_tables.specs.Cells.{has_unread}
use Rattle.office_tables.specs.DeskCells.{read_order, read_holding}
use Rattle.office_tables.specs.Schema as tables
use Rattle.row_decoding.specs.TableRows.{desk_in, registration_is_unread, runs_are_unread}
use Rattle.row_decoding.specs.Readings.{read_number}
use Rattle.integrity_checks.specs.declared.desk_defect.DeskDefect.{DeskDefect}
use Rattle.integrity_checks.specs.declared.desk_defect.DeskDefect.TheVariants.{Readers, Orders, Holdings, Runs}

-- the number of the cause, among the ten for which an office's tables are refused
abbrev pub cause_of : DeskDefect → ℕ
cause_of Readers = 6
cause_of Orders = 7
cause_of Holdings = 8
cause_of Runs = 9

-- ---- the rows that can be read

-- some row of the table has the number as its key
abbrev pub is_numbered : List Row → ℕ → Bool
is_numbered table n = stands n (filter_map read_number table)

-- what the desk is checked against: the limits and the day of the office, and the units and containers of the tables
abbrev pub around_in : Limits → ℤ → Trees → Around
around_in limits today db =
    record {
      seats = limits.seats;
      daily = limits.daily;
      run_size = limits.run;
      day = today;
      is_unit = is_numbered (db tables.unit.tree);
      is_container = is_numbered (db tables.container.tree);
    }

-- ---- the causes

abbrev pub registration_is_defective : Around → Trees → Bool
registration_is_defective a db = registration_is_unread db || readers_are_bad a (desk_in db)

abbrev pub orders_are_defective : Around → Trees → Bool
orders_are_defective a db = has_unread read_order (db tables.orders.tree) || orders_are_bad a (desk_in db)

abbrev pub holdings_are_defective : Around → Trees → Bool
holdings_are_defective a db = has_unread read_holding (db tables.holding.tree) || holdings_are_bad a (desk_in db)

abbrev pub runs_are_defective : Around → Trees → Bool
runs_are_defective a db = runs_are_unread db || runs_are_bad a (desk_in db)

-- ---- the first of them

abbrev pub defect_of_past : Around → Trees → Option DeskDefect
defect_of_past a db = cond (holdings_are_defective a db) (Some Holdings) (cond (runs_are_defective a db) (Some Runs) None)

abbrev pub defect_of_orders : Around → Trees → Option DeskDefect
defect_of_orders a db = cond (orders_are_defective a db) (Some Orders) (defect_of_past a db)

abbrev pub defect_of_desk : Around → Trees → Option DeskDefect
defect_of_desk a db = cond (registration_is_defective a db) (Some Readers) (defect_of_orders a db)

-- why the tables cannot be those of a desk, in an office with these limits on this day; none if they can
abbrev pub desk_defect : Limits → ℤ → Trees → Option DeskDefect
desk_defect limits today db = defect_of_desk (around_in limits today db) db
