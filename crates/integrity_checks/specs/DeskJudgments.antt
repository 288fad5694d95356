-- Whether all rows of a table of the desk can be read and can be a desk's, for trees whose readers can be read and are
-- good.
use Rattle.std.specs.Prelude.{◌≡◌, Bool, true, false, not, cond, ◌&&◌, List, Option, Some}
use Rattle.std.specs.List.{list_all}
use Rattle.sqlite.specs.Tree.{Trees}
use Rattle.desk_core.specs.DeskCauses.{Around, is_good_seat, is_good_permit, orders_are_bad}
use Rattle.desk_core.specs.DeskRows.{OrderRow}
use Rattle.desk_core.specs.RowRecords.{Surrounds}
use Rattle.desk_core.specs.declared.consistency.context.Around.{Around as HeldAround}
use Rattle.office_tables.specs.Cells.{has_unread}
use Rattle.office_tables.specs.DeskCells.{read_seat, read_permit, read_order}
use Rattle.office_tables.specs.Schema as tables
use Rattle.row_decoding.specs.TableRows.{desk_in}
use Rattle.integrity_checks.specs.DeskChecks.{holdings_are_defective, runs_are_defective, defect_of_orders}
use Rattle.row_decoding.specs.Readings.{AreRead, by_rowid}
use Rattle.integrity_checks.specs.declared.desk_defect.DeskDefect.{DeskDefect}
use Rattle.integrity_checks.specs.declared.desk_defect.DeskDefect.TheVariants.{Readers}

abbrev pub good_seats_in : Around → Trees → Bool
good_seats_in a db = not (has_unread read_seat (db tables.seat.tree)) && list_all (is_good_seat a (desk_in db)) (desk_in db).seats

abbrev pub good_permits_in : Around → Trees → Bool
good_permits_in a db = not (has_unread read_permit (db tables.permit.tree)) && list_all (is_good_permit a (desk_in db)) (desk_in db).permits

abbrev pub good_holdings_in : Around → Trees → Bool
good_holdings_in a db = not (holdings_are_defective a db)

abbrev pub good_runs_in : Around → Trees → Bool
good_runs_in a db = not (runs_are_defective a db)

-- these are the orders of the table, by number, each of which can be read
abbrev pub AreOrdersOf : Trees → List OrderRow → Type 0
AreOrdersOf db orders = AreRead by_rowid read_order (db tables.orders.tree) orders true

-- what is defective apart from the readers themselves
abbrev pub defect_beside_readers : Around → Trees → Option DeskDefect
defect_beside_readers a db = cond (good_seats_in a db && good_permits_in a db) (defect_of_orders a db) (Some Readers)

-- ---- what a check answers, of tables whose desk has these surroundings

-- what the rule says
abbrev pub FollowsDeskRule : {X : Type 0} → HeldAround → (Around → Trees → X) → Trees → X → Type 0
FollowsDeskRule around rule db told = (a : Around) → Surrounds around a (desk_in db) → told ≡ rule a db

-- the same, if these are the orders and they are good
abbrev pub FollowsDeskRuleWith : {X : Type 0} → HeldAround → List OrderRow → (Around → Trees → X) → Trees → X → Type 0
FollowsDeskRuleWith around orders rule db told =
    (a : Around) → Surrounds around a (desk_in db) → AreOrdersOf db orders → orders_are_bad a (desk_in db) ≡ false → told ≡ rule a db
