-- What is judged of the rows of a table holds of the table.
use Rattle.std.proofs.Common.{◌≡◌, ℕ, pos, List, length, Bool, true, false, not, ◌&&◌, ◌||◌, Option, Some, None}
use Rattle.std.proofs.Common.{filter_map, refl, ap, ap₂, ◌∙◌}
use Rattle.desk_core.specs.DeskCauses as causes
use Rattle.desk_core.specs.DeskRows.{OrderRow}
use Rattle.desk_core.specs.declared.consistency.context.Around.{Around}
use Rattle.office_tables.specs.Schema as tables
use Rattle.row_decoding.specs.TableRows.{by}
use Rattle.integrity_checks.proofs.Common.{Alike, AreOrdersOf, AreRead, Desk, HoldingRow, Int, PermitRow, ReaderRow}
use Rattle.integrity_checks.proofs.Common.{Row, RunLineRow, RunRow, SeatRow, Surrounds, Trees, are_good_holdings}
use Rattle.integrity_checks.proofs.Common.{are_good_orders, are_good_runs, are_numbered_from, by_rowid, column}
use Rattle.integrity_checks.proofs.Common.{count_by, desk_in, from_first, good_holdings_in, good_permits_in}
use Rattle.integrity_checks.proofs.Common.{good_runs_in, good_seats_in, has_unread, in_any_order, in_order}
use Rattle.integrity_checks.proofs.Common.{is_good_permit, is_good_seat, is_number, keyed_alike, list_all, number_in}
use Rattle.integrity_checks.proofs.Common.{orders_are_bad, orders_are_defective, read_by_number, read_holding}
use Rattle.integrity_checks.proofs.Common.{read_order, read_permit, read_run, read_run_line, read_seat, whole_in}
use Rattle.integrity_checks.proofs.DesksAlike.{seats_alike, permits_alike, orders_alike, holdings_alike, runs_alike}

-- ---- what is read of a table

pub alike_of : {X : Type 0} {comes : _} {read : Row → Option X} {table : List Row} {rows : List X} {all : Bool} (before : X → X → Bool)
    → AreRead comes read table rows all → Alike rows (in_order before (filter_map read table))
alike_of {read} {table} before it p = ap (count_by p) it.are ∙ keyed_alike read before table it.stored it.same p

numbered_of : {X : Type 0} {read : Row → Option X} {table : List Row} {rows : List X} {all : Bool} (number : X → ℕ)
    → ((row : Row) (x : X) → read row ≡ Some x → column row 0 ≡ Int (pos (number x)))
    → AreRead by_rowid read table rows all → has_unread read table ≡ false
    → are_numbered_from number 1 rows ≡ are_numbered_from number 1 (in_order (by number) (filter_map read table))
numbered_of {read} {table} number keyed it none =
    ap (are_numbered_from number 1) it.are ∙ read_by_number read number keyed table it.stored it.same it.sorted none

abbrev id_of : OrderRow → ℕ
id_of row = row.id

order_keyed : (row : Row) (x : OrderRow) → read_order row ≡ Some x → column row 0 ≡ Int (pos x.id)
order_keyed row x h =
    let a = from_first (number_in (column row 0)) _ x h in
    let b = from_first (number_in (column row 2)) _ x a.2 in
    let c = from_first (number_in (column row 3)) _ x b.2 in
    let d = from_first (whole_in (column row 4)) _ x c.2 in
    let e = from_first (number_in (column row 5)) _ x d.2 in
    let made : a.0 ≡ x.id = ap (λ (o : Option OrderRow). id_or o) e.2 in
    is_number (column row 0) a.0 a.1 ∙ ap (λ n. Int (pos n)) made
  where
    id_or : Option OrderRow → ℕ
    id_or None = 0
    id_or (Some order) = order.id

run_keyed : (row : Row) (x : RunRow) → read_run row ≡ Some x → column row 0 ≡ Int (pos x.id)
run_keyed row x h =
    let a = from_first (number_in (column row 0)) _ x h in
    let b = from_first (whole_in (column row 2)) _ x a.2 in
    let made : a.0 ≡ x.id = ap (λ (o : Option RunRow). id_or o) b.2 in
    is_number (column row 0) a.0 a.1 ∙ ap (λ n. Int (pos n)) made
  where
    id_or : Option RunRow → ℕ
    id_or None = 0
    id_or (Some run) = run.id

-- ---- what is read, and is good

none_unread : (u : Bool) → true ≡ not u → u ≡ false
none_unread true h = h
none_unread false h = refl

both : (u good whole : Bool) → (u ≡ false → good ≡ whole) → (not u && good) ≡ not (u || not whole)
both true good whole is = refl
both false good true is = is refl
both false good false is = is refl

both_of_two : (u v good whole : Bool) → (u ≡ false → v ≡ false → good ≡ whole)
    → ((not u && not v) && good) ≡ not ((u || v) || not whole)
both_of_two true v good whole is = refl
both_of_two false true good whole is = refl
both_of_two false false good true is = is refl refl
both_of_two false false good false is = is refl refl

same_readers : (s : Around) (a : causes.Around) (d e : Desk) → e.readers ≡ d.readers → Surrounds s a d → Surrounds s a e
same_readers s a d e same it = record {
  seats = it.seats;
  daily = it.daily;
  run_size = it.run_size;
  day = it.day;
  units = it.units;
  containers = it.containers;
  tickets = ap (λ (rs : List ReaderRow). are_numbered_from (λ (row : ReaderRow). row.ticket) 1 rs) same ∙ it.tickets;
  readers = ap length same ∙ it.readers;
}

module _ (s : Around) (a : causes.Around) (db : Trees) (held : Surrounds s a (desk_in db)) where
  abbrev d : Desk
  d = desk_in db

  -- held against the same, with other rows
  module _ (e : Desk) (same : e.readers ≡ d.readers) where
    beside : Surrounds s a e
    beside = same_readers s a d e same held

  pub seats_judged : (seats : List SeatRow) (are_read good : Bool)
      → AreRead in_any_order read_seat (db tables.seat.tree) seats are_read
      → ((b : causes.Around) (e : Desk) → Surrounds s b e → e.seats ≡ seats → good ≡ list_all (is_good_seat b e) e.seats)
      → (are_read && good) ≡ good_seats_in a db
  seats_judged seats are_read good it is =
      let e = record d { seats = seats } in
      ap₂ ◌&&◌ it.all (is a e (beside e refl) refl ∙ seats_alike a d seats (alike_of _ it))

  pub permits_judged : (permits : List PermitRow) (are_read good : Bool)
      → AreRead in_any_order read_permit (db tables.permit.tree) permits are_read
      → ((b : causes.Around) (e : Desk) → Surrounds s b e → e.permits ≡ permits → good ≡ list_all (is_good_permit b e) e.permits)
      → (are_read && good) ≡ good_permits_in a db
  permits_judged permits are_read good it is =
      let e = record d { permits = permits } in
      ap₂ ◌&&◌ it.all (is a e (beside e refl) refl ∙ permits_alike a d permits (alike_of _ it))

  pub orders_judged : (orders : List OrderRow) (are_read good : Bool)
      → AreRead by_rowid read_order (db tables.orders.tree) orders are_read
      → ((b : causes.Around) (e : Desk) → Surrounds s b e → e.orders ≡ orders → good ≡ are_good_orders b e)
      → (are_read && good) ≡ not (orders_are_defective a db)
  orders_judged orders are_read good it is =
      let e = record d { orders = orders } in
      ap (λ b. b && good) it.all ∙ both (has_unread read_order (db tables.orders.tree)) good (are_good_orders a d)
      (λ none. is a e (beside e refl) refl ∙ orders_alike a d orders (alike_of _ it) (numbered_of id_of order_keyed it none))

  module _ (orders : List OrderRow) (are : AreOrdersOf db orders) (fine : orders_are_bad a d ≡ false) where
    abbrev alike : Alike orders d.orders
    alike = alike_of _ are

    still_fine : orders_are_bad a (record d { orders = orders }) ≡ false
    still_fine = ap not (orders_alike a d orders alike (numbered_of id_of order_keyed are (none_unread _ are.all))) ∙ fine

    pub holdings_judged : (holdings : List HoldingRow) (are_read good : Bool)
        → AreRead in_any_order read_holding (db tables.holding.tree) holdings are_read
        → ((b : causes.Around) (e : Desk) → Surrounds s b e → e.orders ≡ orders → e.holdings ≡ holdings → orders_are_bad b e ≡ false → good ≡ are_good_holdings b e)
        → (are_read && good) ≡ good_holdings_in a db
    holdings_judged holdings are_read good it is =
        let e = record d { orders = orders; holdings = holdings } in
        ap (λ b. b && good) it.all ∙ both (has_unread read_holding (db tables.holding.tree)) good (are_good_holdings a d)
        (λ none. is a e (beside e refl) refl refl still_fine ∙ holdings_alike a d orders alike holdings (alike_of _ it))

    pub runs_judged : (runs : List RunRow) (lines : List RunLineRow) (are_read are_read_too good : Bool)
        → AreRead by_rowid read_run (db tables.run.tree) runs are_read
        → AreRead in_any_order read_run_line (db tables.run_line.tree) lines are_read_too
        → ((b : causes.Around) (e : Desk) → Surrounds s b e → e.orders ≡ orders → e.runs ≡ runs → e.run_lines ≡ lines → orders_are_bad b e ≡ false → good ≡ are_good_runs b e)
        → ((are_read && are_read_too) && good) ≡ good_runs_in a db
    runs_judged runs lines are_read are_read_too good it too is =
        let e = record d { orders = orders; runs = runs; run_lines = lines } in
        ap₂ (λ b c. (b && c) && good) it.all too.all ∙ both_of_two (has_unread read_run (db tables.run.tree)) (has_unread read_run_line (db tables.run_line.tree)) good (are_good_runs a d)
        (λ none none_too. is a e (beside e refl) refl refl refl still_fine
        ∙ runs_alike a d orders alike runs lines (alike_of _ it) (alike_of _ too) (numbered_of (λ (row : RunRow). row.id) run_keyed it none))
