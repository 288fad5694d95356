-- The rows of the desk's tables, read cell by cell, whatever the cells are. A row with a cell that its column cannot have cannot
-- be read. Numbers are read first, and then texts.
use Rattle.std.specs.Prelude.{Option, Some}
use Rattle.sqlite.specs.Order.{Row, column}
use Rattle.desk_core.specs.DeskRows.{ReaderRow, SeatRow, OrderRow, HoldingRow, RunRow, RunLineRow, PermitRow}
use Rattle.office_tables.specs.Cells.{whole_in, number_in, text_in, or_null_in, from}

abbrev pub read_reader : Row → Option ReaderRow
read_reader row =
    from (number_in (column row 0)) (λ ticket.
    from (whole_in (column row 3)) (λ until.
    from (text_in (column row 2)) (λ name.
    Some (record { ticket = ticket; name = name; until = until }))))

abbrev pub read_seat : Row → Option SeatRow
read_seat row =
    from (number_in (column row 0)) (λ seat.
    from (number_in (column row 2)) (λ ticket.
    Some (record { seat = seat; ticket = ticket })))

abbrev pub read_order : Row → Option OrderRow
read_order row =
    from (number_in (column row 0)) (λ id.
    from (number_in (column row 2)) (λ ticket.
    from (number_in (column row 3)) (λ container.
    from (whole_in (column row 4)) (λ day.
    from (number_in (column row 5)) (λ state.
    Some (record { id = id; ticket = ticket; container = container; day = day; state = state }))))))

abbrev pub read_holding : Row → Option HoldingRow
read_holding row =
    from (number_in (column row 0)) (λ container.
    from (number_in (column row 3)) (λ place.
    from (or_null_in number_in (column row 2)) (λ held_by.
    Some (record { container = container; place = place; held_by = held_by }))))

abbrev pub read_run : Row → Option RunRow
read_run row =
    from (number_in (column row 0)) (λ id.
    from (whole_in (column row 2)) (λ day.
    Some (record { id = id; day = day })))

abbrev pub read_run_line : Row → Option RunLineRow
read_run_line row =
    from (number_in (column row 1)) (λ run.
    from (number_in (column row 2)) (λ container.
    from (number_in (column row 3)) (λ order_no.
    from (number_in (column row 4)) (λ ticket.
    Some (record { run = run; container = container; order_no = order_no; ticket = ticket })))))

abbrev pub read_permit : Row → Option PermitRow
read_permit row =
    from (number_in (column row 1)) (λ ticket.
    from (number_in (column row 2)) (λ unit.
    from (whole_in (column row 3)) (λ until.
    Some (record { ticket = ticket; unit = unit; until = until }))))
