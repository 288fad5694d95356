-- A whole row of a table of the desk that can be read has the cells of what is read.
use Rattle.std.proofs.Common.{◌≡◌, ℤ, pos, ◌∷◌, Some, refl, ap, ap₂, ◌∙◌}
use Rattle.adoption.proofs.Common.{HoldingRow, Int, OrderRow, PermitRow, ReaderRow, Row, RunLineRow, RunRow, SeatRow}
use Rattle.adoption.proofs.Common.{Value, column, from_first, holding_cells, is_number, is_or_null, is_text, is_whole}
use Rattle.adoption.proofs.Common.{number_in, or_null_in, order_cells, permit_cells, read_holding, read_order}
use Rattle.adoption.proofs.Common.{read_permit, read_reader, read_run, read_run_line, read_seat, reader_cells}
use Rattle.adoption.proofs.Common.{run_cells, run_line_cells, seat_cells, text_in, whole_in, whole_row}
use Rattle.adoption.proofs.catalogue.Rules.{IsKeyed, IsNumbered}

-- a cell, and those behind it
and_then : {v w : Value} {vs ws : Row} → v ≡ w → vs ≡ ws → v ∷ vs ≡ w ∷ ws
and_then e f = ap₂ ◌∷◌ e f

-- ---- by their key

pub reader_is : (row : Row) (r : ReaderRow) → read_reader row ≡ Some r → IsKeyed 4 row → row ≡ reader_cells r
reader_is row r h whole =
    let a = from_first (number_in (column row 0)) _ r h in
    let b = from_first (whole_in (column row 3)) _ r a.2 in
    let c = from_first (text_in (column row 2)) _ r b.2 in
    let made : ReaderRow = record { ticket = a.0; name = c.0; until = b.0 } in
    let same : made ≡ r = cc in
    whole_row 4 row whole.0 ∙ and_then (is_number _ a.0 a.1) (and_then whole.1 (and_then (is_text _ c.0 c.1) (and_then (is_whole _ b.0 b.1) refl))) ∙ ap reader_cells same

-- what is read of a seat
pub record SeatCells (row : Row) (r : SeatRow) : Type 0 where
  pub seat : column row 0 ≡ Int (pos r.seat)
  pub ticket : column row 2 ≡ Int (pos r.ticket)

pub seat_parts : (row : Row) (r : SeatRow) → read_seat row ≡ Some r → SeatCells row r
seat_parts row r h =
    let a = from_first (number_in (column row 0)) _ r h in
    let b = from_first (number_in (column row 2)) _ r a.2 in
    let made : SeatRow = record { seat = a.0; ticket = b.0 } in
    let same : made ≡ r = cc in
    record { seat = is_number _ a.0 a.1 ∙ ap (λ (x : SeatRow). Int (pos x.seat)) same; ticket = is_number _ b.0 b.1 ∙ ap (λ (x : SeatRow). Int (pos x.ticket)) same }

pub seat_is : (row : Row) (r : SeatRow) → read_seat row ≡ Some r → IsKeyed 3 row → row ≡ seat_cells r
seat_is row r h whole = let it = seat_parts row r h in whole_row 3 row whole.0 ∙ and_then it.seat (and_then whole.1 (and_then it.ticket refl))

pub order_is : (row : Row) (r : OrderRow) → read_order row ≡ Some r → IsKeyed 6 row → row ≡ order_cells r
order_is row r h whole =
    let a = from_first (number_in (column row 0)) _ r h in
    let b = from_first (number_in (column row 2)) _ r a.2 in
    let c = from_first (number_in (column row 3)) _ r b.2 in
    let d = from_first (whole_in (column row 4)) _ r c.2 in
    let e = from_first (number_in (column row 5)) _ r d.2 in
    let made : OrderRow = record { id = a.0; ticket = b.0; container = c.0; day = d.0; state = e.0 } in
    let same : made ≡ r = cc in
    whole_row 6 row whole.0
    ∙ and_then (is_number _ a.0 a.1) (and_then whole.1 (and_then (is_number _ b.0 b.1)
    (and_then (is_number _ c.0 c.1) (and_then (is_whole _ d.0 d.1) (and_then (is_number _ e.0 e.1) refl)))))
    ∙ ap order_cells same

pub holding_is : (row : Row) (r : HoldingRow) → read_holding row ≡ Some r → IsKeyed 4 row → row ≡ holding_cells r
holding_is row r h whole =
    let a = from_first (number_in (column row 0)) _ r h in
    let b = from_first (number_in (column row 3)) _ r a.2 in
    let c = from_first (or_null_in number_in (column row 2)) _ r b.2 in
    let made : HoldingRow = record { container = a.0; place = b.0; held_by = c.0 } in
    let same : made ≡ r = cc in
    whole_row 4 row whole.0
    ∙ and_then (is_number _ a.0 a.1) (and_then whole.1 (and_then (is_or_null number_in pos is_number _ c.0 c.1) (and_then (is_number _ b.0 b.1) refl)))
    ∙ ap holding_cells same

pub run_is : (row : Row) (r : RunRow) → read_run row ≡ Some r → IsKeyed 3 row → row ≡ run_cells r
run_is row r h whole =
    let a = from_first (number_in (column row 0)) _ r h in
    let b = from_first (whole_in (column row 2)) _ r a.2 in
    let made : RunRow = record { id = a.0; day = b.0 } in
    let same : made ≡ r = cc in
    whole_row 3 row whole.0 ∙ and_then (is_number _ a.0 a.1) (and_then whole.1 (and_then (is_whole _ b.0 b.1) refl)) ∙ ap run_cells same

-- ---- with a number of their own

-- what is read of a line of a run
pub record LineCells (row : Row) (r : RunLineRow) : Type 0 where
  pub run : column row 1 ≡ Int (pos r.run)
  pub container : column row 2 ≡ Int (pos r.container)
  pub order_no : column row 3 ≡ Int (pos r.order_no)
  pub ticket : column row 4 ≡ Int (pos r.ticket)

pub line_parts : (row : Row) (r : RunLineRow) → read_run_line row ≡ Some r → LineCells row r
line_parts row r h =
    let a = from_first (number_in (column row 1)) _ r h in
    let b = from_first (number_in (column row 2)) _ r a.2 in
    let c = from_first (number_in (column row 3)) _ r b.2 in
    let d = from_first (number_in (column row 4)) _ r c.2 in
    let made : RunLineRow = record { run = a.0; container = b.0; order_no = c.0; ticket = d.0 } in
    let same : made ≡ r = cc in
    record {
      run = is_number _ a.0 a.1 ∙ ap (λ (x : RunLineRow). Int (pos x.run)) same;
      container = is_number _ b.0 b.1 ∙ ap (λ (x : RunLineRow). Int (pos x.container)) same;
      order_no = is_number _ c.0 c.1 ∙ ap (λ (x : RunLineRow). Int (pos x.order_no)) same;
      ticket = is_number _ d.0 d.1 ∙ ap (λ (x : RunLineRow). Int (pos x.ticket)) same;
    }

pub run_line_is : (row : Row) (r : RunLineRow) (n : ℤ) → read_run_line row ≡ Some r → column row 0 ≡ Int n
    → IsNumbered 5 row → row ≡ run_line_cells (n, r)
run_line_is row r n h own whole =
    let it = line_parts row r h in
    whole_row 5 row whole.0 ∙ and_then own (and_then it.run (and_then it.container (and_then it.order_no (and_then it.ticket refl))))

-- what is read of a permit
pub record PermitCells (row : Row) (r : PermitRow) : Type 0 where
  pub ticket : column row 1 ≡ Int (pos r.ticket)
  pub unit : column row 2 ≡ Int (pos r.unit)
  pub until : column row 3 ≡ Int r.until

pub permit_parts : (row : Row) (r : PermitRow) → read_permit row ≡ Some r → PermitCells row r
permit_parts row r h =
    let a = from_first (number_in (column row 1)) _ r h in
    let b = from_first (number_in (column row 2)) _ r a.2 in
    let c = from_first (whole_in (column row 3)) _ r b.2 in
    let made : PermitRow = record { ticket = a.0; unit = b.0; until = c.0 } in
    let same : made ≡ r = cc in
    record {
      ticket = is_number _ a.0 a.1 ∙ ap (λ (x : PermitRow). Int (pos x.ticket)) same;
      unit = is_number _ b.0 b.1 ∙ ap (λ (x : PermitRow). Int (pos x.unit)) same;
      until = is_whole _ c.0 c.1 ∙ ap (λ (x : PermitRow). Int x.until) same;
    }

pub permit_is : (row : Row) (r : PermitRow) (n : ℤ) → read_permit row ≡ Some r → column row 0 ≡ Int n → IsNumbered 4 row
    → row ≡ permit_cells (n, r)
permit_is row r n h own whole =
    let it = permit_parts row r h in
    whole_row 4 row whole.0 ∙ and_then own (and_then it.ticket (and_then it.unit (and_then it.until refl)))
