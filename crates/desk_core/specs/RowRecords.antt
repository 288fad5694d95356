-- The desk's rows as they were read, and what they are checked against, as the records that the definitions of the
-- desk's causes use.
use Rattle.std.specs.Prelude.{◌≡◌, ℕ, true, length, nat_eq}
use Rattle.std.specs.List.{list_any}
use Rattle.isad_core.specs.Words.{are_numbered_from}
use Rattle.desk_core.specs.DeskCauses as causes
use Rattle.desk_core.specs.DeskRows as desk
use Rattle.desk_core.specs.declared.consistency.context.Around.{Around}
use Rattle.desk_core.specs.declared.consistency.rows.HoldingRow.{HoldingRow}
use Rattle.desk_core.specs.declared.consistency.rows.OrderRow.{OrderRow}
use Rattle.desk_core.specs.declared.consistency.rows.PermitRow.{PermitRow}
use Rattle.desk_core.specs.declared.consistency.rows.RunLineRow.{RunLineRow}
use Rattle.desk_core.specs.declared.consistency.rows.RunRow.{RunRow}
use Rattle.desk_core.specs.declared.consistency.rows.SeatRow.{SeatRow}

-- ---- rows

abbrev pub seat_record : SeatRow → desk.SeatRow
seat_record row = record { seat = row.seat; ticket = row.ticket }

abbrev pub order_record : OrderRow → desk.OrderRow
order_record row = record { id = row.id; ticket = row.ticket; container = row.container; day = row.day; state = row.state }

abbrev pub holding_record : HoldingRow → desk.HoldingRow
holding_record row = record { container = row.container; place = row.place; held_by = row.held_by }

abbrev pub run_record : RunRow → desk.RunRow
run_record row = record { id = row.id; day = row.day }

abbrev pub run_line_record : RunLineRow → desk.RunLineRow
run_line_record row = record { run = row.run; container = row.container; order_no = row.order_no; ticket = row.ticket }

abbrev pub permit_record : PermitRow → desk.PermitRow
permit_record row = record { ticket = row.ticket; unit = row.unit; until = row.until }

-- ---- what they are held against

-- It has the same settings, day, units, containers and number of readers. The readers have the tickets from 1 on.
pub record Surrounds (s : Around) (a : causes.Around) (d : desk.Desk) : Type 0 where
  pub seats : a.seats ≡ s.seats
  pub daily : a.daily ≡ s.daily
  pub run_size : a.run_size ≡ s.run_size
  pub day : a.day ≡ s.day
  pub units : (n : ℕ) → a.is_unit n ≡ list_any (nat_eq n) s.units
  pub containers : (n : ℕ) → a.is_container n ≡ list_any (nat_eq n) s.containers
  pub tickets : are_numbered_from (λ (row : desk.ReaderRow). row.ticket) 1 d.readers ≡ true
  pub readers : length d.readers ≡ s.readers
