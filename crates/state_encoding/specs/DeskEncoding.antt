-- The rows of the desk's tables that represent a state, and what is read back from rows.
use Rattle.std.specs.Prelude.{◌≡◌, ℕ, suc, ◌++◌, Ok, cond, List, [], ◌∷◌, map, filter_map, length, Option, Some, None}
use Rattle.std.specs.Prelude.{option_and_then, unwrap_or, nat_eq}
use Rattle.std.specs.List.{flat_map}
use Rattle.desk_core.specs.declared.reader.Place.{Place}
use Rattle.desk_core.specs.declared.reader.Place.TheVariants.{Shelf, Desk, Out}
use Rattle.desk_core.specs.DeskRows.{ReaderRow, SeatRow, OrderRow, with_state, waiting_for, HoldingRow, RunRow}
use Rattle.desk_core.specs.DeskRows.{RunLineRow, PermitRow}
use Rattle.office_core.specs.declared.command.Command.TheVariants as command
use Rattle.office_core.specs.declared.done.Done.TheVariants as done
use Rattle.office_core.specs.Words.{nth, numbers_to}
use Rattle.office_core.specs.State.{Permit, State, Reader, Order, Line, Run, End, Done, Cancelled, containers}
use Rattle.office_core.specs.Rules.{step}
use Rattle.office_core.specs.Laws.{Standing, Waiting, WithItsReader, Ended, standing}

-- the rows for the items of a list, each with its number, the first with n
abbrev pub rows_from : {X Y : Type 0} → (ℕ → X → Y) → ℕ → List X → List Y
rows_from row n [] = []
rows_from row n (x ∷ xs) = row n x ∷ rows_from row (suc n) xs

-- ---- reader

abbrev pub reader_row : ℕ → Reader → ReaderRow
reader_row t reader = record { ticket = t; name = reader.name; until = reader.until }

abbrev pub reader_rows : State → List ReaderRow
reader_rows s = rows_from reader_row 1 s.readers

-- ---- seat: a row for each that is taken

abbrev pub seat_rows_from : ℕ → List (Option ℕ) → List SeatRow
seat_rows_from n [] = []
seat_rows_from n (None ∷ seats) = seat_rows_from (suc n) seats
seat_rows_from n (Some t ∷ seats) = record { seat = n; ticket = t } ∷ seat_rows_from (suc n) seats

abbrev pub seat_rows : State → List SeatRow
seat_rows s = seat_rows_from 1 s.seats

-- ---- orders

-- 1 waiting, 2 out, 3 done, 4 cancelled
abbrev pub state_number : Option Standing → ℕ
state_number None = 0
state_number (Some Waiting) = 1
state_number (Some WithItsReader) = 2
state_number (Some (Ended Done)) = 3
state_number (Some (Ended Cancelled)) = 4

abbrev pub order_row : State → ℕ → Order → OrderRow
order_row s o order =
    record { id = o; ticket = order.ticket; container = order.container; day = order.day; state = state_number (standing s o) }

abbrev pub order_rows : State → List OrderRow
order_rows s = rows_from (order_row s) 1 s.orders

-- ---- holding: a container on the shelf has no row

-- 1 at the desk, 2 out
abbrev pub holding_row : ℕ → Place → Option HoldingRow
holding_row c Shelf = None
holding_row c Desk = Some (record { container = c; place = 1; held_by = None })
holding_row c (Out o) = Some (record { container = c; place = 2; held_by = Some o })

abbrev pub holding_rows : State → List HoldingRow
holding_rows s = filter_map (λ c. holding_row c (s.place c)) (containers s)

-- ---- run and run_line

abbrev pub run_row : ℕ → Run → RunRow
run_row n run = record { id = n; day = run.day }

abbrev pub run_rows : State → List RunRow
run_rows s = rows_from run_row 1 s.runs

abbrev pub run_line_row : ℕ → Line → RunLineRow
run_line_row n line = record { run = n; container = line.container; order_no = line.order; ticket = line.ticket }

abbrev pub lines_from : ℕ → List Run → List RunLineRow
lines_from n [] = []
lines_from n (run ∷ runs) = map (run_line_row n) run.lines ++ lines_from (suc n) runs

abbrev pub run_line_rows : State → List RunLineRow
run_line_rows s = lines_from 1 s.runs

-- ---- permit

abbrev pub permit_row : ℕ → Permit → PermitRow
permit_row t permit = record { ticket = t; unit = permit.unit; until = permit.until }

abbrev pub permit_rows : State → List PermitRow
permit_rows s = flat_map (λ t. map (permit_row t) (s.permits t)) (numbers_to (length s.readers))

-- ---- what is read back

abbrev pub reader_from : ReaderRow → Reader
reader_from row = record { name = row.name; until = row.until }

abbrev pub order_from : OrderRow → Order
order_from row = record { ticket = row.ticket; container = row.container; day = row.day }

abbrev pub place_from : HoldingRow → Place
place_from row = cond (nat_eq row.place 1) Desk (Out (unwrap_or row.held_by 0))

abbrev pub place_in : List HoldingRow → ℕ → Place
place_in [] c = Shelf
place_in (row ∷ rows) c = cond (nat_eq row.container c) (place_from row) (place_in rows c)

abbrev pub end_of_state : ℕ → Option End
end_of_state state = cond (nat_eq state 3) (Some Done) (cond (nat_eq state 4) (Some Cancelled) None)

abbrev pub past_in : List OrderRow → ℕ → Option End
past_in rows o = option_and_then (λ row. end_of_state row.state) (nth rows o)

-- The rows contain the readers, the orders, where each container is, who waits for it, and how each order ended.
pub record ReadsBack (s : State) : Type 0 where
  pub readers : map reader_from (reader_rows s) ≡ s.readers
  pub orders : map order_from (order_rows s) ≡ s.orders
  pub places : (λ c. place_in (holding_rows s) c) ≡ s.place
  pub queues : (λ c. waiting_for c (order_rows s)) ≡ s.queue
  pub past : (λ o. past_in (order_rows s) o) ≡ s.past

-- ---- what commands do to the rows of orders

-- an accepted Issue sets the row of the order in its reply to out, and changes no other row of orders
pub record OneRowChanges (s : State) : Type 0 where
  pub issue : (c t o : ℕ) → (step s (command.Issue c t)).1 ≡ Ok (done.Issue o) → order_rows (step s (command.Issue c t)).0 ≡ with_state o 2 (order_rows s)
