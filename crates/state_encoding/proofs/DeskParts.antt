-- What it means, part by part, that the desk's tables have none of the causes 6 to 9.
use Rattle.std.proofs.Common.{◌≡◌, ℕ, ◌≤◌, Bool, true, false, not, ◌&&◌, List, length, Option, Some, None, refl, sym}
use Rattle.std.proofs.Common.{ap, ◌∙◌}
use Rattle.std.specs.Prelude.{map, nat_eq}
use Rattle.catalogue_core.specs.Sources.{is_between}
use Rattle.state_encoding.proofs.Common.{ContainerRow, IsDayNumber, OfficeRows, OrderRow, PermitRow, ReaderRow, SeatRow}
use Rattle.state_encoding.proofs.Common.{StandsIn, and_parts, are_good_orders, are_good_readers, are_numbered_from}
use Rattle.state_encoding.proofs.Common.{are_twice, around, box_from, count_by, false≢true, int_le, is_container}
use Rattle.state_encoding.proofs.Common.{is_container_there, is_day_number, is_day_number-so, is_good_order}
use Rattle.state_encoding.proofs.Common.{is_good_permit, is_good_reader, is_good_seat, is_name, is_of_the_day}
use Rattle.state_encoding.proofs.Common.{is_registered, is_some, is_ticket, is_unit_there, leb-true, list_all, list_any}
use Rattle.state_encoding.proofs.Common.{most_orders, most_permits, most_tickets, nat_le, not-true, nth, option_map}
use Rattle.state_encoding.proofs.Common.{reader_from, state_of, ◌≤ℤ◌}
use Rattle.state_encoding.proofs.Members.{test_in}
use Rattle.state_encoding.proofs.NumberedRows.{known_numbered, numbered-map}
use Rattle.state_encoding.proofs.DeskLookups.{is_some-map, is_between_so, is_not_later}

pub not_bad : (b : Bool) → not b ≡ false → b ≡ true
not_bad true e = refl
not_bad false e = absurd (false≢true (sym e))

-- ---- readers, seats and permits

pub record PermitParts (t : OfficeRows) (row : PermitRow) : Type 0 where
  pub ticket : is_registered t.desk row.ticket ≡ true
  pub unit : is_unit_there t row.unit ≡ true
  pub day : IsDayNumber row.until
  pub few : count_by (λ (other : PermitRow). nat_eq other.ticket row.ticket) t.desk.permits ≤ most_permits

pub record ReaderParts (t : OfficeRows) : Type 0 where
  pub numbered : are_numbered_from (λ (row : ReaderRow). row.ticket) 1 t.desk.readers ≡ true
  pub few : length t.desk.readers ≤ most_tickets
  pub readers : (row : ReaderRow) → StandsIn row t.desk.readers → (is_name row.name ≡ true) × IsDayNumber row.until
  pub seats : (row : SeatRow) → StandsIn row t.desk.seats
      → (1 ≤ row.seat) × (row.seat ≤ t.office.seats) × (is_registered t.desk row.ticket ≡ true)
  pub permits : (row : PermitRow) → StandsIn row t.desk.permits → PermitParts t row

permit_parts : (t : OfficeRows) (row : PermitRow) → is_good_permit (around t) t.desk row ≡ true → PermitParts t row
permit_parts t row h =
    let a = and_parts (is_registered t.desk row.ticket) _ h in
    let b = and_parts (is_unit_there t row.unit) (is_day_number row.until && nat_le (count_by (λ (other : PermitRow). nat_eq other.ticket row.ticket) t.desk.permits) most_permits) a.1 in
    let c = and_parts (is_day_number row.until) (nat_le (count_by (λ (other : PermitRow). nat_eq other.ticket row.ticket) t.desk.permits) most_permits) b.1 in
    record {
      ticket = a.0;
      unit = b.0;
      day = is_day_number-so row.until c.0;
      few = leb-true (count_by (λ (other : PermitRow). nat_eq other.ticket row.ticket) t.desk.permits) most_permits c.1;
    }

pub reader_parts : (t : OfficeRows) → are_good_readers (around t) t.desk ≡ true → ReaderParts t
reader_parts t h =
    let a = and_parts (are_numbered_from (λ (row : ReaderRow). row.ticket) 1 t.desk.readers) (nat_le (length t.desk.readers) most_tickets && (list_all is_good_reader t.desk.readers && (list_all (is_good_seat (around t) t.desk) t.desk.seats && list_all (is_good_permit (around t) t.desk) t.desk.permits))) h in
    let b = and_parts (nat_le (length t.desk.readers) most_tickets) (list_all is_good_reader t.desk.readers && (list_all (is_good_seat (around t) t.desk) t.desk.seats && list_all (is_good_permit (around t) t.desk) t.desk.permits)) a.1 in
    let c = and_parts (list_all is_good_reader t.desk.readers) (list_all (is_good_seat (around t) t.desk) t.desk.seats && list_all (is_good_permit (around t) t.desk) t.desk.permits) b.1 in
    let d = and_parts (list_all (is_good_seat (around t) t.desk) t.desk.seats) (list_all (is_good_permit (around t) t.desk) t.desk.permits) c.1 in
    record {
      numbered = a.0;
      few = leb-true (length t.desk.readers) most_tickets b.0;
      readers = λ row k. (let e = and_parts (is_name row.name) (is_day_number row.until) (test_in is_good_reader t.desk.readers row c.0 k) in (e.0, is_day_number-so row.until e.1));
      seats = λ row k. (
          let e = and_parts (is_between 1 t.office.seats row.seat) (is_registered t.desk row.ticket) (test_in (is_good_seat (around t) t.desk) t.desk.seats row d.0 k) in
          let w = is_between_so 1 t.office.seats row.seat e.0 in
          (w.0, w.1, e.1));
      permits = λ row k. permit_parts t row (test_in (is_good_permit (around t) t.desk) t.desk.permits row d.1 k);
    }

-- ---- orders

pub record OrderParts (t : OfficeRows) (row : OrderRow) : Type 0 where
  pub ticket : is_registered t.desk row.ticket ≡ true
  pub container : is_container_there t row.container ≡ true
  pub state : (1 ≤ row.state) × (row.state ≤ 4)
  pub is_day : IsDayNumber row.day
  pub day : row.day ≤ℤ t.office.day
  pub daily : count_by (is_of_the_day row) t.desk.orders ≤ t.office.daily
  pub once : list_any (are_twice row) t.desk.orders ≡ false

pub record OrdersParts (t : OfficeRows) : Type 0 where
  pub numbered : are_numbered_from (λ (row : OrderRow). row.id) 1 t.desk.orders ≡ true
  pub few : length t.desk.orders ≤ most_orders
  pub orders : (row : OrderRow) → StandsIn row t.desk.orders → OrderParts t row

order_parts : (t : OfficeRows) (row : OrderRow) → is_good_order (around t) t.desk row ≡ true → OrderParts t row
order_parts t row h =
    let last : Bool = nat_le (count_by (is_of_the_day row) t.desk.orders) t.office.daily && not (list_any (are_twice row) t.desk.orders) in
    let a = and_parts (is_registered t.desk row.ticket) (is_container_there t row.container && (is_between 1 4 row.state && (is_day_number row.day && (int_le row.day t.office.day && last)))) h in
    let b = and_parts (is_container_there t row.container) (is_between 1 4 row.state && (is_day_number row.day && (int_le row.day t.office.day && last))) a.1 in
    let c = and_parts (is_between 1 4 row.state) (is_day_number row.day && (int_le row.day t.office.day && last)) b.1 in
    let d = and_parts (is_day_number row.day) (int_le row.day t.office.day && last) c.1 in
    let e = and_parts (int_le row.day t.office.day) last d.1 in
    let f = and_parts (nat_le (count_by (is_of_the_day row) t.desk.orders) t.office.daily) (not (list_any (are_twice row) t.desk.orders)) e.1 in
    record {
      ticket = a.0;
      container = b.0;
      state = is_between_so 1 4 row.state c.0;
      is_day = is_day_number-so row.day d.0;
      day = is_not_later row.day t.office.day e.0;
      daily = leb-true (count_by (is_of_the_day row) t.desk.orders) t.office.daily f.0;
      once = not-true (list_any (are_twice row) t.desk.orders) f.1;
    }

pub orders_parts : (t : OfficeRows) → are_good_orders (around t) t.desk ≡ true → OrdersParts t
orders_parts t h =
    let a = and_parts (are_numbered_from (λ (row : OrderRow). row.id) 1 t.desk.orders) (nat_le (length t.desk.orders) most_orders && list_all (is_good_order (around t) t.desk) t.desk.orders) h in
    let b = and_parts (nat_le (length t.desk.orders) most_orders) (list_all (is_good_order (around t) t.desk) t.desk.orders) a.1 in
    record { numbered = a.0; few = leb-true (length t.desk.orders) most_orders b.0; orders = λ row k. order_parts t row (test_in (is_good_order (around t) t.desk) t.desk.orders row b.1 k) }

-- ---- what the state of rows knows

pub said_ticket : (t : OfficeRows) (ticket : ℕ)
    → are_numbered_from (λ (row : ReaderRow). row.ticket) 1 t.desk.readers ≡ true
    → is_ticket (state_of t) ticket ≡ is_registered t.desk ticket
said_ticket t ticket h =
    ap is_some (numbered-map reader_from t.desk.readers ticket)
    ∙ (is_some-map reader_from (nth t.desk.readers ticket) ∙ sym (known_numbered (λ (row : ReaderRow). row.ticket) t.desk.readers ticket h))

pub said_container : (t : OfficeRows) (c : ℕ)
    → are_numbered_from (λ (row : ContainerRow). row.id) 1 t.catalogue.containers ≡ true
    → is_container (state_of t) c ≡ is_container_there t c
said_container t c h =
    ap is_some (numbered-map box_from t.catalogue.containers c)
    ∙ (is_some-map box_from (nth t.catalogue.containers c) ∙ sym (known_numbered (λ (row : ContainerRow). row.id) t.catalogue.containers c h))

-- what is numbered among what rows say is said by the row of that number
pub said_by : {R X : Type 0} (f : R → X) (rows : List R) (n : ℕ) (x : X) → nth (map f rows) n ≡ Some x
    → (row : R) × (nth rows n ≡ Some row) × (x ≡ f row)
said_by {R} f rows n x e = at (nth rows n) refl (sym (numbered-map f rows n) ∙ e)
  where
    at : (r : Option R) → nth rows n ≡ r → option_map f r ≡ Some x → (row : R) × (nth rows n ≡ Some row) × (x ≡ f row)
    at None q h = absurd (cc)
    at (Some row) q h = (row, q, cc)
