-- The limits of an office in numbers, and that a command is refused (23) exactly if there is no more room.
use Rattle.std.specs.Prelude.{◌≡◌, ℕ, ℤ, ◌+◌, ◌<◌, ◌≤◌, true, false, nat_le, length, None, Some, codes}
use Rattle.isad_core.specs.Days.{day_text}
use Rattle.isad_core.specs.Limits.{first_day, last_day, most_units, most_unit_numbers, most_deep, most_bytes, most_rows}
use Rattle.isad_core.specs.Limits.{most_source_bytes, most_containers, most_name_bytes, most_seats, most_daily}
use Rattle.isad_core.specs.Limits.{most_hands, most_run_size, most_tickets, most_permits, most_orders, most_runs}
use Rattle.isad_core.specs.Limits.{most_connections}
use Rattle.isad_core.specs.Texts.{Bytes}
use Rattle.atom_csv.specs.FileContents.{is_late}
use Rattle.tree_core.specs.Forest.{size}
use Rattle.catalogue_core.specs.UnitLookup.{has_unit}
use Rattle.catalogue_core.specs.Intake.{is_full}
use Rattle.catalogue_core.specs.CatalogueMerge.{Catalogue}
use Rattle.desk_core.specs.Names.{is_name}
use Rattle.desk_core.specs.Refusals.{when}
use Rattle.desk_core.specs.declared.refusal.Refusal.TheVariants.{UnknownUnit, DailyLimit, Full, NothingToMove, BadName}
use Rattle.office_core.specs.declared.command.Command.TheVariants.{Register, Order, Run, Permit}
use Rattle.office_core.specs.Words.{is_empty}
use Rattle.office_core.specs.State.{Settings, State, is_ticket, is_expired, opens, has_ordered, orders_placed}
use Rattle.office_core.specs.State.{orders_of_run, has_permit}
use Rattle.office_core.specs.Rules.{refusal}
use Rattle.office_core.specs.Soundness.{AreGoodSettings}

-- the numbers of the limits
pub record HasItsLimits : Type 0 where
  pub units : most_units ≡ 200000
  pub unit_numbers : most_unit_numbers ≡ 100000000
  pub containers : most_containers ≡ 100000
  pub seats : most_seats ≡ 200
  pub daily : most_daily ≡ 50
  pub hands : most_hands ≡ 10
  pub run_size : most_run_size ≡ 100
  pub tickets : most_tickets ≡ 1000000
  pub orders : most_orders ≡ 10000000
  pub runs : most_runs ≡ 1000000
  pub permits : most_permits ≡ 100
  pub deep : most_deep ≡ 64
  pub bytes : most_bytes ≡ 65535
  pub name_bytes : most_name_bytes ≡ 100
  pub source_bytes : most_source_bytes ≡ 64
  pub connections : most_connections ≡ 10000
  pub rows : most_rows ≡ 20000
  -- the header is row 1
  pub last_row : is_late 20001 ≡ false
  pub late_row : is_late 20002 ≡ true
  pub first_day : day_text first_day ≡ codes "1900-01-01"
  pub last_day : day_text last_day ≡ codes "9999-12-31"

-- a seat, an order a day, a container in hand and one in a run at least, and as many as the limits allow
pub record AreItsSettings (settings : Settings) : Type 0 where
  pub seats : (1 ≤ settings.seats) × (settings.seats ≤ most_seats)
  pub daily : (1 ≤ settings.daily) × (settings.daily ≤ most_daily)
  pub hands : (1 ≤ settings.hands) × (settings.hands ≤ most_hands)
  pub run_size : (1 ≤ settings.run_size) × (settings.run_size ≤ most_run_size)

pub record HasItsSettings : Type 0 where
  pub only : (settings : Settings) → AreGoodSettings settings → AreItsSettings settings
  pub all : (settings : Settings) → AreItsSettings settings →
      AreGoodSettings (record settings { country = codes "GB"; repo = codes "0999" })

-- ---- when there is no more room

-- a catalogue is too large if it has too many units, a unit number above the limit was given in it, or it has too many
-- containers
pub record IsFullExactly : Type 0 where
  pub room : (c : Catalogue) → size c.forest ≤ most_units → c.next ≤ most_unit_numbers + 1 → length c.containers ≤ most_containers → is_full c ≡ false
  pub units : (c : Catalogue) → most_units < size c.forest → is_full c ≡ true
  pub numbers : (c : Catalogue) → most_unit_numbers + 1 < c.next → is_full c ≡ true
  pub containers : (c : Catalogue) → most_containers < length c.containers → is_full c ≡ true

-- A reader with a good name is refused a ticket exactly if all were given. A bad name is refused first.
pub record RefusesTickets (s : State) : Type 0 where
  pub full : (name : Bytes) (until : ℤ) → is_name name ≡ true → refusal s (Register name until) ≡ when (nat_le most_tickets (length s.readers)) Full
  pub bad_name : (name : Bytes) (until : ℤ) → is_name name ≡ false → refusal s (Register name until) ≡ Some BadName

-- If there is something to fetch, a run is refused exactly if all were made. That there is nothing to fetch is checked
-- first.
pub record RefusesRuns (s : State) : Type 0 where
  pub full : is_empty (orders_of_run s) ≡ false → refusal s Run ≡ when (nat_le most_runs (length s.runs)) Full
  pub nothing : is_empty (orders_of_run s) ≡ true → refusal s Run ≡ Some NothingToMove

-- A ticket that may order a container is refused exactly if all orders were placed that there may be. Its daily limit is
-- checked first.
pub record RefusesOrders (s : State) (t c : ℕ) : Type 0 where
  pub full : orders_placed s t s.day < s.settings.daily → refusal s (Order t c) ≡ when (nat_le most_orders (length s.orders)) Full
  pub day : s.settings.daily ≤ orders_placed s t s.day → refusal s (Order t c) ≡ Some DailyLimit

-- A ticket is refused a new permit exactly if it has as many as it may. A permit for a unit that it has one for is never
-- refused. That the unit is unknown is checked first.
pub record RefusesPermits (s : State) (t : ℕ) : Type 0 where
  pub full : (u : ℕ) (until : ℤ) → has_unit s.catalogue.forest u ≡ true → has_permit s t u ≡ false → refusal s (Permit t u until) ≡ when (nat_le most_permits (length (s.permits t))) Full
  pub later : (u : ℕ) (until : ℤ) → has_unit s.catalogue.forest u ≡ true → has_permit s t u ≡ true → refusal s (Permit t u until) ≡ None
  pub unknown : (u : ℕ) (until : ℤ) → has_unit s.catalogue.forest u ≡ false → refusal s (Permit t u until) ≡ Some UnknownUnit

-- the ticket exists and has not expired, the container is open to its reader, and no order of the ticket for it waits
-- or is out
pub record MayOrder (s : State) (t c : ℕ) : Type 0 where
  pub ticket : is_ticket s t ≡ true
  pub valid : is_expired s t ≡ false
  pub available : opens s t c ≡ true
  pub not_yet : has_ordered s t c ≡ false

pub record RefusesWhereFull (s : State) : Type 0 where
  pub tickets : RefusesTickets s
  pub runs : RefusesRuns s
  pub orders : (t c : ℕ) → MayOrder s t c → RefusesOrders s t c
  pub permits : (t : ℕ) → is_ticket s t ≡ true → RefusesPermits s t
