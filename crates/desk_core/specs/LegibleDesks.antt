-- What a table can give back of a desk: names that are UTF-8, days of the calendar, and valid seats, states and places.
use Rattle.std.specs.Prelude.{◌≡◌, ◌⊎◌, ℕ, ◌≤◌, ◌<◌, ◌^◌, Option, Some, None, IsUtf8, true}
use Rattle.std.specs.List.{AllByRecursion}
use Rattle.isad_core.specs.Days.{is_day_number}
use Rattle.isad_core.specs.Limits.{IsNumber}
use Rattle.desk_core.specs.DeskRows.{Desk, ReaderRow, SeatRow, OrderRow, HoldingRow, RunRow, PermitRow}

pub record IsLegibleReader (r : ReaderRow) : Type 0 where
  pub name : IsUtf8 r.name
  pub until : is_day_number r.until ≡ true

-- a state from 1 to 4
pub record IsLegibleOrder (o : OrderRow) : Type 0 where
  pub day : is_day_number o.day ≡ true
  pub some_state : 1 ≤ o.state
  pub state : o.state ≤ 4

-- at the desk, or out; out only with an order
abbrev pub IsKnownPlace : ℕ → Option ℕ → Type 0
IsKnownPlace place None = place ≡ 1
IsKnownPlace place (Some order) = (place ≡ 1) ⊎ (place ≡ 2)

-- the container's number is one that a table can store, and its place is a valid one
pub record IsLegibleHolding (h : HoldingRow) : Type 0 where
  pub number : IsNumber h.container
  pub place : IsKnownPlace h.place h.held_by

pub record IsLegible (d : Desk) : Type 0 where
  pub readers : AllByRecursion IsLegibleReader d.readers
  pub seats : AllByRecursion (λ (s : SeatRow). s.seat < 2 ^ 32) d.seats
  pub orders : AllByRecursion IsLegibleOrder d.orders
  pub holdings : AllByRecursion IsLegibleHolding d.holdings
  pub runs : AllByRecursion (λ (r : RunRow). is_day_number r.day ≡ true) d.runs
  pub permits : AllByRecursion (λ (p : PermitRow). is_day_number p.until ≡ true) d.permits
