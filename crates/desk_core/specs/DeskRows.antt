-- The desk as tables of rows: who has a ticket, who sits where, what was ordered, where the containers are that are not
-- on the shelf, what each run brought, and who has a permit for what is closed.
use Rattle.std.specs.Prelude.{ℕ, ℤ, ◌&&◌, cond, List, map, filter, Option, nat_eq}
use Rattle.isad_core.specs.Texts.{Bytes}

-- ---- readers: one for each ticket that was given

pub record ReaderRow : Type 0 where
  pub ticket : ℕ
  pub name : Bytes
  pub until : ℤ  -- the last day of the ticket

-- ---- seats: one for each that is taken

pub record SeatRow : Type 0 where
  pub seat : ℕ
  pub ticket : ℕ

-- ---- orders

pub record OrderRow : Type 0 where
  pub id : ℕ
  pub ticket : ℕ
  pub container : ℕ
  pub day : ℤ  -- when it was placed
  pub state : ℕ  -- 1 waiting, 2 out, 3 done, 4 cancelled

-- the rows, with another state for one order
abbrev pub with_state : ℕ → ℕ → List OrderRow → List OrderRow
with_state o state rows = map (λ row. cond (nat_eq row.id o) (record row { state = state }) row) rows

-- the orders that wait for a container, by number
abbrev pub waiting_for : ℕ → List OrderRow → List ℕ
waiting_for c rows = map (λ row. row.id) (filter (λ row. nat_eq row.container c && nat_eq row.state 1) rows)

-- ---- holdings: a container on the shelf has none

pub record HoldingRow : Type 0 where
  pub container : ℕ
  pub place : ℕ  -- 1 at the desk, 2 out
  pub held_by : Option ℕ  -- the order that it is out with

-- ---- runs, and what each brought

pub record RunRow : Type 0 where
  pub id : ℕ
  pub day : ℤ

pub record RunLineRow : Type 0 where
  pub run : ℕ
  pub container : ℕ
  pub order_no : ℕ
  pub ticket : ℕ

-- ---- permits: a ticket may see a closed unit, to a day inclusive

pub record PermitRow : Type 0 where
  pub ticket : ℕ
  pub unit : ℕ
  pub until : ℤ

-- ---- all of them

pub record Desk : Type 0 where
  pub readers : List ReaderRow
  pub seats : List SeatRow
  pub orders : List OrderRow
  pub holdings : List HoldingRow
  pub runs : List RunRow
  pub run_lines : List RunLineRow
  pub permits : List PermitRow
