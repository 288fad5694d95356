-- Rows with a cell that its column cannot have, and the cause of each. All texts here are UTF-8: lemmas cover the other
-- texts.
use Rattle.std.specs.Prelude.{◌≡◌, ℕ, ℤ, pos, neg_ℤ, Bool, true, false, cond, [], ◌∷◌, Option, Some, codes, nat_eq}
use Rattle.sqlite.specs.declared.types.Value.{Value}
use Rattle.sqlite.specs.declared.types.Value.TheVariants.{Null, Int, Text}
use Rattle.sqlite.specs.Order.{Row}
use Rattle.sqlite.specs.Tree.{Trees}
use Rattle.office_tables.specs.Versions.{First, Second}
use Rattle.office_core.specs.Words.{nth}
use Rattle.office_tables.specs.Schema as tables
use Rattle.state_encoding.specs.CellCauses.{unread, cell_cause}

-- ---- tables

-- a file with one row, in the table with this number
abbrev pub only_row : ℕ → Row → Trees
only_row tree row = λ other. cond (nat_eq other tree) (row ∷ []) []

-- whether this cause has a row that cannot be read, in a file with only this row
abbrev pub is_unread : ℕ → ℕ → Row → Option Bool
is_unread cause tree row = nth (unread First (only_row tree row)) cause

abbrev pub is_unread_span : Row → Option Bool
is_unread_span row = nth (unread Second (only_row tables.span.tree row)) 2

abbrev pub text : Value
text = Text (codes "a")

-- the row of an office with this number, this version, these seats and this day
abbrev pub office_with_cells : ℤ → ℤ → Value → Value → Row
office_with_cells one version seats day =
    Int one ∷ Null ∷ Int version ∷ Text (codes "GB") ∷ Text (codes "0999") ∷ seats ∷ Int (pos 2) ∷ Int (pos 1) ∷ Int (pos 2) ∷ day ∷ Int (pos 2) ∷ []

abbrev pub minus : ℕ → Value
minus n = Int (neg_ℤ (pos n))

-- the row of unit 1 with this draft cell and this end of its closure
abbrev pub unit_with_cells : Value → Value → Row
unit_with_cells draft until = Int (pos 1) ∷ Null ∷ text ∷ text ∷ text ∷ until ∷ draft ∷ []

-- ---- their causes

pub record CellCausesTold : Type 0 where
  -- the office
  pub second_office : cell_cause First (only_row tables.office.tree (office_with_cells (pos 2) (pos 1) (Int (pos 2)) (Int (pos 20000)))) ≡ Some 1
  pub version_below_0 : cell_cause First (only_row tables.office.tree (office_with_cells (pos 1) (neg_ℤ (pos 7)) (Int (pos 2)) (Int (pos 20000)))) ≡ Some 1
  pub seats_below_0 : cell_cause First (only_row tables.office.tree (office_with_cells (pos 1) (pos 1) (minus 1) (Int (pos 20000)))) ≡ Some 1
  pub no_day : cell_cause Second (only_row tables.office.tree (office_with_cells (pos 1) (pos 2) (Int (pos 2)) Null)) ≡ Some 1
  -- the places
  pub place_below_0 : is_unread 2 tables.link.tree (minus 1 ∷ Null ∷ Null ∷ Int (pos 1) ∷ []) ≡ Some true
  pub parent_below_0 : is_unread 2 tables.link.tree (Int (pos 1) ∷ Null ∷ minus 1 ∷ Int (pos 1) ∷ []) ≡ Some true
  pub ord_below_0 : is_unread 2 tables.link.tree (Int (pos 1) ∷ Null ∷ Null ∷ minus 1 ∷ []) ≡ Some true
  pub top : is_unread 2 tables.link.tree (Int (pos 1) ∷ Null ∷ Null ∷ Int (pos 1) ∷ []) ≡ Some false
  pub span_below_0 : is_unread_span (minus 1 ∷ Null ∷ Int (pos 1) ∷ Int (pos 2) ∷ []) ≡ Some true
  pub lft_below_0 : is_unread_span (Int (pos 1) ∷ Null ∷ minus 1 ∷ Int (pos 2) ∷ []) ≡ Some true
  pub no_lft : is_unread_span (Int (pos 1) ∷ Null ∷ Null ∷ Int (pos 2) ∷ []) ≡ Some true
  pub no_rgt : is_unread_span (Int (pos 1) ∷ Null ∷ Int (pos 1) ∷ Null ∷ []) ≡ Some true
  pub span : is_unread_span (Int (pos 1) ∷ Null ∷ Int (pos 1) ∷ Int (pos 2) ∷ []) ≡ Some false
  -- the units
  pub draft_2 : is_unread 3 tables.unit.tree (unit_with_cells (Int (pos 2)) Null) ≡ Some true
  pub draft_below_0 : is_unread 3 tables.unit.tree (unit_with_cells (minus 1) Null) ≡ Some true
  pub until_a_text : is_unread 3 tables.unit.tree (unit_with_cells (Int (pos 1)) text) ≡ Some true
  -- the elements
  pub k_below_0 : is_unread 4 tables.element.tree (Int (pos 1) ∷ Int (pos 1) ∷ minus 2 ∷ text ∷ []) ≡ Some true
  pub no_value : is_unread 4 tables.element.tree (Int (pos 1) ∷ Int (pos 1) ∷ Int (pos 2) ∷ Null ∷ []) ≡ Some true
  -- the containers
  pub container_below_0 : is_unread 5 tables.container.tree (minus 1 ∷ Null ∷ text ∷ text ∷ text ∷ []) ≡ Some true
  pub no_name : is_unread 5 tables.container.tree (Int (pos 1) ∷ Null ∷ Null ∷ text ∷ text ∷ []) ≡ Some true
  pub housed_below_0 : is_unread 5 tables.housing.tree (Int (pos 1) ∷ Int (pos 1) ∷ Int (pos 1) ∷ minus 1 ∷ []) ≡ Some true
  -- the readers
  pub ticket_below_0 : is_unread 6 tables.reader.tree (minus 1 ∷ Null ∷ text ∷ Int (pos 20000) ∷ []) ≡ Some true
  pub seat_below_0 : is_unread 6 tables.seat.tree (minus 1 ∷ Null ∷ Int (pos 1) ∷ []) ≡ Some true
  pub nobody_sits : is_unread 6 tables.seat.tree (Int (pos 1) ∷ Null ∷ Null ∷ []) ≡ Some true
  pub sits : is_unread 6 tables.seat.tree (Int (pos 1) ∷ Null ∷ Int (pos 1) ∷ []) ≡ Some false
  pub permit_for_no_unit : is_unread 6 tables.permit.tree (Int (pos 1) ∷ Int (pos 1) ∷ minus 1 ∷ Int (pos 20000) ∷ []) ≡ Some true
  -- the orders
  pub state_below_0 : is_unread 7 tables.orders.tree (Int (pos 1) ∷ Null ∷ Int (pos 1) ∷ Int (pos 1) ∷ Int (pos 20000) ∷ minus 1 ∷ []) ≡ Some true
  pub day_below_0 : is_unread 7 tables.orders.tree (Int (pos 1) ∷ Null ∷ Int (pos 1) ∷ Int (pos 1) ∷ minus 400 ∷ Int (pos 1) ∷ []) ≡ Some false
  -- where the containers are
  pub no_place : is_unread 8 tables.holding.tree (Int (pos 1) ∷ Null ∷ Null ∷ Null ∷ []) ≡ Some true
  pub held_by_minus_1 : is_unread 8 tables.holding.tree (Int (pos 1) ∷ Null ∷ minus 1 ∷ Int (pos 2) ∷ []) ≡ Some true
  pub at_the_desk : is_unread 8 tables.holding.tree (Int (pos 1) ∷ Null ∷ Null ∷ Int (pos 1) ∷ []) ≡ Some false
  -- the runs
  pub run_below_0 : is_unread 9 tables.run.tree (minus 1 ∷ Null ∷ Int (pos 20000) ∷ []) ≡ Some true
  pub line_of_order_minus_1 : is_unread 9 tables.run_line.tree (Int (pos 1) ∷ Int (pos 1) ∷ Int (pos 1) ∷ minus 1 ∷ Int (pos 1) ∷ []) ≡ Some true
