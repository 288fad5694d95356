-- That no container is with two readers, said of the rows that other programs see.
use Rattle.std.specs.Prelude.{◌≡◌, List, map}
use Rattle.sqlite.specs.Tree.{Trees}
use Rattle.tree_core.specs.Members.{StandsIn}
use Rattle.desk_core.specs.DeskRows.{HoldingRow, OrderRow}
use Rattle.desk_store.specs.Rows.{holding_cells, order_cells}
use Rattle.office_tables.specs.Schema as tables

-- of two orders that are out, one container is named only by one
abbrev pub AreOrdersApart : List OrderRow → Type 0
AreOrdersApart rows = (one other : OrderRow) → StandsIn one rows → StandsIn other rows → one.state ≡ 2
    → other.state ≡ 2 → one.container ≡ other.container → one ≡ other

-- of two places of containers, each with the order that holds it, one container is named only by one
abbrev pub ArePlacesApart : List HoldingRow → Type 0
ArePlacesApart rows = (one other : HoldingRow) → StandsIn one rows → StandsIn other rows
    → one.container ≡ other.container → one ≡ other

-- the table of orders and that of the places of containers have such rows, and no others
pub record HasRowsApart (db : Trees) : Type 0 where
  pub orders : (rows : List OrderRow) × (db tables.orders.tree ≡ map order_cells rows) × AreOrdersApart rows
  pub places : (rows : List HoldingRow) × (db tables.holding.tree ≡ map holding_cells rows) × ArePlacesApart rows
