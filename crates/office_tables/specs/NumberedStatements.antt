-- What one statement does to a table whose rows have numbers of their own, which have no meaning.
use Rattle.std.specs.Prelude.{ℤ, List, [], ◌∷◌, Result, OnOk}
use Rattle.sqlite_trees.specs.declared.store.Store as store
use Rattle.sqlite.specs.Edit.{next_rowid}
use Rattle.sqlite.specs.Held.{Held, state}
use Rattle.sqlite.specs.Order.{Row}
use Rattle.sqlite.specs.State.{State, HasCleanDisk}
use Rattle.sqlite.specs.Table.{Table}
use Rattle.office_tables.specs.ChangeStatement.{Leaves}
use Rattle.office_tables.specs.Faults.{FaultsHaveCause}
use Rattle.office_tables.specs.RowNumbers.{HoldsNumbered}
use Rattle.office_tables.specs.Step.{OnlyTouches, PutsRow}
use Rattle.office_tables.specs.declared.fault.StoreFault.{StoreFault}

-- The table has these cells for each record and its number.
module _ {S R X : Type 0} (g : store.Ghosts S) (table : Table) (cells : ℤ × R → Row) (before after : Held S) (r : Result X StoreFault) where
  abbrev old : State
  old = state g before

  abbrev new : State
  new = state g after

  -- A statement puts one more record into the table, under the next number. If these tables and the other
  -- records are within the bounds, every fault has a cause.
  pub record PutsNumbered (added : R) (bounds : State → List R → Type 0) : Type 0 where
    pub leaves : Leaves old new r
    pub puts : HasCleanDisk new → OnOk r (PutsRow table.tree (cells (next_rowid (old.now.trees table.tree), added)) old.now new.now)
    pub faults : (xs : List R) → HoldsNumbered table cells old xs → bounds old xs → FaultsHaveCause old new r

  -- A statement deletes records: it leaves these in the table, and touches no other table. Every fault has a cause, whatever
  -- the rows are.
  pub record ThinsNumbered (left : List R → List R) : Type 0 where
    pub leaves : Leaves old new r
    pub rows : HasCleanDisk new → (xs : List R) → HoldsNumbered table cells old xs → OnOk r (HoldsNumbered table cells new (left xs))
    pub only : HasCleanDisk new → OnOk r (OnlyTouches (table.tree ∷ []) old.now new.now)
    pub faults : FaultsHaveCause old new r
