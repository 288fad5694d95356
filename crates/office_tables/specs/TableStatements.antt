-- What one statement does: what a query answers, which rows a change leaves.
use Rattle.std.specs.Prelude.{List, [], ◌∷◌, map, Result, IfOk, OnOk}
use Rattle.sqlite_trees.specs.declared.store.Store as store
use Rattle.sqlite.specs.Held.{Held, state}
use Rattle.sqlite.specs.Order.{Row}
use Rattle.sqlite.specs.State.{State, HasCleanDisk}
use Rattle.sqlite.specs.Table.{Table}
use Rattle.office_tables.specs.ChangeStatement.{Leaves}
use Rattle.office_tables.specs.Faults.{FaultsHaveCause}
use Rattle.office_tables.specs.Query.{Reads}
use Rattle.office_tables.specs.Step.{Holds, HasRows, OnlyTouches, PutsRow}
use Rattle.office_tables.specs.declared.fault.StoreFault.{StoreFault}

-- A query answers this of what the tables hold, the records of one of them or a whole model, if that is as it needs. It
-- changes no row. If what they hold is within the bounds, every fault has a cause; otherwise it may also be `Schema`.
pub record LooksUp {S M X : Type 0} (g : store.Ghosts S) (holds : State → M → Type 0) (before after : Held S) (r : Result X StoreFault) (needs bounds : M → Type 0) (answer : M → X → Type 0) : Type 0 where
  pub reads : Reads (state g before) (state g after) r
  pub answers : HasCleanDisk (state g after) → (m : M) → holds (state g before) m → needs m → IfOk r (answer m)
  pub faults : (m : M) → holds (state g before) m → bounds m → FaultsHaveCause (state g before) (state g after) r

-- The table has these cells for each record.
module _ {S R X : Type 0} (g : store.Ghosts S) (table : Table) (cells : R → Row) (before after : Held S) (r : Result X StoreFault) where
  abbrev old : State
  old = state g before

  abbrev new : State
  new = state g after

  -- A statement puts one more record into the table. If the others are within the bounds, every fault has a cause.
  pub record Puts (added : R) (bounds : List R → Type 0) : Type 0 where
    pub leaves : Leaves old new r
    pub puts : HasCleanDisk new → OnOk r (PutsRow table.tree (cells added) old.now new.now)
    pub faults : (xs : List R) → Holds table cells old xs → bounds xs → FaultsHaveCause old new r

  -- A statement leaves these records in the table, if they were as it needs, and touches no other table. If they were,
  -- every fault has a cause.
  pub record Changes (needs : List R → Type 0) (left : List R → List R) : Type 0 where
    pub leaves : Leaves old new r
    pub rows : HasCleanDisk new → (xs : List R) → Holds table cells old xs → needs xs → OnOk r (HasRows table.tree (map cells (left xs)) old.now new.now)
    pub only : HasCleanDisk new → OnOk r (OnlyTouches (table.tree ∷ []) old.now new.now)
    pub faults : (xs : List R) → Holds table cells old xs → needs xs → FaultsHaveCause old new r

  -- The same, for a statement that deletes records: every fault has a cause, whatever the rows are.
  pub record Thins (needs : List R → Type 0) (left : List R → List R) : Type 0 where
    pub leaves : Leaves old new r
    pub rows : HasCleanDisk new → (xs : List R) → Holds table cells old xs → needs xs → OnOk r (HasRows table.tree (map cells (left xs)) old.now new.now)
    pub only : HasCleanDisk new → OnOk r (OnlyTouches (table.tree ∷ []) old.now new.now)
    pub faults : FaultsHaveCause old new r
