-- What a call gives that examines rows of any origin.
use Rattle.std.specs.Prelude.{Result, IfOk}
use Rattle.sqlite_trees.specs.declared.store.Store as store
use Rattle.sqlite.specs.Held.{Held, state}
use Rattle.sqlite.specs.State.{HasCleanDisk}
use Rattle.sqlite.specs.Tree.{Trees}
use Rattle.office_tables.specs.Faults.{FaultsHaveCause}
use Rattle.office_tables.specs.Query.{Reads}
use Rattle.office_tables.specs.declared.fault.StoreFault.{StoreFault}

-- The call changes nothing, and answers this of the rows of the tables, whatever their cells are. Every fault has a
-- cause.
pub record Examines {S X : Type 0} (g : store.Ghosts S) (before after : Held S) (r : Result X StoreFault) (answer : Trees → X → Type 0) : Type 0 where
  pub reads : Reads (state g before) (state g after) r
  pub answers : HasCleanDisk (state g after) → IfOk r (answer (state g before).now.trees)
  pub faults : FaultsHaveCause (state g before) (state g after) r
