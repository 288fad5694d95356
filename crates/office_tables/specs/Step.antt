-- What a call does to the transaction that its caller began.
use Rattle.std.specs.Prelude.{◌≡◌, ◌⊎◌, ℕ, true, false, IsTrue, nat_eq, List, [], ◌∷◌, map}
use Rattle.std.specs.List.{list_any}
use Rattle.sqlite.specs.Effect.{Database}
use Rattle.sqlite.specs.Order.{Row}
use Rattle.sqlite.specs.Table.{Table}
use Rattle.sqlite.specs.Tree.{put_row}
use Rattle.sqlite.specs.Edit.{is_taken}
use Rattle.sqlite.specs.State.{State, HasCleanDisk, Survives}
use Rattle.office_tables.specs.Versions.{Version}
use Rattle.office_tables.specs.Faults.{BlamesDisk}
use Rattle.office_tables.specs.Schema.{schema}
use Rattle.office_tables.specs.Schema as tables
use Rattle.office_tables.specs.declared.fault.StoreFault.{StoreFault}

-- while the disk is clean, the connection has our tables, and a transaction is open
abbrev pub InTransaction : Version → State → Type 0
InTransaction version s = HasCleanDisk s → (s.now.schema ≡ schema version) × IsTrue s.in_transaction

-- the same, for either version
abbrev pub InOffice : State → Type 0
InOffice s = HasCleanDisk s → (version : Version) × (s.now.schema ≡ schema version) × IsTrue s.in_transaction

-- while the disk is clean and a transaction is open, the connection has our tables
abbrev pub AreTables : Version → State → Type 0
AreTables version s = HasCleanDisk s → IsTrue s.in_transaction → s.now.schema ≡ schema version

-- the transaction goes on, if one is open, and nothing was committed
pub record GoesOn (old new : State) : Type 0 where
  pub opened : new.is_open ≡ old.is_open
  pub committed : new.committed ≡ old.committed
  pub mode : new.in_transaction ≡ old.in_transaction

-- the transaction has ended, and the database is as the last commit left it, unless the store is shut
pub record IsBack (old new : State) : Type 0 where
  pub was_open : IsTrue new.is_open → IsTrue old.is_open
  pub now : IsTrue new.is_open → new.now ≡ old.committed
  pub committed : IsTrue new.is_open → new.committed ≡ old.committed
  pub ended : new.in_transaction ≡ false

-- The transaction goes on, if one is open. A crash finds what the last commit left.
pub record Continues (old new : State) : Type 0 where
  pub crash : Survives old new (λ _. ⊥)
  pub within : HasCleanDisk new → GoesOn old new

-- What a call that succeeds leaves: the transaction goes on over the same tables.
pub record Goes (old new : State) : Type 0 where
  pub on : Continues old new
  pub schema : HasCleanDisk new → new.now.schema ≡ old.now.schema

-- What a call that fails leaves: the transaction goes on and can be rolled back, or it has been rolled back.
pub record IsAborted (old new : State) : Type 0 where
  pub crash : Survives old new (λ _. ⊥)
  pub aborts : HasCleanDisk new → GoesOn old new ⊎ IsBack old new

-- What a fault spares: the disk is blamed for its own failures only; and the rows are as `Left` says, or the
-- transaction was rolled back.
pub record Spares (Left : Database → Database → Type 0) (old new : State) (e : StoreFault) : Type 0 where
  pub disk : BlamesDisk old new e
  pub rows : Left old.now new.now ⊎ IsBack old new

-- every row is as it was
abbrev pub IsSame : Database → Database → Type 0
IsSame old new = new ≡ old

-- the trees of the tables, in either version
abbrev pub table_trees : List ℕ
table_trees =
    tables.reader.tree ∷ tables.seat.tree ∷ tables.orders.tree ∷ tables.holding.tree ∷ tables.run.tree ∷ tables.run_line.tree ∷ tables.permit.tree
    ∷ tables.office.tree ∷ tables.unit.tree ∷ tables.element.tree ∷ tables.container.tree ∷ tables.housing.tree ∷ tables.link.tree ∷ []

-- only the tables with these trees may have other rows
abbrev pub OnlyTouches : List ℕ → Database → Database → Type 0
OnlyTouches touched old new = (tree : ℕ) → list_any (nat_eq tree) table_trees ≡ true → list_any (nat_eq tree) touched ≡ false → new.trees tree ≡ old.trees tree

-- what a call that reads leaves: the transaction goes on, and no row has changed
pub record LeavesUnchanged (old new : State) : Type 0 where
  pub goes : Goes old new
  pub same : HasCleanDisk new → new.now ≡ old.now

-- the table has these records as its rows
abbrev pub Holds : {A : Type 0} → Table → (A → Row) → State → List A → Type 0
Holds table row s xs = s.now.trees table.tree ≡ map row xs

-- the table with this tree has one more row, whose number was free, and no other table is touched
pub record PutsRow (tree : ℕ) (row : Row) (old new : Database) : Type 0 where
  pub rows : new.trees tree ≡ put_row row (old.trees tree)
  pub fresh : is_taken (old.trees tree) row ≡ false
  pub only : OnlyTouches (tree ∷ []) old new

-- the table with this tree has these rows, and no other table is touched
pub record HasRows (tree : ℕ) (rows : List Row) (old new : Database) : Type 0 where
  pub are : new.trees tree ≡ rows
  pub only : OnlyTouches (tree ∷ []) old new
