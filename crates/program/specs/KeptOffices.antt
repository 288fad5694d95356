-- What a crash finds of an office over nested sets, once a failure of the disk has shut it.
use Rattle.std.specs.Prelude.{◌≡◌, ◌⊎◌, IsTrue, false, List, [], ◌∷◌}
use Rattle.sqlite.specs.Held.{Held, state}
use Rattle.sqlite.specs.Tree.{Trees}
use Rattle.sqlite_trees.specs.declared.store.Store.{Ghosts}
use Rattle.office_tables.specs.Versions.{Second}
use Rattle.nested_sets.specs.Representation.{RepresentsSpanRows}
use Rattle.office_core.specs.Rules.{step}
use Rattle.office_core.specs.State.{State}
use Rattle.office_core.specs.declared.command.Command.{Command}
use Rattle.office_tables.specs.Schema.{schema}
use Rattle.refinement.specs.Representation.{RepresentsState}

-- the tables are those of an office that is in this state
abbrev pub AreTablesOf : State → Trees → Type 0
AreTablesOf s db = RepresentsState RepresentsSpanRows Second (record { schema = schema Second; trees = db }) s

-- They are so of this state, or of the state after one such command.
abbrev pub AreTablesAfter : (Command → Type 0) → State → Trees → Type 0
AreTablesAfter Such s db = AreTablesOf s db ⊎ ((asked : Command) × Such asked × AreTablesOf (step s asked).0 db)

-- the command is one of these
abbrev pub IsAmong : List Command → Command → Type 0
IsAmong [] command = ⊥
IsAmong (first ∷ others) command = (command ≡ first) ⊎ IsAmong others command

module _ {S : Type 0} (g : Ghosts S) where
  -- a crash finds what was committed last, as long as the store is open
  abbrev pub KeepsCommits : Type 0
  KeepsCommits = (store : S) → IsTrue (g.view store).is_open → (db : Trees) → g.recovers store db → db ≡ (g.view store).committed

  -- If a failure of the disk has shut its connection, a crash finds this state, or that after one of these commands.
  abbrev pub IsRecovered : Held S → List Command → State → Type 0
  IsRecovered office asked s = (state g office).is_open ≡ false → (db : Trees) → (state g office).may_leave db
      → AreTablesAfter (IsAmong asked) s db
