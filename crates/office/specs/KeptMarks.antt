-- The marks of all units that an office keeps in memory, and when they are those of its tables.
use Rattle.std.specs.Prelude.{◌≡◌, ℕ, Bool, true, false, IsOk, IsTrue, List, None, Option, Ok, Err, Result}
use Rattle.sqlite.specs.Effect.{Database}
use Rattle.sqlite.specs.State as store
use Rattle.sqlite.specs.State.{HasCleanDisk}
use Rattle.sqlite.specs.Tree.{Trees}
use Rattle.tree_core.specs.Forest.{Forest}
use Rattle.visibility.specs.declared.marks.Mark.{Mark}
use Rattle.catalogue_core.specs.CatalogueMerge.{Catalogue}
use Rattle.known_units.specs.KnownUnits.{TellOf}
use Rattle.office_tables.specs.Versions.{Version}
use Rattle.catalogue_statements.specs.Representation.{Represents}
use Rattle.catalogue_statements.specs.declared.office.OfficeRow.{OfficeRow}
use Rattle.office_core.specs.Rules.{Reply as Answered, step}
use Rattle.office_core.specs.SoundOffice.{IsSoundOffice}
use Rattle.office_core.specs.State.{State}
use Rattle.office_core.specs.declared.command.Command.{Command}
use Rattle.office_core.specs.declared.command.Command.TheVariants as command
use Rattle.office_core.specs.declared.machine.Reply.{Reply}
use Rattle.office_tables.specs.declared.fault.StoreFault.{StoreFault}
use Rattle.desk_commands.specs.SparedCatalogue.{spares_catalogue}
use Rattle.office.specs.IdleOffice.{IsIn}
use Rattle.refinement.specs.Representation.{office_of}

-- if marks are kept, they are those of each catalogue that the tables represent
abbrev pub AreOfTables : (Trees → Forest ℕ → Type 0) → Version → Database → Option (List Mark) → Type 0
AreOfTables places version db kept = (row : OfficeRow) (c : Catalogue) → Represents places version db row c → TellOf c kept

-- the same of the tables of a connection, unless a failure of the disk has shut it
abbrev pub AreKept : (Trees → Forest ℕ → Type 0) → Version → store.State → Option (List Mark) → Type 0
AreKept places version at kept = HasCleanDisk at → IsTrue at.is_open → AreOfTables places version at.now kept

-- the same of the tables that a call is lent
abbrev pub AreOfLent : (Trees → Forest ℕ → Type 0) → Version → store.State → Option (List Mark) → Type 0
AreOfLent places version at kept = HasCleanDisk at → AreOfTables places version at.now kept

-- whether a command asks who may have which container, which the marks of all units decide
abbrev pub asks_access : Command → Bool
asks_access (command.Order ticket container) = true
asks_access command.Run = true
asks_access (command.Issue container ticket) = true
asks_access (command.Revoke ticket unit) = true
asks_access _ = false

-- What is kept after a command was accepted that may have changed the catalogue: nothing; or, if the tables are known
-- to be a sound office's, the marks of the units after the command.
abbrev pub FollowsChange : Bool → Command → Option (List Mark) → Option (List Mark) → Type 0
FollowsChange false asked old new = new ≡ None
FollowsChange true asked old new =
    (s : State) → IsSoundOffice s → IsOk (step s asked).1 → TellOf s.catalogue old → TellOf (step s asked).0.catalogue new

-- what is kept after a command with this reply: a refusal, and a command of the reading room, leave it as it is
abbrev pub FollowsReply : Bool → Bool → Command → Answered → Option (List Mark) → Option (List Mark) → Type 0
FollowsReply sound spares asked (Err why) old new = new ≡ old
FollowsReply sound true asked (Ok done) old new = new ≡ old
FollowsReply sound false asked (Ok done) old new = FollowsChange sound asked old new

-- the same with this outcome: a fault leaves it as it is
abbrev pub Follows : Bool → Command → Result Reply StoreFault → Option (List Mark) → Option (List Mark) → Type 0
Follows sound asked (Err fault) old new = new ≡ old
Follows sound asked (Ok reply) old new = FollowsReply sound (spares_catalogue asked) asked reply.done old new

-- rows represent one forest of units at most
abbrev pub TellOne : (Trees → Forest ℕ → Type 0) → Type 0
TellOne places = (db : Trees) (f g : Forest ℕ) → places db f → places db g → f ≡ g

-- the tables of a connection are a sound office's, and no other's
pub record AreSound (places : Trees → Forest ℕ → Type 0) (version : Version) (at : store.State) : Type 0 where
  pub one : TellOne places
  pub shows : HasCleanDisk at → (s : State) × (IsSoundOffice s × IsIn places version s at)

-- the same, if it is noted
abbrev pub AreSoundIf : Bool → (Trees → Forest ℕ → Type 0) → Version → store.State → Type 0
AreSoundIf sound places version at = IsTrue sound → AreSound places version at

-- the kept marks are those of this state's units, and its row is known
pub record KnowsKept (row : OfficeRow) (kept : Option (List Mark)) (s : State) : Type 0 where
  pub office : row ≡ office_of s
  pub marks : TellOf s.catalogue kept
