-- Commands of the reading room, which leave the catalogue's tables and the office's own row as they are.
use Rattle.std.specs.Prelude.{◌≡◌, ℕ, Bool, true, false, List, [], ◌∷◌, OnOk, Result}
use Rattle.sqlite_trees.specs.declared.store.Store as trees
use Rattle.sqlite.specs.Held.{Held, state}
use Rattle.sqlite.specs.State as store
use Rattle.sqlite.specs.State.{HasCleanDisk}
use Rattle.sqlite.specs.Tree.{Trees}
use Rattle.tree_core.specs.Forest.{Forest}
use Rattle.office_tables.specs.Schema as tables
use Rattle.office_tables.specs.Step.{OnlyTouches}
use Rattle.office_tables.specs.Versions.{Version}
use Rattle.office_tables.specs.declared.fault.StoreFault.{StoreFault}
use Rattle.office_core.specs.Rules.{Reply}
use Rattle.office_core.specs.State.{State}
use Rattle.office_core.specs.declared.command.Command.{Command}
use Rattle.office_core.specs.declared.command.Command.TheVariants as command
use Rattle.refinement.specs.CommandSteps.{CarriesOut}

-- the trees of the tables that these commands change
abbrev pub reading_room_trees : List ℕ
reading_room_trees =
    tables.reader.tree ∷ tables.seat.tree ∷ tables.orders.tree ∷ tables.holding.tree ∷ tables.run.tree ∷ tables.run_line.tree
    ∷ tables.permit.tree ∷ []

-- whether the command is one of these
abbrev pub spares_catalogue : Command → Bool
spares_catalogue (command.OpenDay day) = false
spares_catalogue (command.Import source file) = false
spares_catalogue (command.SetStatus unit draft whole) = false
spares_catalogue (command.SetClosure unit until) = false
spares_catalogue (command.Move unit parent) = false
spares_catalogue (command.Remove unit) = false
spares_catalogue _ = true

-- The call carries out the command. If the command is one of these, it touches the tables of the reading room alone, also
-- where it is refused.
pub record CarriesOutSparing (places : Trees → Forest ℕ → Type 0) (version : Version) (known : State → Type 0) (asked : Command) (old new : store.State) (r : Result Reply StoreFault) : Type 0 where
  pub carries : CarriesOut places version known asked old new r
  pub open carries use *
  pub only : spares_catalogue asked ≡ true → HasCleanDisk new → OnOk r (OnlyTouches reading_room_trees old.now new.now)

-- the same of the tables that a call is lent
abbrev pub PerformsSparing : {S : Type 0} → (Trees → Forest ℕ → Type 0) → Version → trees.Ghosts S → (State → Type 0) → Command → Held S → Held S → Result Reply StoreFault → Type 0
PerformsSparing places version g known asked before after r = CarriesOutSparing places version known asked (state g before) (state g after) r
