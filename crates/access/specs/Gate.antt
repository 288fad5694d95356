-- The gate, as it is checked over tables.
use Rattle.std.specs.Prelude.{◌≡◌, ℕ, Bool, false, not, List, filter, ◌++◌, Option, Some, None, Ok, Err}
use Rattle.std.specs.Prelude.{option_map, option_to_list, ◌&&◌, nat_eq}
use Rattle.std.specs.List.{last_or, list_any}
use Rattle.tree_core.specs.Forest.{Forest, branch, path}
use Rattle.catalogue_core.specs.ContainerContents.{is_some_there}
use Rattle.visibility.specs.declared.marks.Mark.{Mark}
use Rattle.catalogue_core.specs.CatalogueMerge.{Catalogue}
use Rattle.catalogue_core.specs.UnitMarks.{names_container}
use Rattle.catalogue_core.specs.Units.{Unit, has_id}
use Rattle.known_units.specs.KnownUnits.{KnowsIf}
use Rattle.known_units.specs.UnitChanges.{changed_by}
use Rattle.known_units.specs.declared.changes.UnitChange.{UnitChange}
use Rattle.catalogue_statements.specs.Rows.{HousingRow}
use Rattle.desk_core.specs.declared.refusal.Refusal.{Refusal}
pub use Rattle.desk_store.specs.Holdings.{is_one_of}
use Rattle.desk_store.specs.declared.container_orders.ContainerOrder.{ContainerOrder}
use Rattle.office_core.specs.Rules.{Reply, gate, is_kept_from_holder, lowest_withheld}
use Rattle.office_core.specs.State.{State, opens}
use Rattle.office_core.specs.Words.{first_that}
use Rattle.office_core.specs.declared.done.Done.{Done}

-- the container is not open to the reader who has it
abbrev pub is_closed_to : State → ContainerOrder → Bool
is_closed_to s loan = not (opens s loan.ticket loan.container)

-- the first container of these loans that is not open to the reader who has it
abbrev pub first_closed : State → List ContainerOrder → Option ℕ
first_closed s loans = option_map (λ (loan : ContainerOrder). loan.container) (first_that (is_closed_to s) loans)

-- the refusal if there is one, otherwise what was done
abbrev pub unless_refused : Option Refusal → Done → Reply
unless_refused None done = Ok done
unless_refused (Some why) done = Err why

-- the outcome of a change that led to this state: what was done, unless the gate refuses it
abbrev pub gate_reply : State → Done → Reply
gate_reply s done = unless_refused (gate s) done

-- ---- a change within a branch

abbrev pub names_some : Unit → Bool
names_some unit = is_some_there unit.values.boxes

-- the unit whose containers this one lies in: itself if it names any, otherwise the nearest unit above it that does
abbrev pub nearest : ℕ → Forest Unit → List Unit
nearest u f = option_to_list (last_or None (filter names_some (path (has_id u) f)))

-- The units whose containers hold something of the branch: the units of the branch, and the unit whose containers the
-- first of them lies in.
abbrev pub near : ℕ → Forest Unit → List Unit
near u f = branch (has_id u) f ++ nearest u f

-- one of these units names the container
abbrev pub is_named_near : ℕ → State → ℕ → Bool
is_named_near u s c = list_any (names_container s.catalogue.containers c) (near u s.catalogue.forest)

-- Every container that is out is open to the reader who has it, except perhaps if something of the branch lies in it.
abbrev pub OthersAreOpen : ℕ → State → Type 0
OthersAreOpen u s = (c : ℕ) → is_named_near u s c ≡ false → is_kept_from_holder s c ≡ false

-- The state is that of a catalogue after a change of the unit. If marks are given, they are those of the catalogue before.
pub record IsAfter (change : UnitChange) (u : ℕ) (given : Option (List Mark)) (s : State) : Type 0 where
  pub before : Catalogue
  pub is : s.catalogue ≡ changed_by change u before
  pub known : KnowsIf before given

-- ---- what is read for the gate

-- The first of these loans that is not open to its reader is also the first such loan of all: no other need be checked.
abbrev pub AreEnough : List ContainerOrder → State → Type 0
AreEnough loans s = lowest_withheld s ≡ first_closed s loans

-- `asked` are the loans of the containers in which something of the branch lies, and no others
abbrev pub AreAsked : ℕ → State → List ContainerOrder → List ContainerOrder → Type 0
AreAsked u s loans asked = asked ≡ filter (λ (loan : ContainerOrder). is_named_near u s loan.container) loans

-- these are the containers in which something of the branch lies
abbrev pub AreNear : ℕ → State → List ℕ → Type 0
AreNear u s found = (c : ℕ) → is_one_of c found ≡ is_named_near u s c

-- the row says that the unit names the container
abbrev pub says_so : ℕ → ℕ → HousingRow → Bool
says_so n unit h = nat_eq unit h.unit && nat_eq h.container n

-- these are the containers in which the unit lies
abbrev pub AreAround : ℕ → State → List ℕ → Type 0
AreAround u s found = (c : ℕ) → is_one_of c found ≡ list_any (names_container s.catalogue.containers c) (nearest u s.catalogue.forest)
