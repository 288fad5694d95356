-- Which containers a change would withhold from the readers who have them.
use Rattle.std.specs.Prelude.{◌≡◌, ℕ, ◌≤◌, Bool, true, false, Option, Some, Ok, Err}
use Rattle.isad_core.specs.Limits.{most_deep}
use Rattle.isad_core.specs.Texts.{Bytes}
use Rattle.tree_core.specs.Forest.{has_place}
use Rattle.catalogue_core.specs.UnitLookup.{has_unit}
use Rattle.catalogue_core.specs.Intake.{Intake, is_full}
use Rattle.catalogue_core.specs.Moves.{is_into_itself, depth_after}
use Rattle.catalogue_core.specs.Sources.{is_source}
use Rattle.catalogue_core.specs.Units.{has_id}
use Rattle.desk_core.specs.declared.refusal.Refusal.TheVariants.{WithReader}
use Rattle.office_core.specs.declared.command.Command.{Command}
use Rattle.office_core.specs.declared.command.Command.TheVariants as command
use Rattle.office_core.specs.declared.done.Done.{Done}
use Rattle.office_core.specs.Words.{nth}
use Rattle.desk_core.specs.Decisions.{order_out}
use Rattle.office_core.specs.State.{Order, State, is_ticket, opens, has_permit}
use Rattle.office_core.specs.Rules.{after, intake_of, result_of, step}

-- The container is out with an order, and the state afterwards does not open it to the reader of that order.
pub record WouldBeWithheld (s after : State) (c : ℕ) : Type 0 where
  pub number : ℕ
  pub order : Order
  pub out : order_out (s.place c) ≡ Some number
  pub placed : nth s.orders number ≡ Some order
  pub shut : opens after order.ticket c ≡ false

-- the container would be withheld, and no lower one would
pub record IsLowestWithheld (s after : State) (c : ℕ) : Type 0 where
  pub withheld : WouldBeWithheld s after c
  pub lowest : (d : ℕ) → WouldBeWithheld s after d → c ≤ d

-- a command that changes the catalogue, or takes a permit away
abbrev pub may_withhold : Command → Bool
may_withhold (command.Import source file) = true
may_withhold (command.SetStatus u draft whole) = true
may_withhold (command.SetClosure u until) = true
may_withhold (command.Move u parent) = true
may_withhold (command.Remove u) = true
may_withhold (command.Revoke t u) = true
may_withhold _ = false

-- If such a command is refused because a reader has a container (21), that is the lowest container that it would
-- withhold. If it is accepted, it withholds no container that is out.
pub record AsksForReaders (s : State) (asked : Command) : Type 0 where
  pub refused : (c : ℕ) → (step s asked).1 ≡ Err (WithReader c) → IsLowestWithheld s (after s asked) c
  pub accepted : (result_of : Done) → (step s asked).1 ≡ Ok result_of → (c : ℕ) → WouldBeWithheld s (step s asked).0 c → ⊥

-- any other command is never refused for this reason
abbrev pub AsksForNone : State → Command → Type 0
AsksForNone s asked = (c : ℕ) → (step s asked).1 ≡ Err (WithReader c) → ⊥

-- ---- what else such a command requires

-- The name of the source is good, the file can be taken, and there is room for what it adds.
pub record MayImport (s : State) (source file : Bytes) : Type 0 where
  pub name : is_source source ≡ true
  pub intake : Intake
  pub read : intake_of s source file ≡ Ok intake
  pub room : is_full intake.catalogue ≡ false

-- The unit and the parent exist, the parent is outside the unit's branch, and the branch does not get too deep.
pub record MayMoveUnit (s : State) (u : ℕ) (parent : Option ℕ) : Type 0 where
  pub unit : has_unit s.catalogue.forest u ≡ true
  pub place : has_place has_id parent s.catalogue.forest ≡ true
  pub apart : is_into_itself u parent s.catalogue.forest ≡ false
  pub depth : depth_after u parent s.catalogue.forest ≤ most_deep

-- The ticket and the unit exist, and the ticket has a permit for the unit.
pub record MayRevoke (s : State) (t u : ℕ) : Type 0 where
  pub ticket : is_ticket s t ≡ true
  pub unit : has_unit s.catalogue.forest u ≡ true
  pub permit : has_permit s t u ≡ true

-- what else such a command requires; it is false for all other commands
abbrev pub MayBeDone : State → Command → Type 0
MayBeDone s (command.Import source file) = MayImport s source file
MayBeDone s (command.SetStatus u draft whole) = has_unit s.catalogue.forest u ≡ true
MayBeDone s (command.SetClosure u until) = has_unit s.catalogue.forest u ≡ true
MayBeDone s (command.Move u parent) = MayMoveUnit s u parent
MayBeDone s (command.Remove u) = has_unit s.catalogue.forest u ≡ true
MayBeDone s (command.Revoke t u) = MayRevoke s t u
MayBeDone s _ = ⊥

-- Such a command is then refused because a reader has a container exactly if it would withhold one that is out, and is
-- carried out otherwise.
pub record AsksForReadersAlone (s : State) (asked : Command) : Type 0 where
  pub refused : (c : ℕ) → IsLowestWithheld s (after s asked) c → step s asked ≡ (s, Err (WithReader c))
  pub done : ((c : ℕ) → WouldBeWithheld s (after s asked) c → ⊥) → step s asked ≡ (after s asked, Ok (result_of s asked))
