-- What is seen to be wrong with a command is its first check.
use Rattle.std.proofs.Common.{◌≡◌, true, false, Bool, Some, sym, refl}
use Rattle.desk_core.specs.Refusals.{unless}
use Rattle.desk_core.specs.declared.refusal.Refusal.TheVariants.{BadName, DayNotLater}
use Rattle.catalogue_core.specs.Sources.{is_source}
use Rattle.office_core.specs.State.{State}
use Rattle.office_core.specs.declared.command.Command.TheVariants as command
use Rattle.office.specs.Sight.{day_check, name_check}
use Rattle.office.proofs.Common.{Command, Refusal, int_lt, is_name, refusal}

first : (b : Bool) (fault why : Refusal) → unless b fault ≡ Some why → b ≡ false
first true fault why h = absurd (cc)
first false fault why h = refl

same : (b : Bool) (fault why : Refusal) → unless b fault ≡ Some why → fault ≡ why
same true fault why h = absurd (cc)
same false fault why h = cc

-- either refuses the command
pub name_check_refuses : (s : State) (asked : Command) (why : Refusal) → name_check asked ≡ Some why
    → refusal s asked ≡ Some why
name_check_refuses s (command.Import source file) why h = let no = first (is_source source) BadName why h in rw (no, sym (same (is_source source) BadName why h)) refl
name_check_refuses s (command.Register name until) why h = let no = first (is_name name) BadName why h in rw (no, sym (same (is_name name) BadName why h)) refl
name_check_refuses s _ why h = absurd (cc)

pub day_check_refuses : (s : State) (asked : Command) (why : Refusal) → day_check s.day asked ≡ Some why
    → refusal s asked ≡ Some why
day_check_refuses s (command.OpenDay day) why h = let no = first (int_lt s.day day) DayNotLater why h in rw (no, sym (same (int_lt s.day day) DayNotLater why h)) refl
day_check_refuses s _ why h = absurd (cc)
