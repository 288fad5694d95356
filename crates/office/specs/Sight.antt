-- What can be seen to be wrong with a command by itself, or with the office's day.
use Rattle.std.specs.Prelude.{ℤ, int_lt, None}
use Rattle.catalogue_core.specs.Sources.{is_source}
use Rattle.desk_core.specs.Refusals.{Check, unless}
use Rattle.desk_core.specs.declared.refusal.Refusal.TheVariants.{BadName, DayNotLater}
use Rattle.office_core.specs.Rules.{is_name}
use Rattle.office_core.specs.declared.command.Command.{Command}
use Rattle.office_core.specs.declared.command.Command.TheVariants as command

-- the first check of a command, if it depends on the command alone
abbrev pub name_check : Command → Check
name_check (command.Import source file) = unless (is_source source) BadName
name_check (command.Register name until) = unless (is_name name) BadName
name_check _ = None

-- the first check of a command, if it depends on the office's day
abbrev pub day_check : ℤ → Command → Check
day_check today (command.OpenDay day) = unless (int_lt today day) DayNotLater
day_check today _ = None
