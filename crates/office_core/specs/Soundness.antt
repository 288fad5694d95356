-- When a whole state is sound: the office's settings and days, its catalogue and its desk.
use Rattle.std.specs.Prelude.{◌≡◌, ℕ, Bool, true, ◌&&◌, length, nat_eq}
use Rattle.std.specs.List.{list_all, AllByRecursion}
use Rattle.isad_core.specs.Texts.{Bytes}
use Rattle.isad_core.specs.Days.{IsDayNumber}
use Rattle.isad_core.specs.Limits.{most_daily, most_hands, most_run_size, most_seats}
use Rattle.tree_core.specs.Forest.{nodes}
use Rattle.office_core.specs.declared.command.Command.{Command}
use Rattle.office_core.specs.declared.command.Command.TheVariants as command
use Rattle.office_core.specs.State.{Settings, State}
use Rattle.catalogue_core.specs.UnitLookup.{has_unit}
use Rattle.catalogue_core.specs.Sources.{is_between}
use Rattle.office_core.specs.SoundDesk.{IsSoundDesk}
use Rattle.catalogue_core.specs.GoodCatalogues.{IsSomeDay, AreGoodUnits, AreGoodContainers}

-- ---- settings

-- two capital letters
abbrev pub is_country : Bytes → Bool
is_country country = nat_eq (length country) 2 && list_all (is_between 65 90) country

-- 1 to 32 visible ASCII bytes
abbrev pub is_repository : Bytes → Bool
is_repository repo = is_between 1 32 (length repo) && list_all (is_between 33 126) repo

pub record AreGoodSettings (settings : Settings) : Type 0 where
  pub country : is_country settings.country ≡ true
  pub repo : is_repository settings.repo ≡ true
  pub seats : is_between 1 most_seats settings.seats ≡ true
  pub daily : is_between 1 most_daily settings.daily ≡ true
  pub hands : is_between 1 most_hands settings.hands ≡ true
  pub run_size : is_between 1 most_run_size settings.run_size ≡ true

pub record AreGoodDays (s : State) : Type 0 where
  pub today : IsDayNumber s.day
  pub readers : AllByRecursion (λ reader. IsDayNumber reader.until) s.readers
  pub orders : AllByRecursion (λ order. IsDayNumber order.day) s.orders
  pub runs : AllByRecursion (λ run. IsDayNumber run.day) s.runs
  pub permits : (t : ℕ) → AllByRecursion (λ permit. IsDayNumber permit.until) (s.permits t)
  pub closures : AllByRecursion (λ unit. IsSomeDay unit.until) (nodes s.catalogue.forest)

-- ---- permits

-- the permits are for units that exist
abbrev pub ArePermitsOfUnits : State → Type 0
ArePermitsOfUnits s = (t : ℕ) → AllByRecursion (λ permit. has_unit s.catalogue.forest permit.unit ≡ true) (s.permits t)

-- ---- all of it

pub record IsSound (s : State) : Type 0 where
  pub settings : AreGoodSettings s.settings
  pub days : AreGoodDays s
  pub units : AreGoodUnits s.catalogue
  pub containers : AreGoodContainers s.catalogue
  pub permits : ArePermitsOfUnits s
  pub desk : IsSoundDesk s

-- ---- commands

-- the days that a command names are days of the calendar, as every `Day` is
abbrev pub NamesDays : Command → Type 0
NamesDays (command.OpenDay day) = IsDayNumber day
NamesDays (command.SetClosure u until) = IsSomeDay until
NamesDays (command.Register name until) = IsDayNumber until
NamesDays (command.Renew t until) = IsDayNumber until
NamesDays (command.Permit t u until) = IsDayNumber until
NamesDays _ = Prim.Unit {0}
