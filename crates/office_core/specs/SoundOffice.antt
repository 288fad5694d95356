-- When an office is sound with its texts: its state is sound, and every text that it stores is UTF-8.
use Rattle.std.specs.Prelude.{◌≡◌, ◌<◌, ◌^◌, true, IsUtf8}
use Rattle.std.specs.List.{AllByRecursion}
use Rattle.isad_core.specs.Days.{is_day_number}
use Rattle.catalogue_core.specs.LegibleCatalogues.{IsLegibleCatalogue}
use Rattle.office_core.specs.declared.command.Command.{Command}
use Rattle.office_core.specs.declared.command.Command.TheVariants as command
use Rattle.office_core.specs.State.{State}
use Rattle.office_core.specs.Soundness.{IsSound}

pub record AreTexts (s : State) : Type 0 where
  pub country : IsUtf8 s.settings.country
  pub repo : IsUtf8 s.settings.repo
  pub catalogue : IsLegibleCatalogue s.catalogue
  pub readers : AllByRecursion (λ reader. IsUtf8 reader.name) s.readers

pub record IsSoundOffice (s : State) : Type 0 where
  pub sound : IsSound s
  pub texts : AreTexts s

-- A reader's name in a command is UTF-8. A source is ASCII, and a file that is not UTF-8 is not taken.
abbrev pub NamesTexts : Command → Type 0
NamesTexts (command.Register name until) = IsUtf8 name
NamesTexts _ = Prim.Unit {0}

-- the settings and the day can be read back from the office's own row: the texts are UTF-8, the numbers fit their
-- types, and the day is one of the calendar
pub record HasLegibleSettings (s : State) : Type 0 where
  pub country : IsUtf8 s.settings.country
  pub repo : IsUtf8 s.settings.repo
  pub seats : s.settings.seats < 2 ^ 32
  pub daily : s.settings.daily < 2 ^ 32
  pub hands : s.settings.hands < 2 ^ 32
  pub run_size : s.settings.run_size < 2 ^ 32
  pub day : is_day_number s.day ≡ true
