-- What an office begins with.
use Rattle.std.specs.Prelude.{◌≡◌, ℤ, Option, Some, None, Result, Ok, Err}
use Rattle.isad_core.specs.Days.{IsDayNumber}
use Rattle.office_core.specs.State.{Settings, State, start}
use Rattle.office_core.specs.Soundness.{AreGoodSettings}
use Rattle.office_core.specs.SettingsFaults.{WrongSetting, wrong_setting, Country, Repo, Seats, Daily, Hands, RunSize}
use Rattle.office.specs.declared.settings.SettingsFault.{SettingsFault}
use Rattle.office.specs.declared.settings.SettingsFault.TheVariants as fault

-- the settings of an office, and its first day
pub record Founding : Type 0 where
  pub settings : Settings
  pub day : ℤ

-- they are within their limits
pub record IsGood (founding : Founding) : Type 0 where
  pub settings : AreGoodSettings founding.settings
  pub day : IsDayNumber founding.day

-- the new office
abbrev pub founded : Founding → State
founded founding = start founding.settings founding.day

abbrev pub settings_fault : WrongSetting → SettingsFault
settings_fault Country = fault.Country
settings_fault Repo = fault.Repo
settings_fault Seats = fault.Seats
settings_fault Daily = fault.Daily
settings_fault Hands = fault.Hands
settings_fault RunSize = fault.Run

-- a wrong setting is named; otherwise the settings are accepted, if there is enough memory
abbrev pub IsTaken : Founding → Option WrongSetting → Result Founding SettingsFault → Type 0
IsTaken founding (Some wrong) r = r ≡ Err (settings_fault wrong)
IsTaken founding None (Ok taken) = taken ≡ founding
IsTaken founding None (Err e) = e ≡ fault.Memory

-- the first wrong setting is named; without one the settings are accepted, if there is enough memory
abbrev pub AreTaken : Founding → Result Founding SettingsFault → Type 0
AreTaken founding r = IsTaken founding (wrong_setting founding.settings) r
