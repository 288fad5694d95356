-- Which task the matches of the words name.
use Rattle.std.specs.Prelude.{◌≡◌, ◌≢◌, ◌⊎◌, ◌&&◌, Bool, true, false, List, Option, Some, None, codes}
use Rattle.clap.specs.Walk.{Row, Text, first_of}
use Rattle.office_core.specs.SettingsFaults.{wrong_setting}
use Rattle.office.specs.InitialSettings.{Founding}
use Rattle.office.specs.Soundness.{is_country, is_repository}
use Rattle.command_line.specs.OptionValues.{IsDay, IsOptionNumber, IsValue}
use Rattle.office.specs.declared.settings.SettingsFault.{SettingsFault}
use Rattle.office.specs.declared.settings.SettingsFault.TheVariants as wrong
use Rattle.program.specs.declared.tasks.Task.{Task}
use Rattle.program.specs.declared.tasks.Task.TheVariants.{Preview, Init, Trial, Import, Talk, Serve, Check, Migrate}
use Rattle.program.specs.declared.tasks.TaskFault.{TaskFault}
use Rattle.program.specs.declared.tasks.TaskFault.TheVariants as fault
use Rattle.program.specs.declared.tasks.TaskFault.TheVariants.{Memory, Words}

-- these are the values of the settings' options
pub record AreGiven (rows : List Row) (founding : Founding) : Type 0 where
  pub country : IsValue rows (codes "country") founding.settings.country
  pub repo : IsValue rows (codes "repo") founding.settings.repo
  pub seats : IsOptionNumber rows (codes "seats") founding.settings.seats
  pub daily : IsOptionNumber rows (codes "daily") founding.settings.daily
  pub hands : IsOptionNumber rows (codes "hands") founding.settings.hands
  pub run_size : IsOptionNumber rows (codes "run") founding.settings.run_size
  pub day : IsDay rows (codes "day") (Some founding.day)

-- these are the codes of a country and of a repository
abbrev pub are_codes : Text → Text → Bool
are_codes country repo = is_country country && is_repository repo

-- the command has that name, and the task's values are those of its matches
abbrev pub IsTask : Text → List Row → Task → Type 0
IsTask name rows (Preview country repo from) =
    (name ≡ codes "preview")
    × IsValue rows (codes "country") country
    × IsValue rows (codes "repo") repo
    × (are_codes country repo ≡ true)
    × (first_of (codes "FILE") rows ≡ from)
IsTask name rows (Init store founding) =
    (name ≡ codes "init") × IsValue rows (codes "store") store × AreGiven rows founding
IsTask name rows (Trial founding) = (name ≡ codes "trial") × AreGiven rows founding
IsTask name rows (Import store source from) =
    (name ≡ codes "import")
    × IsValue rows (codes "store") store
    × IsValue rows (codes "source") source
    × IsValue rows (codes "FILE") from
IsTask name rows (Talk store) = (name ≡ codes "talk") × IsValue rows (codes "store") store
IsTask name rows (Serve store port connections) =
    (name ≡ codes "serve")
    × IsValue rows (codes "store") store
    × IsOptionNumber rows (codes "port") port
    × IsOptionNumber rows (codes "connections") connections
IsTask name rows (Check store) = (name ≡ codes "check") × IsValue rows (codes "store") store
IsTask name rows (Migrate store) = (name ≡ codes "migrate") × IsValue rows (codes "store") store

-- the task is the one that the matches name
abbrev pub IsTaskOf : Option (Text × List Row) → Task → Type 0
IsTaskOf None task = ⊥
IsTaskOf (Some m) task = IsTask m.0 m.1 task

-- ---- values that are refused

abbrev pub fault_of_settings : SettingsFault → TaskFault
fault_of_settings wrong.Memory = fault.Memory
fault_of_settings _ = fault.Settings

-- The text of the day is not a day from 1900-01-01 to 9999-12-31; or it is, but a setting is not within its limits.
abbrev pub AreRefused : List Row → TaskFault → Type 0
AreRefused rows fault.Memory = Unit {0}
AreRefused rows (fault.Words text) = ⊥
AreRefused rows fault.Date = IsDay rows (codes "day") None
AreRefused rows fault.Settings =
    (founding : Founding) × AreGiven rows founding × (wrong_setting founding.settings ≢ None)

-- the codes of a preview are not a country's and a repository's
abbrev pub AreNoCodes : List Row → TaskFault → Type 0
AreNoCodes rows fault.Memory = Unit {0}
AreNoCodes rows (fault.Words text) = ⊥
AreNoCodes rows fault.Date = ⊥
AreNoCodes rows fault.Settings =
    (country repo : Text) × IsValue rows (codes "country") country × IsValue rows (codes "repo") repo
    × (are_codes country repo ≡ false)

-- the command takes the settings of an office
abbrev pub TakesSettings : Text → Type 0
TakesSettings name = (name ≡ codes "init") ⊎ (name ≡ codes "trial")

-- the words name a command whose values are refused with this fault: `preview` for its codes, `init` and `trial` for
-- their settings and their day
abbrev pub IsRefusedIn : Option (Text × List Row) → TaskFault → Type 0
IsRefusedIn None why = ⊥
IsRefusedIn (Some m) why = ((m.0 ≡ codes "preview") × AreNoCodes m.1 why) ⊎ (TakesSettings m.0 × AreRefused m.1 why)

abbrev pub AreRefusedFor : Option (Text × List Row) → TaskFault → Type 0
AreRefusedFor m fault.Memory = Unit {0}
AreRefusedFor m (fault.Words text) = Unit {0}
AreRefusedFor m fault.Date = IsRefusedIn m fault.Date
AreRefusedFor m fault.Settings = IsRefusedIn m fault.Settings

abbrev pub IsWords : TaskFault → Type 0
IsWords Memory = ⊥
IsWords (Words text) = Unit {0}
IsWords fault.Date = ⊥
IsWords fault.Settings = ⊥
