-- Which setting is wrong.
use Rattle.std.specs.Prelude.{Bool, true, false, List, [], ◌∷◌, Option, Some, None}
use Rattle.isad_core.specs.Limits.{most_daily, most_hands, most_run_size, most_seats}
use Rattle.catalogue_core.specs.Sources.{is_between}
use Rattle.office_core.specs.Soundness.{is_country, is_repository}
use Rattle.office_core.specs.State.{Settings}

pub data WrongSetting : Type 0 where
  Country : WrongSetting
  Repo : WrongSetting
  Seats : WrongSetting
  Daily : WrongSetting
  Hands : WrongSetting
  RunSize : WrongSetting

-- each setting with its test, in the order in which they are named
abbrev pub settings_tests : Settings → List (Bool × WrongSetting)
settings_tests settings =
    (is_country settings.country, Country)
    ∷ (is_repository settings.repo, Repo)
    ∷ (is_between 1 most_seats settings.seats, Seats)
    ∷ (is_between 1 most_daily settings.daily, Daily)
    ∷ (is_between 1 most_hands settings.hands, Hands)
    ∷ (is_between 1 most_run_size settings.run_size, RunSize)
    ∷ []

-- the first that fails its test
abbrev pub first_failed : List (Bool × WrongSetting) → Option WrongSetting
first_failed [] = None
first_failed ((true, setting) ∷ tests) = first_failed tests
first_failed ((false, setting) ∷ tests) = Some setting

-- the first setting that is wrong
abbrev pub wrong_setting : Settings → Option WrongSetting
wrong_setting settings = first_failed (settings_tests settings)
