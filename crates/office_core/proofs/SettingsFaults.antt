-- The first setting that is wrong is none exactly where all settings are good.
use Rattle.std.proofs.Common.{◌≡◌, Bool, true, false, List, [], ◌∷◌, None, refl}
use Rattle.office_core.specs.SettingsFaults.{WrongSetting, first_failed, settings_tests, wrong_setting}
use Rattle.office_core.proofs.Common.{AreGoodSettings, Settings}

AllPass : List (Bool × WrongSetting) → Type 0
AllPass [] = Unit {0}
AllPass ((pass, setting) ∷ tests) = (pass ≡ true) × AllPass tests

all_pass : (tests : List (Bool × WrongSetting)) → first_failed tests ≡ None → AllPass tests
unfolding AllPass
all_pass [] e = tt
all_pass ((true, setting) ∷ tests) e = (refl, all_pass tests e)
all_pass ((false, setting) ∷ tests) e = absurd (cc)

none_fails : (tests : List (Bool × WrongSetting)) → AllPass tests → first_failed tests ≡ None
unfolding AllPass
none_fails [] h = refl
none_fails ((true, setting) ∷ tests) h = none_fails tests h.1
none_fails ((false, setting) ∷ tests) h = absurd (Rattle.std.proofs.lemmas.Bool.false≢true h.0)

pub good_without_fault : (settings : Settings) → wrong_setting settings ≡ None → AreGoodSettings settings
unfolding AllPass
good_without_fault settings e =
    let h = all_pass (settings_tests settings) e in
    record { country = h.0; repo = h.1.0; seats = h.1.1.0; daily = h.1.1.1.0; hands = h.1.1.1.1.0; run_size = h.1.1.1.1.1.0 }

pub no_fault_of_good : (settings : Settings) → AreGoodSettings settings → wrong_setting settings ≡ None
unfolding AllPass
no_fault_of_good settings g =
    none_fails (settings_tests settings) (g.country, (g.repo, (g.seats, (g.daily, (g.hands, (g.run_size, tt))))))
