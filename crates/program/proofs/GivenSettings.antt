-- Settings that were given are taken as they are, or refused.
use Rattle.std.proofs.Common.{◌≡◌, List, Option, Some, None, Result, Ok, Err, IfOk, IfErr, refl, subst, sym}
use Rattle.office_core.specs.SettingsFaults.{WrongSetting, wrong_setting, Country, Repo, Seats, Daily, Hands, RunSize}
use Rattle.office.specs.declared.settings.SettingsFault.{SettingsFault}
use Rattle.program.proofs.Common.{AreGiven, AreRefused, AreTaken, Founding, IsTaken, Row, fault_of_settings}
use Rattle.program.proofs.Common.{settings_fault}

pub taken_are : (rows : List Row) (founding : Founding) (r : Result Founding SettingsFault) → AreTaken founding r
    → AreGiven rows founding → IfOk r (AreGiven rows)
taken_are rows founding r taken given = go (wrong_setting founding.settings) r taken
  where
    go : (o : Option WrongSetting) (r : Result Founding SettingsFault) → IsTaken founding o r → IfOk r (AreGiven rows)
    go (Some w) (Ok x) e = absurd cc
    go (Some w) (Err f) e = tt
    go None (Ok x) e = subst (AreGiven rows) (sym e) given
    go None (Err f) e = tt

pub refused_are : (rows : List Row) (founding : Founding) (r : Result Founding SettingsFault) → AreTaken founding r
    → AreGiven rows founding
    → IfErr r (λ f. AreRefused rows (fault_of_settings f))
refused_are rows founding r taken given = go (wrong_setting founding.settings) refl r taken
  where
    wrong : (w : WrongSetting) → wrong_setting founding.settings ≡ Some w
        → AreRefused rows (fault_of_settings (settings_fault w))
    wrong Country is = (founding, given, λ none. cc)
    wrong Repo is = (founding, given, λ none. cc)
    wrong Seats is = (founding, given, λ none. cc)
    wrong Daily is = (founding, given, λ none. cc)
    wrong Hands is = (founding, given, λ none. cc)
    wrong RunSize is = (founding, given, λ none. cc)

    go : (o : Option WrongSetting) → wrong_setting founding.settings ≡ o → (r : Result Founding SettingsFault)
        → IsTaken founding o r → IfErr r (λ f. AreRefused rows (fault_of_settings f))
    go (Some w) is (Ok x) e = tt
    go (Some w) is (Err f) e =
        let same : f ≡ settings_fault w = cc in
        subst (λ f. AreRefused rows (fault_of_settings f)) (sym same) (wrong w is)
    go None is (Ok x) e = tt
    go None is (Err f) e = subst (λ f. AreRefused rows (fault_of_settings f)) (sym e) tt
