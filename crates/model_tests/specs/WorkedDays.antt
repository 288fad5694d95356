-- Dates as they are read and written, worked out by another calendar.
use Rattle.std.specs.Prelude.{◌≡◌, List, [], ◌∷◌, codes, map, Some, None, pos, neg_ℤ}
use Rattle.isad_core.specs.Days.{day_of, day_text}
use Rattle.isad_core.specs.Texts.{Bytes}

-- no days: not in the calendar, or not from 1900 to 9999
abbrev pub missing_days : List Bytes
missing_days =
    codes "2023-02-29" ∷ codes "1900-02-29" ∷ codes "2024-04-31" ∷ codes "2024-01-32" ∷ codes "2024-01-00"
    ∷ codes "2024-00-10" ∷ codes "2024-13-10" ∷ codes "1899-12-31" ∷ codes "0000-01-01" ∷ []

-- no dates: other characters, the one before 0 and the one after 9 among them, or another length
abbrev pub no_dates : List Bytes
no_dates =
    codes "2024-02-1/" ∷ codes "2024-02-1:" ∷ codes "2024-02-/1" ∷ codes "2024-0a-01" ∷ codes "20x4-02-01"
    ∷ codes "x024-02-01" ∷ codes "2024/02-29" ∷ codes "2024-02/29" ∷ codes "2024-2-029" ∷ codes "2024-02-9"
    ∷ codes "2024-02-290" ∷ []

pub record Dated : Type 0 where
  pub read : map day_of (codes "2024-02-29" ∷ codes "2000-02-29" ∷ codes "2024-12-31" ∷ codes "1999-10-09" ∷ [])
      ≡ Some (pos 19782) ∷ Some (pos 11016) ∷ Some (pos 20088) ∷ Some (pos 10873) ∷ []
  pub ends : map day_of (codes "1900-01-01" ∷ codes "9999-12-31" ∷ []) ≡ Some (neg_ℤ (pos 25567)) ∷ Some (pos 2932896) ∷ []
  pub missing : map day_of missing_days ≡ map (λ _. None) missing_days
  pub none : map day_of no_dates ≡ map (λ _. None) no_dates
  pub written : map day_text (pos 19782 ∷ pos 19783 ∷ pos 19722 ∷ pos 19723 ∷ pos 10873 ∷ pos 11016 ∷ pos 20057 ∷ pos 47481
      ∷ pos 47541 ∷ neg_ℤ (pos 25509) ∷ neg_ℤ (pos 25508) ∷ [])
      ≡ codes "2024-02-29" ∷ codes "2024-03-01" ∷ codes "2023-12-31" ∷ codes "2024-01-01" ∷ codes "1999-10-09"
      ∷ codes "2000-02-29" ∷ codes "2024-11-30" ∷ codes "2099-12-31" ∷ codes "2100-03-01" ∷ codes "1900-02-28"
      ∷ codes "1900-03-01" ∷ []
  pub written_ends : map day_text (neg_ℤ (pos 25567) ∷ pos 2932896 ∷ []) ≡ codes "1900-01-01" ∷ codes "9999-12-31" ∷ []
