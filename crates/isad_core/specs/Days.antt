-- Days: their numbers, counted from 1 January 1970, and their dates in the ISO 8601 form.
use Rattle.std.specs.Prelude.{ℕ, Bool, ◌+◌, ◌-◌, ◌*◌, ◌/◌, ◌%◌, ◌==◌, ◌&&◌, ◌||◌, ◌++◌, nat_lt, nat_le, if◌then◌else◌}
use Rattle.std.specs.Prelude.{[], ◌∷◌, Option, Some, None, option_map, option_and_then, ℤ, pos, ◌+ℤ◌, ◌≤ℤ◌}
use Rattle.std.specs.Prelude.{unsigned_abs}
use Rattle.std.specs.Int.RustNames.{int_le}
use Rattle.jiff_core.specs.Calendar.{days_in_month, days_from_civil}
use Rattle.isad_core.specs.Limits.{first_day, last_day}
use Rattle.isad_core.specs.Texts.{Bytes}

-- the number of a day from 1900-01-01 to 9999-12-31
abbrev pub IsDayNumber : ℤ → Type 0
IsDayNumber n = (first_day ≤ℤ n) × (n ≤ℤ last_day)

abbrev pub is_day_number : ℤ → Bool
is_day_number n = int_le first_day n && int_le n last_day

-- ---- reading a date

-- the value of a digit
abbrev pub digit : ℕ → Option ℕ
digit b = if nat_lt b 48 || nat_lt 57 b then None else Some (b - 48)

-- the number that two ASCII digits write
abbrev pub two_digits : ℕ → ℕ → Option ℕ
two_digits high low = option_and_then (λ h. option_map (λ l. h * 10 + l) (digit low)) (digit high)

-- the calendar has this day, in whatever year
abbrev pub is_civil : ℕ → ℕ → ℕ → Bool
is_civil year month day = nat_le 1 month && (nat_le month 12
    && (nat_le 1 day && nat_le day (days_in_month (pos year) month)))

-- the number of a day, if the calendar has it and it is in range
abbrev pub number_of_date : ℕ → ℕ → ℕ → Option ℤ
number_of_date year month day =
    if is_civil year month day && is_day_number (days_from_civil (pos year) month day)
    then Some (days_from_civil (pos year) month day) else None

-- the number of the day that a text gives as YYYY-MM-DD, in ten bytes; none if it is not a day from 1900-01-01 to
-- 9999-12-31
abbrev pub day_of : Bytes → Option ℤ
day_of (a ∷ b ∷ c ∷ d ∷ x ∷ e ∷ f ∷ y ∷ g ∷ h ∷ []) =
    if (x == 45) && (y == 45)
    then option_and_then (λ century. option_and_then (λ rest. option_and_then (λ month. option_and_then
    (λ day. number_of_date (century * 100 + rest) month day)
    (two_digits g h)) (two_digits e f)) (two_digits c d)) (two_digits a b)
    else None
day_of _ = None

-- ---- writing a date

pub record YearMonthDay : Type 0 where
  pub year : ℕ
  pub month : ℕ
  pub day : ℕ

-- How many days a day lies after 1 March of the year -10000. Years that begin in March end with their leap day, and no
-- day from there on has a negative number.
abbrev pub days_after_first_march : ℤ → ℕ
days_after_first_march number = unsigned_abs (number +ℤ pos 4371893)

-- the place of a day in its century, in quarters of a day
abbrev pub in_century : ℕ → ℕ
in_century days = (4 * days + 3) % 146097 / 4 * 4 + 3

-- the year that begins in March, counted from -10000, and the days of it that have passed
abbrev pub march_year : ℕ → ℕ
march_year days = 100 * ((4 * days + 3) / 146097) + in_century days / 1461

abbrev pub day_of_march_year : ℕ → ℕ
day_of_march_year days = in_century days % 1461 / 4

-- the month, from 3 for March to 14 for February, and the day of the month, for a day of such a year
abbrev pub march_month : ℕ → ℕ
march_month day = (5 * day + 461) / 153

abbrev pub day_of_month : ℕ → ℕ
day_of_month day = (5 * day + 461) % 153 / 5 + 1

abbrev pub date_in_march_year : ℕ → ℕ → YearMonthDay
date_in_march_year year day = record {
  year = (if nat_lt 12 (march_month day) then year + 1 else year) - 10000;
  month = if nat_lt 12 (march_month day) then march_month day - 12 else march_month day;
  day = day_of_month day;
}

-- the date of a day number
abbrev pub date_of : ℤ → YearMonthDay
date_of number = date_in_march_year (march_year (days_after_first_march number))
    (day_of_march_year (days_after_first_march number))

-- a number below 100 in two digits
abbrev pub in_two_digits : ℕ → Bytes
in_two_digits n = (48 + n / 10) ∷ (48 + n % 10) ∷ []

abbrev pub date_text : YearMonthDay → Bytes
date_text d = in_two_digits (d.year / 100) ++ in_two_digits (d.year % 100)
    ++ 45 ∷ in_two_digits d.month ++ 45 ∷ in_two_digits d.day

-- the date of a day number, YYYY-MM-DD
unfoldable pub day_text : ℤ → Bytes
day_text number = date_text (date_of number)
