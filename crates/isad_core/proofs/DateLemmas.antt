-- The date that is written for a day number is the date of the calendar that has this number.
use Rattle.std.proofs.Common.{◌≡◌, ℕ, suc, ◌+◌, ◌-◌, ◌*◌, ◌/◌, ◌%◌, ◌≤◌, ◌<◌, nat_lt, true, false, arith, pos, negsuc}
use Rattle.std.proofs.Common.{unsigned_abs, ℤ, ◌≤ℤ◌, ◌+ℤ◌, refl, ap, add-one, subst, sym, ◌∙◌, inl, inr, Some}
use Rattle.std.proofs.lemmas.Bool.{cases_lt, le-ltb, lt-ltb}
use Rattle.jiff_core.proofs.CalendarLemmas.{days_from_civil-day_count, days_in_month_bounds}
use Rattle.jiff_core.proofs.DateLemmas.{epoch_day_injective}
use Rattle.jiff_core.proofs.MarchLemmas.{leap_day, leap_day-shift, march_days-suc, day_count-early, day_count-late}
use Rattle.jiff_core.proofs.MarchLemmas.{month_and_day, day_in_month, day_in_early_month}
use Rattle.jiff_core.proofs.SignedLemmas.{signed_arith}
use Rattle.jiff_core.specs.Calendar.{IsCivilDate, days_from_civil}
use Rattle.jiff_core.specs.March.{march_days}
use Rattle.jiff_core.specs.declared.civil.date.Date.{Date}
use Rattle.isad_core.specs.Days.{day_text}
use Rattle.isad_core.proofs.Common.{IsDayNumber, YearMonthDay, date_in_march_year, date_of, date_text, day_of}
use Rattle.isad_core.proofs.Common.{day_of_march_year, day_of_month, days_after_first_march, digit, epoch_day}
use Rattle.isad_core.proofs.Common.{is_day_number, march_month, march_year, two_digits}
use Rattle.isad_core.proofs.DayLemmas.{is_civil-true, is_day_number-true}

march_year_parts : (days : ℕ) → days < 7400000 → march_days (march_year days) + day_of_march_year days ≡ days
march_year_parts days h = omega arith

march_year_within : (days : ℕ) → days < 7400000 → days < march_days (march_year days + 1)
march_year_within days h = omega arith

day_of_march_year_bound : (days : ℕ) → day_of_march_year days < 366
day_of_march_year_bound days = omega arith

nonnegative : (z : ℤ) → pos 0 ≤ℤ z → pos (unsigned_abs z) ≡ z
nonnegative (pos n) h = refl
nonnegative (negsuc n) h = absurd (omega (arith, signed_arith))

days_after : (number : ℤ) → IsDayNumber number → pos (days_after_first_march number) ≡ number +ℤ pos 4371893
days_after number h = nonnegative (number +ℤ pos 4371893) (omega (arith, signed_arith, h.0))

-- a date of the calendar with a day number
pub record HasNumber (d : YearMonthDay) (number : ℤ) : Type 0 where
  pub early : 1900 ≤ d.year
  pub civil : IsCivilDate (pos d.year) d.month d.day
  pub number_is : days_from_civil (pos d.year) d.month d.day ≡ number

from_march : (year day : ℕ) (number : ℤ) → march_month day ≤ 12 → day < 366 → 11900 ≤ year → year ≤ 19999
    → number +ℤ pos 4371893 ≡ pos (march_days year + day) → HasNumber (date_in_march_year year day) number
from_march year day number month fits low high e =
    let same : nat_lt 12 (march_month day) ≡ false = le-ltb 12 (march_month day) month in
    let count = day_count-late (pos (year - 10000)) year (march_month day) (day_of_month day) (omega (arith, signed_arith)) (omega arith) month (omega arith) in
    rw same (record {
      early = omega arith;
      civil = ((omega (arith, signed_arith), omega (arith, signed_arith)), (omega arith, month), (omega arith, day_in_month (pos (year - 10000)) day month));
      number_is = omega (arith, signed_arith, days_from_civil-day_count, count, month_and_day day fits);
    })

from_february : (year day : ℕ) (number : ℤ) → 12 < march_month day → day < 366 → day < 365 + leap_day (pos (suc year))
    → 11899 ≤ year → year ≤ 19998
    → number +ℤ pos 4371893 ≡ pos (march_days year + day) → HasNumber (date_in_march_year year day) number
from_february year day number month fits within low high e =
    let same : nat_lt 12 (march_month day) ≡ true = lt-ltb 12 (march_month day) month in
    let shifted : pos (year + 1 - 10000) +ℤ pos 10000 ≡ pos (suc year) = omega (arith, signed_arith) in
    let back : march_month day - 12 + 12 ≡ march_month day = omega arith in
    let leap = leap_day-shift (pos (year + 1 - 10000)) (suc year) shifted in
    let count = rw back at (day_count-early (pos (year + 1 - 10000)) year (march_month day - 12) (day_of_month day) shifted (omega arith) (omega arith) (omega arith)) in
    rw same (record {
      early = omega arith;
      civil = ((omega (arith, signed_arith), omega (arith, signed_arith)), (omega arith, omega arith), (omega arith, day_in_early_month (pos (year + 1 - 10000)) day month (omega (arith, leap))));
      number_is = omega (arith, signed_arith, days_from_civil-day_count, count, month_and_day day fits);
    })

-- a day of a year that begins in March, with the day number that it has
in_march_year : (year day days : ℕ) (number : ℤ) → day < 366 → 11899 ≤ year → year ≤ 19999
    → march_days year + day ≡ days → days < march_days (suc year) → number +ℤ pos 4371893 ≡ pos days → 4346326 ≤ days
    → days ≤ 7304789
    → HasNumber (date_in_march_year year day) number
in_march_year year day days number fits low high parts within after early late =
    elim (cases_lt 12 (march_month day)) [
      | inl february ↦ from_february year day number february fits (omega (arith, march_days-suc year)) low (omega arith) (after ∙ ap pos (sym parts))
      | inr march ↦ from_march year day number march fits (omega arith) (omega arith) (after ∙ ap pos (sym parts))
    ]

pub date_of-HasNumber : (number : ℤ) → IsDayNumber number → HasNumber (date_of number) number
date_of-HasNumber number h =
    let days = days_after_first_march number in
    let after : pos days ≡ number +ℤ pos 4371893 = days_after number h in
    let low : 4346326 ≤ days = omega (arith, signed_arith, h.0) in
    let high : days ≤ 7304789 = omega (arith, signed_arith, h.1) in
    in_march_year (march_year days) (day_of_march_year days) days number (day_of_march_year_bound days)
    (omega arith) (omega arith) (march_year_parts days (omega arith)) (rw add-one at (march_year_within days (omega arith))) (sym after) low high

-- the date that is written is that of the calendar
pub date_of-epoch_day : (d : Date) → IsDayNumber (epoch_day d)
    → (d.year ≡ pos (date_of (epoch_day d)).year) × (d.month ≡ (date_of (epoch_day d)).month) × (d.day ≡ (date_of (epoch_day d)).day)
date_of-epoch_day d h =
    let has = date_of-HasNumber (epoch_day d) h in
    let same : Date = record {
      year = pos (date_of (epoch_day d)).year;
      month = (date_of (epoch_day d)).month;
      day = (date_of (epoch_day d)).day;
      year_in = has.civil.0;
      month_in = has.civil.1;
      day_in = has.civil.2;
    } in
    epoch_day_injective d same (sym has.number_is)

-- ---- a date that is written reads as its day

digit-of : (n : ℕ) → n < 10 → digit (48 + n) ≡ Some n
digit-of n h =
    let low : nat_lt (48 + n) 48 ≡ false = le-ltb (48 + n) 48 (omega arith) in
    let high : nat_lt 57 (48 + n) ≡ false = le-ltb 57 (48 + n) (omega arith) in
    let same : 48 + n - 48 ≡ n = omega arith in
    rw (low, high, same) refl

two_digits-of : (n : ℕ) → n < 100 → two_digits (48 + n / 10) (48 + n % 10) ≡ Some n
two_digits-of n h =
    let high : digit (48 + n / 10) ≡ Some (n / 10) = digit-of (n / 10) (omega arith) in
    let low : digit (48 + n % 10) ≡ Some (n % 10) = digit-of (n % 10) (omega arith) in
    let same : n / 10 * 10 + n % 10 ≡ n = omega arith in
    rw (high, low, same) refl

day_of-date_text : (d : YearMonthDay) (number : ℤ) → IsDayNumber number → HasNumber d number
    → day_of (date_text d) ≡ Some number
day_of-date_text d number h has =
    let last : d.year ≤ 9999 = omega (arith, signed_arith, has.civil.0.1) in
    let short : d.month ≤ 12 = has.civil.1.1 in
    let within : d.day ≤ 31 = omega (arith, (days_in_month_bounds (pos d.year) d.month).0, has.civil.2.1) in
    let century = two_digits-of (d.year / 100) (omega arith) in
    let rest = two_digits-of (d.year % 100) (omega arith) in
    let month = two_digits-of d.month (omega arith) in
    let day = two_digits-of d.day (omega arith) in
    let year : d.year / 100 * 100 + d.year % 100 ≡ d.year = omega arith in
    let civil = is_civil-true d.year d.month d.day has.civil in
    let ranged : is_day_number number ≡ true = is_day_number-true number h in
    rw (century, rest, month, day, year, civil, has.number_is, ranged) refl

pub day_of-day_text : (number : ℤ) → IsDayNumber number → day_of (day_text number) ≡ Some number
unfolding day_text
day_of-day_text number h = day_of-date_text (date_of number) number h (date_of-HasNumber number h)

-- the parts of the date of a day number
pub date_of-parts : (d : Date) (number : ℤ) → IsDayNumber number → epoch_day d ≡ number
    → (d.year ≡ pos (date_of number).year) × (d.month ≡ (date_of number).month) × (d.day ≡ (date_of number).day)
date_of-parts d number h e =
    subst (λ (n : ℤ). (d.year ≡ pos (date_of n).year) × (d.month ≡ (date_of n).month) × (d.day ≡ (date_of n).day)) e
    (date_of-epoch_day d (subst (λ (n : ℤ). IsDayNumber n) (sym e) h))
