-- A date is ASCII.
use Rattle.std.proofs.Common.{◌≡◌, ℕ, zero, suc, ◌+◌, ◌*◌, ◌/◌, ◌%◌, ◌<◌, ◌≤◌, Bool, true, false, cond, ◌&&◌, Result}
use Rattle.std.proofs.Common.{Ok, Err, List, [], ◌∷◌, ◌++◌, Option, Some, None, ℤ, pos, arith, ap, sym, ◌∙◌, refl}
use Rattle.std.proofs.lemmas.Bool.{and_parts}
use Rattle.std.proofs.lemmas.Str.{IsUtf8-from_ascii}
use Rattle.std.specs.Prelude.{IsOk, IsUtf8, MatchResult, option_and_then}
use Rattle.std.specs.Str.{IsAscii}
use Rattle.jiff_core.proofs.CalendarLemmas.{days_in_month_bounds}
use Rattle.jiff_core.proofs.SignedLemmas.{signed_arith}
use Rattle.jiff_core.specs.Calendar.{days_from_civil}
use Rattle.isad_core.proofs.DateLemmas.{HasNumber, date_of-HasNumber}
use Rattle.isad_core.proofs.DayLemmas.{is_day_number-so}
use Rattle.isad_core.specs.Days.{is_civil, YearMonthDay, date_of, date_text, day_of, day_text, in_two_digits}
use Rattle.isad_core.specs.Days.{is_day_number, number_of_date, two_digits}

next : (b : ℕ) (bs : List ℕ) → b < 128 → IsAscii bs → IsAscii (b ∷ bs)
next b bs low rest zero = low
next b bs low rest (suc i) = rest i

none : IsAscii []
none i = omega arith

two : (n : ℕ) (bs : List ℕ) → n < 100 → IsAscii bs → IsAscii (in_two_digits n ++ bs)
two n bs low rest = next (48 + n / 10) ((48 + n % 10) ∷ bs) (omega (arith, low)) (next (48 + n % 10) bs (omega arith) rest)

dash : (bs : List ℕ) → IsAscii bs → IsAscii (45 ∷ bs)
dash bs rest = next 45 bs (omega arith) rest

ascii_date : (d : YearMonthDay) (number : ℤ) → HasNumber d number → IsAscii (date_text d)
ascii_date d number has =
    let last : d.year ≤ 9999 = omega (arith, signed_arith, has.civil.0.1) in
    let short : d.month ≤ 12 = has.civil.1.1 in
    let within : d.day ≤ 31 = omega (arith, (days_in_month_bounds (pos d.year) d.month).0, has.civil.2.1) in
    let last_two : List ℕ = in_two_digits d.day ++ [] in
    let month_on : List ℕ = in_two_digits d.month ++ (45 ∷ last_two) in
    let rest : List ℕ = in_two_digits (d.year % 100) ++ (45 ∷ month_on) in
    let a : IsAscii last_two = two d.day [] (omega (arith, within)) none in
    let b : IsAscii month_on = two d.month (45 ∷ last_two) (omega (arith, short)) (dash last_two a) in
    let e : IsAscii rest = two (d.year % 100) (45 ∷ month_on) (omega arith) (dash month_on b) in
    two (d.year / 100) rest (omega (arith, last)) e

some_of : {X Y : Type 0} (f : X → Option Y) (o : Option X) (y : Y) → option_and_then f o ≡ Some y
    → (x : X) × (f x ≡ Some y)
some_of f None y e = absurd (cc)
some_of f (Some x) y e = (x, e)

dated : (y m d : ℕ) (number : ℤ) → number_of_date y m d ≡ Some number → is_day_number number ≡ true
dated y m d number e = at (is_civil y m d && is_day_number count) refl e
  where
    count : ℤ
    count = days_from_civil (pos y) m d

    at : (b : Bool) → (is_civil y m d && is_day_number (days_from_civil (pos y) m d)) ≡ b
        → cond b (Some (days_from_civil (pos y) m d)) None ≡ Some number → is_day_number number ≡ true
    at true is e = let same : days_from_civil (pos y) m d ≡ number = cc in ap is_day_number (sym same) ∙ (and_parts (is_civil y m d) (is_day_number (days_from_civil (pos y) m d)) is).1
    at false is e = absurd (cc)

abbrev read_two : ℕ → Option ℕ
read_two n = two_digits (48 + n / 10) (48 + n % 10)

read_date : (d : YearMonthDay) (number : ℤ) → day_of (date_text d) ≡ Some number → is_day_number number ≡ true
read_date d number e =
    let a = some_of (λ century. option_and_then (λ rest. option_and_then (λ month. option_and_then (λ day. number_of_date (century * 100 + rest) month day) (read_two d.day)) (read_two d.month)) (read_two (d.year % 100))) (read_two (d.year / 100)) number e in
    let b = some_of (λ rest. option_and_then (λ month. option_and_then (λ day. number_of_date (a.0 * 100 + rest) month day) (read_two d.day)) (read_two d.month)) (read_two (d.year % 100)) number a.1 in
    let m = some_of (λ month. option_and_then (λ day. number_of_date (a.0 * 100 + b.0) month day) (read_two d.day)) (read_two d.month) number b.1 in
    let day = some_of (λ day. number_of_date (a.0 * 100 + b.0) m.0 day) (read_two d.day) number m.1 in
    dated (a.0 * 100 + b.0) m.0 day.0 number day.1

-- what reads back as a day's number is UTF-8
pub day_is_utf8 : (number : ℤ) → day_of (day_text number) ≡ Some number → IsUtf8 (day_text number)
unfolding day_text
day_is_utf8 number reads =
    IsUtf8-from_ascii (date_text (date_of number)) (ascii_date (date_of number) number (date_of-HasNumber number (is_day_number-so number (read_date (date_of number) number reads))))

-- a test that only what is no text fails
pub is_ok : {X E : Type 0} (P : X → Type 0) (Q : Type 0) (R : E → Type 0) (r : Result X E)
    → MatchResult r P (λ e. ¬ Q × R e) → Q → IsOk r
is_ok P Q R (Ok x) m q = refl
is_ok P Q R (Err e) m q = absurd (m.0 q)
