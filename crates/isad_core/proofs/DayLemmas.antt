-- Dates of the calendar, as a test and as what the calendar crate knows of them.
use Rattle.std.proofs.Common.{◌≡◌, ℕ, ◌≤◌, ◌&&◌, true, false, arith, pos, ℤ, refl, subst, Some, None, if◌then◌else◌}
use Rattle.std.proofs.lemmas.Bool.{and_parts, and_from, leb-true, le-leb, false_from_ne_true}
use Rattle.std.specs.Prelude.{nat_le}
use Rattle.jiff_core.proofs.DateLemmas.{civil}
use Rattle.jiff_core.specs.Calendar.{IsCivilDate, days_in_month}
use Rattle.jiff_core.specs.declared.civil.date.Date.{Date}
use Rattle.isad_core.proofs.Common.{IsDayNumber, epoch_day, ints, is_civil, is_day_number, number_of_date}

pub is_civil-true : (year month day : ℕ) → IsCivilDate (pos year) month day → is_civil year month day ≡ true
is_civil-true year month day h =
    let a : nat_le 1 month ≡ true = le-leb 1 month (h.1.0) in
    let b : nat_le month 12 ≡ true = le-leb month 12 (h.1.1) in
    let d : nat_le 1 day ≡ true = le-leb 1 day (h.2.0) in
    let e : nat_le day (days_in_month (pos year) month) ≡ true = le-leb day (days_in_month (pos year) month) (h.2.1) in
    and_from _ _ a (and_from _ _ b (and_from _ _ d e))

pub civil_from : (year month day : ℕ) → year ≤ 9999 → is_civil year month day ≡ true → IsCivilDate (pos year) month day
civil_from year month day late h =
    let a : (nat_le 1 month ≡ true) × ((nat_le month 12 && (nat_le 1 day && nat_le day (days_in_month (pos year) month))) ≡ true) =
    and_parts _ _ h in
    let b : (nat_le month 12 ≡ true) × ((nat_le 1 day && nat_le day (days_in_month (pos year) month)) ≡ true) =
    and_parts _ _ a.1 in
    let d : (nat_le 1 day ≡ true) × (nat_le day (days_in_month (pos year) month) ≡ true) = and_parts _ _ b.1 in (
      (omega (arith, ints), omega (arith, ints)),
      (leb-true _ _ a.0, leb-true _ _ b.0),
      (leb-true _ _ d.0, leb-true _ _ d.1),
    )

-- the number of a date that the calendar has
pub number_of_date-civil : (d : Date) (year month day : ℕ) → d.year ≡ pos year → d.month ≡ month → d.day ≡ day
    → number_of_date year month day ≡ (if is_day_number (epoch_day d) then Some (epoch_day d) else None)
number_of_date-civil d year month day y m n =
    let has : IsCivilDate (pos year) month day =
    subst (λ (k : ℕ). IsCivilDate (pos year) month k) n
    (subst (λ (k : ℕ). IsCivilDate (pos year) k d.day) m
    (subst (λ (z : ℤ). IsCivilDate z d.month d.day) y (civil d))) in
    let e : is_civil year month day ≡ true = is_civil-true year month day has in
    rw (e, y, m, n) refl

-- there is none where the calendar has no such date
pub number_of_date-none : (year month day : ℕ) → year ≤ 9999 → (IsCivilDate (pos year) month day → ⊥)
    → number_of_date year month day ≡ None
number_of_date-none year month day late absent =
    let e : is_civil year month day ≡ false = false_from_ne_true _ (λ h. absent (civil_from year month day late h)) in
    rw e refl

pub is_day_number-true : (number : ℤ) → IsDayNumber number → is_day_number number ≡ true
is_day_number-true number h = grind (arith, ints, h.0, h.1)

pub is_day_number-so : (number : ℤ) → is_day_number number ≡ true → IsDayNumber number
is_day_number-so number h = grind (arith, ints, h)
