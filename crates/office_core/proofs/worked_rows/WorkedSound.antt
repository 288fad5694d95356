-- The row on permits, and that its office is sound.
use Rattle.std.proofs.Common.{◌≡◌, ℕ, zero, suc, ◌+◌, ◌<◌, ◌≤◌, Bool, true, false, not, ◌&&◌, List, [], ◌∷◌, length}
use Rattle.std.proofs.Common.{map, Some, refl, sym, ap, subst, inl, inr, arith}
use Rattle.std.proofs.lemmas.Fmt.{decimal_injective}
use Rattle.std.proofs.lemmas.Slice.Eq.{bytes_eq-Decides}
use Rattle.std.specs.Fmt.{digits}
use Rattle.std.specs.List.{IsDistinct}
use Rattle.std.specs.Prelude.{nat_le}
use Rattle.catalogue_core.specs.ContainerContents.{is_open}
use Rattle.office_core.specs.Rules.{is_name}
use Rattle.office_core.specs.WorkedExamples.{new_office, march_1, march_31, year_end, titled, titled_units}
use Rattle.office_core.specs.WorkedExamples.{permits_from, with_most_permits}
use Rattle.office_core.specs.WorkedReplies.{MostPermits}
use Rattle.office_core.proofs.Common.{AllByRecursion, AreGoodUnits, ByUnit, IsDayNumber, IsGoodUnit, IsSomeDay, IsSound}
use Rattle.office_core.proofs.Common.{IsSoundDesk, Permit, Reader, Unit, and_parts, bytes_eq, cases_Bool, cases_eq}
use Rattle.office_core.proofs.Common.{codes, decimal, eq-eqb, false≢true, has_unit, height, ints, is_blank_text}
use Rattle.office_core.proofs.Common.{is_same_unit, is_ticket, leb-true, list_all, most_bytes, most_permits, nat_eq}
use Rattle.office_core.proofs.Common.{ne_eqb, nodes, not-true, nth, or_left, or_right, size}
use Rattle.office_core.proofs.Words.{put_each}
use Rattle.office_core.proofs.SoundDesk.{desk_start, no_value}

-- ---- units side by side

all_units : (P : Unit → Type 0) (first n : ℕ) → ((k : ℕ) → first ≤ k → k < first + n → P (titled k))
    → AllByRecursion P (nodes (titled_units first n))
all_units P first zero f = tt
all_units P first (suc n) f =
    (f first (omega arith) (omega arith), all_units P (suc first) n (λ k l h. f k (omega arith) (omega arith)))

size-units : (first n : ℕ) → size (titled_units first n) ≡ n
size-units first zero = refl
size-units first (suc n) = (let e = size-units (suc first) n in omega (arith, e))

height_units : (first n : ℕ) → height (titled_units first n) ≤ 1
height_units first zero = omega arith
height_units first (suc n) = (let l = height_units (suc first) n in omega (arith, l))

numbers_apart : (first n : ℕ) → IsDistinct nat_eq (map (λ (unit : Unit). unit.id) (nodes (titled_units first n)))
unfolding IsDistinct
numbers_apart first zero = tt
numbers_apart first (suc n) = (other first (suc first) n (omega arith), numbers_apart (suc first) n)
  where
    other : (m first n : ℕ) → m < first
        → AllByRecursion (λ k. nat_eq m k ≡ false) (map (λ (unit : Unit). unit.id) (nodes (titled_units first n)))
    other m first zero l = tt
    other m first (suc n) l = (ne_eqb m first (λ e. omega (arith, e, l)), other m (suc first) n (omega arith))

and_not : (x y : Bool) → y ≡ false → (x && y) ≡ false
and_not true y h = h
and_not false y h = refl

other_text : (a b : ℕ) → a < b → b < 1000 → is_same_unit (titled a) (titled b) ≡ false
other_text a b l h =
    and_not (bytes_eq (codes "a") (codes "a")) (bytes_eq (decimal b) (decimal a)) (elim (cases_Bool (bytes_eq (decimal b) (decimal a))) [
      | inl t ↦ (let e = decimal_injective b a (omega arith) (omega arith) ((bytes_eq-Decides (decimal b) (decimal a)).0 t) in absurd (omega (arith, e, l)))
      | inr n ↦ n
    ])

texts_apart : (first n : ℕ) → first + n < 1000 → IsDistinct is_same_unit (nodes (titled_units first n))
unfolding IsDistinct
texts_apart first zero l = tt
texts_apart first (suc n) l =
    (all_units (λ unit. is_same_unit (titled first) unit ≡ false) (suc first) n (λ k i h. other_text first k (omega arith) (omega arith)), texts_apart (suc first) n (omega arith))

-- what is computed of each
each_passes : {X : Type 0} (p : X → Bool) (xs : List X) → list_all p xs ≡ true → AllByRecursion (λ x. p x ≡ true) xs
each_passes p [] h = tt
each_passes p (x ∷ xs) h = (let r = and_parts (p x) (list_all p xs) h in (r.0, each_passes p xs r.1))

has_text : Unit → Bool
has_text unit = not (is_blank_text unit.legacy) && nat_le (length unit.legacy) most_bytes

texts_there : list_all has_text (nodes (titled_units 1 (suc most_permits))) ≡ true
unfolding has_text digits
texts_there = refl

good_unit : (k : ℕ) → has_text (titled k) ≡ true → IsGoodUnit [] (titled k)
unfolding has_text
good_unit k h =
    let r = and_parts (not (is_blank_text (decimal k))) (nat_le (length (decimal k)) most_bytes) h in
    let l = leb-true (length (decimal k)) most_bytes r.1 in
    record {
      source = refl;
      legacy = not-true (is_blank_text (decimal k)) r.0;
      legacy_short = omega (arith, l);
      level_short = omega arith;
      texts = refl;
      texts_count = refl;
      known = refl;
      apart = refl;
    }

good_units : (first n : ℕ) → AllByRecursion (λ unit. has_text unit ≡ true) (nodes (titled_units first n))
    → AllByRecursion (IsGoodUnit []) (nodes (titled_units first n))
good_units first zero h = tt
good_units first (suc n) h = (good_unit first h.0, good_units (suc first) n h.1)

units_good : AreGoodUnits with_most_permits.catalogue
units_good =
    let size = size-units 1 (suc most_permits) in
    let high = height_units 1 (suc most_permits) in
    record {
      each = good_units 1 (suc most_permits) (each_passes has_text (nodes (titled_units 1 (suc most_permits))) texts_there);
      ids = numbers_apart 1 (suc most_permits);
      pairs = texts_apart 1 (suc most_permits) (omega arith);
      given = all_units (λ unit. (1 ≤ unit.id) × (unit.id < most_permits + 2)) 1 (suc most_permits) (λ k l h. (l, omega arith));
      next = (omega arith, omega arith);
      few = omega arith;
      depth = omega arith;
    }

-- ---- permits

all_permits : (P : Permit → Type 0) (first n : ℕ)
    → ((k : ℕ) → first ≤ k → k < first + n → P (record { unit = k; until = march_31 }))
    → AllByRecursion P (permits_from first n)
all_permits P first zero f = tt
all_permits P first (suc n) f =
    (f first (omega arith) (omega arith), all_permits P (suc first) n (λ k l h. f k (omega arith) (omega arith)))

by_unit : (first n : ℕ) → ByUnit (permits_from first n)
by_unit first zero = tt
by_unit first (suc n) = (all_permits (λ permit. first < permit.unit) (suc first) n (λ k l h. omega (arith, l)), by_unit (suc first) n)

length-permits : (first n : ℕ) → length (permits_from first n) ≡ n
length-permits first zero = refl
length-permits first (suc n) = ap suc (length-permits (suc first) n)

is_there : (first n k : ℕ) → first ≤ k → k < first + n → has_unit (titled_units first n) k ≡ true
is_there first zero k l h = absurd (omega arith)
is_there first (suc n) k l h = elim (cases_eq k first) [
  | inl e ↦ or_left (nat_eq k first) (has_unit (titled_units (suc first) n) k) (eq-eqb k first e)
  | inr ne ↦ or_right (nat_eq k first) (has_unit (titled_units (suc first) n) k) (is_there (suc first) n k (omega arith) (omega arith))
]

-- Ann's permits are as these, and no other ticket has one
each_ticket : (P : ℕ → List Permit → Type 0) → P 1 (permits_from 1 most_permits) → ((t : ℕ) → P t []) → (t : ℕ)
    → P t (with_most_permits.permits t)
each_ticket P here there = put_each P (λ t. []) 1 (permits_from 1 most_permits) here (λ t ne. there t)

-- ---- all of it

ann_alone : (t : ℕ) (reader : Reader) → nth with_most_permits.readers t ≡ Some reader → is_name reader.name ≡ true
ann_alone zero reader e = cc
ann_alone (suc zero) reader e = (let ann : Reader = record { name = codes "Ann"; until = year_end } in let same : ann ≡ reader = cc in subst (λ r. is_name r.name ≡ true) same refl)
ann_alone (suc (suc t)) reader e = cc

desk_sound : IsSoundDesk with_most_permits
desk_sound =
    let old = desk_start new_office.settings march_1 in
    record {
      boxes = refl;
      filed = record { each = old.filed.each; queues = old.filed.queues };
      orders = record {
        each = λ o order e. absurd (no_value o order e);
        daily = old.orders.daily;
        once = λ o p order other ho hp. absurd (no_value o order ho);
        few = old.orders.few;
      };
      seats = record { count = refl; known = λ t h. absurd (false≢true h); once = old.seats.once };
      places = record { holders = λ c o order e h. absurd (no_value o order h); known = λ c h. refl };
      runs = record { each = λ n run e. absurd (no_value n run e); few = old.runs.few };
      readers = record { names = ann_alone; few = omega arith };
      permits = record {
        known = each_ticket (λ t ps. is_ticket with_most_permits t ≡ false → ps ≡ []) (λ h. absurd (false≢true (sym h))) (λ t h. refl);
        by_unit = each_ticket (λ t ps. ByUnit ps) (by_unit 1 most_permits) (λ t. tt);
        few = each_ticket (λ t ps. length ps ≤ most_permits) (let e = length-permits 1 most_permits in omega (arith, e)) (λ t. omega arith);
      };
    }

pub office_sound : IsSound with_most_permits
office_sound =
    record {
      settings = record { country = refl; repo = refl; seats = refl; daily = refl; hands = refl; run_size = refl };
      days = record {
        today = (omega (arith, ints), omega (arith, ints));
        readers = ((omega (arith, ints), omega (arith, ints)), tt);
        orders = tt;
        runs = tt;
        permits = each_ticket (λ t ps. AllByRecursion (λ permit. IsDayNumber permit.until) ps) (all_permits (λ permit. IsDayNumber permit.until) 1 most_permits (λ k l h. (omega (arith, ints), omega (arith, ints)))) (λ t. tt);
        closures = all_units (λ unit. IsSomeDay unit.until) 1 (suc most_permits) (λ k l h. tt);
      };
      units = units_good;
      containers = record { named = refl; few = omega arith };
      permits = each_ticket (λ t ps. AllByRecursion (λ permit. has_unit with_most_permits.catalogue.forest permit.unit ≡ true) ps) (all_permits (λ permit. has_unit with_most_permits.catalogue.forest permit.unit ≡ true) 1 most_permits (λ k l h. is_there 1 (suc most_permits) k l (omega arith))) (λ t. tt);
      desk = desk_sound;
    }

pub permits_to_the_limit : MostPermits
unfolding is_open
permits_to_the_limit = record { office_sound = office_sound; told = refl }
