-- Rows of a table with a unique index differ in the numbers of its columns.
use Rattle.std.proofs.Common.{◌≡◌, ℕ, pos, List, [], ◌∷◌, false, ◌&&◌, nat_eq, Option, Some, filter_map, sym, ◌∙◌}
use Rattle.std.proofs.Common.{IsTrue}
use Rattle.sqlite_value.specs.Keys.{first_key}
use Rattle.office_tables.proofs.Tests.{both, only, same_number}
use Rattle.adoption.proofs.Common.{AllByRecursion, AreInOrder, Int, IsTable, KeysDiffer, Row, agree, clashes, column}
use Rattle.adoption.proofs.Common.{is_int, keys_differ, plain, read_pairs, rowid}
use Rattle.adoption.proofs.tables.RowsStored.{in_order_so}

agrees_in_one : (a b : Row) (p m n : ℕ) → column a p ≡ Int (pos m) → column b p ≡ Int (pos n)
    → agree plain (p ∷ []) a (p ∷ []) b ≡ nat_eq n m
unfolding first_key
agrees_in_one a b p m n e f = rw (e, f) (only (same_number m n))

agrees_in_two : (a b : Row) (p q m n k l : ℕ) → column a p ≡ Int (pos m) → column b p ≡ Int (pos n)
    → column a q ≡ Int (pos k) → column b q ≡ Int (pos l)
    → agree plain (p ∷ q ∷ []) a (p ∷ q ∷ []) b ≡ (nat_eq n m && nat_eq l k)
unfolding first_key
agrees_in_two a b p q m n k l e f g h = rw (e, f, g, h) (both (same_number m n) (same_number k l))

-- the rows of the table stand by their numbers, and no two have the same in these columns
pub record AreUnique (places : List ℕ) (there : List Row) : Type 0 where
  pub rise : IsTable there
  pub numbers : AllByRecursion (λ row. IsTrue (is_int (rowid row))) there
  pub apart : AllByRecursion (λ row. clashes plain places there row ≡ false) there

module _ {R : Type 0} (read : Row → Option R) (there : List Row) where
  pub apart_in_one : (p : ℕ) (number : R → ℕ)
      → ((row : Row) (r : R) → read row ≡ Some r → column row p ≡ Int (pos (number r))) → AreUnique (p ∷ []) there
      → AreInOrder (λ a b. nat_eq (number b) (number a) ≡ false) (filter_map read there)
  apart_in_one p number has it =
      in_order_so (λ a b. nat_eq (number b) (number a) ≡ false) (filter_map read there)
      (read_pairs read (KeysDiffer plain (p ∷ [])) (λ a b. nat_eq (number b) (number a) ≡ false)
      (λ a b x y e f h. sym (agrees_in_one a b p (number x) (number y) (has a x e) (has b y f)) ∙ h)
      there (keys_differ plain (p ∷ []) there it.rise it.numbers it.apart))

  pub apart_in_two : (p q : ℕ) (number second : R → ℕ)
      → ((row : Row) (r : R) → read row ≡ Some r → column row p ≡ Int (pos (number r)))
      → ((row : Row) (r : R) → read row ≡ Some r → column row q ≡ Int (pos (second r)))
      → AreUnique (p ∷ q ∷ []) there
      → AreInOrder (λ a b. (nat_eq (number b) (number a) && nat_eq (second b) (second a)) ≡ false) (filter_map read there)
  apart_in_two p q number second has too it =
      in_order_so (λ a b. (nat_eq (number b) (number a) && nat_eq (second b) (second a)) ≡ false) (filter_map read there)
      (read_pairs read (KeysDiffer plain (p ∷ q ∷ [])) (λ a b. (nat_eq (number b) (number a) && nat_eq (second b) (second a)) ≡ false)
      (λ a b x y e f h. sym (agrees_in_two a b p q (number x) (number y) (second x) (second y) (has a x e) (has b y f) (too a x e) (too b y f)) ∙ h)
      there (keys_differ plain (p ∷ q ∷ []) there it.rise it.numbers it.apart))
