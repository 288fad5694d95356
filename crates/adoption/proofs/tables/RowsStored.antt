-- A table whose rows are whole and can all be read has the cells of what is read, in the order of its key.
use Rattle.std.proofs.Common.{◌≡◌, ℕ, ℤ, pos, ◌<◌, List, [], ◌∷◌, map, Bool, false, Option, Some, Less, filter_map, sym}
use Rattle.std.proofs.Common.{ap, subst, ◌∙◌, IsTrue}
use Rattle.adoption.proofs.Common.{AllByRecursion, AreByNumber, AreInOrder, HasNumbered, Int, IsAscending}
use Rattle.adoption.proofs.Common.{IsPermutation-sym, IsPermutation-trans, IsTable, Row, all_weaker, by, column}
use Rattle.adoption.proofs.Common.{has_numbered, has_unread, in_order, in_order-permutation, int_cmp, is_int}
use Rattle.adoption.proofs.Common.{less_below, rows_kept, rows_rise, stay_in_order}

-- ---- orders

-- each stands as it should to every later one
pub in_order_so : {X : Type 0} (R : X → X → Type 0) (xs : List X) → IsAscending R xs → AreInOrder R xs
in_order_so R [] up = tt
in_order_so R (x ∷ xs) up = (up.0, in_order_so R xs up.1)

rise_by : {R : Type 0} (key : R → ℕ) (rows : List R) → AreByNumber key rows → AreInOrder (λ a b. key a < key b) rows
rise_by key [] up = tt
rise_by key (r ∷ rows) up =
    (all_weaker (λ x. int_cmp (pos (key r)) (pos (key x)) ≡ Less) (λ x. key r < key x) (λ x less. less_below (key r) (key x) less) rows up.0, rise_by key rows up.1)

-- ---- rows by the key that is their number

-- the table has the cells of the rows that are read, which stand by their key
pub record AreStored {R : Type 0} (cells : R → Row) (key : R → ℕ) (there : List Row) (rows : List R) : Type 0 where
  pub are : there ≡ map cells rows
  pub by_number : AreByNumber key rows
  pub rise : AreInOrder (λ a b. key a < key b) rows

module _ {R : Type 0} (read : Row → Option R) (cells : R → Row) (P : Row → Type 0) (is : (row : Row) (r : R) → read row ≡ Some r → P row → row ≡ cells r) where
  module _ (key : R → ℕ) (keyed : (r : R) → column (cells r) 0 ≡ Int (pos (key r))) (there : List Row) where
    rise : AllByRecursion P there → IsTable there → AreByNumber key (filter_map read there)
    rise whole up = rows_rise read (λ r. pos (key r)) P (λ row r e fit. ap (λ (x : Row). column x 0) (is row r e fit) ∙ keyed r) there up whole

    -- taken by their key they stand as they do in the table
    pub stays : AllByRecursion P there → IsTable there
        → in_order (by key) (filter_map read there) ≡ filter_map read there
    stays whole up = stay_in_order key (filter_map read there) (rise whole up)

    pub stored : has_unread read there ≡ false → AllByRecursion P there → IsTable there
        → AreStored cells key there (in_order (by key) (filter_map read there))
    stored all whole up =
        subst (AreStored cells key there) (sym (stays whole up))
        (record { are = rows_kept read cells P is there all whole; by_number = rise whole up; rise = rise_by key (filter_map read there) (rise whole up) })

-- ---- rows with a number of their own

-- in whatever order they are taken
pub numbered : {R : Type 0} (read : Row → Option R) (cells : ℤ × R → Row) (P : Row → Type 0)
    → ((row : Row) → P row → IsTrue (is_int (column row 0)))
    → ((row : Row) (r : R) (n : ℤ) → read row ≡ Some r → column row 0 ≡ Int n → P row → row ≡ cells (n, r))
    → (before : R → R → Bool) (there : List Row) → has_unread read there ≡ false → AllByRecursion P there
    → IsTable there → HasNumbered cells there (in_order before (filter_map read there))
numbered read cells P own is before there all whole up =
    let it = has_numbered read P own cells is there all up whole in
    let rows = filter_map read there in
    record {
      numbered = it.numbered;
      are = it.are;
      rise = it.rise;
      tell = IsPermutation-trans (in_order before rows) rows (map (λ (x : ℤ × _). x.1) it.numbered) (IsPermutation-sym rows (in_order before rows) (in_order-permutation before rows)) it.tell;
    }
