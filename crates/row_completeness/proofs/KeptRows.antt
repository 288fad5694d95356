-- Rows of which each can be read and has all its cells are the rows of what is read.
use Rattle.std.proofs.Common.{◌≡◌, ℕ, zero, suc, ℤ, pos, List, [], ◌∷◌, length, map, false, Option, Some, None, is_none}
use Rattle.std.proofs.Common.{filter_map, Ordering, Less, refl, sym, ap, ap₂, ◌∙◌, unwrap_or, IsTrue}
use Rattle.std.specs.Prelude.{option_map}
use Rattle.sqlite.specs.declared.types.Value.{Value}
use Rattle.sqlite_trees.specs.View.{is_int}
use Rattle.sqlite_value.proofs.OrderLemmas.{value_cmp-Int}
use Rattle.sqlite_value.specs.Order.{value_cmp}
use Rattle.office_tables.specs.Cells.{whole_in, has_unread}
use Rattle.office_tables.specs.RowNumbers.{HasNumbered}
use Rattle.row_completeness.proofs.Common.{AllByRecursion, Blob, Int, IsPermutation-same, IsTable, Null, Real, Rises}
use Rattle.row_completeness.proofs.Common.{Row, Text, column, cons_option, int_cmp, or_from, or_parts, true≢false}

-- a whole number
pub int_of : (v : Value) → IsTrue (is_int v) → (n : ℤ) × (v ≡ Int n)
int_of Null h = absurd (true≢false (sym h))
int_of (Int n) h = (n, refl)
int_of (Real x) h = absurd (true≢false (sym h))
int_of (Text t) h = absurd (true≢false (sym h))
int_of (Blob b) h = absurd (true≢false (sym h))

-- ---- a row is its cells

-- so many cells, from a place on
abbrev pub cells_from : ℕ → ℕ → Row → Row
cells_from at zero row = []
cells_from at (suc more) row = column row at ∷ cells_from (suc at) more row

later_cells : (at more : ℕ) (v : Value) (row : Row) → cells_from (suc at) more (v ∷ row) ≡ cells_from at more row
later_cells at zero v row = refl
later_cells at (suc more) v row = ap (λ (l : Row). column row at ∷ l) (later_cells (suc at) more v row)

all_cells : (row : Row) → row ≡ cells_from 0 (length row) row
all_cells [] = refl
all_cells (v ∷ row) = ap (λ (l : Row). v ∷ l) (all_cells row ∙ sym (later_cells 0 (length row) v row))

pub whole_row : (n : ℕ) (row : Row) → length row ≡ n → row ≡ cells_from 0 n row
whole_row n row h = all_cells row ∙ ap (λ m. cells_from 0 m row) h

-- ---- the rows of a table

module _ {X : Type 0} (read : Row → Option X) where
  -- each can be read
  pub rows_kept : (cells : X → Row) (P : Row → Type 0)
      → ((row : Row) (x : X) → read row ≡ Some x → P row → row ≡ cells x) → (rows : List Row)
      → has_unread read rows ≡ false → AllByRecursion P rows
      → rows ≡ map cells (filter_map read rows)
  rows_kept cells P each [] all h = refl
  rows_kept cells P each (row ∷ rows) all h =
      at (rows_kept cells P each rows (or_parts _ _ all).1 h.1) (read row) refl (or_parts _ _ all).0
    where
      at : rows ≡ map cells (filter_map read rows) → (o : Option X) → read row ≡ o → is_none o ≡ false
          → row ∷ rows ≡ map cells (cons_option o (filter_map read rows))
      at more None said none = absurd (true≢false none)
      at more (Some x) said none = ap₂ ◌∷◌ (each row x said h.0) more

  -- they rise by the numbers of their rows
  module _ (number : X → ℤ) (P : Row → Type 0) (keyed : (row : Row) (x : X) → read row ≡ Some x → P row → column row 0 ≡ Int (number x)) where
    abbrev pub by_its_number : X → X → Ordering
    by_its_number a b = int_cmp (number a) (number b)

    behind : (a : Row) (x : X) → read a ≡ Some x → P a → (rows : List Row)
        → AllByRecursion (λ b. value_cmp (column a 0) (column b 0) ≡ Less) rows → AllByRecursion P rows
        → AllByRecursion (λ y. by_its_number x y ≡ Less) (filter_map read rows)
    behind a x is fit [] h all = tt
    behind a x is fit (b ∷ rows) h all = at (behind a x is fit rows h.1 all.1) (read b) refl
      where
        at : AllByRecursion (λ y. by_its_number x y ≡ Less) (filter_map read rows) → (o : Option X) → read b ≡ o
            → AllByRecursion (λ y. by_its_number x y ≡ Less) (cons_option o (filter_map read rows))
        at more None said = more
        at more (Some y) said = (sym (ap₂ value_cmp (keyed a x is fit) (keyed b y said all.0) ∙ value_cmp-Int (number x) (number y)) ∙ h.0, more)

    pub rows_rise : (rows : List Row) → IsTable rows → AllByRecursion P rows
        → Rises by_its_number (filter_map read rows)
    rows_rise [] up all = tt
    rows_rise (a ∷ rows) up all = at (rows_rise rows up.1 all.1) (read a) refl
      where
        at : Rises by_its_number (filter_map read rows) → (o : Option X) → read a ≡ o
            → Rises by_its_number (cons_option o (filter_map read rows))
        at more None said = more
        at more (Some x) said = (behind a x said all.0 rows up.0 all.1, more)

-- ---- rows whose number tells nothing of what is read

abbrev pub number_of : Row → ℤ
number_of row = unwrap_or (whole_in (column row 0)) (pos 0)

module _ {X : Type 0} (read : Row → Option X) where
  -- what is read of a row, under its number
  abbrev pub numbered : Row → Option (ℤ × X)
  numbered row = option_map (λ x. (number_of row, x)) (read row)

  none_unread : (rows : List Row) → has_unread read rows ≡ false → has_unread numbered rows ≡ false
  none_unread [] h = refl
  none_unread (row ∷ rows) h =
      or_from (is_none (numbered row)) (has_unread numbered rows) (at (read row) (or_parts _ _ h).0) (none_unread rows (or_parts _ _ h).1)
    where
      at : (o : Option X) → is_none o ≡ false → is_none {T = ℤ × X} (option_map (λ x. (number_of row, x)) o) ≡ false
      at None none = none
      at (Some x) none = none

  as_read : (rows : List Row) → map (λ (p : ℤ × X). p.1) (filter_map numbered rows) ≡ filter_map read rows
  as_read [] = refl
  as_read (row ∷ rows) = at (as_read rows) (read row)
    where
      at : map (λ (p : ℤ × X). p.1) (filter_map numbered rows) ≡ filter_map read rows → (o : Option X)
          → map (λ (p : ℤ × X). p.1) (cons_option (option_map (λ x. (number_of row, x)) o) (filter_map numbered rows)) ≡ cons_option o (filter_map read rows)
      at more None = more
      at more (Some x) = ap (λ (l : List X). x ∷ l) more

  parts : (row : Row) (o : Option X) (p : ℤ × X) → option_map (λ x. (number_of row, x)) o ≡ Some p
      → (number_of row ≡ p.0) × (o ≡ Some p.1)
  parts row None p h = absurd cc
  parts row (Some x) p h =
      let same : (number_of row, x) ≡ p = ap (λ (o : Option (ℤ × X)). unwrap_or o p) h in (
        ap (λ (q : ℤ × X). q.0) same,
        ap (λ (q : ℤ × X). Some q.1) same,
      )

  module _ (P : Row → Type 0) (has_number : (row : Row) → P row → IsTrue (is_int (column row 0))) where
    is_its_number : (row : Row) (p : ℤ × X) → numbered row ≡ Some p → P row → column row 0 ≡ Int p.0
    is_its_number row p h fit =
        let n = int_of (column row 0) (has_number row fit) in
        n.1 ∙ ap Int (sym (ap (λ v. unwrap_or (whole_in v) (pos 0)) n.1) ∙ (parts row (read row) p h).0)

    -- the table has what is read
    pub has_numbered : (cells : ℤ × X → Row)
        → ((row : Row) (x : X) (n : ℤ) → read row ≡ Some x → column row 0 ≡ Int n → P row → row ≡ cells (n, x))
        → (rows : List Row) → has_unread read rows ≡ false
        → IsTable rows → AllByRecursion P rows → HasNumbered cells rows (filter_map read rows)
    has_numbered cells is rows read_all up all = record {
      numbered = filter_map numbered rows;
      are = rows_kept numbered cells P (λ row p h fit. is row p.1 p.0 (parts row (read row) p h).1 (is_its_number row p h fit) fit) rows (none_unread rows read_all) all;
      rise = rows_rise numbered (λ (p : ℤ × X). p.0) P is_its_number rows up all;
      tell = IsPermutation-same _ _ (sym (as_read rows));
    }
