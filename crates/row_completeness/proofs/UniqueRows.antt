-- Rows that a unique index guards have no key twice.
use Rattle.std.proofs.Common.{◌≡◌, ℕ, ℤ, pos, List, [], ◌∷◌, map, nat_eq, Bool, true, false, cond, ◌&&◌, Option, Some}
use Rattle.std.proofs.Common.{None, filter_map, Ordering, Less, arith, refl, sym, ap, ap₂, ◌∙◌, inl, inr, IsTrue}
use Rattle.std.specs.List.{IsDistinct}
use Rattle.sqlite.specs.Ops.{binary}
use Rattle.sqlite.specs.declared.types.Value.{Value}
use Rattle.sqlite_schema.specs.Rules.{agree, clashes, differ}
use Rattle.sqlite_trees.specs.Tree.{rowid}
use Rattle.sqlite_trees.specs.View.{is_int}
use Rattle.sqlite_value.specs.Order.{value_cmp}
use Rattle.sqlite_value.specs.declared.keys.Order.{Order}
use Rattle.tree_core.proofs.Lists.{In}
use Rattle.desk_core.specs.Orders.{in_order, put_in_order}
use Rattle.office_tables.proofs.Tests.{only}
use Rattle.office_tables.proofs.numbered.Counted.{less_below}
use Rattle.row_decoding.specs.TableRows.{by}
use Rattle.row_completeness.proofs.Common.{AllByRecursion, Int, IsAscending, IsTable, Rises, Row, cons_option, int_cmp}
use Rattle.row_completeness.proofs.Common.{le-ltb, list_any, ne_eqb, or_parts}
use Rattle.row_completeness.proofs.KeptRows.{int_of}

-- ---- numbers of rows

ints_differ : (m n : ℤ) → value_cmp (Int m) (Int n) ≡ Less → differ (Int m) (Int n) ≡ true
unfolding binary
ints_differ m n h = rw h refl

differs : (v w : Value) → IsTrue (is_int v) → IsTrue (is_int w) → value_cmp v w ≡ Less → differ v w ≡ true
differs v w is said h =
    let a = int_of v is in
    let b = int_of w said in
    ap₂ differ a.1 b.1 ∙ ints_differ a.0 b.0 (sym (ap₂ value_cmp a.1 b.1) ∙ h)

-- ---- no two rows have one key

none_at : {X : Type 0} (p : X → Bool) (xs : List X) (x : X) → list_any p xs ≡ false → In x xs → p x ≡ false
none_at p [] x h i = absurd i
none_at p (y ∷ ys) x h (inl e) = ap p e ∙ (or_parts (p y) (list_any p ys) h).0
none_at p (y ∷ ys) x h (inr i) = none_at p ys x (or_parts (p y) (list_any p ys) h).1 i

module _ (o : Order) (places : List ℕ) where
  -- the two have not the same key
  abbrev pub KeysDiffer : Row → Row → Type 0
  KeysDiffer a b = agree o places a places b ≡ false

  abbrev HasOwnKey : List Row → Row → Type 0
  HasOwnKey all row = clashes o places all row ≡ false

  abbrev HasNumber : Row → Type 0
  HasNumber row = IsTrue (is_int (rowid row))

  two_differ : (all : List Row) (a b : Row) → In a all → HasNumber a → HasNumber b
      → value_cmp (rowid a) (rowid b) ≡ Less → HasOwnKey all b → KeysDiffer a b
  two_differ all a b i is said less own =
      sym (only refl) ∙ (ap (λ d. agree o places a places b && d) (sym (differs (rowid a) (rowid b) is said less))
      ∙ none_at (λ other. agree o places other places b && differ (rowid other) (rowid b)) all a own i)

  later_differ : (all : List Row) (a : Row) → In a all → HasNumber a → (rows : List Row)
      → AllByRecursion (λ b. value_cmp (rowid a) (rowid b) ≡ Less) rows → AllByRecursion HasNumber rows
      → AllByRecursion (HasOwnKey all) rows
      → AllByRecursion (KeysDiffer a) rows
  later_differ all a i is [] less said own = tt
  later_differ all a i is (b ∷ rows) less said own =
      (two_differ all a b i is said.0 less.0 own.0, later_differ all a i is rows less.1 said.1 own.1)

  among : (all rows : List Row) → ((row : Row) → In row rows → In row all) → IsTable rows
      → AllByRecursion HasNumber rows → AllByRecursion (HasOwnKey all) rows → IsAscending KeysDiffer rows
  among all [] inside up is own = tt
  among all (a ∷ rows) inside up is own = (
    later_differ all a (inside a (inl refl)) is.0 rows up.0 is.1 own.1,
    among all rows (λ row i. inside row (inr i)) up.1 is.1 own.1,
  )

  pub keys_differ : (rows : List Row) → IsTable rows → AllByRecursion HasNumber rows
      → AllByRecursion (HasOwnKey rows) rows → IsAscending KeysDiffer rows
  keys_differ rows up is own = among rows rows (λ row i. i) up is own

-- ---- of what is read

-- what holds of rows, each with all later ones, holds of what is read of them
module _ {X : Type 0} (read : Row → Option X) (R : Row → Row → Type 0) (S : X → X → Type 0) (answers : (a b : Row) (x y : X) → read a ≡ Some x → read b ≡ Some y → R a b → S x y) where
  read_later : (a : Row) (x : X) → read a ≡ Some x → (rows : List Row) → AllByRecursion (R a) rows
      → AllByRecursion (S x) (filter_map read rows)
  read_later a x is [] h = tt
  read_later a x is (b ∷ rows) h = at (read_later a x is rows h.1) (read b) refl
    where
      at : AllByRecursion (S x) (filter_map read rows) → (o : Option X) → read b ≡ o
          → AllByRecursion (S x) (cons_option o (filter_map read rows))
      at more None said = more
      at more (Some y) said = (answers a b x y is said h.0, more)

  pub read_pairs : (rows : List Row) → IsAscending R rows → IsAscending S (filter_map read rows)
  read_pairs [] h = tt
  read_pairs (a ∷ rows) h = at (read_pairs rows h.1) (read a) refl
    where
      at : IsAscending S (filter_map read rows) → (o : Option X) → read a ≡ o
          → IsAscending S (cons_option o (filter_map read rows))
      at more None said = more
      at more (Some x) said = (read_later a x said rows h.0, more)

pub distinct_pairs : {X : Type 0} (alike : X → X → Bool) (xs : List X) → IsAscending (λ x y. alike x y ≡ false) xs
    → IsDistinct alike xs
unfolding IsDistinct
distinct_pairs alike [] h = tt
distinct_pairs alike (x ∷ xs) h = (h.0, distinct_pairs alike xs h.1)

-- ---- rows that rise by a number

module _ {X : Type 0} (number : X → ℕ) where
  abbrev by_number : X → X → Ordering
  by_number a b = int_cmp (pos (number a)) (pos (number b))

  others : (x : X) (xs : List X) → AllByRecursion (λ y. by_number x y ≡ Less) xs
      → AllByRecursion (λ n. nat_eq (number x) n ≡ false) (map number xs)
  others x [] h = tt
  others x (y ∷ ys) h = (let less = less_below (number x) (number y) h.0 in ne_eqb (number x) (number y) (λ e. omega (arith, e, less)), others x ys h.1)

  -- none comes twice
  pub distinct_numbers : (xs : List X) → Rises by_number xs → IsDistinct nat_eq (map number xs)
  unfolding IsDistinct
  distinct_numbers [] up = tt
  distinct_numbers (x ∷ xs) up = (others x xs up.0, distinct_numbers xs up.1)

  put_first : (x : X) (xs : List X) → AllByRecursion (λ y. by_number x y ≡ Less) xs
      → put_in_order (by number) x xs ≡ x ∷ xs
  put_first x [] h = refl
  put_first x (y ∷ ys) h =
      let less = less_below (number x) (number y) h.0 in
      ap (λ b. cond b (y ∷ put_in_order (by number) x ys) (x ∷ y ∷ ys)) (le-ltb (number y) (number x) (omega (arith, less)))

  -- they stand in that order
  pub stay_in_order : (xs : List X) → Rises by_number xs → in_order (by number) xs ≡ xs
  stay_in_order [] up = refl
  stay_in_order (x ∷ xs) up = ap (put_in_order (by number) x) (stay_in_order xs up.1) ∙ put_first x xs up.0
