-- The statements on the texts of the units: what their texts mean, what they leave or tell, and why they fail.
use Rattle.std.proofs.Common.{◌≡◌, ℕ, ℤ, pos, List, [], ◌∷◌, map, filter, codes, true, false, not, ◌&&◌, Result, OnOk}
use Rattle.std.proofs.Common.{IfOk, IfErr, nat_eq, nat_le, refl, sym, ap, ◌∙◌}
use Rattle.sqlite.specs.Command.TheVariants.{Delete}
use Rattle.sqlite.specs.Listing.{understood}
use Rattle.sqlite.specs.Source.TheVariants.{Values}
use Rattle.sqlite_schema.specs.Names.{same_name}
use Rattle.sqlite_tied.specs.Compute.{everything}
use Rattle.sqlite_value.specs.Keys.{joined, first_key}
use Rattle.catalogue_core.specs.Units.{Unit as Described}
use Rattle.catalogue_statements.proofs.Common.{AllByRecursion, AreElements, Binary, Bytes, Chosen, Command, Compare}
use Rattle.catalogue_statements.proofs.Common.{Element, ElementRow, Eq, Finds, HasCause, HasUnit, HoldsNumbered}
use Rattle.catalogue_statements.proofs.Common.{IfOk-weaker, Insert, Int, IsLive, IsOrdered, IsUnlimited, IsUtf8}
use Rattle.catalogue_statements.proofs.Common.{IsWelcome, Key, Le, Means, Misses, Null, OnlyTouches, PutsRow, Ran, Row}
use Rattle.catalogue_statements.proofs.Common.{Select, State, StoreFault, Term, Text, Trees, Version, agree}
use Rattle.catalogue_statements.proofs.Common.{all_numbered, any_mapped, ascending, asking, both, by_element}
use Rattle.catalogue_statements.proofs.Common.{by_two_ints, cast_int, cast_null, cells_of_unit, choosing, col, column}
use Rattle.catalogue_statements.proofs.Common.{delete_faults, delete_leaves, delete_only, edit_of, element, element_row}
use Rattle.catalogue_statements.proofs.Common.{has_id, has_null, has_parent, insert_faults, insert_puts, is_key_of}
use Rattle.catalogue_statements.proofs.Common.{is_referred_to, kept_ordered, le_refl, list_all, list_any, lit, map-map}
use Rattle.catalogue_statements.proofs.Common.{next_rowid, next_welcome, none_agrees, on_ok_then, only, op2, or_right}
use Rattle.catalogue_statements.proofs.Common.{plain, references_fit, same_number, schema, select_faults, select_finds}
use Rattle.catalogue_statements.proofs.Common.{those_left, to_unit, unit, value_rows}
use Rattle.catalogue_statements.proofs.NumberTests.{at_most}

-- ---- rows that go with a unit

pub to_unit_fits : (v : Version) → list_all (is_key_of (schema v)) (to_unit 1 ∷ []) ≡ true
unfolding joined same_name
to_unit_fits v = refl

held_by_unit : (v : Version) (db : Trees) (row : Row)
    → list_any (λ parent. agree plain (0 ∷ []) parent (1 ∷ []) row) (db unit.tree) ≡ true
    → list_all (has_parent (schema v).tables db row) (to_unit 1 ∷ []) ≡ true
unfolding joined same_name
held_by_unit v db row h = rw (h, or_right (has_null (1 ∷ []) row) true refl) refl

unit_agrees : (n : ℕ) (row : Row) → column row 1 ≡ Int (pos n) → (u : Described)
    → agree plain (0 ∷ []) (cells_of_unit u) (1 ∷ []) row ≡ has_id n u
unfolding first_key
unit_agrees n row is u = rw is (only (same_number u.id n))

-- the unit is there
pub has_its_unit : (v : Version) (db : Trees) (row : Row) (n : ℕ) → column row 1 ≡ Int (pos n) → HasUnit db n
    → list_all (has_parent (schema v).tables db row) (to_unit 1 ∷ []) ≡ true
has_its_unit v db row n is known =
    held_by_unit v db row (ap (list_any (λ parent. agree plain (0 ∷ []) parent (1 ∷ []) row)) known.rows ∙ any_mapped cells_of_unit _ (has_id n) (unit_agrees n row is) known.units ∙ known.there)

-- the row's unit is that of the parameter
abbrev pub of_unit : List Term
of_unit = op2 (Compare Eq Binary) (col 1 1) (col 0 0) ∷ []

-- by the unit, and then by the number after it
abbrev pub by_unit : List (Term × Key)
by_unit = (col 1 1, ascending Binary) ∷ (col 1 2, ascending Binary) ∷ []

-- ---- a new text

abbrev pub insert_element_text : List ℕ
insert_element_text = codes "INSERT INTO element (unit, k, value) VALUES (?1, ?2, ?3)"

abbrev insert_element_terms : List Term
insert_element_terms = lit Null ∷ col 0 0 ∷ col 0 1 ∷ col 0 2 ∷ []

abbrev pub insert_element_command : Command
insert_element_command = Insert 9 (Values insert_element_terms 4)

pub insert_element_means : (v : Version) → Means v insert_element_text 3 insert_element_command
unfolding understood everything
insert_element_means v = record { is = refl; plain = (refl, refl); whole = (le_refl _, refl, refl); unlisted = refl }

same_element : (a b : ℤ × ElementRow)
    → agree plain (1 ∷ 2 ∷ []) (element_row a) (1 ∷ 2 ∷ []) (element_row b) ≡ (nat_eq b.1.unit a.1.unit && nat_eq b.1.k a.1.k)
unfolding first_key
same_element a b = both (same_number a.1.unit b.1.unit) (same_number a.1.k b.1.k)

module _ (old new : State) (unit_id k : ℕ) (value : Bytes) (v : Version) (has : old.now.schema ≡ schema v) where
  abbrev params : Row
  params = Int (pos unit_id) ∷ Int (pos k) ∷ Text value ∷ []

  abbrev added : ℤ × ElementRow
  added = (next_rowid (old.now.trees element.tree), record { unit = unit_id; k = k; value = value })

  news : (edit_of old.now.trees element [] Chosen 0 (value_rows params 4 1 insert_element_terms)).news ≡ element_row added ∷ []
  news = rw (cast_null, cast_int (pos unit_id), cast_int (pos k)) refl

  pub insert_element_puts : (r : Result Unit StoreFault) → Ran insert_element_text params old new r
      → OnOk r (PutsRow element.tree (element_row added) old.now new.now)
  insert_element_puts = insert_puts v 9 element refl insert_element_text insert_element_terms 4 params (insert_element_means v) old new has (element_row added) news

  module _ (known : HasUnit old.now.trees unit_id) (xs : List ElementRow) (at : AreElements old.now.trees xs) (none : list_any (λ (e : ElementRow). nat_eq unit_id e.unit && nat_eq k e.k) xs ≡ false) where
    welcome : IsWelcome (schema v) old.now.trees element (element_row added)
    welcome =
        let apart : list_any (λ r. agree plain (1 ∷ 2 ∷ []) r (1 ∷ 2 ∷ []) (element_row added)) (old.now.trees element.tree) ≡ false =
        none_agrees element_row (old.now.trees element.tree) xs at.rows (1 ∷ 2 ∷ []) (element_row added) (λ (e : ElementRow). nat_eq unit_id e.unit && nat_eq k e.k) (λ x. same_element x added) none in
        next_welcome v element element_row (λ (e : ElementRow). Int (pos e.unit) ∷ Int (pos e.k) ∷ Text e.value ∷ []) (λ _. refl) (record { unit = unit_id; k = k; value = value }) xs old.now.trees at.rows (rw apart refl)
        (record { typed = refl; present = refl; checked = refl; referred = to_unit_fits v; parents = has_its_unit v old.now.trees (element_row added) unit_id refl known })

    pub insert_element_faults : IsUnlimited old → IsLive old → (r : Result Unit StoreFault)
        → Ran insert_element_text params old new r → IfErr r (HasCause old new)
    insert_element_faults = insert_faults v 9 element refl insert_element_text insert_element_terms 4 params (insert_element_means v) old new has (element_row added) news refl welcome

-- ---- no text more

pub element_alone : (v : Version) → is_referred_to (schema v) element.tree ≡ false
unfolding joined same_name
element_alone v = refl

pub element_fits : (v : Version) → references_fit (schema v) element false true ≡ true
unfolding joined same_name
element_fits v = refl

abbrev pub clear_elements_text : List ℕ
clear_elements_text = codes "DELETE FROM element WHERE unit = ?1"

abbrev pub clear_elements_command : Command
clear_elements_command = Delete 9 (choosing element of_unit (col 1 0 ∷ []))

pub clear_elements_means : (v : Version) → Means v clear_elements_text 1 clear_elements_command
unfolding understood everything
clear_elements_means v = record { is = refl; plain = (refl, refl); whole = (le_refl _, refl, refl); unlisted = refl }

module _ (old new : State) (unit_id : ℕ) (v : Version) (has : old.now.schema ≡ schema v) where
  pub clear_elements_leaves : (xs : List ElementRow) → HoldsNumbered element element_row old xs
      → (r : Result Unit StoreFault) → Ran clear_elements_text (Int (pos unit_id) ∷ []) old new r
      → OnOk r (HoldsNumbered element element_row new (filter (λ (x : ElementRow). not (nat_eq unit_id x.unit)) xs))
  clear_elements_leaves xs at r ran =
      on_ok_then r _ _ (λ has. those_left element_row (old.now.trees element.tree) (new.now.trees element.tree) xs at (λ (e : ElementRow). nat_eq unit_id e.unit) has.are)
      (delete_leaves v 9 element refl (element_alone v) clear_elements_text of_unit (col 1 0 ∷ []) (Int (pos unit_id) ∷ []) (clear_elements_means v) old new has
      element_row (λ x. x.0) (λ _. refl) at.numbered at.are at.rise (λ (x : ℤ × ElementRow). nat_eq unit_id x.1.unit) (λ x. only (same_number x.1.unit unit_id)) (λ (x : ℤ × ElementRow). Int x.0 ∷ []) (λ _. refl) (λ _. refl) r ran)

  pub clear_elements_only : (r : Result Unit StoreFault) → Ran clear_elements_text (Int (pos unit_id) ∷ []) old new r
      → OnOk r (OnlyTouches (element.tree ∷ []) old.now new.now)
  clear_elements_only = delete_only v 9 element refl clear_elements_text _ (Int (pos unit_id) ∷ []) old new has (element_alone v) (clear_elements_means v)

  pub clear_elements_faults : IsUnlimited old → IsLive old → (r : Result Unit StoreFault)
      → Ran clear_elements_text (Int (pos unit_id) ∷ []) old new r → IfErr r (HasCause old new)
  clear_elements_faults = delete_faults v 9 element refl (element_alone v) clear_elements_text of_unit (col 1 0 ∷ []) (Int (pos unit_id) ∷ []) (clear_elements_means v) old new has (element_fits v) refl

-- ---- the texts of a unit

abbrev pub elements_text : List ℕ
elements_text = codes "SELECT k, value FROM element WHERE unit = ?1 ORDER BY unit, k"

abbrev elements_columns : List Term
elements_columns = col 1 2 ∷ col 1 3 ∷ []

abbrev elements_names : List (List ℕ)
elements_names = codes "k" ∷ codes "value" ∷ []

abbrev pub elements_command : Command
elements_command = Select (asking element of_unit elements_columns by_unit) elements_names

pub elements_means : (v : Version) → Means v elements_text 1 elements_command
unfolding understood everything
elements_means v = record { is = refl; plain = (refl, refl); whole = (le_refl _, refl, refl); unlisted = refl }

abbrev told : ElementRow → Element
told e = record { k = e.k; value = e.value }

abbrev cells : Element → Row
cells e = Int (pos e.k) ∷ Text e.value ∷ []

abbrev told_of : ℤ × ElementRow → Element
told_of x = told x.1

module _ (old new : State) (unit_id : ℕ) (v : Version) (has : old.now.schema ≡ schema v) (xs : List ElementRow) (at : HoldsNumbered element element_row old xs) {X : Type 0} (items : X → List Element) (r : Result X StoreFault) where
  pub elements_found : IfOk r (λ found. Finds cells elements_text (Int (pos unit_id) ∷ []) old new (items found))
      → IfOk r (λ found. (ys : List ElementRow) × IsOrdered by_element (filter (λ (e : ElementRow). nat_eq unit_id e.unit) xs) ys × (items found ≡ map told ys))
  elements_found finds =
      IfOk-weaker r _ _ (λ found it. (
        map (λ x. x.1) it.0,
        kept_ordered element_row by_element (old.now.trees element.tree) xs at (λ (e : ElementRow). nat_eq unit_id e.unit) it.0 it.1,
        it.2 ∙ sym (map-map told (λ (x : ℤ × ElementRow). x.1) it.0),
      ))
      (select_finds v element elements_text of_unit elements_columns by_unit elements_names (Int (pos unit_id) ∷ []) (elements_means v) old new has element_row at.numbered at.are
      (λ (x : ℤ × ElementRow). nat_eq unit_id x.1.unit) (λ x. only (same_number x.1.unit unit_id)) (λ x. cells (told_of x)) (λ (x : ℤ × ElementRow). Int (pos x.1.unit) ∷ Int (pos x.1.k) ∷ []) (λ _. refl)
      (λ x y. by_element x.1 y.1) (λ _. refl) (λ x y. by_two_ints (pos x.1.unit) (pos y.1.unit) (pos x.1.k) (pos y.1.k)) cells items told_of (λ _. refl) r finds)

  pub elements_faults : AllByRecursion (λ (e : ElementRow). IsUtf8 e.value) xs → IsUnlimited old
      → IfErr r (Misses cells (λ (e : Element). IsUtf8 e.value) elements_text (Int (pos unit_id) ∷ []) old new)
      → IfErr r (HasCause old new)
  elements_faults legible free =
      select_faults v element elements_text of_unit elements_columns by_unit elements_names (Int (pos unit_id) ∷ []) (elements_means v) old new has element_row at.numbered at.are
      (λ (x : ℤ × ElementRow). nat_eq unit_id x.1.unit) (λ x. only (same_number x.1.unit unit_id)) (λ x. cells (told_of x)) (λ (x : ℤ × ElementRow). Int (pos x.1.unit) ∷ Int (pos x.1.k) ∷ []) (λ _. refl)
      (λ x y. by_element x.1 y.1) (λ _. refl) (λ x y. by_two_ints (pos x.1.unit) (pos y.1.unit) (pos x.1.k) (pos y.1.k)) cells items told_of (λ _. refl) (λ (e : Element). IsUtf8 e.value) refl free
      (all_numbered element_row (old.now.trees element.tree) xs at (λ (e : ElementRow). IsUtf8 e.value) legible) r

-- ---- the first texts of a unit

abbrev pub first_text : List ℕ
first_text = codes "SELECT k, value FROM element WHERE unit = ?1 AND k <= ?2 ORDER BY unit, k"

abbrev first_of_unit : List Term
first_of_unit = op2 (Compare Eq Binary) (col 1 1) (col 0 0) ∷ op2 (Compare Le Binary) (col 1 2) (col 0 1) ∷ []

abbrev pub first_command : Command
first_command = Select (asking element first_of_unit elements_columns by_unit) elements_names

pub first_means : (v : Version) → Means v first_text 2 first_command
unfolding understood everything
first_means v = record { is = refl; plain = (refl, refl); whole = (le_refl _, refl, refl); unlisted = refl }

module _ (old new : State) (unit_id most : ℕ) (v : Version) (has : old.now.schema ≡ schema v) (xs : List ElementRow) (at : HoldsNumbered element element_row old xs) {X : Type 0} (items : X → List Element) (r : Result X StoreFault) where
  pub first_found : IfOk r (λ found. Finds cells first_text (Int (pos unit_id) ∷ Int (pos most) ∷ []) old new (items found))
      → IfOk r (λ found. (ys : List ElementRow) × IsOrdered by_element (filter (λ (e : ElementRow). nat_eq unit_id e.unit && nat_le e.k most) xs) ys × (items found ≡ map told ys))
  first_found finds =
      IfOk-weaker r _ _ (λ found it. (
        map (λ x. x.1) it.0,
        kept_ordered element_row by_element (old.now.trees element.tree) xs at (λ (e : ElementRow). nat_eq unit_id e.unit && nat_le e.k most) it.0 it.1,
        it.2 ∙ sym (map-map told (λ (x : ℤ × ElementRow). x.1) it.0),
      ))
      (select_finds v element first_text first_of_unit elements_columns by_unit elements_names (Int (pos unit_id) ∷ Int (pos most) ∷ []) (first_means v) old new has element_row at.numbered at.are
      (λ (x : ℤ × ElementRow). nat_eq unit_id x.1.unit && nat_le x.1.k most) (λ x. both (same_number x.1.unit unit_id) (at_most x.1.k most)) (λ x. cells (told_of x)) (λ (x : ℤ × ElementRow). Int (pos x.1.unit) ∷ Int (pos x.1.k) ∷ []) (λ _. refl)
      (λ x y. by_element x.1 y.1) (λ _. refl) (λ x y. by_two_ints (pos x.1.unit) (pos y.1.unit) (pos x.1.k) (pos y.1.k)) cells items told_of (λ _. refl) r finds)

  pub first_faults : AllByRecursion (λ (e : ElementRow). IsUtf8 e.value) xs → IsUnlimited old
      → IfErr r (Misses cells (λ (e : Element). IsUtf8 e.value) first_text (Int (pos unit_id) ∷ Int (pos most) ∷ []) old new)
      → IfErr r (HasCause old new)
  first_faults legible free =
      select_faults v element first_text first_of_unit elements_columns by_unit elements_names (Int (pos unit_id) ∷ Int (pos most) ∷ []) (first_means v) old new has element_row at.numbered at.are
      (λ (x : ℤ × ElementRow). nat_eq unit_id x.1.unit && nat_le x.1.k most) (λ x. both (same_number x.1.unit unit_id) (at_most x.1.k most)) (λ x. cells (told_of x)) (λ (x : ℤ × ElementRow). Int (pos x.1.unit) ∷ Int (pos x.1.k) ∷ []) (λ _. refl)
      (λ x y. by_element x.1 y.1) (λ _. refl) (λ x y. by_two_ints (pos x.1.unit) (pos y.1.unit) (pos x.1.k) (pos y.1.k)) cells items told_of (λ _. refl) (λ (e : Element). IsUtf8 e.value) refl free
      (all_numbered element_row (old.now.trees element.tree) xs at (λ (e : ElementRow). IsUtf8 e.value) legible) r
