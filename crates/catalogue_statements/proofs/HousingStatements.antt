-- The statements on which units lie in which containers: what their texts mean, what they leave or tell, and why they fail.
use Rattle.std.proofs.Common.{◌≡◌, ℕ, ℤ, pos, List, [], ◌∷◌, map, filter, length, codes, Bool, true, false, not, ◌&&◌}
use Rattle.std.proofs.Common.{Result, OnOk, IfOk, IfErr, nat_eq, refl, sym, ◌∙◌}
use Rattle.std.specs.Bool.{⊤}
use Rattle.sqlite.specs.Command.TheVariants.{Delete}
use Rattle.sqlite.specs.Listing.{understood}
use Rattle.sqlite.specs.Source.TheVariants.{Values}
use Rattle.sqlite_schema.specs.Names.{same_name}
use Rattle.sqlite_tied.specs.Compute.{everything}
use Rattle.sqlite_value.specs.Keys.{joined, first_key}
use Rattle.catalogue_statements.specs.declared.row_types.Housing.{Housing}
use Rattle.catalogue_statements.proofs.Common.{Binary, Chosen, Command, Compare, Eq, Finds, HasCause, HasUnit}
use Rattle.catalogue_statements.proofs.Common.{HoldsNumbered, HousingRow, IfOk-weaker, Insert, Int, IsLive, IsOrdered}
use Rattle.catalogue_statements.proofs.Common.{IsUnlimited, IsWelcome, Means, Misses, Null, OnlyTouches, PutsRow, Ran}
use Rattle.catalogue_statements.proofs.Common.{Row, Select, State, StoreFault, Term, Version, accepts_program, agree}
use Rattle.catalogue_statements.proofs.Common.{all_of, asking, both, by_housing, by_two_ints, cast_int, cast_null}
use Rattle.catalogue_statements.proofs.Common.{choosing, col, delete_faults, delete_leaves, delete_only, edit_of}
use Rattle.catalogue_statements.proofs.Common.{either_first, end, eval_all, holds, housing, housing_row, inner}
use Rattle.catalogue_statements.proofs.Common.{insert_faults, insert_puts, is_referred_to, kept_ordered, le_refl}
use Rattle.catalogue_statements.proofs.Common.{list_all, list_any, lit, map-map, next_rowid, next_welcome, none_agrees}
use Rattle.catalogue_statements.proofs.Common.{on_ok_then, only, op2, plain, plain_query, references_fit, same_number}
use Rattle.catalogue_statements.proofs.Common.{schema, select_faults, select_finds, those_left, value_rows}
use Rattle.catalogue_statements.proofs.ElementStatements.{of_unit, by_unit, to_unit_fits, has_its_unit}

-- ---- a unit that is put into a container

abbrev pub insert_housing_text : List ℕ
insert_housing_text = codes "INSERT INTO housing (unit, ord, container) VALUES (?1, ?2, ?3)"

abbrev insert_housing_terms : List Term
insert_housing_terms = lit Null ∷ col 0 0 ∷ col 0 1 ∷ col 0 2 ∷ []

abbrev pub insert_housing_command : Command
insert_housing_command = Insert 11 (Values insert_housing_terms 4)

pub insert_housing_means : (v : Version) → Means v insert_housing_text 3 insert_housing_command
unfolding understood everything
insert_housing_means v = record { is = refl; plain = (refl, refl); whole = (le_refl _, refl, refl); unlisted = refl }

same_place : (a b : ℤ × HousingRow)
    → agree plain (1 ∷ 2 ∷ []) (housing_row a) (1 ∷ 2 ∷ []) (housing_row b) ≡ (nat_eq b.1.unit a.1.unit && nat_eq b.1.ord a.1.ord)
unfolding first_key
same_place a b = both (same_number a.1.unit b.1.unit) (same_number a.1.ord b.1.ord)

same_house : (a b : ℤ × HousingRow)
    → agree plain (3 ∷ 1 ∷ []) (housing_row a) (3 ∷ 1 ∷ []) (housing_row b) ≡ (nat_eq b.1.unit a.1.unit && nat_eq b.1.container a.1.container)
unfolding first_key
same_house a b =
    both (same_number a.1.container b.1.container) (same_number a.1.unit b.1.unit)
    ∙ either_first (nat_eq b.1.container a.1.container) (nat_eq b.1.unit a.1.unit)

module _ (old new : State) (unit_id ord n : ℕ) (v : Version) (has : old.now.schema ≡ schema v) where
  abbrev params : Row
  params = Int (pos unit_id) ∷ Int (pos ord) ∷ Int (pos n) ∷ []

  abbrev added : ℤ × HousingRow
  added = (next_rowid (old.now.trees housing.tree), record { unit = unit_id; ord = ord; container = n })

  news : (edit_of old.now.trees housing [] Chosen 0 (value_rows params 4 1 insert_housing_terms)).news ≡ housing_row added ∷ []
  news = rw (cast_null, cast_int (pos unit_id), cast_int (pos ord), cast_int (pos n)) refl

  pub insert_housing_puts : (r : Result Unit StoreFault) → Ran insert_housing_text params old new r
      → OnOk r (PutsRow housing.tree (housing_row added) old.now new.now)
  insert_housing_puts = insert_puts v 11 housing refl insert_housing_text insert_housing_terms 4 params (insert_housing_means v) old new has (housing_row added) news

  module _ (known : HasUnit old.now.trees unit_id) (xs : List HousingRow) (at : HoldsNumbered housing housing_row old xs)
      (none : list_any (λ (h : HousingRow). nat_eq unit_id h.unit && nat_eq ord h.ord) xs ≡ false) (other : list_any (λ (h : HousingRow). nat_eq unit_id h.unit && nat_eq n h.container) xs ≡ false) where
    welcome : IsWelcome (schema v) old.now.trees housing (housing_row added)
    welcome =
        let apart : list_any (λ r. agree plain (1 ∷ 2 ∷ []) r (1 ∷ 2 ∷ []) (housing_row added)) (old.now.trees housing.tree) ≡ false =
        none_agrees housing_row (old.now.trees housing.tree) xs at (1 ∷ 2 ∷ []) (housing_row added) (λ (h : HousingRow). nat_eq unit_id h.unit && nat_eq ord h.ord) (λ x. same_place x added) none in
        let other_too : list_any (λ r. agree plain (3 ∷ 1 ∷ []) r (3 ∷ 1 ∷ []) (housing_row added)) (old.now.trees housing.tree) ≡ false =
        none_agrees housing_row (old.now.trees housing.tree) xs at (3 ∷ 1 ∷ []) (housing_row added) (λ (h : HousingRow). nat_eq unit_id h.unit && nat_eq n h.container) (λ x. same_house x added) other in
        next_welcome v housing housing_row (λ (h : HousingRow). Int (pos h.unit) ∷ Int (pos h.ord) ∷ Int (pos h.container) ∷ []) (λ _. refl) (record { unit = unit_id; ord = ord; container = n }) xs old.now.trees at (rw (apart, other_too) refl)
        (record { typed = refl; present = refl; checked = refl; referred = to_unit_fits v; parents = has_its_unit v old.now.trees (housing_row added) unit_id refl known })

    pub insert_housing_faults : IsUnlimited old → IsLive old → (r : Result Unit StoreFault)
        → Ran insert_housing_text params old new r → IfErr r (HasCause old new)
    insert_housing_faults = insert_faults v 11 housing refl insert_housing_text insert_housing_terms 4 params (insert_housing_means v) old new has (housing_row added) news refl welcome

-- ---- a unit that is taken out of its containers

pub housing_alone : (v : Version) → is_referred_to (schema v) housing.tree ≡ false
unfolding joined same_name
housing_alone v = refl

pub housing_fits : (v : Version) → references_fit (schema v) housing false true ≡ true
unfolding joined same_name
housing_fits v = refl

abbrev pub clear_housings_text : List ℕ
clear_housings_text = codes "DELETE FROM housing WHERE unit = ?1"

abbrev pub clear_housings_command : Command
clear_housings_command = Delete 11 (choosing housing of_unit (col 1 0 ∷ []))

pub clear_housings_means : (v : Version) → Means v clear_housings_text 1 clear_housings_command
unfolding understood everything
clear_housings_means v = record { is = refl; plain = (refl, refl); whole = (le_refl _, refl, refl); unlisted = refl }

module _ (old new : State) (unit_id : ℕ) (v : Version) (has : old.now.schema ≡ schema v) where
  pub clear_housings_leaves : (xs : List HousingRow) → HoldsNumbered housing housing_row old xs
      → (r : Result Unit StoreFault) → Ran clear_housings_text (Int (pos unit_id) ∷ []) old new r
      → OnOk r (HoldsNumbered housing housing_row new (filter (λ (x : HousingRow). not (nat_eq unit_id x.unit)) xs))
  clear_housings_leaves xs at r ran =
      on_ok_then r _ _ (λ has. those_left housing_row (old.now.trees housing.tree) (new.now.trees housing.tree) xs at (λ (h : HousingRow). nat_eq unit_id h.unit) has.are)
      (delete_leaves v 11 housing refl (housing_alone v) clear_housings_text of_unit (col 1 0 ∷ []) (Int (pos unit_id) ∷ []) (clear_housings_means v) old new has
      housing_row (λ x. x.0) (λ _. refl) at.numbered at.are at.rise (λ (x : ℤ × HousingRow). nat_eq unit_id x.1.unit) (λ x. only (same_number x.1.unit unit_id)) (λ (x : ℤ × HousingRow). Int x.0 ∷ []) (λ _. refl) (λ _. refl) r ran)

  pub clear_housings_only : (r : Result Unit StoreFault) → Ran clear_housings_text (Int (pos unit_id) ∷ []) old new r
      → OnOk r (OnlyTouches (housing.tree ∷ []) old.now new.now)
  clear_housings_only = delete_only v 11 housing refl clear_housings_text _ (Int (pos unit_id) ∷ []) old new has (housing_alone v) (clear_housings_means v)

  pub clear_housings_faults : IsUnlimited old → IsLive old → (r : Result Unit StoreFault)
      → Ran clear_housings_text (Int (pos unit_id) ∷ []) old new r → IfErr r (HasCause old new)
  clear_housings_faults = delete_faults v 11 housing refl (housing_alone v) clear_housings_text of_unit (col 1 0 ∷ []) (Int (pos unit_id) ∷ []) (clear_housings_means v) old new has (housing_fits v) refl

-- ---- the containers of a unit, and the units in a container

-- a SELECT of some columns of the housings that the terms find
module _ (old new : State) (sql : List ℕ) (where_terms project : List Term) (names : List (List ℕ)) (params : Row) (v : Version)
    (means : Means v sql (length params) (Select (asking housing where_terms project by_unit) names)) (has : old.now.schema ≡ schema v) (xs : List HousingRow) (at : HoldsNumbered housing housing_row old xs)
    (keep : HousingRow → Bool) (keeps : (x : ℤ × HousingRow) → list_all (holds (params ∷ housing_row x ∷ [])) where_terms ≡ keep x.1)
    {T X : Type 0} (cells : T → Row) (items : X → List T) (tell : HousingRow → T) (answers : (x : ℤ × HousingRow) → eval_all project (params ∷ housing_row x ∷ []) ≡ cells (tell x.1)) (r : Result X StoreFault) where
  pub housings_finds : IfOk r (λ found. Finds cells sql params old new (items found))
      → IfOk r (λ found. (ys : List HousingRow) × IsOrdered by_housing (filter keep xs) ys × (items found ≡ map tell ys))
  housings_finds finds =
      IfOk-weaker r _ _ (λ found it. (
        map (λ x. x.1) it.0,
        kept_ordered housing_row by_housing (old.now.trees housing.tree) xs at keep it.0 it.1,
        it.2 ∙ sym (map-map tell (λ (x : ℤ × HousingRow). x.1) it.0),
      ))
      (select_finds v housing sql where_terms project by_unit names params means old new has housing_row at.numbered at.are (λ x. keep x.1) keeps
      (λ x. cells (tell x.1)) (λ (x : ℤ × HousingRow). Int (pos x.1.unit) ∷ Int (pos x.1.ord) ∷ []) answers (λ x y. by_housing x.1 y.1) (λ _. refl) (λ x y. by_two_ints (pos x.1.unit) (pos y.1.unit) (pos x.1.ord) (pos y.1.ord))
      cells items (λ x. tell x.1) (λ _. refl) r finds)

  pub housings_faults : accepts_program (schema v) [] (plain_query (inner housing.tree end) where_terms project by_unit) params ≡ true
      → IsUnlimited old → IfErr r (Misses cells (λ _. ⊤) sql params old new) → IfErr r (HasCause old new)
  housings_faults accepted free =
      select_faults v housing sql where_terms project by_unit names params means old new has housing_row at.numbered at.are (λ x. keep x.1) keeps
      (λ x. cells (tell x.1)) (λ (x : ℤ × HousingRow). Int (pos x.1.unit) ∷ Int (pos x.1.ord) ∷ []) answers (λ x y. by_housing x.1 y.1) (λ _. refl) (λ x y. by_two_ints (pos x.1.unit) (pos y.1.unit) (pos x.1.ord) (pos y.1.ord))
      cells items (λ x. tell x.1) (λ _. refl) (λ _. ⊤) accepted free (all_of (λ (_ : ℤ × HousingRow). ⊤) (λ _. tt) at.numbered) r

abbrev pub housings_text : List ℕ
housings_text = codes "SELECT ord, container FROM housing WHERE unit = ?1 ORDER BY unit, ord"

abbrev pub housings_columns : List Term
housings_columns = col 1 2 ∷ col 1 3 ∷ []

abbrev pub housings_names : List (List ℕ)
housings_names = codes "ord" ∷ codes "container" ∷ []

abbrev pub housings_command : Command
housings_command = Select (asking housing of_unit housings_columns by_unit) housings_names

pub housings_means : (v : Version) → Means v housings_text 1 housings_command
unfolding understood everything
housings_means v = record { is = refl; plain = (refl, refl); whole = (le_refl _, refl, refl); unlisted = refl }

abbrev pub housed_text : List ℕ
housed_text = codes "SELECT unit FROM housing WHERE container = ?1 ORDER BY unit, ord"

abbrev pub in_container : List Term
in_container = op2 (Compare Eq Binary) (col 1 3) (col 0 0) ∷ []

abbrev pub housed_names : List (List ℕ)
housed_names = codes "unit" ∷ []

abbrev pub housed_command : Command
housed_command = Select (asking housing in_container (col 1 1 ∷ []) by_unit) housed_names

pub housed_means : (v : Version) → Means v housed_text 1 housed_command
unfolding understood everything
housed_means v = record { is = refl; plain = (refl, refl); whole = (le_refl _, refl, refl); unlisted = refl }

abbrev told : HousingRow → Housing
told h = record { ord = h.ord; container = h.container }

abbrev housing_cells : Housing → Row
housing_cells h = Int (pos h.ord) ∷ Int (pos h.container) ∷ []

module _ (old new : State) (v : Version) (has : old.now.schema ≡ schema v) (xs : List HousingRow) (at : HoldsNumbered housing housing_row old xs) {X : Type 0} where
  module _ (unit_id : ℕ) (items : X → List Housing) (r : Result X StoreFault) where
    pub of_unit_finds : IfOk r (λ found. Finds housing_cells housings_text (Int (pos unit_id) ∷ []) old new (items found))
        → IfOk r (λ found. (ys : List HousingRow) × IsOrdered by_housing (filter (λ (h : HousingRow). nat_eq unit_id h.unit) xs) ys × (items found ≡ map told ys))
    of_unit_finds =
        housings_finds old new housings_text of_unit housings_columns housings_names (Int (pos unit_id) ∷ []) v (housings_means v) has xs at
        (λ (h : HousingRow). nat_eq unit_id h.unit) (λ x. only (same_number x.1.unit unit_id)) housing_cells items told (λ _. refl) r

    pub of_unit_faults : IsUnlimited old
        → IfErr r (Misses housing_cells (λ _. ⊤) housings_text (Int (pos unit_id) ∷ []) old new)
        → IfErr r (HasCause old new)
    of_unit_faults =
        housings_faults old new housings_text of_unit housings_columns housings_names (Int (pos unit_id) ∷ []) v (housings_means v) has xs at
        (λ (h : HousingRow). nat_eq unit_id h.unit) (λ x. only (same_number x.1.unit unit_id)) housing_cells items told (λ _. refl) r refl

  module _ (n : ℕ) (items : X → List ℕ) (r : Result X StoreFault) where
    pub housed_finds : IfOk r (λ found. Finds (λ u. Int (pos u) ∷ []) housed_text (Int (pos n) ∷ []) old new (items found))
        → IfOk r (λ found. (ys : List HousingRow) × IsOrdered by_housing (filter (λ (h : HousingRow). nat_eq n h.container) xs) ys × (items found ≡ map (λ (h : HousingRow). h.unit) ys))
    housed_finds =
        housings_finds old new housed_text in_container (col 1 1 ∷ []) housed_names (Int (pos n) ∷ []) v (housed_means v) has xs at
        (λ (h : HousingRow). nat_eq n h.container) (λ x. only (same_number x.1.container n)) (λ u. Int (pos u) ∷ []) items (λ (h : HousingRow). h.unit) (λ _. refl) r

    pub housed_faults : IsUnlimited old
        → IfErr r (Misses (λ u. Int (pos u) ∷ []) (λ _. ⊤) housed_text (Int (pos n) ∷ []) old new)
        → IfErr r (HasCause old new)
    housed_faults =
        housings_faults old new housed_text in_container (col 1 1 ∷ []) housed_names (Int (pos n) ∷ []) v (housed_means v) has xs at
        (λ (h : HousingRow). nat_eq n h.container) (λ x. only (same_number x.1.container n)) (λ u. Int (pos u) ∷ []) items (λ (h : HousingRow). h.unit) (λ _. refl) r refl
