-- Why the DELETE of a unit fails: what tells of the unit goes with it, and each other row keeps its unit.
use Rattle.std.proofs.Common.{ℤ, ◌≡◌, ◌≢◌, ◌||◌, ◌&&◌, inl, inr, ℕ, pos, List, [], ◌∷◌, map, filter, length, nat_eq}
use Rattle.std.proofs.Common.{true, false, Ok, Err, None, Some, refl, sym, ap, ap₂, subst, ◌∙◌, arith}
use Rattle.sqlite.specs.Listing.{understood}
use Rattle.sqlite.specs.Ops.{binary}
use Rattle.sqlite.specs.declared.error.Error.{Error}
use Rattle.sqlite_rules.proofs.ActionLemmas.{no_works}
use Rattle.sqlite_rules.proofs.RuleLemmas.{refers_same}
use Rattle.sqlite_rules.specs.Action.{Writes, loses, pairs, works}
use Rattle.sqlite_rules.specs.Calls.{ids_of}
use Rattle.sqlite_rules.specs.declared.action.Deed.TheVariants.{Delete}
use Rattle.sqlite_schema.specs.Names.{same_name}
use Rattle.sqlite_schema.specs.declared.schema.Among.TheVariants.{All}
use Rattle.sqlite_schema.specs.declared.schema.Constraint.TheVariants.{ForeignKey}
use Rattle.sqlite_schema.specs.declared.schema.Keys.TheVariants.{Enforced}
use Rattle.sqlite_tied.specs.Compute.{everything}
use Rattle.sqlite_value.specs.Keys.{joined, first_key}
use Rattle.office_tables.proofs.DeleteCauses.{IsLeaf, delete_cause}
use Rattle.office_tables.specs.Schema as tables
use Rattle.catalogue_statements.proofs.Common.{AllByRecursion, Answers, AreRemoved, Binary, Compare, Database}
use Rattle.catalogue_statements.proofs.Common.{DeletedWith, ElementRow, Eq, Executes, First, Given, HasCause}
use Rattle.catalogue_statements.proofs.Common.{HasNumbered, HasUnitTables, HousingRow, Int, IsLive, IsUnlimited, Keeps}
use Rattle.catalogue_statements.proofs.Common.{Means, Obeys, PermitRow, Refers, RefusesQuery, Row, Second, State, Table}
use Rattle.catalogue_statements.proofs.Common.{Trees, Unit, Version, agree, all-map, all_from_map, all_has}
use Rattle.catalogue_statements.proofs.Common.{all_numbered, all_of, all_told, all_weaker, and_parts, ascending-filter}
use Rattle.catalogue_statements.proofs.Common.{cases_Bool, cases_eq, cells_of_unit, column, edit_of, element}
use Rattle.catalogue_statements.proofs.Common.{element_row, encoding, fault_of, has_parent, housing, housing_row}
use Rattle.catalogue_statements.proofs.Common.{is_held, is_null, is_referred_to, is_true, le_refl, length_permutation}
use Rattle.catalogue_statements.proofs.Common.{list_all, list_any, list_any-map, none_refuse, one_step, only}
use Rattle.catalogue_statements.proofs.Common.{parent_key, permit, permit_alone, permit_cells, permit_fits, place_table}
use Rattle.catalogue_statements.proofs.Common.{plain, references_fit, same_number, schema, sums_nothing, to_unit, unit}
use Rattle.catalogue_statements.proofs.Common.{without_records, wrote}
use Rattle.catalogue_statements.proofs.ElementStatements.{element_alone, element_fits}
use Rattle.catalogue_statements.proofs.HousingStatements.{housing_alone, housing_fits}
use Rattle.catalogue_statements.proofs.FoundUnits.{none_left, empty}
use Rattle.catalogue_statements.proofs.Moves.{id_of}
use Rattle.catalogue_statements.proofs.Removals.{all_kept, still_listed}
use Rattle.catalogue_statements.proofs.UnitDeletes.{keep, remove_unit_text, remove_unit_program, remove_unit_command}
use Rattle.catalogue_statements.proofs.UnitDeletes.{remove_unit_removes, shown_units, strict, the_one}

-- ---- the tables after some units are gone

-- the tables tell of the units that are left
pub told_after : (gone : List ℕ) (old new : Database) → HasUnitTables old.trees → AreRemoved gone old new → HasUnitTables new.trees
told_after gone old new told removed = record {
  units = without_records id_of gone told.units;
  unit_rows = removed.units told.units told.unit_rows told.units_rise;
  units_rise = ascending-filter _ _ told.units told.units_rise;
  elements = without_records (λ (e : ElementRow). e.unit) gone told.elements;
  element_rows = removed.elements told.elements told.element_rows;
  housings = without_records (λ (h : HousingRow). h.unit) gone told.housings;
  housing_rows = removed.housings told.housings told.housing_rows;
  permits = without_records (λ (p : PermitRow). p.unit) gone told.permits;
  permit_rows = removed.permits told.permits told.permit_rows;
}

unit_key : (v : Version) (place : ℕ)
    → parent_key (schema v).tables (to_unit place) ≡ Some (tables.unit.tree, 0 ∷ [], plain)
unfolding joined same_name
unit_key v place = refl

module _ (v : Version) (place : ℕ) where
  -- a row that tells a number has a parent where a unit has that number
  parent_of : (db : Trees) (units : List Unit) → db tables.unit.tree ≡ map cells_of_unit units → (r : Row) (n : ℕ)
      → column r place ≡ Int (pos n)
      → has_parent (schema v).tables db r (to_unit place) ≡ list_any (λ (u : Unit). nat_eq n u.id) units
  unfolding first_key
  parent_of db units stored r n is =
      let same : (u : Unit) → agree plain (0 ∷ []) (cells_of_unit u) (place ∷ []) r ≡ nat_eq n u.id =
      λ u. ap (λ x. is_true (binary (Compare Eq Binary) (Int (pos u.id)) x) && true) is ∙ only (same_number u.id n) in
      ap₂ ◌||◌ (ap (λ x. is_null x || false) is) (ap (is_held db (place ∷ []) r) (unit_key v place)
      ∙ ap (list_any (λ parent. agree plain (0 ∷ []) parent (place ∷ []) r)) stored
      ∙ list_any-map (λ parent. agree plain (0 ∷ []) parent (place ∷ []) r) cells_of_unit units
      ∙ (λ i. list_any (λ u. same u i) units))

  -- where all rows had their units before, those that are left have them still
  children_left : {R : Type 0} (cells : ℤ × R → Row) (number : R → ℕ)
      → ((x : ℤ × R) → column (cells x) place ≡ Int (pos (number x.1)))
      → (gone : List ℕ) (old new : Trees) (units : List Unit)
      → old tables.unit.tree ≡ map cells_of_unit units → new tables.unit.tree ≡ map cells_of_unit (without_records id_of gone units)
      → (tree : ℕ) (xs : List R) → HasNumbered cells (old tree) xs
      → HasNumbered cells (new tree) (without_records number gone xs)
      → AllByRecursion (λ r. (has_parent (schema v).tables old r (to_unit place) && true) ≡ true) (old tree)
      → AllByRecursion (λ r. (has_parent (schema v).tables new r (to_unit place) && true) ≡ true) (new tree)
  children_left {R} cells number answers gone old new units was now tree xs before after all =
      let P = λ (r : Row). (has_parent (schema v).tables old r (to_unit place) && true) ≡ true in
      let Q = λ (r : Row). (has_parent (schema v).tables new r (to_unit place) && true) ≡ true in
      let named = λ (us : List Unit) (x : R). list_any (λ (u : Unit). nat_eq (number x) u.id) us ≡ true in
      let those : AllByRecursion (named units) xs = all_told cells (old tree) xs before (named units)
      (all_weaker (λ x. P (cells x)) (λ x. named units x.1) (λ x h. sym (parent_of old units was (cells x) (number x.1) (answers x)) ∙ (and_parts _ _ h).0) before.numbered
      (all_from_map P cells before.numbered (subst (AllByRecursion P) before.are all))) in
      let left : AllByRecursion (named (without_records id_of gone units)) (without_records number gone xs) =
      all_kept (named units) (named (without_records id_of gone units)) (λ x. list_any (nat_eq (number x)) gone) xs (λ x apart h. still_listed (number x) gone units apart h) those in
      subst (AllByRecursion Q) (sym after.are) (all-map Q cells after.numbered
      (all_weaker (λ (x : ℤ × R). named (without_records id_of gone units) x.1) (λ x. Q (cells x)) (λ x h. ap (λ b. b && true) (parent_of new (without_records id_of gone units) now (cells x) (number x.1) (answers x) ∙ h)) after.numbered
      (all_numbered cells (new tree) (without_records number gone xs) after (named (without_records id_of gone units)) left)))

-- each row that is left has its parents
parents_left : (v : Version) (old new : Database) (gone : List ℕ) → HasUnitTables old.trees
    → Keeps ForeignKey (schema v) old.trees → AreRemoved gone old new → Refers All (schema v) new.trees
parents_left v old new gone told keeps removed =
    let now = removed.units told.units told.unit_rows told.units_rise in (
      free tables.reader.tree,
      (
        free tables.seat.tree,
        (
          free tables.orders.tree,
          (
            free tables.holding.tree,
            (
              free tables.run.tree,
              (
                free tables.run_line.tree,
                (
                  children_left v 2 permit_cells (λ p. p.unit) (λ _. refl) gone old.trees new.trees told.units told.unit_rows now tables.permit.tree told.permits told.permit_rows (removed.permits told.permits told.permit_rows) keeps.1.1.1.1.1.1.0,
                  (
                    free tables.office.tree,
                    (
                      free tables.unit.tree,
                      (
                        children_left v 1 element_row (λ e. e.unit) (λ _. refl) gone old.trees new.trees told.units told.unit_rows now tables.element.tree told.elements told.element_rows (removed.elements told.elements told.element_rows) keeps.1.1.1.1.1.1.1.1.1.0,
                        (
                          free tables.container.tree,
                          (
                            children_left v 1 housing_row (λ h. h.unit) (λ _. refl) gone old.trees new.trees told.units told.unit_rows now tables.housing.tree told.housings told.housing_rows (removed.housings told.housings told.housing_rows) keeps.1.1.1.1.1.1.1.1.1.1.1.0,
                            (
                              last v,
                              tt,
                            ),
                          ),
                        ),
                      ),
                    ),
                  ),
                ),
              ),
            ),
          ),
        ),
      ),
    )
  where
    free : (tree : ℕ) → AllByRecursion (λ _. true ≡ true) (new.trees tree)
    free tree = all_of (λ _. true ≡ true) (λ _. refl) (new.trees tree)

    last : (w : Version)
        → AllByRecursion (λ row. list_all (has_parent (schema v).tables new.trees row) (place_table (encoding w)).references ≡ true) (new.trees (place_table (encoding w)).tree)
    last v = free 24

-- ---- the statement

pub remove_unit_means : (v : Version) → Means v remove_unit_text 1 remove_unit_command
unfolding understood everything
remove_unit_means v = record { is = refl; plain = (refl, refl); whole = (le_refl _, refl, refl); unlisted = refl }

unit_fits : (v : Version) → references_fit (schema v) unit false true ≡ true
unfolding joined same_name
unit_fits v = refl

leaf : (v : Version) (child : Table) (place : ℕ) (moves : List (Row × Row))
    → is_referred_to (schema v) child.tree ≡ false → references_fit (schema v) child false true ≡ true
    → IsLeaf (schema v) (record { depth = 0; child = child; ref = to_unit place; places = 0 ∷ []; order = plain; deed = Delete; moves = moves })
leaf v child place moves alone fit =
    record { bare = record { depth = 0; child = child; ref = to_unit place; places = 0 ∷ []; order = plain; deed = Delete; moves = moves }; is = refl; alone = alone; fit = fit }

-- what goes with units are rows that nothing refers to
unit_leaves : (v : Version) (olds : List Row)
    → AllByRecursion (IsLeaf (schema v)) (works (schema v) Enforced 0 tables.unit.tree olds [])
unfolding joined same_name
unit_leaves First olds = elim (cases_Bool (list_any (loses plain (0 ∷ [])) (pairs olds []))) [
  | inl some ↦ rw some (leaf First permit 2 _ (permit_alone First) (permit_fits First), (leaf First element 1 _ (element_alone First) (element_fits First), (leaf First housing 1 _ (housing_alone First) (housing_fits First), tt)))
  | inr none ↦ rw none tt
]
unit_leaves Second olds = elim (cases_Bool (list_any (loses plain (0 ∷ [])) (pairs olds []))) [
  | inl some ↦ rw some (leaf Second permit 2 _ (permit_alone Second) (permit_fits Second), (leaf Second element 1 _ (element_alone Second) (element_fits Second), (leaf Second housing 1 _ (housing_alone Second) (housing_fits Second), tt)))
  | inr none ↦ rw none tt
]

module _ (v : Version) (db : Trees) (id : ℕ) (told : HasUnitTables db) (rows : List Row) (answer : Answers (record { schema = schema v; trees = db }) remove_unit_program (Int (pos id) ∷ []) rows) (obeys : Obeys (schema v) db) (after : Trees) where
  abbrev before : Database
  before = record { schema = schema v; trees = db }

  abbrev then : Database
  then = record { schema = schema v; trees = after }

  -- where no unit has the number nothing is written
  nothing_gone : rows ≡ [] → Writes (schema v) Enforced db (edit_of db unit (ids_of rows) Given 0 []) (Ok after)
      → Refers All (schema v) after
  nothing_gone none writes =
      let applies = one_step (schema v) Enforced db after (edit_of db unit [] Given 0 []) (no_works (schema v) Enforced 0 tables.unit.tree []) (subst (λ rows. Writes (schema v) Enforced db (edit_of db unit (ids_of rows) Given 0 []) (Ok after)) none writes) in
      refers_same All (schema v) db after (λ t listed. elim (cases_eq t.tree tables.unit.tree) [
        | inl same ↦ subst (λ k. after k ≡ db k) (sym same) applies.rows
        | inr other ↦ all_has (λ (t : Table). t.tree ≢ tables.unit.tree → after t.tree ≡ db t.tree) (schema v).tables t applies.tables listed other
      ]) (obeys.rules ForeignKey)

  parents : Writes (schema v) Enforced db (edit_of db unit (ids_of rows) Given 0 []) (Ok after)
      → Refers All (schema v) after
  parents writes = elim (cases_Bool (list_any (keep id) told.units)) [
    | inl there ↦
        let one = the_one id told.units told.units_rise there in
        let step = wrote (schema v) Enforced db after (edit_of db unit (ids_of rows) Given 0 []) writes in
        let it : DeletedWith (schema v) 8 unit refl strict (Int (pos id) ∷ []) remove_unit_program before then =
        record { rows = rows; answer = answer; next = step.0; applies = step.1; settles = step.2; schema_is = refl } in
        parents_left v before then (id ∷ []) told (obeys.rules ForeignKey) (remove_unit_removes before then id told.units one.0 v told.unit_rows told.units_rise one.1 one.2 it)
    | inr none ↦
        let found = shown_units before id rows answer told.units told.unit_rows in
        let ys : found.0 ≡ [] =
        empty found.0 (omega (arith, ap length (none_left (keep id) told.units none), length_permutation (filter (keep id) told.units) found.0 found.1)) in
        nothing_gone (found.2 ∙ ap (map (λ (x : Unit). Int (pos x.id) ∷ [])) ys) writes
  ]

pub remove_unit_cause : (old new : State) (id : ℕ) (v : Version) → old.now.schema ≡ schema v → HasUnitTables old.now.trees
    → IsLive old → IsUnlimited old → (e : Error) → Executes remove_unit_text (Int (pos id) ∷ []) old new (Err e)
    → HasCause old new (fault_of e)
remove_unit_cause old new id v has told =
    delete_cause remove_unit_text (Int (pos id) ∷ []) old new (schema v) has 8 remove_unit_program (remove_unit_means v).is (remove_unit_means v).plain (remove_unit_means v).whole unit refl
    (accepted v) (unit_fits v) (unit_leaves v) (λ rows answer obeys after writes. parents v old.now.trees id told rows answer obeys after writes)
  where
    accepted : (v : Version) (db : Trees) (e : Error)
        → RefusesQuery None (record { schema = schema v; trees = db }) remove_unit_program (Int (pos id) ∷ []) e → ⊥
    accepted v db e r = none_refuse r (λ t. let clash : true ≡ false = t in cc) (sums_nothing _)
