-- DELETE of a unit, with its elements, its housings and the permits for it.
use Rattle.std.proofs.Common.{◌≡◌, inl, inr, ℕ, zero, suc, arith, length, length-append, ℤ, pos, List, [], ◌∷◌, map}
use Rattle.std.proofs.Common.{filter, find, codes, Bool, true, false, ◌&&◌, ◌||◌, not, cond, Some, None, unwrap_or, Ok}
use Rattle.std.proofs.Common.{nat_eq, refl, sym, ap, ap₂, subst, ◌∙◌}
use Rattle.std.specs.declared.cmp.Ordering.TheVariants.{Less}
use Rattle.sqlite.specs.Command.TheVariants as command
use Rattle.sqlite.specs.Listing.{understood}
use Rattle.sqlite.specs.Ops.{binary}
use Rattle.sqlite.specs.State.{Writes}
use Rattle.sqlite.specs.declared.run.Mode.{Mode}
use Rattle.sqlite_rules.specs.Action.{works, Work, pairs, loses, Settles, is_child_of}
use Rattle.sqlite_rules.specs.Calls.{ids_of}
use Rattle.sqlite_rules.specs.declared.action.Deed.TheVariants.{Delete}
use Rattle.sqlite_schema.specs.Names.{same_name}
use Rattle.sqlite_schema.specs.declared.program.Program.{Program}
use Rattle.sqlite_schema.specs.declared.schema.Keys.TheVariants.{Enforced}
use Rattle.sqlite_tied.specs.Compute.{everything}
use Rattle.sqlite_value.specs.Keys.{joined, first_key}
use Rattle.office_tables.proofs.Cascades.{IsCascade, three_works, cascade_rows, cascade_apart}
use Rattle.office_tables.proofs.Rows.{tests as tests_of}
use Rattle.office_tables.proofs.Updates.{deletes_rows}
use Rattle.office_tables.specs.Schema as tables
use Rattle.catalogue_statements.proofs.Common.{AllByRecursion, Answers, AreRemoved, Binary, Command, Compare, Database}
use Rattle.catalogue_statements.proofs.Common.{DeletedWith, ElementRow, Eq, Executes, Given, HasNumbered, HousingRow}
use Rattle.catalogue_statements.proofs.Common.{Int, IsPermutation, IsPlain, Null, OnlyTouches, PermitRow, Rises, Row}
use Rattle.catalogue_statements.proofs.Common.{State, Table, Trees, Unit, Version, by_number, cases_Bool, cells_of_unit}
use Rattle.catalogue_statements.proofs.Common.{choosing, chosen, col, column, command_of, deleted_with, edit_of}
use Rattle.catalogue_statements.proofs.Common.{element, element_row, eq-eqb, eqb-true, has_rowid, housing, housing_row}
use Rattle.catalogue_statements.proofs.Common.{is_true, list_any, mode_of, one_permutation, only, op2, permit}
use Rattle.catalogue_statements.proofs.Common.{permit_alone, permit_cells, plain, row_at, runs_as, same_nat}
use Rattle.catalogue_statements.proofs.Common.{same_number, schema, statement_of, taken_by, those_left, to_unit}
use Rattle.catalogue_statements.proofs.Common.{touched, touched_then, touched_wider, unit, unit_tables, without_records}
use Rattle.catalogue_statements.proofs.ElementStatements.{element_alone}
use Rattle.catalogue_statements.proofs.HousingStatements.{housing_alone}
use Rattle.catalogue_statements.proofs.Moves.{other_number}
use Rattle.catalogue_statements.proofs.Without.{without_one}

abbrev pub remove_unit_text : List ℕ
remove_unit_text = codes "DELETE FROM unit WHERE id = ?1"

abbrev pub remove_unit_program : Program
remove_unit_program = choosing unit (op2 (Compare Eq Binary) (col 1 0) (col 0 0) ∷ []) (col 1 0 ∷ [])

abbrev pub remove_unit_command : Command
remove_unit_command = command.Delete 8 remove_unit_program

pub remove_unit_is : (v : Version) → command_of (understood (schema v) remove_unit_text) ≡ remove_unit_command
unfolding understood everything
remove_unit_is v = refl

pub remove_unit_plain : (v : Version) → IsPlain (understood (schema v) remove_unit_text)
unfolding understood everything
remove_unit_plain v = (refl, refl)

-- ---- the work on the children of a unit, which tell it at a place

abbrev work_on : Table → ℕ → Unit → Work
work_on child place u = record { depth = 0; child = child; ref = to_unit place; places = 0 ∷ []; order = plain; deed = Delete; moves = (cells_of_unit u, []) ∷ [] }

no_null : (n : ℤ) → is_true (binary (Compare Eq Binary) (Int n) Null) ≡ false
unfolding binary
no_null n = refl

lost : (u : Unit) → loses plain (0 ∷ []) (cells_of_unit u, []) ≡ true
unfolding first_key
lost u = ap₂ (λ a b. (a && true) && not (b && true)) (same_number u.id u.id ∙ eq-eqb u.id u.id refl) (no_null (pos u.id))

works_are : (v : Version) (u : Unit)
    → works (schema v) Enforced 0 tables.unit.tree (cells_of_unit u ∷ []) [] ≡ work_on permit 2 u ∷ work_on element 1 u ∷ work_on housing 1 u ∷ []
unfolding joined same_name
works_are v u = rw (lost u) refl

-- the same where any rows are gone

abbrev work_with : Table → ℕ → List (Row × Row) → Work
work_with child place moves =
    record { depth = 0; child = child; ref = to_unit place; places = 0 ∷ []; order = plain; deed = Delete; moves = moves }

works_any : (v : Version) (olds : List Row) → list_any (loses plain (0 ∷ [])) (pairs olds []) ≡ true
    → works (schema v) Enforced 0 tables.unit.tree olds [] ≡ work_with permit 2 (pairs olds []) ∷ work_with element 1 (pairs olds []) ∷ work_with housing 1 (pairs olds []) ∷ []
unfolding joined same_name
works_any v olds some = rw some refl

works_none : (v : Version) (olds : List Row) → list_any (loses plain (0 ∷ [])) (pairs olds []) ≡ false
    → works (schema v) Enforced 0 tables.unit.tree olds [] ≡ []
unfolding joined same_name
works_none v olds none = rw none refl

child_is : (child : Table) (place : ℕ) (u : Unit) (n : ℕ) (r : Row) → column r place ≡ Int (pos n)
    → list_any (is_child_of (work_on child place u) r) (work_on child place u).moves ≡ nat_eq u.id n
unfolding first_key
child_is child place u n r is =
    ap₂ (λ a b. (a && (b && true)) || false) (lost u) (ap (λ v. is_true (binary (Compare Eq Binary) v (Int (pos u.id)))) is ∙ same_number n u.id)
    ∙ tidy (nat_eq u.id n)
  where
    tidy : (b : Bool) → ((true && (b && true)) || false) ≡ b
    tidy true = refl
    tidy false = refl

found_one : {A B : Type 0} (f : A → B) (p : B → Bool) (q : A → Bool) → ((x : A) → p (f x) ≡ q x) → (xs : List A) (x : A)
    → filter q xs ≡ x ∷ [] → find p (map f xs) ≡ Some (f x)
found_one f p q same [] x h = absurd (let e = h in cc)
found_one f p q same (y ∷ ys) x h = elim (q y) as (λ b. p (f y) ≡ b → cond b (y ∷ filter q ys) (filter q ys) ≡ x ∷ [] → cond (p (f y)) (Some (f y)) (find p (map f ys)) ≡ Some (f x)) [
  | true ↦ λ passes e. let is : y ≡ x = cc in rw (passes, is) refl
  | false ↦ λ fails e. rw fails (found_one f p q same ys x e)
] (same y) h

abbrev pub keep : ℕ → Unit → Bool
keep id u = nat_eq id u.id

module _ (old new : State) (id : ℕ) (count : ℕ) (v : Version) (has : old.now.schema ≡ schema v) (h : Executes remove_unit_text (Int (pos id) ∷ []) old new (Ok count)) where
  remove_unit_w : Writes old new None remove_unit_command (statement_of remove_unit_text (understood (schema v) remove_unit_text)) (Int (pos id) ∷ []) count
  remove_unit_w = runs_as remove_unit_text (Int (pos id) ∷ []) old new (schema v) has remove_unit_command (remove_unit_is v) (remove_unit_plain v) count h

  pub remove_unit_it : DeletedWith (schema v) 8 unit refl (mode_of old) (Int (pos id) ∷ []) remove_unit_program old.now new.now
  remove_unit_it = deleted_with (schema v) 8 unit refl old.step_limit (mode_of old) (Int (pos id) ∷ []) (statement_of remove_unit_text (understood (schema v) remove_unit_text)) remove_unit_program old.now new.now remove_unit_w.tally has remove_unit_w.changed

-- keys are enforced, and none is in doubt
abbrev pub strict : Mode
strict = record { keys = Enforced; in_doubt = false; may_wait = false }

-- the statement shows the numbers of the units that have this one
pub shown_units : (old : Database) (id : ℕ) (rows : List Row) → Answers old remove_unit_program (Int (pos id) ∷ []) rows
    → (xs : List Unit) → old.trees tables.unit.tree ≡ map cells_of_unit xs
    → (ys : List Unit) × IsPermutation (filter (keep id) xs) ys × (rows ≡ map (λ (x : Unit). Int (pos x.id) ∷ []) ys)
shown_units old id rows answer xs from =
    chosen tables.unit.tree (op2 (Compare Eq Binary) (col 1 0) (col 0 0) ∷ []) (col 1 0 ∷ []) old.trees (Int (pos id) ∷ []) cells_of_unit (λ (x : Unit). Int (pos x.id) ∷ []) xs (keep id) from
    (λ x. only (same_number x.id id)) (λ _. refl) rows (answer.answer Null)

module _ (old new : Database) (id : ℕ) (units : List Unit) (u : Unit) (v : Version) (stored : old.trees tables.unit.tree ≡ map cells_of_unit units) (up : Rises by_number units)
    (id_is : u.id ≡ id) (there : filter (keep id) units ≡ u ∷ []) (it : DeletedWith (schema v) 8 unit refl strict (Int (pos id) ∷ []) remove_unit_program old new) where
  got : (xs : List Unit) → old.trees tables.unit.tree ≡ map cells_of_unit xs
      → (ys : List Unit) × IsPermutation (filter (keep id) xs) ys × (it.rows ≡ map (λ (x : Unit). Int (pos x.id) ∷ []) ys)
  got = shown_units old id it.rows it.answer

  units_left : (xs : List Unit) → old.trees tables.unit.tree ≡ map cells_of_unit xs → Rises by_number xs
      → it.next tables.unit.tree ≡ map cells_of_unit (without_records (λ (x : Unit). x.id) (id ∷ []) xs)
  units_left xs from rise =
      let found = got xs from in
      it.applies.rows ∙ deletes_rows unit cells_of_unit (λ x. pos x.id) (λ _. refl) old.trees xs from rise (keep id) found.0 found.1 (λ (x : Unit). Int (pos x.id) ∷ []) (λ _. refl) it.rows found.2
      ∙ ap (map cells_of_unit) (without_one (λ (x : Unit). x.id) id xs)

  ids : ids_of it.rows ≡ pos u.id ∷ []
  ids = let found = got units stored in ap ids_of (found.2 ∙ ap (map (λ (x : Unit). Int (pos x.id) ∷ [])) (one_permutation u found.0 (subst (λ l. IsPermutation l found.0) there found.1)))

  same_row : (x : Unit) → has_rowid (pos u.id) (cells_of_unit x) ≡ keep u.id x
  same_row x = tests_of cells_of_unit (λ x. pos x.id) (λ _. refl) (pos u.id) x ∙ same_nat x.id u.id

  taken : taken_by old.trees (edit_of old.trees unit (ids_of it.rows) Given 0 []) ≡ cells_of_unit u ∷ []
  taken =
      ap (map (row_at (old.trees tables.unit.tree))) ids
      ∙ ap (λ rows. row_at rows (pos u.id) ∷ []) stored
      ∙ ap (λ o. unwrap_or o [] ∷ []) (found_one cells_of_unit (has_rowid (pos u.id)) (keep u.id) same_row units u (ap (λ n. filter (keep n) units) id_is ∙ there))

  cascade : (first : Trees) × (second : Trees) × IsCascade (schema v) Enforced (work_on housing 1 u) it.next first × IsCascade (schema v) Enforced (work_on element 1 u) first second × IsCascade (schema v) Enforced (work_on permit 2 u) second new.trees
  cascade = three_works (schema v) Enforced it.next new.trees (work_on permit 2 u) (work_on element 1 u) (work_on housing 1 u) (permit_alone v) (element_alone v) (housing_alone v)
      (subst (λ ws. Settles (schema v) Enforced it.next ws (Ok new.trees)) (ap (λ olds. works (schema v) Enforced 0 tables.unit.tree olds []) taken ∙ works_are v u) it.settles)

  abbrev first : Trees
  first = cascade.0

  abbrev second : Trees
  second = cascade.1

  to_next : OnlyTouches (tables.unit.tree ∷ []) old (record old { trees = it.next })
  to_next = touched v old (record old { trees = it.next }) tables.unit.tree it.applies.tables

  to_first : OnlyTouches (tables.housing.tree ∷ []) (record old { trees = it.next }) (record old { trees = first })
  to_first = touched v (record old { trees = it.next }) (record old { trees = first }) tables.housing.tree (cascade_apart (schema v) Enforced (work_on housing 1 u) it.next first cascade.2)

  to_second : OnlyTouches (tables.element.tree ∷ []) (record old { trees = first }) (record old { trees = second })
  to_second = touched v (record old { trees = first }) (record old { trees = second }) tables.element.tree (cascade_apart (schema v) Enforced (work_on element 1 u) first second cascade.3)

  to_new : OnlyTouches (tables.permit.tree ∷ []) (record old { trees = second }) new
  to_new = touched v (record old { trees = second }) new tables.permit.tree (cascade_apart (schema v) Enforced (work_on permit 2 u) second new.trees cascade.4)

  same_test_as : {A : Type 0} (number : A → ℕ) (xs : List A)
      → filter (λ x. not (nat_eq u.id (number x))) xs ≡ without_records number (id ∷ []) xs
  same_test_as number xs = ap (λ n. filter (λ x. not (nat_eq n (number x))) xs) id_is ∙ without_one number id xs

  -- the unit is gone, with all that tells of it
  pub remove_unit_removes : AreRemoved (id ∷ []) old new
  remove_unit_removes = record {
    units = λ xs from rise. to_new tables.unit.tree refl refl ∙ to_second tables.unit.tree refl refl ∙ to_first tables.unit.tree refl refl ∙ units_left xs from rise;
    elements = λ xs has.
        let at = to_first tables.element.tree refl refl ∙ to_next tables.element.tree refl refl ∙ has.are in
        subst (HasNumbered element_row (new.trees tables.element.tree)) (same_test_as (λ (e : ElementRow). e.unit) xs)
        (those_left element_row (old.trees tables.element.tree) (new.trees tables.element.tree) xs has (λ (e : ElementRow). nat_eq u.id e.unit)
        (to_new tables.element.tree refl refl
        ∙ cascade_rows (schema v) Enforced (work_on element 1 u) element_row (λ e. e.0) (λ _. refl) first second has.numbered at has.rise (λ e. nat_eq u.id e.1.unit) (λ e. child_is element 1 u e.1.unit (element_row e) refl) cascade.3));
    housings = λ xs has.
        let at = to_next tables.housing.tree refl refl ∙ has.are in
        subst (HasNumbered housing_row (new.trees tables.housing.tree)) (same_test_as (λ (h : HousingRow). h.unit) xs)
        (those_left housing_row (old.trees tables.housing.tree) (new.trees tables.housing.tree) xs has (λ (h : HousingRow). nat_eq u.id h.unit)
        (to_new tables.housing.tree refl refl ∙ to_second tables.housing.tree refl refl
        ∙ cascade_rows (schema v) Enforced (work_on housing 1 u) housing_row (λ h. h.0) (λ _. refl) it.next first has.numbered at has.rise (λ h. nat_eq u.id h.1.unit) (λ h. child_is housing 1 u h.1.unit (housing_row h) refl) cascade.2));
    permits = λ xs has.
        let at =
        to_second tables.permit.tree refl refl ∙ to_first tables.permit.tree refl refl
        ∙ to_next tables.permit.tree refl refl ∙ has.are in
        subst (HasNumbered permit_cells (new.trees tables.permit.tree)) (same_test_as (λ (p : PermitRow). p.unit) xs)
        (those_left permit_cells (old.trees tables.permit.tree) (new.trees tables.permit.tree) xs has (λ (p : PermitRow). nat_eq u.id p.unit)
        (cascade_rows (schema v) Enforced (work_on permit 2 u) permit_cells (λ p. p.0) (λ _. refl) second new.trees has.numbered at has.rise (λ p. nat_eq u.id p.1.unit) (λ p. child_is permit 2 u p.1.unit (permit_cells p) refl) cascade.4));
    only = touched_wider (tables.unit.tree ∷ tables.housing.tree ∷ tables.element.tree ∷ tables.permit.tree ∷ []) unit_tables old new refl
        (touched_then (tables.unit.tree ∷ tables.housing.tree ∷ []) (tables.element.tree ∷ tables.permit.tree ∷ []) old (record old { trees = first }) new
        (touched_then (tables.unit.tree ∷ []) (tables.housing.tree ∷ []) old (record old { trees = it.next }) (record old { trees = first }) to_next to_first)
        (touched_then (tables.element.tree ∷ []) (tables.permit.tree ∷ []) (record old { trees = first }) (record old { trees = second }) new to_second to_new));
  }

-- ---- which tables it touches, whatever their rows are

nothing_left : (v : Version) (next final : Trees) → Settles (schema v) Enforced next [] (Ok final) → final ≡ next
nothing_left v next final (zero, h) = sym (let e = h.1 in cc)
nothing_left v next final (suc n, h) = absurd (omega (arith, ap length h.2, length-append h.0 (h.1 ∷ [])))

module _ (old new : Database) (id : ℕ) (v : Version) (it : DeletedWith (schema v) 8 unit refl strict (Int (pos id) ∷ []) remove_unit_program old new) where
  gone : List Row
  gone = taken_by old.trees (edit_of old.trees unit (ids_of it.rows) Given 0 [])

  moves : List (Row × Row)
  moves = pairs gone []

  next_only : OnlyTouches (tables.unit.tree ∷ []) old (record old { trees = it.next })
  next_only = touched v old (record old { trees = it.next }) tables.unit.tree it.applies.tables

  all_only : (first second : Trees) → IsCascade (schema v) Enforced (work_with housing 1 moves) it.next first
      → IsCascade (schema v) Enforced (work_with element 1 moves) first second
      → IsCascade (schema v) Enforced (work_with permit 2 moves) second new.trees → OnlyTouches unit_tables old new
  all_only first second p q r =
      let next = record old { trees = it.next } in
      let one = record old { trees = first } in
      let two = record old { trees = second } in
      let to_one = touched v next one tables.housing.tree (cascade_apart (schema v) Enforced (work_with housing 1 moves) it.next first p) in
      let to_two = touched v one two tables.element.tree (cascade_apart (schema v) Enforced (work_with element 1 moves) first second q) in
      let to_new = touched v two new tables.permit.tree (cascade_apart (schema v) Enforced (work_with permit 2 moves) second new.trees r) in
      touched_wider (tables.unit.tree ∷ tables.housing.tree ∷ tables.element.tree ∷ tables.permit.tree ∷ []) unit_tables old new refl
      (touched_then (tables.unit.tree ∷ tables.housing.tree ∷ []) (tables.element.tree ∷ tables.permit.tree ∷ []) old one new
      (touched_then (tables.unit.tree ∷ []) (tables.housing.tree ∷ []) old next one next_only to_one)
      (touched_then (tables.element.tree ∷ []) (tables.permit.tree ∷ []) one two new to_two to_new))

  pub remove_unit_only : OnlyTouches unit_tables old new
  unfolding gone moves
  remove_unit_only = elim (cases_Bool (list_any (loses plain (0 ∷ [])) moves)) [
    | inl some ↦
        let all = three_works (schema v) Enforced it.next new.trees (work_with permit 2 moves) (work_with element 1 moves) (work_with housing 1 moves) (permit_alone v) (element_alone v) (housing_alone v)
        (subst (λ ws. Settles (schema v) Enforced it.next ws (Ok new.trees)) (works_any v gone some) it.settles) in
        all_only all.0 all.1 all.2 all.3 all.4
    | inr none ↦
        let same : new.trees ≡ it.next =
        nothing_left v it.next new.trees (subst (λ ws. Settles (schema v) Enforced it.next ws (Ok new.trees)) (works_none v gone none) it.settles) in
        touched_wider (tables.unit.tree ∷ []) unit_tables old new refl
        (λ tree there other. ap (λ (d : Trees). d tree) same ∙ next_only tree there other)
  ]

-- ---- the one unit of a number

none_after : (x : Unit) (xs : List Unit) → AllByRecursion (λ y. by_number x y ≡ Less) xs → filter (keep x.id) xs ≡ []
none_after x [] up = refl
none_after x (y ∷ ys) up = rw (other_number x.id y.id up.0) (none_after x ys up.1)

pub the_one : (id : ℕ) (xs : List Unit) → Rises by_number xs → list_any (λ (u : Unit). nat_eq id u.id) xs ≡ true
    → (u : Unit) × (u.id ≡ id) × (filter (keep id) xs ≡ u ∷ [])
the_one id [] up h = absurd (cc)
the_one id (x ∷ xs) up h = elim (cases_Bool (nat_eq id x.id)) [
  | inl e ↦
      let same : id ≡ x.id = eqb-true id x.id e in
      (x, sym same, rw e (ap (λ l. x ∷ l) (ap (λ n. filter (keep n) xs) same ∙ none_after x xs up.0)))
  | inr n ↦ let rest = the_one id xs up.1 (rw n at h) in (rest.0, rest.1, rw n rest.2)
]
