-- UPDATE of a table that foreign keys refer to with no ON UPDATE.
use Rattle.std.proofs.Common.{◌≡◌, ℕ, List, [], ◌∷◌, ◌++◌, length, Bool, true, false, ◌==◌, None, refl, sym, ap, ap₂}
use Rattle.std.proofs.Common.{◌∙◌, arith, map, drop}
use Rattle.std.specs.List.{flat_map, filter_map}
use Rattle.sqlite_rules.proofs.RowLemmas.{length-numbered}
use Rattle.sqlite_schema.specs.declared.schema.Action.{Action}
use Rattle.sqlite_schema.specs.declared.schema.Action.TheVariants.{NoAction}
use Rattle.office_tables.proofs.Common.{Enforced, Given, Reference, Row, Schema, Table, Trees, and_parts, cast_row}
use Rattle.office_tables.proofs.Common.{cons_option, deed_for, edit_of, id_in, ids_of, length-map, list_all, nat_tests}
use Rattle.office_tables.proofs.Common.{no_works, pairs, parent_key, row_at, rowid, taken_by, without_all, work_by}
use Rattle.office_tables.proofs.Common.{work_for, works}

abbrev pub is_none : Action → Bool
is_none NoAction = true
is_none _ = false

abbrev pub updates_freely : Schema → Bool
updates_freely schema = list_all (λ t. list_all (λ ref. is_none ref.on_update) t.references) schema.tables

none_is : (a : Action) → is_none a ≡ true → a ≡ NoAction
none_is NoAction h = refl
none_is _ h = absurd (cc)

some_rows : (n : Row) (news : List Row) → (length (n ∷ news) == 0) ≡ false
some_rows n news = grind (arith, nat_tests)

no_deed : (n : Row) (news : List Row) (ref : Reference) → is_none ref.on_update ≡ true
    → deed_for Enforced (length (n ∷ news) == 0) ref ≡ None
no_deed n news ref h = rw (some_rows n news, none_is ref.on_update h) refl

pub no_works_on_update : (schema : Schema) (depth tree : ℕ) (olds news : List Row) → updates_freely schema ≡ true
    → length olds ≡ length news → works schema Enforced depth tree olds news ≡ []
no_works_on_update schema depth tree [] news free same = no_works schema Enforced depth tree news
no_works_on_update schema depth tree (o ∷ olds) [] free same = absurd (omega (arith, same))
no_works_on_update schema depth tree (o ∷ olds) (n ∷ news) free same = each schema.tables free
  where
    none : (child : Table) (refs : List Reference) → list_all (λ ref. is_none ref.on_update) refs ≡ true
        → filter_map (work_for schema Enforced depth tree (o ∷ olds) (n ∷ news) child) refs ≡ []
    none child [] h = refl
    none child (ref ∷ refs) h =
        let k = and_parts _ _ h in
        ap₂ cons_option (ap (λ deed. work_by depth tree (pairs (o ∷ olds) (n ∷ news)) child ref deed (parent_key schema.tables ref)) (no_deed n news ref k.0)) (none child refs k.1)

    each : (tables : List Table) → list_all (λ t. list_all (λ ref. is_none ref.on_update) t.references) tables ≡ true
        → flat_map (λ child. filter_map (work_for schema Enforced depth tree (o ∷ olds) (n ∷ news) child) child.references) tables ≡ []
    each [] h = refl
    each (t ∷ tables) h = let k = and_parts _ _ h in ap₂ ◌++◌ (none t t.references k.0) (each tables k.1)

-- an UPDATE takes out as many rows as it puts in
pub as_many : (db : Trees) (table : Table) (rows : List Row)
    → length (taken_by db (edit_of db table (ids_of rows) Given 1 rows)) ≡ length (edit_of db table (ids_of rows) Given 1 rows).news
as_many db table rows =
    length-map (ids_of rows) (row_at (db table.tree)) ∙ length-map rows (λ r. id_in (rowid r))
    ∙ sym (length-numbered Given (without_all (db table.tree) (ids_of rows)) (map (λ s. cast_row table (drop 1 s)) rows) ∙ length-map rows (λ s. cast_row table (drop 1 s)))
