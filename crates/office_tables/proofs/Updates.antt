-- What UPDATE and DELETE leave of a table of typed records.
use Rattle.std.proofs.Common.{◌≡◌, ℤ, List, [], ◌∷◌, map, filter, drop, Bool, true, not, if◌then◌else◌, refl, sym, ap}
use Rattle.std.proofs.Common.{ap₂, ◌∙◌}
use Rattle.office_tables.proofs.Common.{AllByRecursion, Given, Has, Int, IsPermutation, Rises, Row, Table, Trees}
use Rattle.office_tables.proofs.Common.{all_from, are_fresh, cast_row, edit_of, edited, id_in, ids_of, left_by, map-map}
use Rattle.office_tables.proofs.Common.{numbered, put_all, rowid, without_all}
use Rattle.office_tables.proofs.Rows.{by_key, removed, replaced}

pub given_as : (news rows : List Row) → numbered Given rows news ≡ news
given_as [] rows = refl
given_as (r ∷ news) rows = ap (λ l. r ∷ l) (given_as news _)

map_same : {A B : Type 0} (f g : A → B) (xs : List A) → AllByRecursion (λ x. f x ≡ g x) xs → map f xs ≡ map g xs
map_same f g [] h = refl
map_same f g (x ∷ xs) h = ap₂ ◌∷◌ h.0 (map_same f g xs h.1)

module _ {A : Type 0} (table : Table) (row : A → Row) (key : A → ℤ) (keyed : (x : A) → rowid (row x) ≡ Int (key x))
    (db : Trees) (xs : List A) (stored : db table.tree ≡ map row xs) (up : Rises (by_key row key keyed) xs)
    (keep : A → Bool) (ys : List A) (perm : IsPermutation (filter keep xs) ys)
    (source : A → Row) (named : (x : A) → id_in (rowid (source x)) ≡ key x) (rows : List Row) (shown : rows ≡ map source ys) where
  ids : ids_of rows ≡ map key ys
  ids = ap ids_of shown ∙ map-map (λ r. id_in (rowid r)) source ys ∙ (λ i. map (λ x. named x i) ys)

  pub left_is : without_all (db table.tree) (ids_of rows) ≡ without_all (map row xs) (map key ys)
  left_is = ap₂ without_all stored ids

  -- DELETE
  pub deletes_rows : edited db (edit_of db table (ids_of rows) Given 0 []) ≡ map row (filter (λ x. not (keep x)) xs)
  deletes_rows = left_is ∙ removed row key keyed xs up keep ys perm

  -- UPDATE
  module _ (change : A → A) (same_id : (x : A) → key (change x) ≡ key x) (casts : (x : A) → Has ys x → cast_row table (drop 1 (source x)) ≡ row (change x)) where
    news_are : map (λ s. cast_row table (drop 1 s)) rows ≡ map (λ x. row (change x)) ys
    news_are =
        ap (map (λ s. cast_row table (drop 1 s))) shown ∙ map-map (λ s. cast_row table (drop 1 s)) source ys
        ∙ map_same (λ x. cast_row table (drop 1 (source x))) (λ x. row (change x)) ys (all_from (λ x. cast_row table (drop 1 (source x)) ≡ row (change x)) ys casts)

    pub put_are : numbered Given (without_all (db table.tree) (ids_of rows)) (map (λ s. cast_row table (drop 1 s)) rows) ≡ map (λ x. row (change x)) ys
    put_are = given_as _ _ ∙ news_are

    pub changes_rows : are_fresh (left_by db (edit_of db table (ids_of rows) Given 1 rows)) (numbered Given (without_all (db table.tree) (ids_of rows)) (map (λ s. cast_row table (drop 1 s)) rows)) ≡ true
        → edited db (edit_of db table (ids_of rows) Given 1 rows) ≡ map row (map (λ x. if keep x then change x else x) xs)
    changes_rows fresh =
        ap₂ put_all left_is put_are
        ∙ replaced row key keyed xs up keep ys perm change same_id (sym (ap₂ are_fresh left_is put_are) ∙ fresh)
