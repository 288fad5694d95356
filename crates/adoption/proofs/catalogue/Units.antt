-- The units that rows say have these rows.
use Rattle.std.proofs.Common.{◌≡◌, ℕ, pos, List, [], ◌∷◌, map, Option, Some, None, find, nat_eq, false, Less, refl, sym}
use Rattle.std.proofs.Common.{ap, ap₂, subst, ◌∙◌}
use Rattle.std.specs.Prelude.{option_map, unwrap_or}
use Rattle.tree_core.proofs.EachLemmas.{nodes-each}
use Rattle.catalogue_core.specs.CatalogueRows.{unit_row as row_of_unit}
use Rattle.office_tables.specs.Schema as tables
use Rattle.adoption.proofs.Common.{AllByRecursion, CatalogueRows, Forest, IsPermutation, IsPermutation-map}
use Rattle.adoption.proofs.Common.{RepresentsUnits, Rises, Trees, Unit, UnitRow, by_number, cells_of_unit, each}
use Rattle.adoption.proofs.Common.{int_cmp, map-map, nodes, unit_cells, unit_from, unit_from_rows, values_from_rows}

module _ (c : CatalogueRows) where
  abbrev made : ℕ → Option UnitRow → Unit
  made u o = unwrap_or (option_map (unit_from c) o) (record { id = u; source = []; legacy = []; values = values_from_rows c u []; draft = false; until = None })

  made_again : (u : ℕ) (o : Option UnitRow) → unit_from c (row_of_unit (made u o)) ≡ made u o
  made_again u None = refl
  made_again u (Some row) = refl

  -- a unit that is said is that of its row again
  again : (u : ℕ) → unit_from c (row_of_unit (unit_from_rows c u)) ≡ unit_from_rows c u
  again u = made_again u (find (λ (row : UnitRow). nat_eq row.id u) c.units)

  all_again : (us : List ℕ) → map (unit_from c) (map row_of_unit (map (unit_from_rows c) us)) ≡ map (unit_from_rows c) us
  all_again [] = refl
  all_again (u ∷ us) = ap₂ ◌∷◌ (again u) (all_again us)

  -- so they are those of the rows, if their rows are these
  units_are : (f : Forest ℕ) (rows : List UnitRow) → IsPermutation (map row_of_unit (nodes (each (unit_from_rows c) f))) rows
      → IsPermutation (nodes (each (unit_from_rows c) f)) (map (unit_from c) rows)
  units_are f rows same =
      let said = nodes-each (unit_from_rows c) f in
      let back : map (unit_from c) (map row_of_unit (nodes (each (unit_from_rows c) f))) ≡ nodes (each (unit_from_rows c) f) =
      ap (λ us. map (unit_from c) (map row_of_unit us)) said ∙ (all_again (nodes f) ∙ sym said) in
      subst (λ us. IsPermutation us (map (unit_from c) rows)) back (IsPermutation-map (unit_from c) (map row_of_unit (nodes (each (unit_from_rows c) f))) rows same)

  later : (row : UnitRow) (rows : List UnitRow)
      → AllByRecursion (λ (b : UnitRow). int_cmp (pos row.id) (pos b.id) ≡ Less) rows
      → AllByRecursion (λ u. by_number (unit_from c row) u ≡ Less) (map (unit_from c) rows)
  later row [] h = tt
  later row (b ∷ rows) h = (h.0, later row rows h.1)

  rise : (rows : List UnitRow) → Rises (λ (a b : UnitRow). int_cmp (pos a.id) (pos b.id)) rows
      → Rises by_number (map (unit_from c) rows)
  rise [] up = tt
  rise (row ∷ rows) up = (later row rows up.0, rise rows up.1)

  pub units_stored : (db : Trees) (f : Forest ℕ) (rows : List UnitRow) → db tables.unit.tree ≡ map unit_cells rows
      → Rises (λ (a b : UnitRow). int_cmp (pos a.id) (pos b.id)) rows
      → IsPermutation (map row_of_unit (nodes (each (unit_from_rows c) f))) rows → RepresentsUnits db (each (unit_from_rows c) f)
  units_stored db f rows stored up same = record {
    units = map (unit_from c) rows;
    rows = stored ∙ sym (map-map cells_of_unit (unit_from c) rows);
    rise = rise rows up;
    are = units_are f rows same;
  }
