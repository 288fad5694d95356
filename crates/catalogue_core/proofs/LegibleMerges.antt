-- An import keeps a catalogue's texts UTF-8, and so does every other change of it.
use Rattle.std.proofs.Common.{◌≡◌, Bool, true, false, cond, List, [], ◌∷◌, ◌++◌, Option, Some, None, Ok, refl, sym}
use Rattle.std.proofs.Common.{subst}
use Rattle.std.specs.Prelude.{not}
use Rattle.isad_core.specs.LegibleValues.{IsLegibleBox, AreLegibleValues}
use Rattle.atom_csv.proofs.LegibleFiles.{file_legible}
use Rattle.catalogue_core.specs.Intake.{take}
use Rattle.catalogue_core.specs.LegibleCatalogues.{HasLegibleTexts, IsLegibleCatalogue}
use Rattle.catalogue_core.proofs.Common.{AllByRecursion, Bytes, Catalogue, Intake, IsLegibleRow, IsUtf8, New, Row, Unit}
use Rattle.catalogue_core.proofs.Common.{Values, bytes_eq, each, find, flat_map, has_legacy, is_known, merged, new_unit}
use Rattle.catalogue_core.proofs.Common.{nodes, numbered_from, option_map, revised, unwrap_or}
use Rattle.catalogue_core.proofs.DistinctLists.{all_so}
use Rattle.catalogue_core.proofs.EachOf.{all_append, all_distinct, all_filtered, all_of_found}
use Rattle.catalogue_core.proofs.GoodChanges.{KeepsUnits}
use Rattle.catalogue_core.proofs.Imported.{new_rows, taken_is}
use Rattle.catalogue_core.proofs.ImportedAgain.{all_each, all_merged, numbered_rows}

-- ---- a unit keeps its texts where it keeps its source, its number there and its description

pub keeps_texts : (g : Unit → Unit) → KeepsUnits g → (u : Unit) → HasLegibleTexts u → HasLegibleTexts (g u)
keeps_texts g k u h = record {
  source = subst IsUtf8 (sym (k.source u)) h.source;
  legacy = subst IsUtf8 (sym (k.legacy u)) h.legacy;
  values = subst AreLegibleValues (sym (k.values u)) h.values;
}

pub each_legible : (c : Catalogue) (g : Unit → Unit) → KeepsUnits g → IsLegibleCatalogue c
    → IsLegibleCatalogue (record c { forest = each g c.forest })
each_legible c g k h = record {
  units = all_each HasLegibleTexts g c.forest (all_so HasLegibleTexts (λ u. HasLegibleTexts (g u)) (keeps_texts g k) (nodes c.forest) h.units);
  containers = h.containers;
}

-- ---- rows

row_values : (rows : List Row) (legacy : Bytes) (values : Values) → AllByRecursion IsLegibleRow rows
    → AreLegibleValues values
    → AreLegibleValues (unwrap_or (option_map (λ (row : Row). row.values) (find (has_legacy legacy) rows)) values)
row_values rows legacy values h v = at (find (has_legacy legacy) rows) refl
  where
    at : (r : Option Row) → find (has_legacy legacy) rows ≡ r
        → AreLegibleValues (unwrap_or (option_map (λ (row : Row). row.values) r) values)
    at None e = v
    at (Some row) e = (all_of_found IsLegibleRow (has_legacy legacy) rows row e h).values

revised_texts : (source : Bytes) (rows : List Row) → AllByRecursion IsLegibleRow rows → (u : Unit) → HasLegibleTexts u
    → HasLegibleTexts (revised source rows u)
revised_texts source rows h u t = at (bytes_eq u.source source)
  where
    at : (b : Bool)
        → HasLegibleTexts (cond b (record u { values = unwrap_or (option_map (λ (row : Row). row.values) (find (has_legacy u.legacy) rows)) u.values }) u)
    at true = record { source = t.source; legacy = t.legacy; values = row_values rows u.legacy u.values h t.values }
    at false = t

boxes_of_rows : (rows : List Row) → AllByRecursion IsLegibleRow rows
    → AllByRecursion IsLegibleBox (flat_map (λ (row : Row). row.values.boxes) rows)
boxes_of_rows [] h = tt
boxes_of_rows (row ∷ rows) h =
    all_append IsLegibleBox row.values.boxes (flat_map (λ (row : Row). row.values.boxes) rows) h.0.values.boxes (boxes_of_rows rows h.1)

pub merged_legible : (c : Catalogue) (source : Bytes) (rows : List Row) → IsUtf8 source
    → AllByRecursion IsLegibleRow rows → IsLegibleCatalogue c
    → IsLegibleCatalogue (merged c source rows (numbered_from c.forest source c.next [] (new_rows c source rows)))
merged_legible c source rows named told h =
    let news = new_rows c source rows in
    let new = numbered_from c.forest source c.next [] news in
    let come : AllByRecursion (λ (x : New). HasLegibleTexts (new_unit source x)) new =
    all_so (λ (x : New). IsLegibleRow x.row) (λ (x : New). HasLegibleTexts (new_unit source x)) (λ x r. record { source = named; legacy = r.legacy; values = r.values }) new
    (numbered_rows c.forest source c.next [] news IsLegibleRow (all_filtered IsLegibleRow (λ row. not (is_known c.forest source row)) rows told)) in
    record {
      units = all_merged HasLegibleTexts source rows new c.forest come (all_so HasLegibleTexts (λ u. HasLegibleTexts (revised source rows u)) (revised_texts source rows told) (nodes c.forest) h.units);
      containers = all_distinct IsLegibleBox (c.containers ++ flat_map (λ (row : Row). row.values.boxes) rows) (all_append IsLegibleBox c.containers (flat_map (λ (row : Row). row.values.boxes) rows) h.containers (boxes_of_rows rows told));
    }

-- whatever file it is
pub taken_legible : (c : Catalogue) (source file : Bytes) (intake : Intake) → take c source file ≡ Ok intake
    → IsUtf8 source → IsLegibleCatalogue c → IsLegibleCatalogue intake.catalogue
taken_legible c source file intake e named h =
    let it = taken_is c source file intake e in
    subst IsLegibleCatalogue (sym it.is) (merged_legible c source intake.file.rows named (file_legible file intake.file it.read) h)
