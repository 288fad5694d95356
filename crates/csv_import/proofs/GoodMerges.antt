-- A catalogue stays good where good rows are merged into it.
use Rattle.std.proofs.Common.{◌≡◌, ◌+◌, ◌<◌, ◌≤◌, Bool, true, false, cond, not, List, [], ◌++◌, length, Ok, refl, sym}
use Rattle.std.proofs.Common.{ap, subst, arith}
use Rattle.atom_csv.specs.FileProperties.{IsLegibleRow}
use Rattle.catalogue_core.proofs.AsciiTexts.{source_legible}
use Rattle.catalogue_core.proofs.ImportedDepth.{merged_depth}
use Rattle.catalogue_core.proofs.ImportedNumbers.{distinct_numbers, distinct_pairs}
use Rattle.catalogue_core.proofs.ImportedValues.{AreGoodValues, all_told, good_new, good_revised}
use Rattle.catalogue_core.proofs.LegibleMerges.{merged_legible}
use Rattle.catalogue_core.proofs.Rooted.{revised_id}
use Rattle.catalogue_core.specs.LegibleCatalogues.{IsLegibleCatalogue}
use Rattle.csv_import.proofs.Common.{AllByRecursion, AreApartRows, AreGoodUnits, BoxKey, Bytes, Catalogue, Forest}
use Rattle.csv_import.proofs.Common.{IsGoodRow, IsGoodUnit, IsSomeDay, New, Row, Unit, Values, all_and, all_filtered}
use Rattle.csv_import.proofs.Common.{all_merged, all_so, all_true, bytes_eq, distinct, faults_below, first_ok, flat_map}
use Rattle.csv_import.proofs.Common.{ids_between, is_known, is_source, merge, merged, merged_boxes, merged_forest}
use Rattle.csv_import.proofs.Common.{most_unit_numbers, most_units, new_rows, new_unit, nodes, numbered_from}
use Rattle.csv_import.proofs.Common.{numbered_rows, revised, size}

module _ (c : Catalogue) (source : Bytes) (rows : List Row) (good : AllByRecursion IsGoodRow rows) (once : AreApartRows rows) (g : AreGoodUnits c) (named : is_source source ≡ true) where
  abbrev news : List Row
  news = new_rows c source rows

  abbrev new : List New
  new = numbered_from c.forest source c.next [] (new_rows c source rows)

  abbrev forest : Forest Unit
  forest = merged_forest source rows (numbered_from c.forest source c.next [] (new_rows c source rows)) c.forest

  abbrev boxes : List BoxKey
  boxes = merged_boxes rows c.containers

  told : AllByRecursion (λ row. AreGoodValues (merged_boxes rows c.containers) row.values) rows
  told = all_told rows c.containers good

  come : AllByRecursion (λ x. IsGoodUnit (merged_boxes rows c.containers) (new_unit source x)) new
  come =
      all_and (λ x. IsGoodRow x.row) (λ x. AreGoodValues boxes x.row.values) (λ x. IsGoodUnit boxes (new_unit source x)) (λ x r v. good_new source boxes x named r v) new
      (numbered_rows c.forest source c.next [] news IsGoodRow (all_filtered IsGoodRow (λ row. not (is_known c.forest source row)) rows good))
      (numbered_rows c.forest source c.next [] news (λ row. AreGoodValues boxes row.values) (all_filtered (λ row. AreGoodValues boxes row.values) (λ row. not (is_known c.forest source row)) rows told))

  all_good : AllByRecursion (IsGoodUnit (merged_boxes rows c.containers)) (nodes forest)
  all_good =
      all_merged (IsGoodUnit boxes) source rows new c.forest come
      (all_so (IsGoodUnit c.containers) (λ u. IsGoodUnit boxes (revised source rows u)) (λ u k. good_revised source rows c.containers u told k) (nodes c.forest) g.each)

  below_next : AllByRecursion (λ (u : Unit). u.id < c.next) (nodes c.forest)
  below_next = all_so (λ u. (1 ≤ u.id) × (u.id < c.next)) (λ u. u.id < c.next) (λ u k. k.1) (nodes c.forest) g.given

  given : AllByRecursion (λ (u : Unit). (1 ≤ u.id) × (u.id < c.next + length new)) (nodes forest)
  given =
      all_merged (λ u. (1 ≤ u.id) × (u.id < c.next + length new)) source rows new c.forest
      (all_so (λ x. (c.next ≤ x.id) × (x.id < c.next + length new)) (λ x. (1 ≤ x.id) × (x.id < c.next + length new)) (λ x k. (let a = k.0 in let b = g.next.0 in omega (arith, a, b), k.1)) new (ids_between c.forest source c.next [] news))
      (all_so (λ u. (1 ≤ u.id) × (u.id < c.next)) (λ u. (1 ≤ (revised source rows u).id) × ((revised source rows u).id < c.next + length new)) (λ u k. (let a = k.0 in let i = revised_id source rows u in omega (arith, a, i), let b = k.1 in let i = revised_id source rows u in omega (arith, b, i))) (nodes c.forest) g.given)

  -- the catalogue with the rows
  abbrev made : Catalogue
  made = merged c source rows (numbered_from c.forest source c.next [] (new_rows c source rows))

  good_units : faults_below c.forest source [] news ≡ [] → size forest ≤ most_units
      → c.next + length new ≤ most_unit_numbers + 1 → AreGoodUnits made
  good_units placed few numbers =
      record {
        each = all_good;
        ids = distinct_numbers source rows c.next news c.forest g.ids below_next;
        pairs = distinct_pairs c source rows once g.ids below_next g.pairs;
        given = given;
        next = (let a = g.next.0 in omega (arith, a), numbers);
        few = few;
        depth = merged_depth c.forest source c.next g.ids below_next rows news placed g.depth;
      }

  module _ (after : Catalogue) (e : merge c source rows ≡ Ok after) where
    it : (faults_below c.forest source [] news ≡ []) × (after ≡ made)
    it = first_ok (faults_below c.forest source [] news) made after e

    pub merged_good : size after.forest ≤ most_units → after.next ≤ most_unit_numbers + 1 → AreGoodUnits after
    merged_good few numbers =
        let room = subst (λ (d : Catalogue). (size d.forest ≤ most_units) × (d.next ≤ most_unit_numbers + 1)) it.1 (few, numbers) in
        subst AreGoodUnits (sym it.1) (good_units it.0 room.0 room.1)

    -- closures stay, and new units have none
    pub merged_days : AllByRecursion (λ (u : Unit). IsSomeDay u.until) (nodes c.forest)
        → AllByRecursion (λ (u : Unit). IsSomeDay u.until) (nodes after.forest)
    merged_days days =
        subst (λ (d : Catalogue). AllByRecursion (λ (u : Unit). IsSomeDay u.until) (nodes d.forest)) (sym it.1)
        (all_merged (λ (u : Unit). IsSomeDay u.until) source rows new c.forest (all_true (λ x. IsSomeDay (new_unit source x).until) (λ x. tt) new)
        (all_so (λ (u : Unit). IsSomeDay u.until) (λ (u : Unit). IsSomeDay (revised source rows u).until) (λ u k. subst IsSomeDay (sym (same_closure u)) k) (nodes c.forest) days))
      where
        at : (b : Bool) (u : Unit) (values : Values) → (cond b (record u { values = values }) u).until ≡ u.until
        at true u values = refl
        at false u values = refl

        same_closure : (u : Unit) → (revised source rows u).until ≡ u.until
        same_closure u = at (bytes_eq u.source source) u _

    pub merged_boxes_are : after.containers ≡ distinct (c.containers ++ flat_map (λ (row : Row). row.values.boxes) rows)
    merged_boxes_are = ap (λ (d : Catalogue). d.containers) it.1

    pub legible_with : AllByRecursion IsLegibleRow rows → IsLegibleCatalogue c → IsLegibleCatalogue after
    legible_with legible h =
        subst IsLegibleCatalogue (sym it.1) (merged_legible c source rows (source_legible source named) legible h)
