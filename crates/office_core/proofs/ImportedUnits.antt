-- An accepted import keeps the catalogue's own lines of soundness.
use Rattle.std.proofs.Common.{◌≡◌, ◌+◌, ◌<◌, ◌≤◌, true, false, not, ◌||◌, List, [], ◌++◌, length, None, Ok, Err, refl}
use Rattle.std.proofs.Common.{sym, ap, subst, arith}
use Rattle.std.specs.Prelude.{nat_lt}
use Rattle.catalogue_core.proofs.FileRows.{apart_rows}
use Rattle.catalogue_core.proofs.GoodRows.{good_rows}
use Rattle.catalogue_core.proofs.ImportedDepth.{merged_depth}
use Rattle.catalogue_core.proofs.ImportedNumbers.{distinct_numbers, distinct_pairs}
use Rattle.catalogue_core.proofs.ImportedValues.{AreGoodValues, all_told, good_revised, good_new}
use Rattle.catalogue_core.proofs.NamedBoxes.{named_from, named_all, named_told}
use Rattle.catalogue_core.proofs.Rooted.{revised_id}
use Rattle.catalogue_core.specs.GoodRows.{IsGoodRow}
use Rattle.office_core.specs.declared.command.Command.TheVariants as command
use Rattle.office_core.proofs.Common.{AllByRecursion, AreGoodContainers, AreGoodUnits, ArePermitsOfUnits, BoxKey, Bytes}
use Rattle.office_core.proofs.Common.{Catalogue, Forest, Full, HasGoodCatalogue, ImportsKeepTheCatalogue, Intake}
use Rattle.office_core.proofs.Common.{IsGoodUnit, IsSound, IsTaken, New, Row, State, Taken, Unit, after, all_and}
use Rattle.office_core.proofs.Common.{all_append, all_distinct, all_filtered, all_merged, all_so, checks, flat_map}
use Rattle.office_core.proofs.Common.{has_unit, ids_between, intake_of, is_blank_text, is_full, is_known, is_source}
use Rattle.office_core.proofs.Common.{ltb-false, merged_boxes, merged_forest, most_containers, most_unit_numbers}
use Rattle.office_core.proofs.Common.{most_units, new_rows, new_unit, nodes, numbered_from, numbered_rows, or_parts}
use Rattle.office_core.proofs.Common.{revised, size, still_there, taken_is, too_much, when, with_import}
use Rattle.office_core.proofs.Steps.{Passes, held_so, held_not, step_at}
use Rattle.office_core.proofs.PassedChecks.{passed_import}

-- ---- what the refusals leave

room : (c : Catalogue) → when (is_full c) Full ≡ None
    → (size c.forest ≤ most_units) × (c.next ≤ most_unit_numbers + 1) × (length c.containers ≤ most_containers)
room c h =
    let a = or_parts (nat_lt most_units (size c.forest)) (nat_lt (most_unit_numbers + 1) c.next || nat_lt most_containers (length c.containers)) (held_not (is_full c) Full h) in
    let b = or_parts (nat_lt (most_unit_numbers + 1) c.next) (nat_lt most_containers (length c.containers)) a.1 in
    (ltb-false most_units (size c.forest) a.0, ltb-false (most_unit_numbers + 1) c.next b.0, ltb-false most_containers (length c.containers) b.1)

-- ---- a sound state and a file that it takes

module _ (s : State) (source file : Bytes) (intake : Intake) (e : intake_of s source file ≡ Ok intake) (g : IsSound s) (named : is_source source ≡ true) (fits : when (is_full intake.catalogue) Full ≡ None) where
  it : IsTaken s.catalogue source file intake
  it = taken_is s.catalogue source file intake e

  abbrev rows : List Row
  rows = intake.file.rows

  abbrev news : List Row
  news = new_rows s.catalogue source intake.file.rows

  abbrev new : List New
  new = numbered_from s.catalogue.forest source s.catalogue.next [] (new_rows s.catalogue source intake.file.rows)

  abbrev forest : Forest Unit
  forest = merged_forest source intake.file.rows (numbered_from s.catalogue.forest source s.catalogue.next [] (new_rows s.catalogue source intake.file.rows)) s.catalogue.forest

  abbrev boxes : List BoxKey
  boxes = merged_boxes intake.file.rows s.catalogue.containers

  good : AllByRecursion IsGoodRow intake.file.rows
  good = good_rows file intake.file it.read

  told : AllByRecursion (λ row. AreGoodValues (merged_boxes intake.file.rows s.catalogue.containers) row.values) intake.file.rows
  told = all_told intake.file.rows s.catalogue.containers good

  -- the new units
  come : AllByRecursion (λ x. IsGoodUnit (merged_boxes intake.file.rows s.catalogue.containers) (new_unit source x)) new
  come =
      all_and (λ x. IsGoodRow x.row) (λ x. AreGoodValues boxes x.row.values) (λ x. IsGoodUnit boxes (new_unit source x)) (λ x r v. good_new source boxes x named r v) new
      (numbered_rows s.catalogue.forest source s.catalogue.next [] news IsGoodRow (all_filtered IsGoodRow (λ row. not (is_known s.catalogue.forest source row)) rows good))
      (numbered_rows s.catalogue.forest source s.catalogue.next [] news (λ row. AreGoodValues boxes row.values) (all_filtered (λ row. AreGoodValues boxes row.values) (λ row. not (is_known s.catalogue.forest source row)) rows told))

  all_good : AllByRecursion (IsGoodUnit (merged_boxes intake.file.rows s.catalogue.containers)) (nodes forest)
  all_good =
      all_merged (IsGoodUnit boxes) source rows new s.catalogue.forest come
      (all_so (IsGoodUnit s.catalogue.containers) (λ u. IsGoodUnit boxes (revised source rows u)) (λ u k. good_revised source rows s.catalogue.containers u told k) (nodes s.catalogue.forest) g.units.each)

  below_next : AllByRecursion (λ (u : Unit). u.id < s.catalogue.next) (nodes s.catalogue.forest)
  below_next = all_so (λ u. (1 ≤ u.id) × (u.id < s.catalogue.next)) (λ u. u.id < s.catalogue.next) (λ u k. k.1) (nodes s.catalogue.forest) g.units.given

  given : AllByRecursion (λ (u : Unit). (1 ≤ u.id) × (u.id < s.catalogue.next + length new)) (nodes forest)
  given =
      all_merged (λ u. (1 ≤ u.id) × (u.id < s.catalogue.next + length new)) source rows new s.catalogue.forest
      (all_so (λ x. (s.catalogue.next ≤ x.id) × (x.id < s.catalogue.next + length new)) (λ x. (1 ≤ x.id) × (x.id < s.catalogue.next + length new)) (λ x k. (let a = k.0 in let b = g.units.next.0 in omega (arith, a, b), k.1)) new (ids_between s.catalogue.forest source s.catalogue.next [] news))
      (all_so (λ u. (1 ≤ u.id) × (u.id < s.catalogue.next)) (λ u. (1 ≤ (revised source rows u).id) × ((revised source rows u).id < s.catalogue.next + length new)) (λ u k. (let a = k.0 in let i = revised_id source rows u in omega (arith, a, i), let b = k.1 in let i = revised_id source rows u in omega (arith, b, i))) (nodes s.catalogue.forest) g.units.given)

  -- what came of the catalogue
  abbrev after_import : State
  after_import = record s { catalogue = record { forest = forest; containers = boxes; next = s.catalogue.next + length new } }

  is_after : with_import s (Ok intake) ≡ after_import
  is_after = ap (λ (c : Catalogue). record s { catalogue = c }) it.is

  enough : (size forest ≤ most_units) × (s.catalogue.next + length new ≤ most_unit_numbers + 1) × (length boxes ≤ most_containers)
  enough = subst (λ (c : Catalogue). (size c.forest ≤ most_units) × (c.next ≤ most_unit_numbers + 1) × (length c.containers ≤ most_containers)) it.is (room intake.catalogue fits)

  good_units : AreGoodUnits after_import.catalogue
  good_units =
      record {
        each = all_good;
        ids = distinct_numbers source rows s.catalogue.next news s.catalogue.forest g.units.ids below_next;
        pairs = distinct_pairs s.catalogue source rows (apart_rows file intake.file it.read) g.units.ids below_next g.units.pairs;
        given = given;
        next = (let a = g.units.next.0 in omega (arith, a), enough.1);
        few = enough.0;
        depth = merged_depth s.catalogue.forest source s.catalogue.next g.units.ids below_next rows news it.placed g.units.depth;
      }

  good_containers : AreGoodContainers after_import.catalogue
  good_containers =
      record {
        named = named_all boxes (all_distinct (λ (box : BoxKey). is_blank_text box.name ≡ false) (s.catalogue.containers ++ flat_map (λ (row : Row). row.values.boxes) rows) (all_append (λ (box : BoxKey). is_blank_text box.name ≡ false) s.catalogue.containers (flat_map (λ (row : Row). row.values.boxes) rows) (named_from s.catalogue.containers g.containers.named) (named_told rows good)));
        few = enough.2;
      }

  permits_there : ArePermitsOfUnits after_import
  permits_there = λ t. all_so (λ permit. has_unit s.catalogue.forest permit.unit ≡ true) (λ permit. has_unit forest permit.unit ≡ true) (λ permit. still_there source rows new s.catalogue.forest permit.unit) (s.permits t) (g.permits t)

  sound_import : HasGoodCatalogue (with_import s (Ok intake))
  sound_import = subst HasGoodCatalogue (sym is_after) (record { units = good_units; containers = good_containers; permits = permits_there })

at_taken : (s : State) (source file : Bytes) (t : Taken) → intake_of s source file ≡ t → IsSound s
    → is_source source ≡ true → too_much t ≡ None → HasGoodCatalogue (with_import s t)
at_taken s source file (Ok intake) e g named fits = sound_import s source file intake e g named fits
at_taken s source file (Err fault) e g named fits =
    record { units = g.units; containers = g.containers; permits = g.permits }

pub import_keeps_units : (s : State) (source file : Bytes) → IsSound s → Passes (checks s (command.Import source file))
    → HasGoodCatalogue (after s (command.Import source file))
import_keeps_units s source file g ok =
    at_taken s source file (intake_of s source file) refl g (held_so (is_source source) _ (passed_import s source file ok).named) (passed_import s source file ok).room

pub imports_keep : (s : State) → IsSound s → ImportsKeepTheCatalogue s
imports_keep s g source file =
    step_at (λ t reply. HasGoodCatalogue t) s (command.Import source file)
    (λ why. record { units = g.units; containers = g.containers; permits = g.permits })
    (λ ok. import_keeps_units s source file g ok)
