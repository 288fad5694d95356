-- The rows of a file, entered into a catalogue.
use Rattle.std.specs.Prelude.{◌≡◌, ℕ, ◌+◌, ◌<◌, ◌≤◌, ◌^◌, true, count_by, length, List, Result, Ok, Err}
use Rattle.std.specs.List.{AllByRecursion, flat_map}
use Rattle.std.specs.Str.{bytes_eq}
use Rattle.sqlite.specs.Effect.{Database}
use Rattle.sqlite.specs.Tree.{Trees}
use Rattle.isad_core.specs.Boxes.{distinct}
use Rattle.isad_core.specs.Limits.{most_units, most_unit_numbers}
use Rattle.isad_core.specs.Texts.{Bytes}
use Rattle.atom_csv.specs.FileProperties.{AllDiffer, IsLegibleRow}
use Rattle.atom_csv.specs.declared.file.Row.{Row}
use Rattle.tree_core.specs.Forest.{Forest, nodes, size}
use Rattle.office_tables.specs.Versions.{Version}
use Rattle.catalogue_core.specs.GoodCatalogues.{AreGoodContainers, AreGoodUnits, IsSomeDay}
use Rattle.catalogue_core.specs.GoodRows.{IsGoodRow}
use Rattle.catalogue_core.specs.Intake.{is_changed, is_new, is_same}
use Rattle.catalogue_core.specs.LegibleCatalogues.{IsLegibleCatalogue}
use Rattle.catalogue_core.specs.CatalogueMerge.{Catalogue}
use Rattle.catalogue_core.specs.EntryByRow.{with_rows}
use Rattle.catalogue_core.specs.Sources.{is_source}
use Rattle.catalogue_core.specs.Units.{Unit}
use Rattle.catalogue_statements.specs.Settings.{AreLegibleSettings}
use Rattle.catalogue_statements.specs.Representation.{RepresentsCatalogue, RepresentsNumbered}
use Rattle.catalogue_statements.specs.declared.office.OfficeRow.{OfficeRow}
use Rattle.csv_import.specs.declared.row_entry.Counts.{Counts}

-- the new catalogue, or else the catalogue as it was
abbrev pub or_as_before : Catalogue → Result Catalogue (ℕ × ℕ) → Catalogue
or_as_before c (Ok after) = after
or_as_before c (Err fault) = c

-- the catalogue with these rows of a source, or as it was if one of them cannot be placed
abbrev pub catalogue_after : Bytes → List Row → Catalogue → Catalogue
catalogue_after source rows c = or_as_before c (with_rows source rows c)

-- how many of these rows change a unit, add one, and leave one as it was
abbrev pub counts_of : Forest Unit → Bytes → List Row → Counts
counts_of f source rows = record {
  changed = count_by (is_changed f source) rows;
  new = count_by (is_new f source) rows;
  same = count_by (is_same f source) rows;
}

-- how many containers the rows name
abbrev pub boxes_named : List Row → ℕ
boxes_named rows = length (flat_map (λ row. row.values.boxes) rows)

-- rows as a file contains them: good, in UTF-8, and no two for the same unit
pub record AreFileRows (rows : List Row) : Type 0 where
  pub good : AllByRecursion IsGoodRow rows
  pub legible : AllByRecursion IsLegibleRow rows
  pub once : AllDiffer (λ a b. bytes_eq a.legacy b.legacy) rows

-- each of the rows can be placed, and the result has no more units and unit numbers than an office may have
pub record HasRoomFor (source : Bytes) (rows : List Row) (c : Catalogue) : Type 0 where
  pub after : Catalogue
  pub placed : with_rows source rows c ≡ Ok after
  pub few : size after.forest ≤ most_units
  pub numbers : after.next ≤ most_unit_numbers + 1

-- the rows of a file from a source, and a good catalogue with room for them
pub record CanEnter (source : Bytes) (rows : List Row) (c : Catalogue) : Type 0 where
  pub named : is_source source ≡ true
  pub told : AreFileRows rows
  pub units : AreGoodUnits c
  pub containers : AreGoodContainers c
  pub apart : distinct c.containers ≡ c.containers
  pub days : AllByRecursion (λ unit. IsSomeDay unit.until) (nodes c.forest)
  pub legible : IsLegibleCatalogue c
  pub few_boxes : boxes_named rows < 2 ^ 61
  pub room : HasRoomFor source rows c

-- the tables represent the catalogue and settings that can be read back; the next unit number is the catalogue's
pub record RepresentsLegible (places : Trees → Forest ℕ → Type 0) (version : Version) (db : Database) (o : OfficeRow) (c : Catalogue) : Type 0 where
  pub tables : RepresentsNumbered places version db o c
  pub settings : AreLegibleSettings o

-- The tables represent the catalogue without the places, which are added separately. The office's row still has the
-- next unit number from before any of the rows was entered.
abbrev pub RepresentsEntering : Version → Database → OfficeRow → Catalogue → Type 0
RepresentsEntering version db o c = RepresentsCatalogue version db o (record c { next = o.next_unit })
