-- One row of a file, when its turn comes.
use Rattle.std.specs.Prelude.{◌≡◌, ◌<◌, ◌+◌, ◌^◌, ℕ, true, cond, is_some, length, nat_lt, List, Option, Some, None, Ok}
use Rattle.std.specs.Prelude.{unwrap_or}
use Rattle.std.specs.List.{AllByRecursion}
use Rattle.isad_core.specs.Boxes.{distinct}
use Rattle.isad_core.specs.Texts.{Bytes}
use Rattle.isad_core.specs.declared.values.Values.{Values}
use Rattle.atom_csv.specs.declared.file.Row.{Row}
use Rattle.tree_core.specs.Forest.{nodes}
use Rattle.catalogue_core.specs.Bounds.{IsKept}
use Rattle.catalogue_core.specs.Descriptions.{AreWhole, HasPlaceFor, IsNew, KnowsItsContainers, MayDescribe}
use Rattle.catalogue_core.specs.GoodCatalogues.{AreGoodUnits, IsSomeDay}
use Rattle.catalogue_core.specs.GoodRows.{IsGoodRow}
use Rattle.catalogue_core.specs.Intake.{same_values}
use Rattle.catalogue_core.specs.LegibleCatalogues.{IsLegibleCatalogue}
use Rattle.catalogue_core.specs.CatalogueMerge.{Catalogue, new_unit}
use Rattle.catalogue_core.specs.EntryByRow.{new_at, number_there, with_row}
use Rattle.catalogue_core.specs.Sources.{is_source}
use Rattle.catalogue_core.specs.Units.{Unit}
use Rattle.csv_import.specs.RowEntry.{AreFileRows, HasRoomFor, boxes_named}
use Rattle.csv_import.specs.declared.row_entry.Counts.{Counts}
use Rattle.csv_import.specs.declared.row_entry.Entry.{Entry}
use Rattle.csv_import.specs.declared.row_entry.Entry.TheVariants as entry

-- what a row does to its unit, whether the unit is catalogued or not
abbrev pub entry_of : Option Unit → Values → Entry
entry_of None values = entry.New
entry_of (Some unit) values = cond (same_values unit.values values) entry.Same entry.Changed

-- the counts with one more row, which had this effect
abbrev pub count_entry : Entry → Counts → Counts
count_entry entry.Changed counts = record counts { changed = counts.changed + 1 }
count_entry entry.New counts = record counts { new = counts.new + 1 }
count_entry entry.Same counts = record counts { same = counts.same + 1 }

-- The row can be placed, and this is the next number, in a catalogue whose tables can be read.
pub record IsTurn (source : Bytes) (row : Row) (next : ℕ) (c : Catalogue) : Type 0 where
  pub good : IsGoodRow row
  pub units : AreGoodUnits c
  pub knows : KnowsItsContainers c
  pub kept : IsKept c
  pub number : next ≡ c.next
  pub after : Catalogue
  pub placed : with_row source row c ≡ Ok after

-- The row can be placed, and this is its unit: the one that is catalogued, or else the next. Only a catalogued one has a
-- number below the first new one.
pub record IsTurnOfUnit (source : Bytes) (row : Row) (first unit : ℕ) (c : Catalogue) : Type 0 where
  pub turn : IsTurn source row c.next c
  pub unit_is : unit ≡ unwrap_or (number_there c source row.legacy) c.next
  pub known : nat_lt unit first ≡ is_some (number_there c source row.legacy)

-- the unit exists, and may get these values
pub record MayChange (unit : ℕ) (values : Values) (c : Catalogue) : Type 0 where
  pub units : AreGoodUnits c
  pub kept : IsKept c
  pub there : MayDescribe unit c
  pub whole : AreWhole values

-- no unit is the row's yet, its parent exists, and this is the next number
pub record MayCome (source : Bytes) (row : Row) (next : ℕ) (c : Catalogue) : Type 0 where
  pub units : AreGoodUnits c
  pub kept : IsKept c
  pub number : next ≡ c.next
  pub new : IsNew (new_unit source (new_at c source row)) c
  pub place : HasPlaceFor (new_at c source row).parent c

-- the rows that are still to be entered can be placed one after another, and this is the next number
pub record AreToCome (source : Bytes) (rows : List Row) (next : ℕ) (c : Catalogue) : Type 0 where
  pub named : is_source source ≡ true
  pub told : AreFileRows rows
  pub units : AreGoodUnits c
  pub apart : distinct c.containers ≡ c.containers
  pub days : AllByRecursion (λ unit. IsSomeDay unit.until) (nodes c.forest)
  pub legible : IsLegibleCatalogue c
  pub few_boxes : length c.containers + boxes_named rows < 2 ^ 62
  pub room : HasRoomFor source rows c
  pub number : next ≡ c.next
