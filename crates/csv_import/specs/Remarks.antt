-- What must hold for a catalogue so that the remarks on the rows of a file can be read from it.
use Rattle.std.specs.Prelude.{◌≡◌, ℕ, List, Option, Some, IfSome, find, map, option_map}
use Rattle.std.specs.List.{AllByRecursion}
use Rattle.isad_core.specs.Levels.{rank_of}
use Rattle.isad_core.specs.Texts.{Bytes}
use Rattle.atom_csv.specs.declared.file.Row.{Row}
use Rattle.tree_core.specs.Forest.{Forest, nodes}
use Rattle.tree_core.specs.Tops.{right_above}
use Rattle.catalogue_core.specs.GoodCatalogues.{AreGoodUnits}
use Rattle.catalogue_core.specs.Intake.{catalogued_unit}
use Rattle.catalogue_core.specs.CatalogueMerge.{Catalogue}
use Rattle.catalogue_core.specs.EntryByRow.{number_there}
use Rattle.catalogue_core.specs.Units.{Unit, has_id, is_from}
use Rattle.csv_import.specs.declared.remarks.Ranked.{Ranked}

-- the row's unit exists, and has the row's values
abbrev pub HasItsUnit : Forest Unit → Bytes → Row → Type 0
HasItsUnit f source row = option_map (λ unit. unit.values) (catalogued_unit f source row) ≡ Some row.values

-- a good catalogue in which the rows of a file from a source are entered
pub record HasEntered (source : Bytes) (rows : List Row) (c : Catalogue) : Type 0 where
  pub units : AreGoodUnits c
  pub each : AllByRecursion (HasItsUnit c.forest source) rows

-- the same, and these are the units of the rows
pub record HaveUnits (source : Bytes) (rows : List Row) (units : List ℕ) (c : Catalogue) : Type 0 where
  pub entered : HasEntered source rows c
  pub numbered : map Some units ≡ map (λ row. number_there c source row.legacy) rows

-- the number of the unit right above the row's unit, or none for a top
abbrev pub number_above : Forest Unit → Bytes → Row → Option ℕ
number_above f source row = option_map (λ unit. unit.id) (right_above (is_from source row.legacy) f)

-- a good catalogue in which the row's unit is right below the unit with this number, or is a top
pub record HasParent (source : Bytes) (row : Row) (parent : Option ℕ) (c : Catalogue) : Type 0 where
  pub units : AreGoodUnits c
  pub its : HasItsUnit c.forest source row
  pub above : parent ≡ number_above c.forest source row

-- the same for each of these rows, with the number at its position
pub record HaveParents (source : Bytes) (rows : List Row) (parents : List (Option ℕ)) (c : Catalogue) : Type 0 where
  pub entered : HasEntered source rows c
  pub above : parents ≡ map (number_above c.forest source) rows

-- the unit with this number, if it exists, has a level of this rank
abbrev pub IsRankOf : Catalogue → ℕ → Option ℕ → Type 0
IsRankOf c id rank = (unit : Unit) → find (has_id id) (nodes c.forest) ≡ Some unit → rank ≡ rank_of unit.values.level

-- the rank that is kept is that of its unit
abbrev pub IsRanked : Catalogue → Option Ranked → Type 0
IsRanked c last = IfSome last (λ ranked. IsRankOf c ranked.unit ranked.rank)
