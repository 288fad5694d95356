-- Tables without a cause, whatever their cells are: all of their rows can be read, they are the rows of the state that
-- they describe, this state is sound, and every text is UTF-8.
use Rattle.std.specs.Prelude.{◌≡◌, Some, None, IsUtf8}
use Rattle.std.specs.List.{AllByRecursion}
use Rattle.sqlite.specs.declared.types.Value.TheVariants.{Text}
use Rattle.sqlite.specs.Tree.{Trees}
use Rattle.isad_core.specs.Texts.{Bytes}
use Rattle.office_tables.specs.Versions.{Version}
use Rattle.desk_core.specs.DeskRows.{ReaderRow}
use Rattle.catalogue_core.specs.CatalogueRows.{UnitRow, ElementRow, ContainerRow}
use Rattle.office_core.specs.SoundOffice.{IsSoundOffice}
use Rattle.office_tables.specs.Cells.{text_in}
use Rattle.state_encoding.specs.OfficeRows.{OfficeRows, state_of}
use Rattle.state_encoding.specs.Causes.{first_held, cause, MeetsKeys}
use Rattle.state_encoding.specs.RowSoundness.{AreTheirTables}
use Rattle.state_encoding.specs.CellCauses.{rows_in, unread, cell_cause}

pub record IsLegibleUnitRow (row : UnitRow) : Type 0 where
  pub source : IsUtf8 row.source
  pub legacy : IsUtf8 row.legacy
  pub level : IsUtf8 row.level

pub record IsLegibleContainerRow (row : ContainerRow) : Type 0 where
  pub name : IsUtf8 row.name
  pub location : IsUtf8 row.location
  pub kind : IsUtf8 row.kind

-- all texts are UTF-8
pub record AreLegibleRows (t : OfficeRows) : Type 0 where
  pub country : IsUtf8 t.office.country
  pub repo : IsUtf8 t.office.repo
  pub units : AllByRecursion IsLegibleUnitRow t.catalogue.units
  pub elements : AllByRecursion (λ (row : ElementRow). IsUtf8 row.value) t.catalogue.elements
  pub containers : AllByRecursion IsLegibleContainerRow t.catalogue.containers
  pub readers : AllByRecursion (λ (row : ReaderRow). IsUtf8 row.name) t.desk.readers

-- a text cell yields its text exactly if that is UTF-8
pub record SaysUtf8 (t : Bytes) : Type 0 where
  pub said : IsUtf8 t → text_in (Text t) ≡ Some t
  pub nothing : ¬ (IsUtf8 t) → text_in (Text t) ≡ None

-- ---- tables without a cause

-- no row is unread, and the rows have no cause
pub record HaveNoCause (version : Version) (db : Trees) : Type 0 where
  pub read : first_held (unread version db) ≡ None
  pub rows : cause version (rows_in version db) ≡ None

abbrev pub CellsHaveNoCause : Version → Trees → Type 0
CellsHaveNoCause version db = cell_cause version db ≡ None → HaveNoCause version db

-- what holds for the rows that can be read
pub record AreOfASoundState (version : Version) (db : Trees) : Type 0 where
  pub sound : IsSoundOffice (state_of (rows_in version db))
  pub tables : AreTheirTables version (rows_in version db)
  pub legible : AreLegibleRows (rows_in version db)

-- if the rows meet the keys and the tables have no cause, they describe a sound office and are its tables
abbrev pub CellsDescribeASoundState : Version → Trees → Type 0
CellsDescribeASoundState version db = MeetsKeys (rows_in version db) → cell_cause version db ≡ None → AreOfASoundState version db
