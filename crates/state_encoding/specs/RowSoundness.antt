-- Judged rows: rows without a cause are the rows of the state that they describe, and this state is sound. The rows of
-- a sound state have no cause.
use Rattle.std.specs.Prelude.{◌≡◌, None}
use Rattle.std.specs.List.{AllByRecursion}
use Rattle.std.specs.List.Sorted.{IsPermutation}
use Rattle.isad_core.specs.Days.{IsDayNumber}
use Rattle.isad_core.specs.Boxes.{distinct}
use Rattle.tree_core.specs.Forest.{nodes}
use Rattle.office_tables.specs.Versions.{Version}
use Rattle.office_core.specs.State.{State}
use Rattle.office_core.specs.Soundness.{AreGoodSettings, IsSound}
use Rattle.catalogue_core.specs.GoodCatalogues.{AreGoodUnits, AreGoodContainers, IsSomeDay}
use Rattle.state_encoding.specs.OfficeRows.{OfficeRows, tables, state_of}
use Rattle.catalogue_core.specs.CatalogueCauses.{MeetsCatalogueKeys, ArePlacesOf}
use Rattle.state_encoding.specs.DeskSoundness.{SaysDeskAgain}
use Rattle.state_encoding.specs.Causes.{cause, catalogue_cause, MeetsKeys}

-- ---- the catalogue

-- the rows represent the state, up to the order within each table
pub record IsCatalogueOf (version : Version) (t : OfficeRows) (s : State) : Type 0 where
  pub office : (tables version s).office ≡ t.office
  pub units : IsPermutation (tables version s).catalogue.units t.catalogue.units
  pub places : ArePlacesOf (tables version s).catalogue.places t.catalogue.places
  pub elements : IsPermutation (tables version s).catalogue.elements t.catalogue.elements
  pub containers : IsPermutation (tables version s).catalogue.containers t.catalogue.containers
  pub housings : IsPermutation (tables version s).catalogue.housings t.catalogue.housings

-- the catalogue's part of a sound state
pub record IsSoundCatalogue (s : State) : Type 0 where
  pub settings : AreGoodSettings s.settings
  pub today : IsDayNumber s.day
  pub closures : AllByRecursion (λ unit. IsSomeDay unit.until) (nodes s.catalogue.forest)
  pub units : AreGoodUnits s.catalogue
  pub containers : AreGoodContainers s.catalogue
  pub boxes : distinct s.catalogue.containers ≡ s.catalogue.containers

-- rows that meet the keys and have no cause describe a sound catalogue, and are its rows
abbrev pub SaysTheCatalogue : Version → OfficeRows → Type 0
SaysTheCatalogue version t =
    MeetsCatalogueKeys t.catalogue → catalogue_cause version t ≡ None → IsSoundCatalogue (state_of t) × IsCatalogueOf version t (state_of t)

-- the rows of a sound catalogue meet the keys, and have no cause
abbrev pub HasNoCatalogueCause : Version → State → Type 0
HasNoCatalogueCause version s =
    IsSoundCatalogue s → MeetsCatalogueKeys (tables version s).catalogue × (catalogue_cause version (tables version s) ≡ None)

-- ---- all of it

-- The rows represent the state that they describe: the catalogue's rows up to the order within each table, and the
-- desk's rows, which are sorted by their keys, exactly.
pub record AreTheirTables (version : Version) (t : OfficeRows) : Type 0 where
  pub catalogue : IsCatalogueOf version t (state_of t)
  pub desk : SaysDeskAgain version t

-- rows that meet the keys and have no cause describe a sound state, and are its rows
abbrev pub SaysASoundState : Version → OfficeRows → Type 0
SaysASoundState version t = MeetsKeys t → cause version t ≡ None → IsSound (state_of t) × AreTheirTables version t

-- the rows of a sound state meet the keys, and have no cause
abbrev pub HasNoCause : Version → State → Type 0
HasNoCause version s = IsSound s → MeetsKeys (tables version s) × (cause version (tables version s) ≡ None)
