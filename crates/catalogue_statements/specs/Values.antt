-- When the tables represent the values of units, in either version.
use Rattle.std.specs.Prelude.{◌≡◌, ℕ, List, length, IsPermutation}
use Rattle.sqlite.specs.Effect.{Database}
use Rattle.isad_core.specs.declared.values.Values.{«Values» as Description}
use Rattle.office_tables.specs.Versions.{Version}
use Rattle.catalogue_core.specs.Descriptions.{HasAllPlaces}
use Rattle.catalogue_core.specs.CatalogueMerge.{Catalogue}
use Rattle.office_tables.specs.RowNumbers.{HasNumbered}
use Rattle.office_tables.specs.Schema as tables
use Rattle.catalogue_statements.specs.Rows.{ElementRow, element_row}
use Rattle.catalogue_statements.specs.Representation.{RepresentsCatalogue, numbered_texts, elements_of}
use Rattle.catalogue_statements.specs.declared.office.OfficeRow.{OfficeRow}

-- the catalogue's tables, except the places, represent units that each have a place for every text
pub record RepresentsValues (db : Database) (o : OfficeRow) (c : Catalogue) : Type 0 where
  pub version : Version
  pub catalogue : RepresentsCatalogue version db o c
  pub places : HasAllPlaces c

-- these rows contain the texts of the unit with this number, which has a place for every text
pub record TellsTexts (unit : ℕ) (db : Database) (values : Description) (xs : List ElementRow) : Type 0 where
  pub rows : HasNumbered element_row (db.trees tables.element.tree) xs
  pub places : length values.texts ≡ 25
  pub are : IsPermutation (numbered_texts values) (elements_of unit xs)
