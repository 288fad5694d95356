-- Tables of any origin represent the catalogue that their rows describe, if no cause holds for them, except perhaps for
-- the rules of the day.
use Rattle.std.specs.Prelude.{ℕ}
use Rattle.sqlite.specs.Effect.{Database}
use Rattle.sqlite.specs.Tree.{Trees}
use Rattle.tree_core.specs.Forest.{Forest}
use Rattle.office_tables.specs.Versions.{Version}
use Rattle.catalogue_core.specs.CatalogueCauses.{MeetsCatalogueKeys}
use Rattle.catalogue_statements.specs.Representation.{Represents}
use Rattle.office_core.specs.State.{State}
use Rattle.state_encoding.specs.CellCauses.{rows_in}
use Rattle.state_encoding.specs.OfficeRows.{state_of}
use Rattle.refinement.specs.Representation.{office_of}
use Rattle.adoption.specs.SoundTables.{AreGoodTables}

-- the state that the rows describe
abbrev pub described_state : Version → Database → State
described_state version db = state_of (rows_in version db.trees)

-- the rows of the catalogue have their keys, and its tables represent it, with the settings
pub record RepresentsItsCatalogue (places : Trees → Forest ℕ → Type 0) (version : Version) (db : Database) : Type 0 where
  pub keys : MeetsCatalogueKeys (rows_in version db.trees).catalogue
  pub represents : Represents places version db (office_of (described_state version db)) (described_state version db).catalogue

abbrev pub RowsRepresentTheCatalogue : (Trees → Forest ℕ → Type 0) → Version → Database → Type 0
RowsRepresentTheCatalogue places version db = AreGoodTables version db → RepresentsItsCatalogue places version db
