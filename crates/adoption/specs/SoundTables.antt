-- Tables of any origin that a live connection has, and for which no cause holds.
use Rattle.std.specs.Prelude.{◌≡◌, None}
use Rattle.sqlite.specs.Effect.{Database, IsDatabase}
use Rattle.office_tables.specs.Versions.{Version}
use Rattle.state_encoding.specs.CellCauses.{cell_cause}
use Rattle.office_tables.specs.Schema.{schema}
use Rattle.adoption.specs.DeskCheck.{catalogue_cell_cause, of_desk}
use Rattle.adoption.specs.OrderedTables.{StandInOrder}

-- they are of the version and keep its rules, their rows stand in order, and no cause holds for them
pub record AreSoundTables (version : Version) (db : Database) : Type 0 where
  pub schema_is : db.schema ≡ schema version
  pub live : IsDatabase db
  pub ordered : StandInOrder db
  pub causeless : cell_cause version db.trees ≡ None

-- the same, but only the causes 1 to 9 are excluded: containers may be out against the rules of the day
pub record AreGoodTables (version : Version) (db : Database) : Type 0 where
  pub schema_is : db.schema ≡ schema version
  pub live : IsDatabase db
  pub ordered : StandInOrder db
  pub catalogue : catalogue_cell_cause version db.trees ≡ None
  pub desk : of_desk (cell_cause version db.trees) ≡ None
