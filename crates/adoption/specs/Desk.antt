-- Tables of any origin represent the desk that their rows describe, if no cause holds for them, except perhaps for the
-- rules of the day.
use Rattle.sqlite.specs.Effect.{Database}
use Rattle.office_tables.specs.Versions.{Version}
use Rattle.desk_core.specs.DeskCauses.{MeetsDeskKeys}
use Rattle.desk_store.specs.Representation.{RepresentsDesk}
use Rattle.state_encoding.specs.CellCauses.{rows_in}
use Rattle.adoption.specs.SoundTables.{AreGoodTables}

-- the rows of the desk have their keys, and its tables represent the desk of these rows
pub record RepresentsItsDesk (version : Version) (db : Database) : Type 0 where
  pub keys : MeetsDeskKeys (rows_in version db.trees).desk
  pub represents : RepresentsDesk db.trees (rows_in version db.trees).desk

abbrev pub RowsRepresentTheDesk : Version → Database → Type 0
RowsRepresentTheDesk version db = AreGoodTables version db → RepresentsItsDesk version db
