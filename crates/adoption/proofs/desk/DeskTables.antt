-- The desk's tables of a live connection, whose rows stand in order, with none of the causes 1 to 9 against them.
use Rattle.std.proofs.Common.{subst}
use Rattle.row_completeness.proofs.FullRows.{whole_tables}
use Rattle.adoption.specs.Desk.{RowsRepresentTheDesk}
use Rattle.adoption.proofs.Common.{AllByRecursion, AreGoodTables, Database, IsWholeTable, Obeys, Schema, Table, Version}
use Rattle.adoption.proofs.Common.{schema}
use Rattle.adoption.proofs.desk.KeptDesk.{keys}
use Rattle.adoption.proofs.desk.ShownDesk.{shows_desk}
use Rattle.adoption.proofs.tables.Causeless.{ArePassed, are_passed}

module _ (version : Version) (db : Database) (good : AreGoodTables version db) where
  pub passed : ArePassed version db.trees
  passed = are_passed version db.trees good.catalogue good.desk

  obeys : Obeys (schema version) db.trees
  obeys = subst (λ (s : Schema). Obeys s db.trees) good.schema_is good.live.obeys

  whole : AllByRecursion (λ (table : Table). IsWholeTable table (db.trees table.tree)) (schema version).tables
  whole = subst (λ (s : Schema). AllByRecursion (λ (table : Table). IsWholeTable table (db.trees table.tree)) s.tables) good.schema_is (whole_tables version db good.schema_is good.live good.ordered)

pub desk_shown : (version : Version) (db : Database) → RowsRepresentTheDesk version db
desk_shown version db good =
    let it = passed version db good in
    record {
      keys = keys version db.trees (obeys version db good) (whole version db good) it.desk;
      represents = shows_desk version db.trees it (obeys version db good) (whole version db good);
    }
