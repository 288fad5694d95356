-- A query of ours that counts the rows of a table.
use Rattle.std.specs.Prelude.{◌≡◌, ℕ, pos, negsuc, true, false, List, [], ◌∷◌, codes, Some}
use Rattle.sqlite.specs.Collation.TheVariants.{Binary}
use Rattle.sqlite.specs.Command.TheVariants.{Select}
use Rattle.sqlite.specs.Query.{Query, end, inner}
use Rattle.sqlite.specs.Table.{Table}
use Rattle.sqlite.specs.Term.{col, lit}
use Rattle.sqlite.specs.declared.types.Value.TheVariants.{Int, Null}
use Rattle.sqlite_schema.specs.declared.program.Program.{Program}
use Rattle.sqlite_sql.specs.Group.{Aggregate}
use Rattle.sqlite_sql.specs.declared.aggregate.AggregateOp.TheVariants as by
use Rattle.sqlite_typing.specs.Types.{accepts_program}
use Rattle.office_tables.specs.Schema.{Version, schema}
use Rattle.office_tables.specs.StatementMeaning.{Means}

abbrev pub count_rows : Aggregate
count_rows = record { op = by.CountRows; distinct = false; collation = Binary; argument = lit Null }

-- SELECT count(*) FROM the table
abbrev pub count_query : Table → Query
count_query table =
    record { from = inner table.tree end; filter = []; group = Some (record { keys = []; collations = []; aggregates = count_rows ∷ []; having = [] }); project = col 1 0 ∷ []; distinct = false; collations = []; order = []; limit = lit (Int (negsuc 0)); offset = lit (Int (pos 0)) }

abbrev pub counting : Table → Program
counting table = record { lets = []; body = count_query table }

-- with the tables of this version, the text counts the rows of this table, and the query is well typed
pub record CountsRows (version : Version) (table : Table) (sql : List ℕ) : Type 0 where
  pub means : Means version sql 0 (Select (counting table) (codes "count(*)" ∷ []))
  pub typed : accepts_program (schema version) [] (count_query table) [] ≡ true
