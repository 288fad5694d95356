-- Which version tables of any origin have, according to a query.
use Rattle.std.specs.Prelude.{◌≡◌, ◌≢◌, ◌⊎◌, ℕ, pos, List, [], ◌∷◌, length, codes, Option, Some, None, Ok, Err, Vec}
use Rattle.std.specs.declared.alloc.Global.{Global}
use Rattle.sqlite.specs.declared.error.Error.{Error}
use Rattle.sqlite.specs.declared.types.Value.{Value}
use Rattle.sqlite.specs.declared.types.Value.TheVariants.{Int}
use Rattle.sqlite.specs.Effect.{Database, Reads, RefusesToRead}
use Rattle.sqlite.specs.Listing.{understood, reads_listing, IsSourceOf}
use Rattle.sqlite.specs.Order.{Row, column}
use Rattle.sqlite_resolve.specs.declared.compiled.Compiled.{Compiled}
use Rattle.sqlite_resolve.specs.declared.error.CompileError.{CompileError}
use Rattle.office_tables.specs.Versions.{Version, version_number}

-- the query
abbrev pub version_text : List ℕ
version_text = codes "SELECT version FROM office"

-- the query makes sense for these tables: they have a table `office` with a version
pub record HasVersionTable (db : Database) : Type 0 where
  pub asked : Compiled
  pub is : understood db.schema version_text ≡ Ok asked
  pub source : Database
  pub from : IsSourceOf (reads_listing db.schema version_text) db source

-- it does, and these rows are the answer
pub record ShowsVersions (db : Database) (rows : List Row) : Type 0 where
  pub question : HasVersionTable db
  pub shown : Reads question.asked.command question.source [] rows

-- it does, but the answer cannot be computed: it would have to come from a view
pub record RefusesVersions (db : Database) : Type 0 where
  pub question : HasVersionTable db
  pub why : Error
  pub refused : RefusesToRead None question.asked.command question.source [] why

-- the query makes no sense for these tables
abbrev pub LacksVersions : Database → Type 0
LacksVersions db = (why : CompileError) × (understood db.schema version_text ≡ Err why)

-- it makes no sense, or there is no answer
abbrev pub CannotTell : Database → Type 0
CannotTell db = LacksVersions db ⊎ RefusesVersions db

-- the only row of the answer has this cell
pub record TellsVersion (db : Database) (cell : Value) : Type 0 where
  pub row : Row
  pub only : ShowsVersions db (row ∷ [])
  pub is : column row 0 ≡ cell

-- the tables have this version
abbrev pub IsToldVersion : Version → Database → Type 0
IsToldVersion version db = TellsVersion db (Int (pos (version_number version)))

-- they have this version, or something that is not a version
pub record TellsNoOther (version : Version) (db : Database) : Type 0 where
  pub cell : Value
  pub told : TellsVersion db cell
  pub not_other : (other : Version) → version_number other ≢ version_number version → cell ≢ Int (pos (version_number other))

-- the table `office` cannot be read, or does not have exactly one row
abbrev pub LacksOfficeRow : Database → Type 0
LacksOfficeRow db = CannotTell db ⊎ ((rows : List Row) × ShowsVersions db rows × (length rows ≢ 1))

-- the rows of the answer, or none if there can be none
abbrev pub AreVersions : Database → Option (Vec Row Global) → Type 0
AreVersions db None = CannotTell db
AreVersions db (Some rows) = ShowsVersions db rows.items
