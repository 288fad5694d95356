-- What the definition of a table or of an index makes.
use Rattle.std.specs.Prelude.{◌≡◌, ℕ, ◌+◌, ◌^◌, nat_lt, true, false, List, [], ◌∷◌, ◌++◌, Result, Ok, Some, codes}
use Rattle.std.specs.Prelude.{slice_get, drop, length, IfErr, IsTrue, OnOk, OnErr}
use Rattle.std.specs.List.{AllByRecursion, list_any, list_all}
use Rattle.std.specs.Str.{is_utf8}
use Rattle.sqlite.specs.Table.{Table}
use Rattle.sqlite.specs.Schema.{Schema}
use Rattle.sqlite_schema.specs.declared.schema.Index.{Index}
use Rattle.sqlite_schema.specs.Rules.{table_reals, index_reals}
use Rattle.sqlite_rules.specs.Lists.{Has}
use Rattle.sqlite.specs.declared.types.Value.TheVariants.{Text}
use Rattle.sqlite.specs.Change.{created, indexed, next_tree, automatics, is_used, is_reserved, KeepsRows}
use Rattle.sqlite.specs.Compile.{table_defined_by, index_defined_by}
use Rattle.sqlite.specs.Command.{Command}
use Rattle.sqlite.specs.Command.TheVariants.{CreateTable, CreateIndex}
use Rattle.sqlite.specs.Does.{lacks_sequence}
use Rattle.sqlite.specs.Effect.{Database}
use Rattle.sqlite.specs.Given.{IsPlain}
use Rattle.sqlite.specs.Listing.{understood}
use Rattle.sqlite.specs.State.{State, HasCleanDisk}
use Rattle.office_tables.specs.Faults.{BlamesDisk, FaultsHaveCause}
use Rattle.office_tables.specs.Step.{Continues, IsAborted}
use Rattle.office_tables.specs.declared.fault.StoreFault.{StoreFault}
use Rattle.office_tables.specs.Text.{command_of, statement_of, IsAlone}
use Rattle.sqlite_catalog.specs.Listing.{automatic, is_formed, is_fit}
use Rattle.office_tables.specs.Schema.{reader, seat, orders, holding, run, run_line, permit, office, unit, element}
use Rattle.office_tables.specs.Schema.{container, housing, waiting_key, placed_key, live_key}

-- the text is understood as one whole command
pub record Says (before : Schema) (text : List ℕ) (command : Command) : Type 0 where
  pub is : command_of (understood before text) ≡ command
  pub plain : IsPlain (understood before text)
  pub whole : statement_of text (understood before text) ≡ text
  pub alone : IsAlone text (understood before text)

-- the name is a text, no other object has it, and SQLite does not reserve it
pub record IsFreeName (before : Schema) (name : List ℕ) : Type 0 where
  pub free : is_used before name ≡ false
  pub utf8 : is_utf8 name ≡ true
  pub unreserved : is_reserved name ≡ false

-- the names of the table and of its UNIQUE are free, its primary key is well formed, and the file has room for it
pub record MayMakeTable (before : Schema) (text : List ℕ) (table : Table) : Type 0 where
  pub named : IsFreeName before table.name
  pub guards : list_any (λ i. is_used before i.name) (automatics table 0 0 table.uniques) ≡ false
  pub formed : is_formed table ≡ true
  pub fit : is_fit (Text (codes "table")) (Text table.name) (Text table.name) (Text text) ≡ true
  pub trees : nat_lt (next_tree before + length table.uniques) 65536 ≡ true
  pub reals : nat_lt (table_reals table) (2 ^ 64) ≡ true
  pub key_reals : list_all (λ key. nat_lt (index_reals (table_reals table) key) (2 ^ 64)) table.uniques ≡ true

-- the name of the index is free, and the file has room for it
pub record MayMakeIndex (before : Schema) (text : List ℕ) (table : Table) (index : Index) : Type 0 where
  pub named : IsFreeName before index.name
  pub utf8 : is_utf8 table.name ≡ true
  pub fit : is_fit (Text (codes "index")) (Text index.name) (Text table.name) (Text text) ≡ true
  pub trees : nat_lt (next_tree before) 65536 ≡ true
  pub reals : nat_lt (table_reals table) (2 ^ 64) ≡ true
  pub key_reals : nat_lt (index_reals (table_reals table) index.columns) (2 ^ 64) ≡ true

-- the text defines a table, which comes after the tables that were there and those made since
pub record DefinesTable (there : List Table) (before : Schema) (text : List ℕ) (after : Schema) : Type 0 where
  pub table : Table
  pub says : Says before text CreateTable
  pub defined : table_defined_by text ≡ Ok table
  pub allowed : MayMakeTable before text table
  pub uncounted : lacks_sequence (created before table) ≡ false
  pub is : created before table ≡ after
  pub more : List Table
  pub first : before.tables ≡ there ++ more
  pub rest : drop (length there) before.tables ≡ more
  pub last : drop (length there) after.tables ≡ more ++ record table { tree = next_tree before } ∷ []

-- the text defines an index on one of the tables made since
pub record DefinesIndex (there : List Table) (before : Schema) (text : List ℕ) (after : Schema) : Type 0 where
  pub at : ℕ
  pub table : Table
  pub index : Index
  pub says : Says before text (CreateIndex at)
  pub place : slice_get before.tables at ≡ Some table
  pub defined : index_defined_by table text ≡ Ok index
  pub allowed : MayMakeIndex before text table index
  pub is : indexed before table index ≡ after
  pub same : after.tables ≡ before.tables
  pub more : List Table
  pub first : before.tables ≡ there ++ more
  pub rest : drop (length there) before.tables ≡ more
  pub among : Has more table

-- the first tables, which were there, have the rows that they had, and each later table has no rows
pub record HasMade (there : List Table) (after : Schema) (old new : Database) : Type 0 where
  pub schema_is : new.schema ≡ after
  pub kept : KeepsRows there old.trees new.trees
  pub empty : AllByRecursion (λ t. new.trees t.tree ≡ []) (drop (length there) after.tables)

-- while the disk is clean, these tables are made beside what was there, and a transaction is open
abbrev pub IsMaking : List Table → Schema → Database → State → Type 0
IsMaking there after before s = HasCleanDisk s → HasMade there after before s.now × IsTrue s.in_transaction

-- What a call that makes tables leaves: the transaction goes on, or the call is aborted. It fails only for want of
-- memory or because of the disk, which is blamed for its own failures only.
pub record LeavesMaking {X : Type 0} (old new : State) (r : Result X StoreFault) : Type 0 where
  pub goes : OnOk r (Continues old new)
  pub aborts : OnErr r (IsAborted old new)
  pub disk : HasCleanDisk new → IfErr r (BlamesDisk old new)
  pub faults : FaultsHaveCause old new r

-- the desk's tables and the catalogue's, except the table of places
abbrev pub catalogue_schema : Schema
catalogue_schema = record {
  tables = reader ∷ seat ∷ orders ∷ holding ∷ run ∷ run_line ∷ permit ∷ office ∷ unit ∷ element ∷ container ∷ housing ∷ [];
  indexes = automatic seat 0 (2 ∷ []) 2 ∷ automatic orders 0 waiting_key 4 ∷ automatic orders 1 placed_key 5 ∷ automatic orders 2 live_key 6
      ∷ automatic run_line 0 (1 ∷ 2 ∷ []) 10 ∷ automatic permit 0 (1 ∷ 2 ∷ []) 12 ∷ automatic permit 1 (2 ∷ 1 ∷ []) 13
      ∷ automatic unit 0 (2 ∷ 3 ∷ []) 16 ∷ automatic element 0 (1 ∷ 2 ∷ []) 18 ∷ automatic container 0 (2 ∷ 3 ∷ 4 ∷ []) 20
      ∷ automatic housing 0 (1 ∷ 2 ∷ []) 22 ∷ automatic housing 1 (3 ∷ 1 ∷ []) 23 ∷ [];
  views = [];
}

-- the same tables up to `element`
abbrev pub unit_schema : Schema
unit_schema = record {
  tables = reader ∷ seat ∷ orders ∷ holding ∷ run ∷ run_line ∷ permit ∷ office ∷ unit ∷ element ∷ [];
  indexes = automatic seat 0 (2 ∷ []) 2 ∷ automatic orders 0 waiting_key 4 ∷ automatic orders 1 placed_key 5 ∷ automatic orders 2 live_key 6
      ∷ automatic run_line 0 (1 ∷ 2 ∷ []) 10 ∷ automatic permit 0 (1 ∷ 2 ∷ []) 12 ∷ automatic permit 1 (2 ∷ 1 ∷ []) 13
      ∷ automatic unit 0 (2 ∷ 3 ∷ []) 16 ∷ automatic element 0 (1 ∷ 2 ∷ []) 18 ∷ [];
  views = [];
}
