-- The tables of an office, in the order in which they are made: the desk's, the catalogue's, and the table of places.
-- Every table is STRICT, and none has a CHECK. The table of places is the last, so that a file that is brought from
-- version 1 to version 2 has exactly the schema of one that was made in version 2. It alone has plain indexes; the
-- indexes of the other tables come with their UNIQUE. So all tables stand before all plain indexes, as in a file that
-- SQLite has vacuumed.
use Rattle.std.specs.Prelude.{ℕ, Bool, true, false, List, [], ◌∷◌, Option, Some, None, codes, map}
use Rattle.sqlite.specs.Collation.TheVariants.{Binary}
use Rattle.sqlite.specs.declared.types.Value.TheVariants.{Null}
use Rattle.sqlite.specs.Table.{Table}
use Rattle.sqlite.specs.Schema.{Schema}
use Rattle.sqlite.specs.Kind.{Kind}
use Rattle.sqlite.specs.Kind.TheVariants.{Integer, Text}
use Rattle.sqlite_value.specs.Keys.{plain}
use Rattle.sqlite_schema.specs.declared.schema.Column.{Column}
use Rattle.sqlite_schema.specs.declared.schema.Index.{Index}
use Rattle.sqlite_schema.specs.declared.schema.Reference.{Reference}
use Rattle.sqlite_schema.specs.declared.schema.Action.TheVariants.{NoAction, Cascade}
use Rattle.sqlite_catalog.specs.Listing.{automatic}
use Rattle.tree_core.specs.Encodings.{TreeEncoding, Links, Spans}
pub use Rattle.office_tables.specs.Versions.{Version, First, Second, encoding}

-- a column in the BINARY collation and with no default
abbrev pub column : List ℕ → Kind → Bool → Column
column name kind not_null = record { name = name; kind = kind; is_strict = true; not_null = not_null; default = Null; collation = Binary }

abbrev pub number : List ℕ → Column
number name = column name Integer true

abbrev pub words : List ℕ → Column
words name = column name Text true

abbrev pub nullable : List ℕ → Column
nullable name = column name Integer false

abbrev pub table : List ℕ → ℕ → Option ℕ → List Column → List ℕ → List (List ℕ) → List Reference → Table
table name tree key columns primary uniques references = record {
  name = name;
  tree = tree;
  columns = columns;
  key = key;
  primary = primary;
  uniques = uniques;
  orders = map (λ _. plain) uniques;
  checks = [];
  references = references;
  computed = [];
  stamps = record { places = []; terms = []; formats = [] };
  is_counted = false;
}

-- the first column is the INTEGER PRIMARY KEY
abbrev pub keyed_table : List ℕ → ℕ → List Column → List (List ℕ) → Table
keyed_table name tree columns uniques = table name tree (Some 0) columns (0 ∷ []) uniques []

-- a plain index on columns of a table
abbrev pub index : List ℕ → ℕ → Table → List ℕ → Index
index name tree of columns = record { name = name; tree = tree; table = of.tree; columns = columns; order = plain; is_unique = false }

-- the column at this place names a unit, and its row goes with the unit
abbrev pub to_unit : ℕ → Reference
to_unit place = record { columns = place ∷ []; parent = codes "unit"; parent_columns = []; on_delete = Cascade; on_update = NoAction; is_deferred = false }

-- ---- the desk

abbrev pub reader : Table
reader = keyed_table (codes "reader") 0 (nullable (codes "ticket") ∷ words (codes "name") ∷ number (codes "until") ∷ []) []

abbrev pub seat : Table
seat = keyed_table (codes "seat") 1 (nullable (codes "seat") ∷ number (codes "ticket") ∷ []) ((2 ∷ []) ∷ [])

-- The orders that wait are few among the past ones. Each of these keys contains the number of the order, so it refuses
-- no row.
abbrev pub waiting_key : List ℕ
waiting_key = 5 ∷ 3 ∷ 0 ∷ 2 ∷ []

-- the orders of a ticket, by day
abbrev pub placed_key : List ℕ
placed_key = 2 ∷ 4 ∷ 0 ∷ []

-- the orders of a ticket, by state
abbrev pub live_key : List ℕ
live_key = 2 ∷ 5 ∷ 0 ∷ []

abbrev pub orders : Table
orders = keyed_table (codes "orders") 3
    (nullable (codes "id") ∷ number (codes "ticket") ∷ number (codes "container") ∷ number (codes "day") ∷ number (codes "state") ∷ [])
    (waiting_key ∷ placed_key ∷ live_key ∷ [])

abbrev pub holding : Table
holding = keyed_table (codes "holding") 7 (nullable (codes "container") ∷ nullable (codes "held_by") ∷ number (codes "place") ∷ []) []

abbrev pub run : Table
run = keyed_table (codes "run") 8 (nullable (codes "id") ∷ number (codes "day") ∷ []) []

abbrev pub run_line : Table
run_line = table (codes "run_line") 9 None
    (number (codes "run") ∷ number (codes "container") ∷ number (codes "order_no") ∷ number (codes "ticket") ∷ [])
    (1 ∷ 2 ∷ []) ((1 ∷ 2 ∷ []) ∷ []) []

-- the second key finds the permits for a unit
abbrev pub permit : Table
permit = table (codes "permit") 11 None (number (codes "ticket") ∷ number (codes "unit") ∷ number (codes "until") ∷ [])
    (1 ∷ 2 ∷ []) ((1 ∷ 2 ∷ []) ∷ (2 ∷ 1 ∷ []) ∷ []) (to_unit 2 ∷ [])

abbrev pub desk_tables : List Table
desk_tables = reader ∷ seat ∷ orders ∷ holding ∷ run ∷ run_line ∷ permit ∷ []

abbrev pub desk_indexes : List Index
desk_indexes = automatic seat 0 (2 ∷ []) 2 ∷ automatic orders 0 waiting_key 4 ∷ automatic orders 1 placed_key 5 ∷ automatic orders 2 live_key 6
    ∷ automatic run_line 0 (1 ∷ 2 ∷ []) 10 ∷ automatic permit 0 (1 ∷ 2 ∷ []) 12 ∷ automatic permit 1 (2 ∷ 1 ∷ []) 13 ∷ []

-- ---- the catalogue

abbrev pub office : Table
office = keyed_table (codes "office") 14
    (nullable (codes "one") ∷ number (codes "version") ∷ words (codes "country") ∷ words (codes "repo") ∷ number (codes "seats") ∷ number (codes "daily")
    ∷ number (codes "hands") ∷ number (codes "run_size") ∷ number (codes "day") ∷ number (codes "next_unit") ∷ [])
    []

abbrev pub unit : Table
unit = keyed_table (codes "unit") 15
    (nullable (codes "id") ∷ words (codes "source") ∷ words (codes "legacy") ∷ words (codes "level") ∷ nullable (codes "until") ∷ number (codes "draft") ∷ [])
    ((2 ∷ 3 ∷ []) ∷ [])

abbrev pub element : Table
element = table (codes "element") 17 None (number (codes "unit") ∷ number (codes "k") ∷ words (codes "value") ∷ [])
    (1 ∷ 2 ∷ []) ((1 ∷ 2 ∷ []) ∷ []) (to_unit 1 ∷ [])

abbrev pub container : Table
container = keyed_table (codes "container") 19
    (nullable (codes "id") ∷ words (codes "name") ∷ words (codes "location") ∷ words (codes "kind") ∷ [])
    ((2 ∷ 3 ∷ 4 ∷ []) ∷ [])

-- a unit has a container only once; the second key finds the units of a container
abbrev pub housing : Table
housing = table (codes "housing") 21 None (number (codes "unit") ∷ number (codes "ord") ∷ number (codes "container") ∷ [])
    (1 ∷ 2 ∷ []) ((1 ∷ 2 ∷ []) ∷ (3 ∷ 1 ∷ []) ∷ []) (to_unit 1 ∷ [])

-- ---- the places

-- the table of places stands last in every version, keyed by the unit's number
abbrev pub place_table_name : TreeEncoding → List ℕ
place_table_name Links = codes "link"
place_table_name Spans = codes "span"

abbrev pub place_columns : TreeEncoding → List Column
place_columns Links = nullable (codes "id") ∷ nullable (codes "parent") ∷ number (codes "ord") ∷ []
place_columns Spans = nullable (codes "id") ∷ number (codes "lft") ∷ number (codes "rgt") ∷ []

abbrev pub place_table : TreeEncoding → Table
place_table way = keyed_table (place_table_name way) 24 (place_columns way) []

abbrev pub link : Table
link = place_table Links

abbrev pub span : Table
span = place_table Spans

abbrev pub place_indexes : TreeEncoding → List Index
place_indexes Links = index (codes "link_by_parent") 25 link (2 ∷ 3 ∷ []) ∷ []
place_indexes Spans = index (codes "span_by_lft") 25 span (2 ∷ []) ∷ index (codes "span_by_rgt") 26 span (3 ∷ []) ∷ []

-- ---- all of them

abbrev pub no_schema : Schema
no_schema = record { tables = []; indexes = []; views = [] }

-- what is there before the catalogue's tables are made
abbrev pub desk_schema : Schema
desk_schema = record { tables = desk_tables; indexes = desk_indexes; views = [] }

abbrev pub schema : Version → Schema
schema version = record {
  tables = reader ∷ seat ∷ orders ∷ holding ∷ run ∷ run_line ∷ permit ∷ office ∷ unit ∷ element ∷ container ∷ housing ∷ place_table (encoding version) ∷ [];
  indexes = automatic seat 0 (2 ∷ []) 2 ∷ automatic orders 0 waiting_key 4 ∷ automatic orders 1 placed_key 5 ∷ automatic orders 2 live_key 6
      ∷ automatic run_line 0 (1 ∷ 2 ∷ []) 10 ∷ automatic permit 0 (1 ∷ 2 ∷ []) 12 ∷ automatic permit 1 (2 ∷ 1 ∷ []) 13
      ∷ automatic unit 0 (2 ∷ 3 ∷ []) 16 ∷ automatic element 0 (1 ∷ 2 ∷ []) 18 ∷ automatic container 0 (2 ∷ 3 ∷ 4 ∷ []) 20
      ∷ automatic housing 0 (1 ∷ 2 ∷ []) 22 ∷ automatic housing 1 (3 ∷ 1 ∷ []) 23 ∷ place_indexes (encoding version);
  views = [];
}
