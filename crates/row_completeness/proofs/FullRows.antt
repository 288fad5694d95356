-- A row of a table whose last column is NOT NULL has all its cells: it has a value there, and no row has more cells than columns.
use Rattle.std.proofs.Common.{◌≡◌, ◌<◌, ◌≤◌, ◌+◌, ℕ, zero, suc, List, [], ◌∷◌, length, Bool, true, false, not, ◌&&◌}
use Rattle.std.proofs.Common.{◌||◌, Option, drop, refl, sym, subst, arith}
use Rattle.sqlite.specs.Effect.{Database, IsDatabase}
use Rattle.sqlite.specs.Ops.{is_null}
use Rattle.sqlite.specs.Table.{Table}
use Rattle.sqlite_schema.specs.Names.{is_key}
use Rattle.sqlite_schema.specs.Rules.{are_typed, are_present, has_computed, passes}
use Rattle.sqlite_schema.specs.declared.schema.Column.{Column}
use Rattle.sqlite_schema.specs.declared.schema.Constraint.TheVariants.{Datatype, NotNull}
use Rattle.sqlite_schema.specs.declared.schema.Schema.{Schema}
use Rattle.office_tables.specs.Schema.{Version, First, Second, schema}
use Rattle.row_completeness.specs.OrderedRows.{StandsInOrder, StandInOrder}
use Rattle.row_completeness.specs.WholeRows.{IsWholeTable, AreWholeTables}
use Rattle.row_completeness.proofs.Common.{AllByRecursion, Row, Trees, and_parts, column, list_all, true≢false}

-- the last column is NOT NULL, and is not the number of the row
abbrev pub ends_firmly : Option ℕ → ℕ → List Column → Bool
ends_firmly key at [] = false
ends_firmly key at (c ∷ []) = not (is_key key at) && c.not_null
ends_firmly key at (c ∷ d ∷ cs) = ends_firmly key (at + 1) (d ∷ cs)

-- a row has a cell where its value is not null
reaches : (row : Row) (p : ℕ) → not (is_null (column row p)) ≡ true → p < length row
reaches [] p h = absurd (true≢false (sym h))
reaches (v ∷ row) zero h = omega arith
reaches (v ∷ row) (suc p) h = let more = reaches row p h in omega (arith, more)

last_is_there : (key b n : Bool) → (not key && b) ≡ true → ((key || not b) || not n) ≡ true → not n ≡ true
last_is_there false true n firm h = h
last_is_there true b n firm h = absurd (true≢false (sym firm))
last_is_there false false n firm h = absurd (true≢false (sym firm))

long_enough : (key : Option ℕ) (at : ℕ) (cs : List Column) (row : Row) → ends_firmly key at cs ≡ true
    → are_present key at cs row ≡ true → at + length cs < length row
long_enough key at [] row firm h = absurd (true≢false (sym firm))
long_enough key at (c ∷ []) row firm h =
    let there = reaches row (at + 1) (last_is_there (is_key key at) c.not_null (is_null (column row (at + 1))) firm (and_parts _ _ h).0) in
    omega (arith, there)
long_enough key at (c ∷ d ∷ cs) row firm h =
    let more = long_enough key (at + 1) (d ∷ cs) row firm (and_parts _ _ h).1 in
    omega (arith, more)

short_enough : (key : Option ℕ) (at : ℕ) (cs : List Column) (cells : Row) → are_typed key at cs cells ≡ true
    → length cells ≤ length cs
short_enough key at [] [] h = omega arith
short_enough key at [] (v ∷ cells) h = absurd (true≢false (sym h))
short_enough key at (c ∷ cs) [] h = omega arith
short_enough key at (c ∷ cs) (v ∷ cells) h = let more = short_enough key (at + 1) cs cells (and_parts _ _ h).1 in omega (arith, more)

exact : (table : Table) (row : Row) → ends_firmly table.key 0 table.columns ≡ true
    → (are_typed table.key 0 table.columns (drop 1 row) && has_computed table row) ≡ true
    → are_present table.key 0 table.columns row ≡ true
    → length row ≡ suc (length table.columns)
exact table [] firm typed present = let long = long_enough table.key 0 table.columns [] firm present in absurd (omega (arith, long))
exact table (v ∷ cells) firm typed present =
    let long = long_enough table.key 0 table.columns (v ∷ cells) firm present in
    let short = short_enough table.key 0 table.columns cells (and_parts _ _ typed).0 in
    omega (arith, long, short)

exact_rows : (s : Schema) (db : Trees) (table : Table) (rows : List Row) → ends_firmly table.key 0 table.columns ≡ true
    → AllByRecursion (λ row. passes Datatype s db table row ≡ true) rows
    → AllByRecursion (λ row. passes NotNull s db table row ≡ true) rows
    → AllByRecursion (λ (row : Row). length row ≡ suc (length table.columns)) rows
exact_rows s db table [] firm typed present = tt
exact_rows s db table (row ∷ rows) firm typed present =
    (exact table row firm typed.0 present.0, exact_rows s db table rows firm typed.1 present.1)

each_whole : (s : Schema) (db : Trees) (tables : List Table)
    → list_all (λ t. ends_firmly t.key 0 t.columns) tables ≡ true
    → AllByRecursion (λ t. AllByRecursion (λ row. passes Datatype s db t row ≡ true) (db t.tree)) tables
    → AllByRecursion (λ t. AllByRecursion (λ row. passes NotNull s db t row ≡ true) (db t.tree)) tables
    → AllByRecursion (λ (table : Table). StandsInOrder (db table.tree)) tables
    → AllByRecursion (λ (table : Table). IsWholeTable table (db table.tree)) tables
each_whole s db [] firm typed present ordered = tt
each_whole s db (table ∷ tables) firm typed present ordered =
    let parts = and_parts _ _ firm in (
      record { rise = ordered.0.rise; numbers = ordered.0.numbers; cells = exact_rows s db table (db table.tree) parts.0 typed.0 present.0 },
      each_whole s db tables parts.1 typed.1 present.1 ordered.1,
    )

all_firm : (v : Version) → list_all (λ t. ends_firmly t.key 0 t.columns) (schema v).tables ≡ true
all_firm First = refl
all_firm Second = refl

-- rows of ours that stand in order are whole, where a connection is open
pub whole_tables : (v : Version) (db : Database) → db.schema ≡ schema v → IsDatabase db → StandInOrder db
    → AreWholeTables db
whole_tables v db is live ordered =
    each_whole db.schema db.trees db.schema.tables (subst (λ (s : Schema). list_all (λ t. ends_firmly t.key 0 t.columns) s.tables ≡ true) (sym is) (all_firm v)) (live.obeys.rules Datatype) (live.obeys.rules NotNull) ordered
