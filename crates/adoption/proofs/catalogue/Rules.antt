-- What SQL and the wholeness of tables tell of each row of the catalogue's tables.
use Rattle.std.proofs.Common.{◌≡◌, ℕ, ◌<◌, List, [], ◌∷◌, length, true, ◌&&◌, drop, refl, sym, subst, IsTrue, arith}
use Rattle.office_tables.specs.Schema as tables
use Rattle.row_completeness.proofs.FullRows.{whole_tables}
use Rattle.adoption.proofs.Common.{AllByRecursion, AreGoodTables, AreWholeTables, Blob, Database, Datatype, Int}
use Rattle.adoption.proofs.Common.{IsDatabase, IsWholeTable, Null, Real, Row, StandInOrder, Table, Text, Value, Version}
use Rattle.adoption.proofs.Common.{all_both, and_parts, are_typed, column, encoding, has_computed, is_int, is_null}
use Rattle.adoption.proofs.Common.{schema, true≢false}

-- ---- a row of a table

-- of one with an INTEGER PRIMARY KEY: so many cells, and null where the number would stand again
abbrev pub IsKeyed : ℕ → Row → Type 0
IsKeyed n row = (length row ≡ n) × (column row 1 ≡ Null)

-- of one without: so many cells, and a number of its own
abbrev pub IsNumbered : ℕ → Row → Type 0
IsNumbered n row = (length row ≡ n) × IsTrue (is_int (column row 0))

is_nil : (v : Value) → is_null v ≡ true → v ≡ Null
is_nil Null h = refl
is_nil (Int n) h = absurd (true≢false (sym h))
is_nil (Real x) h = absurd (true≢false (sym h))
is_nil (Text t) h = absurd (true≢false (sym h))
is_nil (Blob b) h = absurd (true≢false (sym h))

-- its first column is the key
module _ (table : Table) (begins : (b : Value) (row : Row) → are_typed table.key 0 table.columns (b ∷ row) ≡ true → is_null b ≡ true) where
  abbrev IsTyped : Row → Type 0
  IsTyped row = (are_typed table.key 0 table.columns (drop 1 row) && has_computed table row) ≡ true

  key_is_null : (row : Row) → 1 < length row → IsTyped row → column row 1 ≡ Null
  key_is_null [] l h = absurd (omega (arith, l))
  key_is_null (a ∷ []) l h = absurd (omega (arith, l))
  key_is_null (a ∷ b ∷ row) l h =
      is_nil b (begins b row (and_parts (are_typed table.key 0 table.columns (b ∷ row)) (has_computed table (a ∷ b ∷ row)) h).0)

  pub rows_keyed : (n : ℕ) → 1 < n → (rows : List Row) → AllByRecursion (λ (row : Row). length row ≡ n) rows
      → AllByRecursion IsTyped rows → AllByRecursion (IsKeyed n) rows
  rows_keyed n l rows cells typed =
      all_both (λ (row : Row). length row ≡ n) IsTyped (IsKeyed n) (λ row h k. (h, key_is_null row (omega (arith, l, h)) k)) rows cells typed

-- ---- the tables of an office

module _ (v : Version) (db : Database) (it : AreGoodTables v db) where
  pub live : IsDatabase (record { schema = schema v; trees = db.trees })
  live = subst (λ k. IsDatabase (record { schema = k; trees = db.trees })) it.schema_is it.live

  whole : AreWholeTables (record { schema = schema v; trees = db.trees })
  whole = whole_tables v (record { schema = schema v; trees = db.trees }) refl live (subst (λ k. StandInOrder (record { schema = k; trees = db.trees })) it.schema_is it.ordered)

  pub office_whole : IsWholeTable tables.office (db.trees tables.office.tree)
  office_whole = whole.1.1.1.1.1.1.1.0

  pub unit_whole : IsWholeTable tables.unit (db.trees tables.unit.tree)
  unit_whole = whole.1.1.1.1.1.1.1.1.0

  pub element_whole : IsWholeTable tables.element (db.trees tables.element.tree)
  element_whole = whole.1.1.1.1.1.1.1.1.1.0

  pub container_whole : IsWholeTable tables.container (db.trees tables.container.tree)
  container_whole = whole.1.1.1.1.1.1.1.1.1.1.0

  pub housing_whole : IsWholeTable tables.housing (db.trees tables.housing.tree)
  housing_whole = whole.1.1.1.1.1.1.1.1.1.1.1.0

  pub place_whole : IsWholeTable (tables.place_table (encoding v)) (db.trees (tables.place_table (encoding v)).tree)
  place_whole = whole.1.1.1.1.1.1.1.1.1.1.1.1.0

  -- ---- their rows

  pub office_keyed : AllByRecursion (IsKeyed 11) (db.trees tables.office.tree)
  office_keyed = rows_keyed tables.office (λ b row h. (and_parts (is_null b) _ h).0) 11 (omega arith) (db.trees tables.office.tree) office_whole.cells (live.obeys.rules Datatype).1.1.1.1.1.1.1.0

  pub unit_keyed : AllByRecursion (IsKeyed 7) (db.trees tables.unit.tree)
  unit_keyed = rows_keyed tables.unit (λ b row h. (and_parts (is_null b) _ h).0) 7 (omega arith) (db.trees tables.unit.tree) unit_whole.cells (live.obeys.rules Datatype).1.1.1.1.1.1.1.1.0

  pub container_keyed : AllByRecursion (IsKeyed 5) (db.trees tables.container.tree)
  container_keyed = rows_keyed tables.container (λ b row h. (and_parts (is_null b) _ h).0) 5 (omega arith) (db.trees tables.container.tree) container_whole.cells (live.obeys.rules Datatype).1.1.1.1.1.1.1.1.1.1.0

  pub element_numbered : AllByRecursion (IsNumbered 4) (db.trees tables.element.tree)
  element_numbered = all_both (λ (row : Row). length row ≡ 4) (λ (row : Row). IsTrue (is_int (column row 0))) (IsNumbered 4) (λ row h k. (h, k)) (db.trees tables.element.tree) element_whole.cells element_whole.numbers

  pub housing_numbered : AllByRecursion (IsNumbered 4) (db.trees tables.housing.tree)
  housing_numbered = all_both (λ (row : Row). length row ≡ 4) (λ (row : Row). IsTrue (is_int (column row 0))) (IsNumbered 4) (λ row h k. (h, k)) (db.trees tables.housing.tree) housing_whole.cells housing_whole.numbers
