-- Tables and schemas without the expressions and the values that our tables do not use.
use Rattle.std.specs.Prelude.{◌≡◌, []}
use Rattle.std.specs.List.{AllByRecursion}
use Rattle.sqlite.specs.Schema.{Schema}
use Rattle.sqlite.specs.Table.{Table}
use Rattle.sqlite_schema.specs.declared.schema.Column.{Column}
use Rattle.sqlite_schema.specs.declared.schema.Stamps.{Stamps}
use Rattle.sqlite_value.specs.declared.value.Value.TheVariants.{Null}

-- no default reads the time
abbrev pub no_stamps : Stamps
no_stamps = record { places = []; terms = []; formats = [] }

abbrev pub IsPlainColumn : Column → Type 0
IsPlainColumn column = column.default ≡ Null

-- no column has a default, and no row is checked
pub record IsPlainTable (table : Table) : Type 0 where
  pub columns : AllByRecursion IsPlainColumn table.columns
  pub checks : table.checks ≡ []
  pub stamps : table.stamps ≡ no_stamps

-- all tables are plain, and there is no view
pub record IsPlainSchema (schema : Schema) : Type 0 where
  pub tables : AllByRecursion IsPlainTable schema.tables
  pub views : schema.views ≡ []

-- ---- the parts in which two tables may be the same

pub record HaveSameRows (a b : Table) : Type 0 where
  pub name : a.name ≡ b.name
  pub tree : a.tree ≡ b.tree
  pub columns : a.columns ≡ b.columns
  pub key : a.key ≡ b.key
  pub primary : a.primary ≡ b.primary
  pub uniques : a.uniques ≡ b.uniques
  pub orders : a.orders ≡ b.orders

pub record HaveSameRules (a b : Table) : Type 0 where
  pub checks : a.checks ≡ b.checks
  pub references : a.references ≡ b.references
  pub computed : a.computed ≡ b.computed
  pub stamps : a.stamps ≡ b.stamps
  pub is_counted : a.is_counted ≡ b.is_counted
