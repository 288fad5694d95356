-- A UNIQUE that holds the number of the row never refuses one: two rows that agree in it have one number.
use Rattle.std.proofs.Common.{◌≡◌, ℕ, inl, inr, Bool, true, false, cond, ◌&&◌, ◌||◌, ◌==◌, not, List, [], ◌∷◌, filter}
use Rattle.std.proofs.Common.{Some, Less, Equal, Greater, Ordering, refl, subst, ap}
use Rattle.std.proofs.lemmas.Bool.{eqb-true}
use Rattle.sqlite_schema.specs.declared.schema.Index.{Index}
use Rattle.sqlite_sql.specs.Ops.{binary, is_true, is_null, from_truth}
use Rattle.sqlite_value.specs.Keys.{first_key, plain}
use Rattle.sqlite_value.specs.Order.{value_cmp}
use Rattle.sqlite_value.specs.declared.keys.Order.{Order}
use Rattle.office_tables.proofs.Common.{Binary, Keeps, Null, Row, Schema, Trees, Unique, Value, agree, and_parts}
use Rattle.office_tables.proofs.Common.{clashes, column, differ, equal, false_from_ne_true, guards, has_filtered}
use Rattle.office_tables.proofs.Common.{has_kept, is_eq, is_ne, keeps_at, keeps_from, list_any, not_from_false}
use Rattle.office_tables.proofs.Common.{or_cases, rowid, some_has, test_from, test_has}

-- the number of the row, in the order of numbers, is among what the index keeps
abbrev pub is_numbered : Index → Bool
is_numbered i = (i.order.digits == 0) && list_any (λ p. p == 0) i.columns

-- the schema with the other indexes alone
abbrev pub firm : Schema → Schema
firm schema = record schema { indexes = filter (λ i. not (is_numbered i)) schema.indexes }

same_and_apart : (null : Bool) (o : Ordering) → is_true (cond null Null (from_truth (Some (is_eq o)))) ≡ true
    → is_true (cond null Null (from_truth (Some (is_ne o)))) ≡ true → ⊥
same_and_apart true o h k = absurd (cc)
same_and_apart false Less h k = absurd (cc)
same_and_apart false Equal h k = absurd (cc)
same_and_apart false Greater h k = absurd (cc)

not_both : (a b : Value) → equal Binary a b ≡ true → differ a b ≡ true → ⊥
unfolding binary
not_both a b h k = same_and_apart (is_null a || is_null b) (value_cmp a b) h k

same_number : (places : List ℕ) (a b : Row) → list_any (λ p. p == 0) places ≡ true
    → agree plain places a places b ≡ true → equal Binary (column a 0) (column b 0) ≡ true
unfolding first_key
same_number [] a b h k = absurd (cc)
same_number (p ∷ places) a b h k =
    let parts = and_parts _ _ k in
    elim (or_cases _ _ h) [
      | inl is ↦ subst (λ p. equal Binary (column a p) (column b p) ≡ true) (eqb-true p 0 is) parts.0
      | inr more ↦ same_number places a b more parts.1
    ]

plain_from : (o : Order) → (o.digits == 0) ≡ true → o ≡ plain
plain_from o h = ap (λ n. let order : Order = record { digits = n } in order) (eqb-true o.digits 0 h)

-- no row has the values of another one
pub never_clashes : (i : Index) (rows : List Row) (row : Row) → is_numbered i ≡ true
    → clashes i.order i.columns rows row ≡ true → ⊥
never_clashes i rows row numbered clash =
    let is = and_parts _ _ numbered in
    let other = some_has _ rows clash in
    let parts = and_parts _ _ other.2 in
    not_both (rowid other.0) (rowid row) (same_number i.columns other.0 row is.1 (subst (λ o. agree o i.columns other.0 i.columns row ≡ true) (plain_from i.order is.0) parts.0)) parts.1

-- what is unique stays so in the others
pub firm_unique : (schema : Schema) (db : Trees) → Keeps Unique schema db → Keeps Unique (firm schema) db
firm_unique schema db keeps = keeps_from Unique (firm schema) db (λ t row known there. test_from _ (firm schema).indexes (λ i k.
    test_has _ schema.indexes i (keeps_at Unique schema db t row keeps known there) (has_filtered (λ i. not (is_numbered i)) schema.indexes i k).0))

-- and where it is in the others, it is so in all
pub unique_from_firm : (schema : Schema) (db : Trees) → Keeps Unique (firm schema) db → Keeps Unique schema db
unique_from_firm schema db keeps = keeps_from Unique schema db (λ t row known there. test_from _ schema.indexes (λ i k. elim (is_numbered i) as (λ b. is_numbered i ≡ b → not (guards i t && clashes i.order i.columns (db t.tree) row) ≡ true) [
  | true ↦ λ is. not_from_false _ (false_from_ne_true _ (λ both. never_clashes i (db t.tree) row is (and_parts _ _ both).1))
  | false ↦ λ is. test_has _ (firm schema).indexes i (keeps_at Unique (firm schema) db t row keeps known there) (has_kept (λ i. not (is_numbered i)) schema.indexes i k (ap not is))
] refl))
