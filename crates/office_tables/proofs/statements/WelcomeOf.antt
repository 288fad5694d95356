-- When a table takes a new row, for any records.
use Rattle.std.proofs.Common.{◌≡◌, ℕ, ℤ, pos, List, ◌∷◌, map, Bool, true, false, not, ◌&&◌, ◌||◌, nat_eq, ap, ◌∙◌}
use Rattle.sqlite_value.specs.Keys.{plain}
use Rattle.office_tables.specs.Schema.{Version, First, Second}
use Rattle.office_tables.proofs.Common.{Check, Datatype, HasNumbered, Int, NotNull, Row, Table, Trees, agree, guards}
use Rattle.office_tables.proofs.Common.{has_parent, is_int, is_key_of, is_taken, list_all, list_any, next_rowid, passes}
use Rattle.office_tables.proofs.Common.{rowid, schema}
use Rattle.office_tables.proofs.Fresh.{any_mapped, next_free, not_there}
use Rattle.office_tables.proofs.InsertCauses.{IsWelcome}
use Rattle.office_tables.proofs.NumberedKeys.{is_numbered}
use Rattle.office_tables.proofs.numbered.OwnNumbers.{none_numbered}

-- no row has the key of this one in a unique index, but for one that holds the number of the row
abbrev pub IsAlone : Version → Trees → Table → Row → Type 0
IsAlone v db table row = list_all (λ i. is_numbered i || not (guards i table && list_any (λ r. agree i.order i.columns r i.columns row) (db table.tree))) (schema v).indexes ≡ true

-- the indexes of the places are not unique, so either version has the same that are
pub in_either : (v : Version) (db : Trees) (table : Table) (row : Row) → IsAlone First db table row
    → IsAlone v db table row
in_either First db table row alone = alone
in_either Second db table row alone = alone

-- its values are such as the columns have, and what it refers to is there
pub record Suits (v : Version) (db : Trees) (table : Table) (row : Row) : Type 0 where
  pub typed : passes Datatype (schema v) db table row ≡ true
  pub present : passes NotNull (schema v) db table row ≡ true
  pub checked : passes Check (schema v) db table row ≡ true
  pub referred : list_all (is_key_of (schema v)) table.references ≡ true
  pub parents : list_all (has_parent (schema v).tables db row) table.references ≡ true

-- a row under a number that no other has
pub number_welcome : {A : Type 0} (v : Version) (table : Table) (cells : A → Row) (number : A → ℕ) (named : (x : A) → rowid (cells x) ≡ Int (pos (number x))) (x : A) (xs : List A) (db : Trees)
    → db table.tree ≡ map cells xs
    → list_any (λ y. nat_eq (number x) (number y)) xs ≡ false → IsAlone First db table (cells x)
    → Suits v db table (cells x) → IsWelcome (schema v) db table (cells x)
number_welcome v table cells number named x xs db stored none alone suits = record {
  keyed = ap is_int (named x);
  free = ap (λ rows. is_taken rows (cells x)) stored ∙ not_there cells number named (number x) (cells x) (named x) xs none;
  typed = suits.typed;
  present = suits.present;
  checked = suits.checked;
  alone = in_either v db table (cells x) alone;
  referred = suits.referred;
  parents = suits.parents;
}

-- a row under the number after the last
pub next_welcome : {R : Type 0} (v : Version) (table : Table) (cells : ℤ × R → Row) (rest : R → Row) (named : (x : ℤ × R) → cells x ≡ Int x.0 ∷ rest x.1) (r : R) (rs : List R) (db : Trees)
    → HasNumbered cells (db table.tree) rs
    → IsAlone First db table (cells (next_rowid (db table.tree), r))
    → Suits v db table (cells (next_rowid (db table.tree), r))
    → IsWelcome (schema v) db table (cells (next_rowid (db table.tree), r))
next_welcome {R} v table cells rest named r rs db at alone suits =
    let added : ℤ × R = (next_rowid (db table.tree), r) in
    record {
      keyed = ap (λ row. is_int (rowid row)) (named added);
      free = ap (is_taken (db table.tree)) (named added) ∙ next_free cells (λ x. x.0) (λ x. ap rowid (named x)) at.numbered (db table.tree) (rest r) at.are at.rise;
      typed = suits.typed;
      present = suits.present;
      checked = suits.checked;
      alone = in_either v db table (cells added) alone;
      referred = suits.referred;
      parents = suits.parents;
    }

-- no row of these columns has the values of this one
pub none_agrees : {R : Type 0} (cells : ℤ × R → Row) (rows : List Row) (rs : List R) (at : HasNumbered cells rows rs) (columns : List ℕ) (row : Row) (test : R → Bool)
    → ((x : ℤ × R) → agree plain columns (cells x) columns row ≡ test x.1)
    → list_any test rs ≡ false → list_any (λ r. agree plain columns r columns row) rows ≡ false
none_agrees cells rows rs at columns row test same none =
    ap (list_any (λ r. agree plain columns r columns row)) at.are ∙ any_mapped cells _ (λ x. test x.1) same at.numbered ∙ none_numbered cells rows rs at test none
