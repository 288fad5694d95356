-- What an UPDATE of one table does, and why it fails, for any of our texts and any records.
use Rattle.std.proofs.Common.{◌≡◌, ℕ, ℤ, List, [], ◌∷◌, length, map, filter, drop, if◌then◌else◌, Bool, true, Some, Ok}
use Rattle.std.proofs.Common.{Result, OnOk, IfErr, ◌∙◌, slice_get}
use Rattle.std.proofs.lemmas.Bool.{both_ways}
use Rattle.sqlite.specs.Effect.{Answers}
use Rattle.sqlite.specs.Listing.{understood}
use Rattle.sqlite_rules.specs.Steps.{is_typed, is_present}
use Rattle.office_tables.specs.Faults.{HasCause}
use Rattle.office_tables.specs.Schema.{Version}
use Rattle.office_tables.proofs.Common.{Executes, Has, HasRows, Int, IsLive, IsPermutation, IsUnlimited, Means, Null}
use Rattle.office_tables.proofs.Common.{Program, Ran, Rises, Row, Schema, State, StoreFault, Table, Term, Update}
use Rattle.office_tables.proofs.Common.{accepts_program, cast_row, column, end, eval_all, has_filtered, holds, id_in}
use Rattle.office_tables.proofs.Common.{inner, list_all, mode_of, passes_checks, rowid, runs_as, schema, statement_of}
use Rattle.office_tables.proofs.Causes.{none_refuse, sums_nothing}
use Rattle.office_tables.proofs.Queries.{plain_query, choosing, chosen}
use Rattle.office_tables.proofs.RowWrites.{ran_well, ran_badly}
use Rattle.office_tables.proofs.Rows.{by_key, had}
use Rattle.office_tables.proofs.Steps.{updated_with, Updated, plain}
use Rattle.office_tables.proofs.Touching.{touched}
use Rattle.office_tables.proofs.UpdateCauses.{KeepsTable, update_cause, accepts}
use Rattle.office_tables.proofs.Updates.{changes_rows}
use Rattle.office_tables.proofs.statements.OnlyOf.{idle}

-- UPDATE of the rows that the terms find, by the values of the project's terms: the number, the new number, and the columns
module _ (v : Version) (at : ℕ) (table : Table) (there : slice_get (schema v).tables at ≡ Some (plain table)) (sql : List ℕ) (where_terms project : List Term) (params : Row)
    (means : Means v sql (length params) (Update at (choosing (plain table) where_terms project))) (old new : State) (has : old.now.schema ≡ schema v)
    {A : Type 0} (row : A → Row) (key : A → ℤ) (keyed : (x : A) → rowid (row x) ≡ Int (key x)) (xs : List A) (stored : old.now.trees table.tree ≡ map row xs) (up : Rises (by_key row key keyed) xs)
    (keep : A → Bool) (keeps : (x : A) → list_all (holds (params ∷ row x ∷ [])) where_terms ≡ keep x)
    (source : A → Row) (represents : (x : A) → eval_all project (params ∷ row x ∷ []) ≡ source x) (named : (x : A) → id_in (rowid (source x)) ≡ key x)
    (changed : A → A) (same_id : (x : A) → key (changed x) ≡ key x) (casts : (x : A) → Has xs x → keep x ≡ true → cast_row (plain table) (drop 1 (source x)) ≡ row (changed x)) where
  abbrev q : Program
  q = choosing (plain table) where_terms project

  abbrev Chosen : List Row → Type 0
  Chosen rows = (ys : List A) × IsPermutation (filter keep xs) ys × (rows ≡ map source ys)

  found : (s : Schema) (rows : List Row) → Answers (record { schema = s; trees = old.now.trees }) q params rows
      → Chosen rows
  found s rows given = chosen table.tree where_terms project old.now.trees params row source xs keep stored keeps represents rows (given.answer Null)

  cast_each : (rows : List Row) (got : Chosen rows) (x : A) → Has got.0 x
      → cast_row (plain table) (drop 1 (source x)) ≡ row (changed x)
  cast_each rows got x h = let it = has_filtered keep xs x (had (filter keep xs) got.0 got.1 x h) in casts x it.0 it.1

  leaves : (count : ℕ) → Executes sql params old new (Ok count)
      → HasRows table.tree (map row (map (λ x. if keep x then changed x else x) xs)) old.now new.now
  leaves count h =
      let wrote = runs_as sql params old new (schema v) has (Update at q) means.is means.plain count h in
      let it : Updated (schema v) at table there (mode_of old) params q old.now new.now =
      updated_with (schema v) at table there old.step_limit (mode_of old) params (statement_of sql (understood (schema v) sql)) q old.now new.now wrote.tally (idle v old (plain table)) has wrote.changed in
      let got = found old.now.schema it.rows it.answer in
      record {
        are = it.applies.rows ∙ changes_rows (plain table) row key keyed old.now.trees xs stored up keep got.0 got.1 source named it.rows got.2 changed same_id (cast_each it.rows got) it.applies.fresh;
        only = touched v old.now new.now table.tree it.applies.tables;
      }

  -- the records that are kept by the test are changed
  pub update_leaves : (r : Result Unit StoreFault) → Ran sql params old new r
      → OnOk r (HasRows table.tree (map row (map (λ x. if keep x then changed x else x) xs)) old.now new.now)
  update_leaves r ran = ran_well sql params old new r _ ran leaves

  -- every fault has its cause, where the values type, the changed rows keep the rules of their columns, and no column of a key changes
  module _ (kept : ℕ → Bool) (keeping : KeepsTable kept (schema v) at (plain table)) (alike : (x : A) (p : ℕ) → kept p ≡ true → column (row x) p ≡ column (row (changed x)) p)
      (typed : (x : A) → is_typed (plain table) (row (changed x)) ≡ true) (present : (x : A) → is_present (plain table) (row (changed x)) ≡ true) (checked : (x : A) → passes_checks (plain table) (row (changed x)) ≡ true) where
    pub update_faults : accepts_program (schema v) [] (plain_query (inner table.tree end) where_terms project []) params ≡ true
        → IsUnlimited old → IsLive old
        → (r : Result Unit StoreFault) → Ran sql params old new r → IfErr r (HasCause old new)
    update_faults accepted free live r ran =
        ran_badly sql params old new r ran
        (update_cause sql params old new (schema v) has at table there q means.is means.plain means.whole free live (idle v old (plain table))
        (λ e refused. none_refuse refused (λ t. both_ways _ t accepted) (sums_nothing _)) (λ obeys rows given.
        let got = found (schema v) rows given in
        accepts kept (schema v) at (plain table) keeping row key keyed keep changed same_id alike xs up got.0 got.1
        typed present checked old.now.trees stored source named rows got.2 (cast_each rows got) obeys))
