-- What a DELETE from one table does that no foreign key refers to, and why it fails, for any of our texts and any records.
use Rattle.std.proofs.Common.{◌≡◌, ℕ, ℤ, List, [], ◌∷◌, length, map, filter, Bool, true, false, not, Some, Ok, Result}
use Rattle.std.proofs.Common.{OnOk, IfErr, ◌∙◌, slice_get}
use Rattle.std.proofs.lemmas.Bool.{both_ways}
use Rattle.sqlite.specs.Command.TheVariants.{Delete}
use Rattle.sqlite.specs.Listing.{understood}
use Rattle.office_tables.specs.Faults.{HasCause}
use Rattle.office_tables.specs.Schema.{Version}
use Rattle.office_tables.proofs.Common.{Executes, HasRows, Int, IsLive, IsUnlimited, Means, Null, Program, Ran, Rises}
use Rattle.office_tables.proofs.Common.{Row, State, StoreFault, Table, Term, accepts_program, end, eval_all, holds}
use Rattle.office_tables.proofs.Common.{id_in, inner, list_all, mode_of, references_fit, rowid, runs_as, schema}
use Rattle.office_tables.proofs.Common.{statement_of}
use Rattle.office_tables.proofs.Causes.{none_refuse, sums_nothing}
use Rattle.office_tables.proofs.DeleteCauses.{leaf_cause}
use Rattle.office_tables.proofs.Queries.{plain_query, choosing, chosen}
use Rattle.office_tables.proofs.RowWrites.{ran_well, ran_badly}
use Rattle.office_tables.proofs.Rows.{by_key}
use Rattle.office_tables.proofs.Steps.{deleted, Deleted, is_referred_to, plain}
use Rattle.office_tables.proofs.Touching.{touched}
use Rattle.office_tables.proofs.Updates.{deletes_rows}

-- DELETE of the rows that the terms find, by their numbers
module _ (v : Version) (at : ℕ) (table : Table) (there : slice_get (schema v).tables at ≡ Some (plain table)) (alone : is_referred_to (schema v) table.tree ≡ false)
    (sql : List ℕ) (where_terms project : List Term) (params : Row) (means : Means v sql (length params) (Delete at (choosing (plain table) where_terms project))) (old new : State) (has : old.now.schema ≡ schema v) where
  abbrev q : Program
  q = choosing (plain table) where_terms project

  module _ {A : Type 0} (row : A → Row) (key : A → ℤ) (keyed : (x : A) → rowid (row x) ≡ Int (key x)) (xs : List A) (stored : old.now.trees table.tree ≡ map row xs) (up : Rises (by_key row key keyed) xs)
      (keep : A → Bool) (keeps : (x : A) → list_all (holds (params ∷ row x ∷ [])) where_terms ≡ keep x)
      (source : A → Row) (represents : (x : A) → eval_all project (params ∷ row x ∷ []) ≡ source x) (named : (x : A) → id_in (rowid (source x)) ≡ key x) where
    leaves : (count : ℕ) → Executes sql params old new (Ok count)
        → HasRows table.tree (map row (filter (λ x. not (keep x)) xs)) old.now new.now
    leaves count h =
        let wrote = runs_as sql params old new (schema v) has (Delete at q) means.is means.plain count h in
        let it : Deleted (schema v) at table there (mode_of old) params q old.now new.now =
        deleted (schema v) at table there old.step_limit (mode_of old) params (statement_of sql (understood (schema v) sql)) q old.now new.now wrote.tally alone has wrote.changed in
        let got = chosen table.tree where_terms project old.now.trees params row source xs keep stored keeps represents it.rows (it.answer.answer Null) in
        record {
          are = it.applies.rows ∙ deletes_rows (plain table) row key keyed old.now.trees xs stored up keep got.0 got.1 source named it.rows got.2;
          only = touched v old.now new.now table.tree it.applies.tables;
        }

    -- the records that the test finds are gone
    pub delete_leaves : (r : Result Unit StoreFault) → Ran sql params old new r
        → OnOk r (HasRows table.tree (map row (filter (λ x. not (keep x)) xs)) old.now new.now)
    delete_leaves r ran = ran_well sql params old new r _ ran leaves

  -- every fault has its cause, where the values type
  pub delete_faults : references_fit (schema v) (plain table) false true ≡ true
      → accepts_program (schema v) [] (plain_query (inner table.tree end) where_terms project []) params ≡ true
      → IsUnlimited old → IsLive old → (r : Result Unit StoreFault) → Ran sql params old new r
      → IfErr r (HasCause old new)
  delete_faults fit accepted free live r ran =
      ran_badly sql params old new r ran
      (leaf_cause sql params old new (schema v) has at q means.is means.plain means.whole table there (λ db e refused. none_refuse refused (λ t. both_ways _ t accepted) (sums_nothing _)) fit alone live free)
