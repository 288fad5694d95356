-- What an INSERT of one row does, and why it fails, for any of our texts.
use Rattle.std.proofs.Common.{◌≡◌, ℕ, ◌/◌, List, [], ◌∷◌, length, true, Ok, Result, OnOk, IfErr, Some, sym, ap, ◌∙◌}
use Rattle.std.proofs.Common.{slice_get}
use Rattle.std.proofs.lemmas.Bool.{both_ways}
use Rattle.sqlite.specs.Listing.{understood}
use Rattle.sqlite.specs.Source.TheVariants.{Values}
use Rattle.office_tables.specs.Faults.{HasCause}
use Rattle.office_tables.specs.Schema.{Version}
use Rattle.office_tables.proofs.Common.{Chosen, Executes, Insert, IsLive, IsUnlimited, Means, PutsRow, Ran, Row, State}
use Rattle.office_tables.proofs.Common.{StoreFault, Table, Term, accepts_terms, are_fresh, edit_of, mode_of, put_all}
use Rattle.office_tables.proofs.Common.{runs_as, schema, statement_of, value_rows}
use Rattle.office_tables.proofs.InsertCauses.{IsWelcome, values_typed, insert_cause}
use Rattle.office_tables.proofs.Puts.{not_taken}
use Rattle.office_tables.proofs.RowWrites.{ran_well, ran_badly}
use Rattle.office_tables.proofs.Steps.{inserted, Inserted, plain}
use Rattle.office_tables.proofs.Touching.{touched}

-- a text that puts the values of these terms into the table at this place of the schema, as this row
module _ (v : Version) (at : ℕ) (table : Table) (there : slice_get (schema v).tables at ≡ Some (plain table)) (sql : List ℕ) (terms : List Term) (width : ℕ) (params : Row)
    (means : Means v sql (length params) (Insert at (Values terms width))) (old new : State) (has : old.now.schema ≡ schema v)
    (row : Row) (news : (edit_of old.now.trees (plain table) [] Chosen 0 (value_rows params width (length terms / width) terms)).news ≡ row ∷ []) where
  puts : (count : ℕ) → Executes sql params old new (Ok count) → PutsRow table.tree row old.now new.now
  puts count h =
      let wrote = runs_as sql params old new (schema v) has (Insert at (Values terms width)) means.is means.plain count h in
      let it : Inserted (schema v) at table there (mode_of old) params (Values terms width) old.now new.now =
      inserted (schema v) at table there old.step_limit (mode_of old) params (statement_of sql (understood (schema v) sql)) (Values terms width) old.now new.now wrote.tally has wrote.changed in
      let is : (edit_of old.now.trees (plain table) [] Chosen 0 it.rows).news ≡ row ∷ [] =
      ap (λ rows. (edit_of old.now.trees (plain table) [] Chosen 0 rows).news) it.source.1 ∙ news in
      record {
        rows = it.applies.rows ∙ ap (put_all (old.now.trees table.tree)) is;
        fresh = not_taken _ (sym (ap (are_fresh (old.now.trees table.tree)) is) ∙ it.applies.fresh);
        only = touched v old.now new.now table.tree it.applies.tables;
      }

  -- the row is put among the table's
  pub insert_puts : (r : Result Unit StoreFault) → Ran sql params old new r
      → OnOk r (PutsRow table.tree row old.now new.now)
  insert_puts r ran = ran_well sql params old new r _ ran puts

  -- every fault has its cause, where the values type and the table takes the row
  pub insert_faults : accepts_terms terms params ≡ true → IsWelcome (schema v) old.now.trees (plain table) row
      → IsUnlimited old → IsLive old → (r : Result Unit StoreFault) → Ran sql params old new r
      → IfErr r (HasCause old new)
  insert_faults typed welcome free live r ran =
      ran_badly sql params old new r ran
      (insert_cause v at table there sql params old new has terms width means.is means.plain means.whole live free (λ e refused. values_typed refused (λ t. both_ways _ t typed)) row news welcome)
