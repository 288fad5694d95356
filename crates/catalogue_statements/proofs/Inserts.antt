-- What the INSERTs do.
use Rattle.std.proofs.Common.{◌≡◌, ℕ, pos, List, [], ◌∷◌, codes, true, false, not, ◌&&◌, if◌then◌else◌, None, Ok, refl}
use Rattle.std.proofs.Common.{sym, ap, subst, ◌∙◌}
use Rattle.sqlite.specs.Listing.{understood}
use Rattle.sqlite.specs.Source.TheVariants.{Values}
use Rattle.sqlite.specs.State.{Writes}
use Rattle.sqlite_tied.specs.Compute.{everything}
use Rattle.office_tables.specs.Schema as tables
use Rattle.catalogue_statements.proofs.Common.{Chosen, Command, Executes, Insert, Inserted, Int, IsPlain, Null}
use Rattle.catalogue_statements.proofs.Common.{OfficeRow, OnlyTouches, Row, Shows, State, Term, Trees, Version}
use Rattle.catalogue_statements.proofs.Common.{are_fresh, cast_int, cast_null, col, command_of, edit_of, edited}
use Rattle.catalogue_statements.proofs.Common.{inserted, is_taken, left_by, lit, mode_of, not_taken, office, office_row}
use Rattle.catalogue_statements.proofs.Common.{put_row, runs_as, schema, settings_of_row, statement_of, touched}
use Rattle.catalogue_statements.proofs.Common.{version_number}

abbrev pub insert_office_text : List ℕ
insert_office_text = codes "INSERT INTO office (one, version, country, repo, seats, daily, hands, run_size, day, next_unit) VALUES (1, ?1, ?2, ?3, ?4, ?5, ?6, ?7, ?8, ?9)"

abbrev pub insert_office_terms : List Term
insert_office_terms = lit (Int (pos 1)) ∷ lit Null ∷ col 0 0 ∷ col 0 1 ∷ col 0 2 ∷ col 0 3 ∷ col 0 4 ∷ col 0 5 ∷ col 0 6 ∷ col 0 7 ∷ col 0 8 ∷ []

abbrev pub insert_office_params : Version → OfficeRow → Row
insert_office_params version o = Int (pos (version_number version)) ∷ settings_of_row o

abbrev pub insert_office_command : Command
insert_office_command = Insert 7 (Values insert_office_terms 11)

pub insert_office_is : (v : Version) → command_of (understood (schema v) insert_office_text) ≡ insert_office_command
unfolding understood everything
insert_office_is v = refl

pub insert_office_plain : (v : Version) → IsPlain (understood (schema v) insert_office_text)
unfolding understood everything
insert_office_plain v = (refl, refl)

put_insert_office : (version : Version) (o : OfficeRow) (db : Trees)
    → edited db (edit_of db office [] Chosen 0 (office_row version o ∷ [])) ≡ put_row (office_row version o) (db tables.office.tree)
put_insert_office version o db =
    rw (cast_int (pos 1), cast_null, cast_int (pos (version_number version)), cast_int (pos o.seats), cast_int (pos o.daily), cast_int (pos o.hands), cast_int (pos o.run_size), cast_int o.day, cast_int (pos o.next_unit)) refl

new_insert_office : (version : Version) (o : OfficeRow) (db : Trees)
    → are_fresh (left_by db (edit_of db office [] Chosen 0 (office_row version o ∷ []))) (edit_of db office [] Chosen 0 (office_row version o ∷ [])).news ≡ (not (is_taken (db tables.office.tree) (office_row version o)) && true)
new_insert_office version o db = rw (cast_int (pos 1)) refl

module _ (old new : State) (version : Version) (o : OfficeRow) (count : ℕ) (v : Version) (has : old.now.schema ≡ schema v) (h : Executes insert_office_text (insert_office_params version o) old new (Ok count)) where
  insert_office_w : Writes old new None insert_office_command (statement_of insert_office_text (understood (schema v) insert_office_text)) (insert_office_params version o) count
  insert_office_w = runs_as insert_office_text (insert_office_params version o) old new (schema v) has insert_office_command (insert_office_is v) (insert_office_plain v) count h

  insert_office_it : Inserted (schema v) 7 office refl (mode_of old) (insert_office_params version o) (Values insert_office_terms 11) old.now new.now
  insert_office_it = inserted (schema v) 7 office refl old.step_limit (mode_of old) (insert_office_params version o) (statement_of insert_office_text (understood (schema v) insert_office_text)) (Values insert_office_terms 11) old.now new.now insert_office_w.tally has insert_office_w.changed

  pub insert_office_done : (new.now.schema ≡ schema v) × Shows old new new.now (if old.in_transaction then old.committed else new.now) old.in_transaction
  insert_office_done = (insert_office_it.schema_is, insert_office_w.shown)

  pub insert_office_touches : OnlyTouches (tables.office.tree ∷ []) old.now new.now
  insert_office_touches = touched v old.now new.now tables.office.tree insert_office_it.applies.tables

  pub insert_office_rows : new.now.trees tables.office.tree ≡ put_row (office_row version o) (old.now.trees tables.office.tree)
  insert_office_rows =
      insert_office_it.applies.rows
      ∙ ap (λ rows. edited old.now.trees (edit_of old.now.trees office [] Chosen 0 rows)) insert_office_it.source.1
      ∙ put_insert_office version o old.now.trees

  pub insert_office_fresh : is_taken (old.now.trees tables.office.tree) (office_row version o) ≡ false
  insert_office_fresh =
      not_taken (is_taken (old.now.trees tables.office.tree) (office_row version o)) (sym (new_insert_office version o old.now.trees)
      ∙ subst (λ rows. are_fresh (left_by old.now.trees (edit_of old.now.trees office [] Chosen 0 rows)) (edit_of old.now.trees office [] Chosen 0 rows).news ≡ true) insert_office_it.source.1 insert_office_it.applies.fresh)
