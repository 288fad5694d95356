-- Why the INSERTs of the catalogue's rows fail.
use Rattle.std.proofs.Common.{◌≡◌, pos, [], ◌∷◌, length, true, false, Err, refl, ap}
use Rattle.sqlite.specs.Listing.{understood}
use Rattle.sqlite.specs.declared.error.Error.{Error}
use Rattle.sqlite_tied.specs.Compute.{everything}
use Rattle.office_tables.proofs.Failures.{IsWhole}
use Rattle.office_tables.specs.Schema as tables
use Rattle.catalogue_statements.proofs.Common.{Chosen, Executes, HasCause, IsLive, IsUnlimited, IsWelcome, OfficeRow}
use Rattle.catalogue_statements.proofs.Common.{State, Trees, Version, cast_int, cast_null, edit_of, fault_of, in_either}
use Rattle.catalogue_statements.proofs.Common.{insert_cause, is_taken, le_refl, office, office_row, schema, value_rows}
use Rattle.catalogue_statements.proofs.Common.{values_typed, version_number}
use Rattle.catalogue_statements.proofs.Inserts.{insert_office_text, insert_office_terms, insert_office_params}
use Rattle.catalogue_statements.proofs.Inserts.{insert_office_is, insert_office_plain}

-- ---- the office

insert_office_whole : (v : Version) → IsWhole (length insert_office_text) 9 (understood (schema v) insert_office_text)
unfolding understood everything
insert_office_whole v = (le_refl _, refl, refl)

office_welcome : (version : Version) (o : OfficeRow) (v : Version) (db : Trees) → db tables.office.tree ≡ []
    → IsWelcome (schema v) db office (office_row version o)
office_welcome version o v db none = record {
  keyed = refl;
  free = ap (λ rows. is_taken rows (office_row version o)) none;
  typed = refl;
  present = refl;
  checked = refl;
  alone = in_either v db office (office_row version o) refl;
  referred = refl;
  parents = refl;
}

pub insert_office_cause : (old new : State) (version : Version) (o : OfficeRow) (v : Version)
    → old.now.schema ≡ schema v → IsLive old → IsUnlimited old → old.now.trees tables.office.tree ≡ []
    → (e : Error) → Executes insert_office_text (insert_office_params version o) old new (Err e)
    → HasCause old new (fault_of e)
insert_office_cause old new version o v has live free none =
    let news : (edit_of old.now.trees office [] Chosen 0 (value_rows (insert_office_params version o) 11 1 insert_office_terms)).news ≡ office_row version o ∷ [] =
    rw (cast_int (pos 1), cast_null, cast_int (pos (version_number version)), cast_int (pos o.seats), cast_int (pos o.daily), cast_int (pos o.hands), cast_int (pos o.run_size), cast_int o.day, cast_int (pos o.next_unit)) refl in
    insert_cause v 7 office refl insert_office_text (insert_office_params version o) old new has insert_office_terms 11 (insert_office_is v) (insert_office_plain v) (insert_office_whole v) live free
    (λ e r. values_typed r (λ t. let clash : true ≡ false = t in cc)) (office_row version o) news (office_welcome version o v old.now.trees none)
