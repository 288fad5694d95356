-- What the check of the desk's tables returns, compared with the list of ten causes.
use Rattle.std.specs.Prelude.{◌≡◌, ℕ, ℤ, cond, Option, Some, None, option_map}
use Rattle.sqlite.specs.Tree.{Trees}
use Rattle.isad_core.specs.Words.{is_between}
use Rattle.office_tables.specs.Versions.{Version}
use Rattle.desk_core.specs.declared.reader.Limits.{Limits}
use Rattle.catalogue_core.specs.CatalogueRows.{OfficeRow}
use Rattle.state_encoding.specs.Causes.{catalogue_tests, first_held}
use Rattle.state_encoding.specs.CellCauses.{rows_in, unread, either_of, cell_cause}
use Rattle.integrity_checks.specs.DeskChecks.{cause_of, desk_defect}

-- the day and the limits are those of the office's row, except for the hands, which the check does not use
pub record AreOfOffice (row : OfficeRow) (limits : Limits) (today : ℤ) : Type 0 where
  pub seats : limits.seats ≡ row.seats
  pub daily : limits.daily ≡ row.daily
  pub run_size : limits.run ≡ row.run_size
  pub day : today ≡ row.day

-- the first of the causes 1 to 5 that holds for tables, whatever their cells are
abbrev pub catalogue_cell_cause : Version → Trees → Option ℕ
catalogue_cell_cause version db = first_held (either_of (unread version db) (catalogue_tests version (rows_in version db)))

-- the cause, if it is one of the desk's
abbrev pub of_desk : Option ℕ → Option ℕ
of_desk None = None
of_desk (Some n) = cond (is_between 6 9 n) (Some n) None

-- If none of the causes 1 to 5 holds, the check returns the first cause of the tables if that is one of 6 to 9, and
-- none otherwise.
abbrev pub DeskChecksTellTheCause : Version → Trees → Limits → ℤ → Type 0
DeskChecksTellTheCause version db limits today =
    AreOfOffice (rows_in version db).office limits today → catalogue_cell_cause version db ≡ None
    → option_map cause_of (desk_defect limits today db) ≡ of_desk (cell_cause version db)
