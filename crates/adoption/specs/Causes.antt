-- How the checks of the parts make the list of ten causes: 1 is the office's own row, 2 to 5 are the catalogue's, 6 to
-- 9 the desk's, and 10 is for the rules of the day.
use Rattle.std.specs.Prelude.{◌≡◌, false, option_map}
use Rattle.sqlite.specs.Tree.{Trees}
use Rattle.office_tables.specs.Versions.{Version}
use Rattle.integrity_checks.specs.CatalogueChecks.{cause_of, catalogue_defect}
use Rattle.state_encoding.specs.CellCauses.{rows_in}
use Rattle.adoption.specs.DeskCheck.{catalogue_cell_cause}
use Rattle.adoption.specs.OwnRows.{office_is_defective}

-- If the office's own row is in order, the check of the catalogue returns the first of the causes 1 to 5.
abbrev pub CatalogueChecksTellTheCause : Version → Trees → Type 0
CatalogueChecksTellTheCause version db =
    office_is_defective version db ≡ false
    → option_map cause_of (catalogue_defect version (rows_in version db).office.next_unit db) ≡ catalogue_cell_cause version db
