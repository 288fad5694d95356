-- Whether the catalogue's tables can be a catalogue's, whatever their cells are. Each table has one cause, which also
-- holds if some row of it cannot be read. The tables `container` and `housing` share one.
use Rattle.std.specs.Prelude.{ℕ, Bool, ◌||◌, cond, Option, Some, None}
use Rattle.sqlite.specs.Tree.{Trees}
use Rattle.office_tables.specs.Versions.{Version, encoding}
use Rattle.catalogue_core.specs.CatalogueCauses.{units_are_bad, elements_are_bad, containers_are_bad}
use Rattle.office_tables.specs.Cells.{has_unread}
use Rattle.office_tables.specs.CatalogueCells.{read_unit, read_element}
use Rattle.office_tables.specs.Schema as tables
use Rattle.row_decoding.specs.TableRows.{catalogue_in, containers_are_unread}
use Rattle.integrity_checks.specs.PlaceChecks.{places_are_defective}
use Rattle.integrity_checks.specs.declared.catalogue_defect.CatalogueDefect.{CatalogueDefect}
use Rattle.integrity_checks.specs.declared.catalogue_defect.CatalogueDefect.TheVariants.{Places, Units, Elements}
use Rattle.integrity_checks.specs.declared.catalogue_defect.CatalogueDefect.TheVariants.{Containers}

-- the number of the cause, among the ten for which an office's tables are refused
abbrev pub cause_of : CatalogueDefect → ℕ
cause_of Places = 2
cause_of Units = 3
cause_of Elements = 4
cause_of Containers = 5

-- ---- the causes

abbrev pub units_are_defective : Version → ℕ → Trees → Bool
units_are_defective version next db = has_unread read_unit (db tables.unit.tree) || units_are_bad next (catalogue_in version db)

abbrev pub elements_are_defective : Version → Trees → Bool
elements_are_defective version db = has_unread read_element (db tables.element.tree) || elements_are_bad (catalogue_in version db)

abbrev pub containers_are_defective : Version → Trees → Bool
containers_are_defective version db = containers_are_unread db || containers_are_bad (catalogue_in version db)

-- ---- the first of them

-- why the tables cannot be a catalogue's, if the next new unit gets the number `next`; none if they can
abbrev pub catalogue_defect : Version → ℕ → Trees → Option CatalogueDefect
catalogue_defect version next db =
    cond (places_are_defective (encoding version) db) (Some Places)
    (cond (units_are_defective version next db) (Some Units)
    (cond (elements_are_defective version db) (Some Elements)
    (cond (containers_are_defective version db) (Some Containers) None)))
