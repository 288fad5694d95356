-- What the checks of the tables of the catalogue return, one after the other.
use Rattle.std.specs.Prelude.{◌≡◌, ℕ, Bool, false, not, cond, ◌&&◌, List, length, Option, Some, None, nat_le, nat_lt}
use Rattle.std.specs.List.{list_all}
use Rattle.sqlite.specs.Tree.{Trees}
use Rattle.isad_core.specs.Limits.{most_units, most_deep}
use Rattle.office_tables.specs.Versions.{Version, encoding}
use Rattle.catalogue_core.specs.CatalogueCauses.{all_stand_in, are_good_container_rows, is_good_housing}
use Rattle.office_tables.specs.Cells.{has_unread}
use Rattle.catalogue_core.specs.CatalogueRows.{places_said}
use Rattle.catalogue_core.specs.Moves.{height as height_of}
use Rattle.office_tables.specs.CatalogueCells.{read_unit, read_container, read_housing}
use Rattle.office_tables.specs.Schema as tables
use Rattle.row_decoding.specs.TableRows.{catalogue_in, containers_in, places_in}
use Rattle.integrity_checks.specs.CatalogueChecks.{units_are_defective, elements_are_defective}
use Rattle.integrity_checks.specs.CatalogueChecks.{containers_are_defective}
use Rattle.integrity_checks.specs.PlaceChecks.{AreUnitsPlaced}
use Rattle.integrity_checks.specs.declared.catalogue_defect.CatalogueDefect.{CatalogueDefect}
use Rattle.integrity_checks.specs.declared.catalogue_defect.CatalogueDefect.TheVariants.{Elements, Containers}

-- the numbers of the units are those that have a place, below the next number, not too many, and none lies too deep
abbrev pub are_good_unit_numbers : ℕ → List ℕ → ℕ → List ℕ → Bool
are_good_unit_numbers next placed height numbers =
    list_all (λ n. nat_lt n next) numbers
    && (all_stand_in placed numbers && (all_stand_in numbers placed
    && (nat_le (length numbers) most_units && nat_le height most_deep)))

-- ---- elements

abbrev pub good_elements_in : Version → Trees → Bool
good_elements_in version db = not (elements_are_defective version db)

-- ---- containers

-- each can be read, and they can be a catalogue's
abbrev pub good_containers_in : Trees → Bool
good_containers_in db =
    not (has_unread read_container (db tables.container.tree)) && are_good_container_rows (containers_in db)

-- how many there are, if they are good
abbrev pub number_of_containers : Trees → Option ℕ
number_of_containers db = cond (good_containers_in db) (Some (length (containers_in db))) None

-- each row of what is in them can be read, and they can be a catalogue's
abbrev pub good_housings_in : Version → Trees → Bool
good_housings_in version db =
    not (has_unread read_housing (db tables.housing.tree))
    && list_all (is_good_housing (catalogue_in version db)) (catalogue_in version db).housings

-- the containers, and what is in them
abbrev pub good_containment_in : Version → Trees → Bool
good_containment_in version db = not (containers_are_defective version db)

-- ---- apart from places and units

-- what is defective if the places and the units are not
abbrev pub defect_of_contents : Version → Trees → Option CatalogueDefect
defect_of_contents version db =
    cond (elements_are_defective version db) (Some Elements) (cond (containers_are_defective version db) (Some Containers) None)

-- ---- what a check answers

-- whether the units can be a catalogue's, if those with these numbers have a place, and the deepest lies at `height`
abbrev pub JudgesUnits : List ℕ → ℕ → ℕ → Trees → Bool → Type 0
JudgesUnits placed height next db good =
    (version : Version) → AreUnitsPlaced (places_in (encoding version) db) placed → height ≡ height_of (places_said (places_in (encoding version) db)) → good ≡ not (units_are_defective version next db)

-- what the rule says, if each unit can be read
abbrev pub FollowsCatalogueRule : {X : Type 0} → (Version → Trees → X) → Trees → X → Type 0
FollowsCatalogueRule rule db told = (version : Version) → has_unread read_unit (db tables.unit.tree) ≡ false → told ≡ rule version db

-- whether what is in the containers can be a catalogue's, if each unit can be read and there are so many containers
abbrev pub JudgesHousings : ℕ → Trees → Bool → Type 0
JudgesHousings containers db good =
    (version : Version) → has_unread read_unit (db tables.unit.tree) ≡ false → length (containers_in db) ≡ containers → good ≡ good_housings_in version db
