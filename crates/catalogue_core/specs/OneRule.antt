-- What the public is shown and what is withheld from a reader follow one rule. So do the containers on a page and those
-- that decide whether a container is open.
use Rattle.std.specs.Prelude.{◌≡◌, ℕ, ℤ, Bool, true, false, not, ◌&&◌, List, Option, Some, filter, filter_map}
use Rattle.std.specs.Prelude.{option_map, map, suc, slice_get}
use Rattle.std.specs.List.{list_any}
use Rattle.isad_core.specs.Texts.{Bytes}
use Rattle.isad_core.specs.Boxes.{distinct}
use Rattle.isad_core.specs.declared.display.Page.{Page}
use Rattle.isad_core.specs.declared.values.BoxKey.{BoxKey}
use Rattle.tree_core.specs.Forest.{Forest, nodes, each, path, HasDistinctIds}
use Rattle.catalogue_core.specs.Units.{Unit, has_id, is_unit_closed}
use Rattle.catalogue_core.specs.ContainerContents.{paths, containers_of, is_withheld_from}
use Rattle.catalogue_core.specs.PublicForest.{PublicUnit, Told, Stub, stub_of, public_of}
use Rattle.catalogue_core.specs.CatalogueMerge.{box_number}
use Rattle.catalogue_core.specs.Aids.{numbered_boxes}
use Rattle.catalogue_core.specs.Pages.{Press, PageBox, before_last, page_of}
use Rattle.catalogue_core.specs.PublishedUnits.{last_of}

-- ---- units

abbrev pub is_told : PublicUnit → Bool
is_told (Told id values) = true
is_told (Stub id identifier level until) = false

-- the last unit of a path, with its whole description
abbrev pub told_whole : List Unit → Option PublicUnit
told_whole way = option_map (λ (unit : Unit). Told unit.id unit.values) (last_of way)

-- the last unit of a path, as a stub
abbrev pub told_as_stub : List Unit → Option PublicUnit
told_as_stub way = option_map (λ (unit : Unit). stub_of unit unit.until) (last_of way)

-- the path does not withhold its last unit from the public
abbrev pub is_open_to_public : ℤ → List Unit → Bool
is_open_to_public day way = not (is_withheld_from (λ _. false) day way)

-- only the closure of the last unit itself withholds it
abbrev pub is_closed_alone : ℤ → List Unit → Bool
is_closed_alone day way =
    not (list_any (λ (unit : Unit). unit.draft) way)
    && (not (list_any (is_unit_closed day) (before_last way)) && list_any (is_unit_closed day) way)

-- The units that the public is shown in full are exactly those that are not withheld from a reader without permits, in
-- walk order.
abbrev pub TellsWhatIsOpen : Type 0
TellsWhatIsOpen = (day : ℤ) (f : Forest Unit) →
    filter is_told (nodes (public_of day f)) ≡ filter_map told_whole (filter (is_open_to_public day) (paths f))

-- The stubs are those of exactly the units that only their own closure withholds, in walk order.
abbrev pub StubsWhatIsClosed : Type 0
StubsWhatIsClosed = (day : ℤ) (f : Forest Unit) →
    filter (λ unit. not (is_told unit)) (nodes (public_of day f))
    ≡ filter_map told_as_stub (filter (is_closed_alone day) (paths f))

-- ---- containers

-- a container on a page, without its origin
abbrev pub number_and_name : PageBox → ℕ × Bytes
number_and_name box = (box.0, box.1)

-- The page of a unit that is not withheld has exactly the containers that the unit lies in, in their order.
abbrev pub PagesTellTheHousing : Type 0
PagesTellTheHousing = (press : Press) (day : ℤ) (f : Forest Unit) (u : ℕ) (shown : Page) →
    HasDistinctIds (each (λ (unit : Unit). unit.id) f) →
    page_of press u (public_of day f) ≡ Some shown → is_open_to_public day (path (has_id u) f) ≡ true →
    map number_and_name shown.boxes ≡ numbered_boxes (box_number press.containers) (containers_of (path (has_id u) f))

-- The number of a container, as shown on pages and in finding aids, is its place among the containers, counted from 1.
abbrev pub NumbersArePlaces : Type 0
NumbersArePlaces = (containers : List BoxKey) (i : ℕ) (box : BoxKey) → distinct containers ≡ containers →
    slice_get containers i ≡ Some box → box_number containers box ≡ suc i
