-- Why rows of doubtful origin represent no catalogue, causes 2 to 5: what is wrong in the tables of places, units,
-- elements and containers. Also the keys of the rows. Rows of containers are ordered by number, and span rows by lft.
use Rattle.std.specs.Prelude.{ℕ, ℤ, ◌^◌, Bool, true, false, not, ◌&&◌, List, length, map, Option, Some, None, is_some}
use Rattle.std.specs.Prelude.{nat_eq, nat_le, nat_lt}
use Rattle.std.specs.List.{list_all, IsDistinct}
use Rattle.std.specs.Option.{option_map_or}
use Rattle.std.specs.List.Sorted.{IsPermutation}
use Rattle.std.specs.Str.{bytes_eq}
use Rattle.isad_core.specs.Texts.{is_blank_text}
use Rattle.isad_core.specs.Days.{is_day_number}
use Rattle.isad_core.specs.Boxes.{is_same_box}
use Rattle.isad_core.specs.Limits.{most_units, most_unit_numbers, most_containers, most_deep, most_bytes}
use Rattle.isad_core.specs.Words.{is_between, stands, are_numbered_from}
use Rattle.tree_core.specs.declared.rows.Link.{Link}
use Rattle.tree_core.specs.declared.rows.Span.{Span}
use Rattle.tree_core.specs.LinkFaults.{link_fault}
use Rattle.tree_core.specs.SpanFaults.{span_fault}
use Rattle.tree_core.specs.Encodings.{TreeEncoding, Links, Spans}
use Rattle.catalogue_core.specs.Sources.{is_source}
use Rattle.catalogue_core.specs.Moves.{height}
use Rattle.catalogue_core.specs.CatalogueRows.{CatalogueRows, UnitRow, ElementRow, ContainerRow, HousingRow, PlaceRows}
use Rattle.catalogue_core.specs.CatalogueRows.{LinkRows, SpanRows, places_said, box_from, housings_of}

-- ---- 2: the places

-- a number that a unit may have
abbrev pub is_unit_number : ℕ → Bool
is_unit_number n = is_between 1 most_unit_numbers n

-- the number of a place fits into 32 bits
abbrev pub is_place_number : ℕ → Bool
is_place_number n = nat_lt n (2 ^ 32)

abbrev pub is_good_link : Link → Bool
is_good_link link =
    is_unit_number link.id && (option_map_or is_unit_number link.parent true && is_place_number link.ord)

abbrev pub is_good_span : Span → Bool
is_good_span span = is_unit_number span.id && (is_place_number span.lft && is_place_number span.rgt)

-- the places are of the version, have valid numbers, and have no fault
abbrev pub are_good_places : TreeEncoding → PlaceRows → Bool
are_good_places Links (LinkRows links) = list_all is_good_link links && not (is_some (link_fault links))
are_good_places Spans (SpanRows spans) = list_all is_good_span spans && not (is_some (span_fault spans))
are_good_places _ _ = false

abbrev pub places_are_bad : TreeEncoding → CatalogueRows → Bool
places_are_bad way c = not (are_good_places way c.places)

-- ---- 3: the units

abbrev pub is_some_day : Option ℤ → Bool
is_some_day None = true
is_some_day (Some day) = is_day_number day

-- the unit's number is below the next, its source is valid, its number there is not blank, neither that nor its level
-- is too long, and its closure, if any, ends on a day of the calendar
abbrev pub is_good_unit_row : ℕ → UnitRow → Bool
is_good_unit_row next row =
    nat_lt row.id next && (is_source row.source && (not (is_blank_text row.legacy)
    && (nat_le (length row.legacy) most_bytes && (nat_le (length row.level) most_bytes && is_some_day row.until))))

abbrev pub unit_numbers : CatalogueRows → List ℕ
unit_numbers c = map (λ (row : UnitRow). row.id) c.units

abbrev pub place_numbers : PlaceRows → List ℕ
place_numbers (LinkRows links) = map (λ (link : Link). link.id) links
place_numbers (SpanRows spans) = map (λ (span : Span). span.id) spans

-- each of these numbers is among the others
abbrev pub all_stand_in : List ℕ → List ℕ → Bool
all_stand_in others ns = list_all (λ n. stands n others) ns

-- each unit row is good, the units are those that have a place, they are not too many, and none lies too deep
abbrev pub are_good_units : ℕ → CatalogueRows → Bool
are_good_units next c =
    list_all (is_good_unit_row next) c.units
    && (all_stand_in (place_numbers c.places) (unit_numbers c) && (all_stand_in (unit_numbers c) (place_numbers c.places)
    && (nat_le (length c.units) most_units && nat_le (height (places_said c.places)) most_deep)))

abbrev pub units_are_bad : ℕ → CatalogueRows → Bool
units_are_bad next c = not (are_good_units next c)

-- ---- 4: the elements

-- the element is one of the 26 but not the level, the text is not blank, and the unit exists
abbrev pub is_good_element : List ℕ → ElementRow → Bool
is_good_element units row =
    is_between 1 26 row.k && (not (nat_eq row.k 4) && (not (is_blank_text row.value) && stands row.unit units))

abbrev pub elements_are_bad : CatalogueRows → Bool
elements_are_bad c = not (list_all (is_good_element (unit_numbers c)) c.elements)

-- ---- 5: the containers, and what lies in them

-- the unit and the container exist, and the place is between 1 and the number of the unit's containers
abbrev pub is_good_housing : CatalogueRows → HousingRow → Bool
is_good_housing c row =
    stands row.unit (unit_numbers c) && (is_between 1 (length c.containers) row.container
    && is_between 1 (length (housings_of row.unit c.housings)) row.ord)

-- the containers are numbered from 1 on, they are not too many, and each has a name
abbrev pub are_good_container_rows : List ContainerRow → Bool
are_good_container_rows rows =
    are_numbered_from (λ (row : ContainerRow). row.id) 1 rows && (list_all (λ (row : ContainerRow). not (is_blank_text row.name)) rows
    && nat_le (length rows) most_containers)

abbrev pub containers_are_bad : CatalogueRows → Bool
containers_are_bad c = not (are_good_container_rows c.containers && list_all (is_good_housing c) c.housings)

-- ---- what the schema keeps: no two rows have one key

abbrev pub is_named_alike : UnitRow → UnitRow → Bool
is_named_alike a b = bytes_eq a.source b.source && bytes_eq a.legacy b.legacy

abbrev pub is_same_element : ElementRow → ElementRow → Bool
is_same_element a b = nat_eq a.unit b.unit && nat_eq a.k b.k

abbrev pub is_same_container : ContainerRow → ContainerRow → Bool
is_same_container a b = is_same_box (box_from a) (box_from b)

abbrev pub is_same_place : HousingRow → HousingRow → Bool
is_same_place a b = nat_eq a.unit b.unit && nat_eq a.ord b.ord

abbrev pub is_housed_alike : HousingRow → HousingRow → Bool
is_housed_alike a b = nat_eq a.unit b.unit && nat_eq a.container b.container

pub record MeetsCatalogueKeys (c : CatalogueRows) : Type 0 where
  pub units : IsDistinct nat_eq (unit_numbers c)
  pub names : IsDistinct is_named_alike c.units
  pub places : IsDistinct nat_eq (place_numbers c.places)
  pub elements : IsDistinct is_same_element c.elements
  pub containers : IsDistinct nat_eq (map (λ (row : ContainerRow). row.id) c.containers)
  pub boxes : IsDistinct is_same_container c.containers
  pub housings : IsDistinct is_same_place c.housings
  pub housed_once : IsDistinct is_housed_alike c.housings

-- ---- the rows that show a state, up to the order of each table's

abbrev pub ArePlacesOf : PlaceRows → PlaceRows → Type 0
ArePlacesOf (LinkRows these) (LinkRows those) = IsPermutation these those
ArePlacesOf (SpanRows these) (SpanRows those) = IsPermutation these those
ArePlacesOf _ _ = ⊥
