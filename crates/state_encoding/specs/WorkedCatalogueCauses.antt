-- Which of the causes 1 to 5 is found after a few rows of a small sound office are changed.
use Rattle.std.specs.Prelude.{◌≡◌, ℕ, ◌+◌, ◌^◌, zero, suc, List, [], ◌∷◌, Option, Some, None, codes, replicate}
use Rattle.isad_core.specs.Limits.{most_bytes, most_deep, most_seats, most_unit_numbers}
use Rattle.tree_core.specs.declared.rows.Link.{Link}
use Rattle.tree_core.specs.WorkedExamples.{link_of, span_of}
use Rattle.office_tables.specs.Versions.{First, Second}
use Rattle.catalogue_core.specs.CatalogueRows.{CatalogueRows, LinkRows, SpanRows, ElementRow, ContainerRow, HousingRow}
use Rattle.state_encoding.specs.OfficeRows.{OfficeRows}
use Rattle.state_encoding.specs.Causes.{cause}
use Rattle.state_encoding.specs.WorkedDeskCauses.{year_10000, sound as office_rows, catalogue as plans_housed}
use Rattle.state_encoding.specs.WorkedDeskCauses.{plans_row, many_units}

-- its unit has a title
abbrev pub title_row : ElementRow
title_row = record { unit = 1; k = 2; value = codes "Plans" }

abbrev pub box_1 : ContainerRow
box_1 = record { id = 1; name = codes "Box 1"; location = []; kind = [] }

abbrev pub box_2 : ContainerRow
box_2 = record { id = 2; name = codes "Box 2"; location = []; kind = [] }

abbrev pub in_box_1 : HousingRow
in_box_1 = record { unit = 1; ord = 1; container = 1 }

abbrev pub in_box_2 : HousingRow
in_box_2 = record { unit = 1; ord = 2; container = 2 }

abbrev pub catalogue : CatalogueRows
catalogue = record plans_housed { elements = title_row ∷ [] }

abbrev pub sound : OfficeRows
sound = record office_rows { catalogue = catalogue }

-- the same in version 2
abbrev pub nested_rows : OfficeRows
nested_rows =
    record sound { office = record sound.office { version = 2 }; catalogue = record catalogue { places = SpanRows (span_of 1 1 2 ∷ []) } }

-- the places of n units one below another: 1 at the top
abbrev pub way_down : ℕ → List Link
way_down zero = []
way_down (suc zero) = link_of 1 None 1 ∷ []
way_down (suc (suc n)) = link_of (suc (suc n)) (Some (suc n)) 1 ∷ way_down (suc n)

-- n units one below another
abbrev pub deep : ℕ → OfficeRows
deep n =
    record sound {
      office = record sound.office { next_unit = suc n };
      catalogue = record catalogue { units = many_units n; places = LinkRows (way_down n) };
    }

-- the first cause in rows of version 1
abbrev pub worked_cause : OfficeRows → Option ℕ
worked_cause t = cause First t

-- the first cause if the office's catalogue has these rows
abbrev pub cause_with : CatalogueRows → Option ℕ
cause_with rows = worked_cause (record sound { catalogue = rows })

-- the same in version 2
abbrev pub cause_of_spans : CatalogueRows → Option ℕ
cause_of_spans rows = cause Second (record nested_rows { catalogue = rows })

pub record CatalogueCausesTold : Type 0 where
  pub nothing : worked_cause sound ≡ None
  pub nothing_nested : cause Second nested_rows ≡ None
  -- the office
  pub other_version : cause Second sound ≡ Some 1
  pub no_seats : worked_cause (record sound { office = record sound.office { seats = 0 } }) ≡ Some 1
  pub a_seat_too_many : worked_cause (record sound { office = record sound.office { seats = suc most_seats } }) ≡ Some 1
  pub small_letters : worked_cause (record sound { office = record sound.office { country = codes "gb" } }) ≡ Some 1
  pub day_after_the_last : worked_cause (record sound { office = record sound.office { day = year_10000 } }) ≡ Some 1
  pub next_past_the_last : worked_cause (record sound { office = record sound.office { next_unit = 100000002 } }) ≡ Some 1
  -- the places
  pub not_from_one : cause_with (record catalogue { places = LinkRows (link_of 1 None 2 ∷ []) }) ≡ Some 2
  pub no_parent : cause_with (record catalogue { places = LinkRows (link_of 1 (Some 9) 1 ∷ []) }) ≡ Some 2
  pub gap : cause_of_spans (record catalogue { places = SpanRows (span_of 1 1 3 ∷ []) }) ≡ Some 2
  pub places_of_the_other_version : cause_of_spans (record catalogue { places = LinkRows (link_of 1 None 1 ∷ []) }) ≡ Some 2
  pub place_number_0 : cause_with (record catalogue { units = record plans_row { id = 0 } ∷ []; places = LinkRows (link_of 0 None 1 ∷ []); elements = []; housings = [] }) ≡ Some 2
  pub place_past_the_last_number : cause_with (record catalogue { places = LinkRows (link_of (suc most_unit_numbers) None 1 ∷ []) }) ≡ Some 2
  pub below_number_0 : cause_with (record catalogue { places = LinkRows (link_of 1 (Some 0) 1 ∷ []) }) ≡ Some 2
  pub ord_past_32_bits : cause_with (record catalogue { places = LinkRows (link_of 1 None (2 ^ 32) ∷ []) }) ≡ Some 2
  pub span_number_0 : cause_of_spans (record catalogue { units = record plans_row { id = 0 } ∷ []; places = SpanRows (span_of 0 1 2 ∷ []); elements = []; housings = [] }) ≡ Some 2
  pub span_past_the_last_number : cause_of_spans (record catalogue { places = SpanRows (span_of (suc most_unit_numbers) 1 2 ∷ []) }) ≡ Some 2
  pub lft_past_32_bits : cause_of_spans (record catalogue { places = SpanRows (span_of 1 (2 ^ 32) (2 ^ 32 + 1) ∷ []) }) ≡ Some 2
  pub rgt_past_32_bits : cause_of_spans (record catalogue { places = SpanRows (span_of 1 1 (2 ^ 32) ∷ []) }) ≡ Some 2
  -- the units
  pub unit_without_a_place : cause_with (record catalogue { places = LinkRows [] }) ≡ Some 3
  pub place_without_a_unit : cause_with (record catalogue { places = LinkRows (link_of 1 None 1 ∷ link_of 2 (Some 1) 1 ∷ []) }) ≡ Some 3
  pub next_is_there : worked_cause (record sound { office = record sound.office { next_unit = 1 } }) ≡ Some 3
  pub no_source : cause_with (record catalogue { units = record plans_row { source = codes "a b" } ∷ [] }) ≡ Some 3
  pub blank_number : cause_with (record catalogue { units = record plans_row { legacy = codes " " } ∷ [] }) ≡ Some 3
  pub number_too_long : cause_with (record catalogue { units = record plans_row { legacy = replicate (suc most_bytes) 49 } ∷ [] }) ≡ Some 3
  pub level_too_long : cause_with (record catalogue { units = record plans_row { level = replicate (suc most_bytes) 49 } ∷ [] }) ≡ Some 3
  pub closed_until_no_day : cause_with (record catalogue { units = record plans_row { until = Some year_10000 } ∷ [] }) ≡ Some 3
  pub as_deep_as_may_be : worked_cause (deep most_deep) ≡ None
  pub too_deep : worked_cause (deep (suc most_deep)) ≡ Some 3
  -- the elements
  pub level_as_an_element : cause_with (record catalogue { elements = record title_row { k = 4 } ∷ [] }) ≡ Some 4
  pub after_the_last : cause_with (record catalogue { elements = record title_row { k = 27 } ∷ [] }) ≡ Some 4
  pub blank_title : cause_with (record catalogue { elements = record title_row { value = codes "  " } ∷ [] }) ≡ Some 4
  pub title_of_no_unit : cause_with (record catalogue { elements = title_row ∷ record title_row { unit = 2 } ∷ [] }) ≡ Some 4
  -- the containers
  pub container_left_out : cause_with (record catalogue { containers = box_1 ∷ box_2 ∷ record { id = 4; name = codes "Box 4"; location = []; kind = [] } ∷ [] }) ≡ Some 5
  pub container_without_a_name : cause_with (record catalogue { containers = box_1 ∷ record box_2 { name = codes " " } ∷ [] }) ≡ Some 5
  pub in_no_container : cause_with (record catalogue { housings = in_box_1 ∷ record in_box_2 { container = 3 } ∷ [] }) ≡ Some 5
  pub of_no_unit : cause_with (record catalogue { housings = in_box_1 ∷ in_box_2 ∷ record { unit = 2; ord = 1; container = 2 } ∷ [] }) ≡ Some 5
  pub place_left_out : cause_with (record catalogue { housings = in_box_1 ∷ record in_box_2 { ord = 3 } ∷ [] }) ≡ Some 5
  -- of two causes, the first is found
  pub two_causes : cause_with (record catalogue { elements = []; units = record plans_row { source = [] } ∷ []; containers = [] }) ≡ Some 3
