-- What the cells mean that a query shows of a row of the catalogue: they are put back in their places in the table's
-- row. Also what can be judged from a row alone.
use Rattle.std.specs.Prelude.{ℕ, suc, Bool, true, false, not, cond, ◌&&◌, List, [], ◌∷◌, length, Option, Some, None}
use Rattle.std.specs.Prelude.{is_some, nat_eq, nat_le}
use Rattle.std.specs.Option.{option_map_or}
use Rattle.sqlite.specs.declared.types.Value.TheVariants.{Null}
use Rattle.sqlite.specs.Order.{Row, column}
use Rattle.isad_core.specs.Limits.{most_bytes}
use Rattle.isad_core.specs.Texts.{is_blank_text}
use Rattle.isad_core.specs.Words.{is_between}
use Rattle.catalogue_core.specs.CatalogueCauses.{is_some_day}
use Rattle.catalogue_core.specs.CatalogueRows.{UnitRow, ElementRow, ContainerRow, HousingRow}
use Rattle.catalogue_core.specs.Sources.{is_source}
use Rattle.office_tables.specs.Cells.{from, text_in, flag_in, whole_in, or_null_in}
use Rattle.office_tables.specs.CatalogueCells.{read_unit, read_element, read_container, read_housing}
use Rattle.row_decoding.specs.PlaceReadings.{if_passes}

-- ---- units

-- it has the name of a source, a number there that is not blank, a number and a level that are not too long, and a
-- closure only until a day of the calendar
abbrev pub is_described : UnitRow → Bool
is_described row =
    is_source row.source && (not (is_blank_text row.legacy)
    && (nat_le (length row.legacy) most_bytes && (nat_le (length row.level) most_bytes && is_some_day row.until)))

-- the number of the unit in a row, if the rest of it can be a unit's
abbrev pub read_described : Row → Option ℕ
read_described row = from (read_unit row) (λ unit. cond (is_described unit) (Some unit.id) None)

-- the same for a row that a query shows: the cells except the number, in the order in which they are read
abbrev pub is_described_answer : Row → Bool
is_described_answer cells =
    is_some (flag_in (column cells 4)) && (option_map_or is_some_day (or_null_in whole_in (column cells 5)) false
    && (option_map_or is_source (text_in (column cells 1)) false && (option_map_or (λ t. not (is_blank_text t)) (text_in (column cells 2)) false
    && (option_map_or (λ t. nat_le (length t) most_bytes) (text_in (column cells 2)) false
    && option_map_or (λ t. nat_le (length t) most_bytes) (text_in (column cells 3)) false))))

abbrev pub described_in_answer : Row → Option ℕ
described_in_answer cells =
    read_described (column cells 0 ∷ Null ∷ column cells 1 ∷ column cells 2 ∷ column cells 3 ∷ column cells 5 ∷ column cells 4 ∷ [])

-- ---- elements

-- one of the 26 elements except the level, and a text that is not blank
abbrev pub is_good_value : ElementRow → Bool
is_good_value row = is_between 1 26 row.k && (not (nat_eq row.k 4) && not (is_blank_text row.value))

abbrev pub element_in_answer : Row → Option ElementRow
element_in_answer cells = read_element (Null ∷ column cells 0 ∷ column cells 1 ∷ column cells 2 ∷ [])

abbrev pub is_element_answer : Row → Bool
is_element_answer cells = option_map_or is_good_value (element_in_answer cells) false

-- ---- containers

-- the container has this number, and a name that is not blank
abbrev pub is_numbered : ℕ → ContainerRow → Bool
is_numbered n row = nat_eq row.id n && not (is_blank_text row.name)

abbrev pub container_in_answer : Row → Option ContainerRow
container_in_answer cells = read_container (column cells 0 ∷ Null ∷ column cells 1 ∷ column cells 2 ∷ column cells 3 ∷ [])

abbrev pub is_container_answer : ℕ → Row → Bool
is_container_answer n cells = option_map_or (is_numbered n) (container_in_answer cells) false

-- the rows show the containers with the numbers from this on
abbrev pub are_container_answers : ℕ → List Row → Bool
are_container_answers n [] = true
are_container_answers n (row ∷ rows) = is_container_answer n row && are_container_answers (suc n) rows

-- ---- what is in them

-- the place and the container have numbers from 1 on
abbrev pub is_placed : HousingRow → Bool
is_placed row = nat_le 1 row.ord && nat_le 1 row.container

abbrev pub read_placed : Row → Option HousingRow
read_placed row = from (read_housing row) (if_passes is_placed)

abbrev pub housing_in_answer : Row → Option HousingRow
housing_in_answer cells = read_placed (Null ∷ column cells 0 ∷ column cells 1 ∷ column cells 2 ∷ [])
