-- The rows of the catalogue's tables, read cell by cell, whatever the cells are. A row with a cell that its column cannot have
-- cannot be read. Numbers are read first, and then texts.
use Rattle.std.specs.Prelude.{nat_eq, cond, Option, Some, None}
use Rattle.sqlite.specs.Order.{Row, column}
use Rattle.tree_core.specs.declared.rows.Link.{Link}
use Rattle.tree_core.specs.declared.rows.Span.{Span}
use Rattle.catalogue_core.specs.CatalogueRows.{OfficeRow, UnitRow, ElementRow, ContainerRow, HousingRow}
use Rattle.office_tables.specs.Cells.{whole_in, number_in, text_in, flag_in, or_null_in, from}

-- the office's row has the number 1
abbrev pub read_office : Row → Option OfficeRow
read_office row =
    from (number_in (column row 0)) (λ one.
    from (cond (nat_eq one 1) (Some one) None) (λ _.
    from (number_in (column row 2)) (λ version.
    from (number_in (column row 5)) (λ seats.
    from (number_in (column row 6)) (λ daily.
    from (number_in (column row 7)) (λ hands.
    from (number_in (column row 8)) (λ run_size.
    from (whole_in (column row 9)) (λ day.
    from (number_in (column row 10)) (λ next_unit.
    from (text_in (column row 3)) (λ country.
    from (text_in (column row 4)) (λ repo.
    Some (record { version = version; country = country; repo = repo; seats = seats; daily = daily; hands = hands; run_size = run_size; day = day; next_unit = next_unit }))))))))))))

abbrev pub read_unit : Row → Option UnitRow
read_unit row =
    from (number_in (column row 0)) (λ id.
    from (flag_in (column row 6)) (λ draft.
    from (or_null_in whole_in (column row 5)) (λ until.
    from (text_in (column row 2)) (λ source.
    from (text_in (column row 3)) (λ legacy.
    from (text_in (column row 4)) (λ level.
    Some (record { id = id; source = source; legacy = legacy; level = level; draft = draft; until = until })))))))

abbrev pub read_link : Row → Option Link
read_link row =
    from (number_in (column row 0)) (λ id.
    from (or_null_in number_in (column row 2)) (λ parent.
    from (number_in (column row 3)) (λ ord.
    Some (record { id = id; parent = parent; ord = ord }))))

abbrev pub read_span : Row → Option Span
read_span row =
    from (number_in (column row 0)) (λ id.
    from (number_in (column row 2)) (λ lft.
    from (number_in (column row 3)) (λ rgt.
    Some (record { id = id; lft = lft; rgt = rgt }))))

abbrev pub read_element : Row → Option ElementRow
read_element row =
    from (number_in (column row 1)) (λ unit.
    from (number_in (column row 2)) (λ k.
    from (text_in (column row 3)) (λ value.
    Some (record { unit = unit; k = k; value = value }))))

abbrev pub read_container : Row → Option ContainerRow
read_container row =
    from (number_in (column row 0)) (λ id.
    from (text_in (column row 2)) (λ name.
    from (text_in (column row 3)) (λ location.
    from (text_in (column row 4)) (λ kind.
    Some (record { id = id; name = name; location = location; kind = kind })))))

abbrev pub read_housing : Row → Option HousingRow
read_housing row =
    from (number_in (column row 1)) (λ unit.
    from (number_in (column row 2)) (λ ord.
    from (number_in (column row 3)) (λ container.
    Some (record { unit = unit; ord = ord; container = container }))))
