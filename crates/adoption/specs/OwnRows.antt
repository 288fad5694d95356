-- The office's own row in tables of any origin: whether it can be read and an office of the version can have it, and
-- what it then contains.
use Rattle.std.specs.Prelude.{◌≡◌, ℕ, ◌+◌, Bool, false, not, ◌&&◌, ◌||◌, cond, List, [], ◌∷◌, length, Option, Some}
use Rattle.std.specs.Prelude.{None, nat_eq}
use Rattle.std.specs.Option.{option_map_or}
use Rattle.sqlite.specs.declared.types.Value.TheVariants.{Null}
use Rattle.sqlite.specs.Order.{Row, column}
use Rattle.sqlite.specs.Tree.{Trees}
use Rattle.isad_core.specs.Days.{is_day_number}
use Rattle.isad_core.specs.Limits.{most_daily, most_hands, most_run_size, most_seats, most_unit_numbers}
use Rattle.isad_core.specs.Words.{is_between}
use Rattle.office_tables.specs.Versions.{Version}
use Rattle.catalogue_core.specs.CatalogueRows.{OfficeRow}
use Rattle.office_core.specs.Soundness.{is_country, is_repository}
use Rattle.office_tables.specs.Cells.{number_in, whole_in, text_in, from, has_unread}
use Rattle.office_tables.specs.CatalogueCells.{read_office}
use Rattle.office_tables.specs.Schema as tables
use Rattle.state_encoding.specs.Causes.{is_good_office}
use Rattle.state_encoding.specs.CellCauses.{rows_in}
use Rattle.adoption.specs.declared.own_row.Numbers.{Numbers}
use Rattle.adoption.specs.declared.own_row.OwnRow.{OwnRow}

-- some row of the office cannot be read, or no office has such a row
abbrev pub office_is_defective : Version → Trees → Bool
office_is_defective version db =
    has_unread read_office (db tables.office.tree) || not (is_good_office version (rows_in version db).office)

-- what the checks of the other tables need from it
abbrev pub own_of : OfficeRow → OwnRow
own_of row = record {
  limits = record { seats = row.seats; daily = row.daily; hands = row.hands; run = row.run_size };
  today = row.day;
  next_unit = row.next_unit;
}

-- the same for tables: none if the row is defective
abbrev pub own_row_of : Version → Trees → Option OwnRow
own_row_of version db = cond (office_is_defective version db) None (Some (own_of (rows_in version db).office))

-- ---- as it is read: its numbers, and then its texts

-- the cells that the query shows, put back in their places in the table's row
abbrev pub office_cells_back : Row → Row
office_cells_back cells =
    column cells 0 ∷ Null ∷ column cells 1 ∷ column cells 8 ∷ column cells 9 ∷ column cells 2 ∷ column cells 3 ∷ column cells 4 ∷ column cells 5
    ∷ column cells 6 ∷ column cells 7 ∷ []

abbrev pub numbers_in_row : Row → Option Numbers
numbers_in_row cells =
    from (number_in (column cells 0)) (λ one.
    from (cond (nat_eq one 1) (Some one) None) (λ _.
    from (number_in (column cells 1)) (λ version.
    from (number_in (column cells 2)) (λ seats.
    from (number_in (column cells 3)) (λ daily.
    from (number_in (column cells 4)) (λ hands.
    from (number_in (column cells 5)) (λ run_size.
    from (whole_in (column cells 6)) (λ day.
    from (number_in (column cells 7)) (λ next_unit.
    Some (record { version = version; seats = seats; daily = daily; hands = hands; run_size = run_size; day = day; next_unit = next_unit }))))))))))

abbrev pub are_good_numbers : ℕ → Numbers → Bool
are_good_numbers version n =
    nat_eq n.version version && (is_between 1 most_seats n.seats && (is_between 1 most_daily n.daily && (is_between 1 most_hands n.hands
    && (is_between 1 most_run_size n.run_size && (is_day_number n.day && is_between 1 (most_unit_numbers + 1) n.next_unit)))))

abbrev pub own_from : Numbers → OwnRow
own_from n = record {
  limits = record { seats = n.seats; daily = n.daily; hands = n.hands; run = n.run_size };
  today = n.day;
  next_unit = n.next_unit;
}

abbrev pub are_good_texts : Row → Bool
are_good_texts cells =
    option_map_or is_country (text_in (column cells 8)) false && option_map_or is_repository (text_in (column cells 9)) false

-- its numbers, if it has the texts of an office
abbrev pub office_numbers : Row → Option Numbers
office_numbers cells = from (numbers_in_row cells) (λ n. cond (are_good_texts cells) (Some n) None)

abbrev pub own_judged : ℕ → Option Numbers → Option OwnRow
own_judged version told = from told (λ n. cond (are_good_numbers version n) (Some (own_from n)) None)

-- ---- as it is gathered

-- `count` rows were taken; and if that was one, `told` is what it contains
pub record AreOwnRows (rows : List Row) (count : ℕ) (told : Option Numbers) : Type 0 where
  pub counted : count ≡ length rows
  pub is : (cells : Row) → rows ≡ cells ∷ [] → told ≡ office_numbers cells
