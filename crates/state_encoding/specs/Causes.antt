-- Why the rows of all tables represent no sound state: the list of ten causes, and the number of the first that holds.
use Rattle.std.specs.Prelude.{ℕ, ◌+◌, Bool, not, ◌&&◌, List, [], ◌∷◌, ◌++◌, Option, option_and_then, option_map, nat_eq}
use Rattle.std.specs.Prelude.{nat_le}
use Rattle.std.specs.List.{list_any}
use Rattle.isad_core.specs.Days.{is_day_number}
use Rattle.isad_core.specs.Limits.{most_daily, most_hands, most_run_size, most_seats, most_unit_numbers}
use Rattle.isad_core.specs.Words.{is_between, some_and}
use Rattle.office_tables.specs.Versions.{Version, version_number, encoding}
use Rattle.desk_core.specs.DeskCauses.{Around, readers_are_bad, orders_are_bad, holdings_are_bad, runs_are_bad}
use Rattle.desk_core.specs.DeskCauses.{MeetsDeskKeys}
use Rattle.catalogue_core.specs.CatalogueRows.{OfficeRow, UnitRow, ContainerRow}
use Rattle.catalogue_core.specs.CatalogueCauses.{places_are_bad, units_are_bad, elements_are_bad, containers_are_bad}
use Rattle.catalogue_core.specs.CatalogueCauses.{MeetsCatalogueKeys}
use Rattle.office_core.specs.Words.{nth, place_of}
use Rattle.desk_core.specs.Decisions.{order_out}
use Rattle.office_core.specs.State.{State, containers, is_seated, held_count, opens}
use Rattle.office_core.specs.Soundness.{is_country, is_repository}
use Rattle.state_encoding.specs.OfficeRows.{OfficeRows, state_of}

-- ---- 1: the office

-- the settings, the version, the day and the next unit number are good
abbrev pub is_good_office : Version → OfficeRow → Bool
is_good_office version row =
    nat_eq row.version (version_number version) && (is_country row.country && (is_repository row.repo
    && (is_between 1 most_seats row.seats && (is_between 1 most_daily row.daily && (is_between 1 most_hands row.hands && (is_between 1 most_run_size row.run_size
    && (is_day_number row.day && is_between 1 (most_unit_numbers + 1) row.next_unit)))))))

abbrev pub office_is_bad : Version → OfficeRows → Bool
office_is_bad version t = not (is_good_office version t.office)

-- ---- 2 to 5: the catalogue

-- the first five
abbrev pub catalogue_tests : Version → OfficeRows → List Bool
catalogue_tests version t =
    office_is_bad version t ∷ places_are_bad (encoding version) t.catalogue ∷ units_are_bad t.office.next_unit t.catalogue ∷ elements_are_bad t.catalogue
    ∷ containers_are_bad t.catalogue ∷ []

-- ---- 6 to 9: the desk, among the office's settings, units and containers

abbrev pub is_unit_there : OfficeRows → ℕ → Bool
is_unit_there t u = list_any (λ (row : UnitRow). nat_eq row.id u) t.catalogue.units

abbrev pub is_container_there : OfficeRows → ℕ → Bool
is_container_there t c = list_any (λ (row : ContainerRow). nat_eq row.id c) t.catalogue.containers

abbrev pub around : OfficeRows → Around
around t =
    record {
      seats = t.office.seats;
      daily = t.office.daily;
      run_size = t.office.run_size;
      day = t.office.day;
      is_unit = is_unit_there t;
      is_container = is_container_there t;
    }

-- ---- 10: the rules of the day

-- the ticket of the order that the container is out with
abbrev pub holder_of : State → ℕ → Option ℕ
holder_of s c = option_and_then (λ o. option_map (λ order. order.ticket) (nth s.orders o)) (order_out (s.place c))

-- the reader who has the container has a seat, no more containers than are allowed at once, and may see what lies in it
abbrev pub holds_well : State → ℕ → ℕ → Bool
holds_well s c ticket = is_seated s ticket && (nat_le (held_count s ticket) s.settings.hands && opens s ticket c)

abbrev pub is_held_against_rules : State → ℕ → Bool
is_held_against_rules s c = some_and (λ ticket. not (holds_well s c ticket)) (holder_of s c)

abbrev pub day_is_broken : OfficeRows → Bool
day_is_broken t = list_any (is_held_against_rules (state_of t)) (containers (state_of t))

-- the last five
abbrev pub desk_tests : OfficeRows → List Bool
desk_tests t =
    readers_are_bad (around t) t.desk ∷ orders_are_bad (around t) t.desk ∷ holdings_are_bad (around t) t.desk ∷ runs_are_bad (around t) t.desk
    ∷ day_is_broken t ∷ []

-- ---- the first cause

-- the position of the first test that holds, counted from 1
abbrev pub first_held : List Bool → Option ℕ
first_held tests = place_of (λ held_count. held_count) tests

-- the number of the first cause that holds for rows that must be of this version, 1 to 10
abbrev pub cause : Version → OfficeRows → Option ℕ
cause version t = first_held (catalogue_tests version t ++ desk_tests t)

-- the first of the catalogue's causes, 1 to 5
abbrev pub catalogue_cause : Version → OfficeRows → Option ℕ
catalogue_cause version t = first_held (catalogue_tests version t)

-- what the keys of the schema guarantee about the rows
pub record MeetsKeys (t : OfficeRows) : Type 0 where
  pub catalogue : MeetsCatalogueKeys t.catalogue
  pub desk : MeetsDeskKeys t.desk
