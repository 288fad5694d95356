-- Each state has trees that show it: its rows as they stand, those without an INTEGER PRIMARY KEY numbered from 1 on.
use Rattle.std.proofs.Common.{◌≡◌, ℕ, suc, ◌<◌, ℤ, pos, List, [], ◌∷◌, cond, refl, sym, ap, subst, nat_eq, map, arith}
use Rattle.std.proofs.Common.{Less}
use Rattle.office_tables.proofs.numbered.Counted.{below_less}
use Rattle.office_tables.specs.Order.{Rises}
use Rattle.office_tables.specs.RowNumbers.{HasNumbered}
use Rattle.office_tables.specs.Schema as tables
use Rattle.state_encoding.specs.OfficeRows.{tables as tables_of}
use Rattle.state_encoding.proofs.Common.{AllByRecursion, HasPlaces, HasRowsInAnyOrder, HasTables, IsPermutation}
use Rattle.state_encoding.proofs.Common.{IsPermutation-refl, IsRepresentedByTrees, LinkRows, OfficeRows, PlaceRows, Row}
use Rattle.state_encoding.proofs.Common.{SpanRows, State, Trees, Version, container_cells, element_cells, holding_cells}
use Rattle.state_encoding.proofs.Common.{housing_cells, int_cmp, link_cells, office_cells, order_cells, permit_cells}
use Rattle.state_encoding.proofs.Common.{reader_cells, run_cells, run_line_cells, seat_cells, span_cells, unit_cells}

module _ {R : Type 0} where
  counted_from : ℕ → List R → List (ℤ × R)
  counted_from n [] = []
  counted_from n (row ∷ rows) = (pos n, row) ∷ counted_from (suc n) rows

  told : (n : ℕ) (rows : List R) → map (λ x. x.1) (counted_from n rows) ≡ rows
  unfolding counted_from
  told n [] = refl
  told n (row ∷ rows) = ap (λ l. row ∷ l) (told (suc n) rows)

  above : (m n : ℕ) (rows : List R) → m < n → AllByRecursion (λ x. int_cmp (pos m) x.0 ≡ Less) (counted_from n rows)
  unfolding counted_from
  above m n [] l = tt
  above m n (row ∷ rows) l = (below_less m n l, above m (suc n) rows (omega (arith, l)))

  rise : (n : ℕ) (rows : List R) → Rises (λ a b. int_cmp a.0 b.0) (counted_from n rows)
  unfolding counted_from
  rise n [] = tt
  rise n (row ∷ rows) = (above n (suc n) rows (omega arith), rise (suc n) rows)

  has_numbered : (cells : ℤ × R → Row) (rows : List R) → HasNumbered cells (map cells (counted_from 1 rows)) rows
  has_numbered cells rows =
      record { numbered = counted_from 1 rows; are = refl; rise = rise 1 rows; tell = subst (IsPermutation rows) (sym (told 1 rows)) (IsPermutation-refl rows) }

  has_rows : (cells : R → Row) (rows : List R) → HasRowsInAnyOrder cells (map cells rows) rows
  has_rows cells rows = record { stored = rows; are = refl; tell = IsPermutation-refl rows }

abbrev place_cells : PlaceRows → List Row
place_cells (LinkRows links) = map link_cells links
place_cells (SpanRows spans) = map span_cells spans

abbrev trees_of : OfficeRows → Trees
trees_of t tree =
    cond (nat_eq tree tables.office.tree) (office_cells t.office ∷ [])
    (cond (nat_eq tree tables.unit.tree) (map unit_cells t.catalogue.units)
    (cond (nat_eq tree tables.link.tree) (place_cells t.catalogue.places)
    (cond (nat_eq tree tables.element.tree) (map element_cells (counted_from 1 t.catalogue.elements))
    (cond (nat_eq tree tables.container.tree) (map container_cells t.catalogue.containers)
    (cond (nat_eq tree tables.housing.tree) (map housing_cells (counted_from 1 t.catalogue.housings))
    (cond (nat_eq tree tables.reader.tree) (map reader_cells t.desk.readers)
    (cond (nat_eq tree tables.seat.tree) (map seat_cells t.desk.seats)
    (cond (nat_eq tree tables.orders.tree) (map order_cells t.desk.orders)
    (cond (nat_eq tree tables.holding.tree) (map holding_cells t.desk.holdings)
    (cond (nat_eq tree tables.run.tree) (map run_cells t.desk.runs)
    (cond (nat_eq tree tables.run_line.tree) (map run_line_cells (counted_from 1 t.desk.run_lines))
    (cond (nat_eq tree tables.permit.tree) (map permit_cells (counted_from 1 t.desk.permits)) []))))))))))))

has_places : (db : Trees) (places : PlaceRows) → db tables.link.tree ≡ place_cells places → HasPlaces db places
has_places db (LinkRows links) e = record { stored = links; are = e; tell = IsPermutation-refl links }
has_places db (SpanRows spans) e = record { stored = spans; are = e; tell = IsPermutation-refl spans }

has_tables : (t : OfficeRows) → HasTables (trees_of t) t
has_tables t = record {
  office = refl;
  catalogue = record {
    units = has_rows unit_cells t.catalogue.units;
    places = has_places (trees_of t) t.catalogue.places refl;
    elements = has_numbered element_cells t.catalogue.elements;
    containers = has_rows container_cells t.catalogue.containers;
    housings = has_numbered housing_cells t.catalogue.housings;
  };
  desk = record {
    readers = has_rows reader_cells t.desk.readers;
    seats = has_rows seat_cells t.desk.seats;
    orders = has_rows order_cells t.desk.orders;
    holdings = has_rows holding_cells t.desk.holdings;
    runs = has_rows run_cells t.desk.runs;
    run_lines = has_numbered run_line_cells t.desk.run_lines;
    permits = has_numbered permit_cells t.desk.permits;
  };
}

pub has_trees : (version : Version) (s : State) → IsRepresentedByTrees version s
has_trees version s = (trees_of (tables_of version s), has_tables (tables_of version s))
