-- The rows of the tables of an office of this product stand in order.
use Rattle.std.proofs.Common.{◌≡◌, ℕ, ℤ, pos, List, [], ◌∷◌, map, Less, refl, sym, ap₂, subst, ◌∙◌, IsTrue, ap}
use Rattle.isad_core.specs.declared.values.BoxKey.{BoxKey}
use Rattle.tree_core.specs.declared.rows.Link.{Link}
use Rattle.tree_core.specs.declared.rows.Span.{Span}
use Rattle.office_tables.specs.Schema as tables
use Rattle.catalogue_statements.proofs.Numbered.{counted_rises as boxes_rise}
use Rattle.catalogue_statements.specs.Rows.{numbered_container_cells}
use Rattle.nested_sets.specs.Representation.{RepresentsSpanRows}
use Rattle.office_core.specs.State.{State}
use Rattle.state_encoding.specs.OfficeRows.{tables as tables_of}
use Rattle.refinement.specs.Representation.{RepresentsState}
use Rattle.adoption.specs.OwnTables.{ShownTablesStandInOrder}
use Rattle.adoption.proofs.Common.{AllByRecursion, Database, First, Forest, HasNumbered, HoldingRow, Int, IsTable}
use Rattle.adoption.proofs.Common.{OrderRow, ReaderRow, RepresentsLinkRows, Rises, Row, RunRow, SeatRow, Second}
use Rattle.adoption.proofs.Common.{StandInOrder, StandsInOrder, Trees, Unit, Version, cells_of_unit, column}
use Rattle.adoption.proofs.Common.{counted_from, counted_rises, element_cells, encoding, holding_cells, housing_cells}
use Rattle.adoption.proofs.Common.{int_cmp, is_int, link_cells, order_cells, permit_cells, reader_cells, run_cells}
use Rattle.adoption.proofs.Common.{run_line_cells, schema, seat_cells, span_cells, value_cmp, value_cmp-Int}

-- ---- a table whose rows stand by their numbers

module _ {X : Type 0} (cells : X → Row) (number : X → ℤ) (first : (x : X) → column (cells x) 0 ≡ Int (number x)) where
  later : (x : X) (xs : List X) → AllByRecursion (λ y. int_cmp (number x) (number y) ≡ Less) xs
      → AllByRecursion (λ row. value_cmp (column (cells x) 0) (column row 0) ≡ Less) (map cells xs)
  later x [] h = tt
  later x (y ∷ ys) h = (ap₂ value_cmp (first x) (first y) ∙ (value_cmp-Int (number x) (number y) ∙ h.0), later x ys h.1)

  rise : (xs : List X) → Rises (λ x y. int_cmp (number x) (number y)) xs → IsTable (map cells xs)
  rise [] up = tt
  rise (x ∷ xs) up = (later x xs up.0, rise xs up.1)

  numbers : (xs : List X) → AllByRecursion (λ (row : Row). IsTrue (is_int (column row 0))) (map cells xs)
  numbers [] = tt
  numbers (x ∷ xs) = (ap is_int (first x), numbers xs)

  stored_ordered : (rows : List Row) (xs : List X) → rows ≡ map cells xs
      → Rises (λ x y. int_cmp (number x) (number y)) xs → StandsInOrder rows
  stored_ordered rows xs stored up =
      subst StandsInOrder (sym stored) (record { rise = rise xs up; numbers = numbers xs })

-- the same of rows with a number of their own
numbered_ordered : {R : Type 0} (cells : ℤ × R → Row) → ((x : ℤ × R) → column (cells x) 0 ≡ Int x.0)
    → (rows : List Row) (told : List R) → HasNumbered cells rows told → StandsInOrder rows
numbered_ordered {R} cells first rows told has =
    stored_ordered cells (λ (x : ℤ × R). x.0) first rows has.numbered has.are has.rise

-- ---- all tables

module _ (v : Version) (places : Trees → Forest ℕ → Type 0) (place : (db : Trees) (f : Forest ℕ) → places db f → StandsInOrder (db (tables.place_table (encoding v)).tree)) (db : Database) (s : State) (it : RepresentsState places v db s) where
  office_ordered : StandsInOrder (db.trees tables.office.tree)
  office_ordered = subst StandsInOrder (sym it.catalogue.catalogue.office) (record { rise = (tt, tt); numbers = (refl, tt) })

  pub shown_ordered : StandInOrder db
  shown_ordered =
      let c = it.catalogue.catalogue in
      let d = it.desk in
      let db_trees = db.trees in
      subst (λ k. StandInOrder (record { schema = k; trees = db.trees })) (sym c.schema_is) (
        stored_ordered reader_cells (λ (r : ReaderRow). pos r.ticket) (λ r. refl) (db_trees tables.reader.tree) (tables_of v s).desk.readers d.readers (counted_rises (λ (r : ReaderRow). r.ticket) 1 (tables_of v s).desk.readers d.tickets),
        (
          stored_ordered seat_cells (λ (r : SeatRow). pos r.seat) (λ r. refl) (db_trees tables.seat.tree) (tables_of v s).desk.seats d.seats d.seats_rise,
          (
            stored_ordered order_cells (λ (r : OrderRow). pos r.id) (λ r. refl) (db_trees tables.orders.tree) (tables_of v s).desk.orders d.orders (counted_rises (λ (r : OrderRow). r.id) 1 (tables_of v s).desk.orders d.order_numbers),
            (
              stored_ordered holding_cells (λ (r : HoldingRow). pos r.container) (λ r. refl) (db_trees tables.holding.tree) (tables_of v s).desk.holdings d.holdings d.holdings_rise,
              (
                stored_ordered run_cells (λ (r : RunRow). pos r.id) (λ r. refl) (db_trees tables.run.tree) (tables_of v s).desk.runs d.runs (counted_rises (λ (r : RunRow). r.id) 1 (tables_of v s).desk.runs d.run_numbers),
                (
                  numbered_ordered run_line_cells (λ r. refl) (db_trees tables.run_line.tree) (tables_of v s).desk.run_lines d.run_lines,
                  (
                    numbered_ordered permit_cells (λ r. refl) (db_trees tables.permit.tree) (tables_of v s).desk.permits d.permits,
                    (
                      office_ordered,
                      (
                        stored_ordered cells_of_unit (λ (u : Unit). pos u.id) (λ u. refl) (db_trees tables.unit.tree) c.units.units c.units.rows c.units.rise,
                        (
                          numbered_ordered element_cells (λ r. refl) (db_trees tables.element.tree) c.elements.elements c.elements.rows,
                          (
                            stored_ordered numbered_container_cells (λ (box : ℕ × BoxKey). pos box.0) (λ r. refl) (db_trees tables.container.tree) (counted_from 1 s.catalogue.containers) c.containers (boxes_rise 1 s.catalogue.containers),
                            (
                              numbered_ordered housing_cells (λ r. refl) (db_trees tables.housing.tree) c.housings.housings c.housings.rows,
                              (
                                place db.trees _ it.catalogue.shown,
                                tt,
                              ),
                            ),
                          ),
                        ),
                      ),
                    ),
                  ),
                ),
              ),
            ),
          ),
        ),
      )

pub links_ordered : (db : Database) (s : State) → ShownTablesStandInOrder RepresentsLinkRows First db s
links_ordered = shown_ordered First RepresentsLinkRows (λ db f represents. stored_ordered link_cells (λ (l : Link). pos l.id) (λ l. refl) (db tables.link.tree) represents.links represents.rows represents.rise)

pub spans_ordered : (db : Database) (s : State) → ShownTablesStandInOrder RepresentsSpanRows Second db s
spans_ordered = shown_ordered Second RepresentsSpanRows (λ db f represents. stored_ordered span_cells (λ (l : Span). pos l.id) (λ l. refl) (db tables.span.tree) represents.spans represents.rows represents.rise)
