-- The rows of the desk's tables, as cells.
pub use Rattle.office_tables.specs.RowCells.{reader_cells, seat_cells, order_cells, holding_cells, run_cells}
pub use Rattle.office_tables.specs.RowCells.{run_line_cells}
