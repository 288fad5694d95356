-- The order of the rows of tables in a file.
pub use Rattle.row_completeness.specs.OrderedRows.{StandsInOrder, StandInOrder}
