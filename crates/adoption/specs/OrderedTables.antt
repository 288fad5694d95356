-- What opening requires of tables, in addition to what SQL itself guarantees.
pub use Rattle.row_completeness.specs.OrderedRows.{StandsInOrder, StandInOrder}
