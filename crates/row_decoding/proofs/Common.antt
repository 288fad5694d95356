-- The names that several proofs of this crate cite, passed on from one place. Declares nothing.
pub use Rattle.std.specs.List.{cons_option, count_by, list_all, list_any}
pub use Rattle.sqlite.specs.Order.{Row, column}
pub use Rattle.desk_core.specs.RowRecords.{holding_record, order_record, permit_record, run_line_record, run_record}
pub use Rattle.desk_core.specs.RowRecords.{seat_record}
pub use Rattle.office_tables.specs.Cells.{flag_in, has_unread, number_in, or_null_in, text_in, whole_in}
pub use Rattle.office_tables.specs.DeskCells.{read_holding, read_order, read_permit, read_run, read_run_line, read_seat}
pub use Rattle.office_tables.specs.declared.fault.StoreFault.{StoreFault}
pub use Rattle.row_decoding.specs.Readings.{AreGathered, IsTable, by_rowid, holding_in_answer, in_any_order}
pub use Rattle.row_decoding.specs.Readings.{order_in_answer, permit_in_answer, read_number, run_in_answer}
pub use Rattle.row_decoding.specs.Readings.{run_line_in_answer, seat_in_answer}
