-- The names that several proofs of this crate cite, passed on from one place. Declares nothing.
pub use Rattle.std.proofs.lemmas.Bool.{and_from, and_parts, cases_Bool, cases_eq, eqb-true, false≢true, ltb-true}
pub use Rattle.std.proofs.lemmas.Bool.{ne_eqb, or_cases, or_parts}
pub use Rattle.std.proofs.lemmas.Bool.Decides.{nat_tests}
pub use Rattle.std.specs.List.{AllByRecursion, IsDistinct, cons_option, flat_map, list_all, list_any, range_with_len}
pub use Rattle.std.specs.Prelude.{IsErr, IsErrAnd, count_by, filter_map, find, int_lt, is_none, is_some, nat_lt}
pub use Rattle.std.specs.Prelude.{option_map, slice_get, sum_by, ⊤}
pub use Rattle.sqlite.specs.Effect.{Database}
pub use Rattle.sqlite.specs.State.{HasCleanDisk, Survives}
pub use Rattle.sqlite.specs.Tree.{Trees}
pub use Rattle.tree_core.specs.Forest.{Empty, Forest, HasDistinctIds, Node, each, has, nodes, path}
pub use Rattle.desk_core.specs.Decisions.{free_seat, order_out}
pub use Rattle.desk_core.specs.DeskRows.{HoldingRow, OrderRow, PermitRow, ReaderRow, SeatRow}
pub use Rattle.desk_core.specs.declared.reader.Place.{Place}
pub use Rattle.desk_core.specs.declared.reader.Place.TheVariants.{Out, Shelf}
pub use Rattle.catalogue_core.specs.CatalogueMerge.{Catalogue}
pub use Rattle.catalogue_core.specs.Units.{Unit}
pub use Rattle.office_tables.specs.RowNumbers.{AreCountedFrom, HasNumbered}
pub use Rattle.office_tables.specs.Step.{Continues, Goes, IsAborted, LeavesUnchanged, OnlyTouches, table_trees}
pub use Rattle.office_tables.specs.Versions.{Version}
pub use Rattle.office_tables.specs.declared.fault.StoreFault.{StoreFault}
pub use Rattle.catalogue_statements.specs.Representation.{Represents, RepresentsOffice, catalogue_trees}
pub use Rattle.catalogue_statements.specs.Representation.{described_trees}
pub use Rattle.catalogue_statements.specs.declared.office.OfficeRow.{OfficeRow}
pub use Rattle.desk_store.specs.Readers.{card_of, has_not_ended, held_with, orders_not_ended, placed_on, reader_with}
pub use Rattle.desk_store.specs.Readers.{ticket_holder}
pub use Rattle.desk_store.specs.Representation.{IsNumberOf, RepresentsDesk, RepresentsDeskAlone}
pub use Rattle.office_core.proofs.Words.{numbered_within, other_number, put_here, put_there, same_number}
pub use Rattle.office_core.specs.Laws.{Ended, Standing, Waiting, WithItsReader, numbers_from, standing, stands_as}
pub use Rattle.office_core.specs.SoundDesk.{AreFiled, AreGoodPermits, ByUnit, ExactlyOne, IsFiled, IsSoundDesk, SitOnce}
pub use Rattle.office_core.specs.SoundDesk.{is_out_for}
pub use Rattle.office_core.specs.SoundOffice.{AreTexts, IsSoundOffice, NamesTexts}
pub use Rattle.office_core.specs.State.{Cancelled, End, Order, Permit, Reader, container_of, containers, granted}
pub use Rattle.office_core.specs.State.{granted_until, has_ordered, held_count, is_by, is_container, is_out_with}
pub use Rattle.office_core.specs.State.{is_seat_of, is_ticket, orders_placed, revoked, rise, sit, waits}
pub use Rattle.office_core.specs.Words.{nth, numbers_to, place_of, some_and, stands, update_at}
pub use Rattle.state_encoding.proofs.DeskLookups.{flipped, is_some-map, order_there, some_is}
pub use Rattle.state_encoding.proofs.LegibleRows.{desk_legible}
pub use Rattle.state_encoding.proofs.Members.{any_of_in, in_filter, some_in, to_from}
pub use Rattle.state_encoding.proofs.NumberedRows.{in_rows, length-rows}
pub use Rattle.state_encoding.specs.DeskEncoding.{holding_row, holding_rows, order_from, order_row, order_rows}
pub use Rattle.state_encoding.specs.DeskEncoding.{permit_row, permit_rows, place_from, place_in, reader_row, rows_from}
pub use Rattle.state_encoding.specs.DeskEncoding.{seat_rows_from, state_number}
pub use Rattle.state_encoding.specs.OfficeRows.{tables}
pub use Rattle.refinement.specs.Representation.{RepresentsState, office_of}
