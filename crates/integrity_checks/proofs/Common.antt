-- The names that several proofs of this crate cite, passed on from one place. Declares nothing.
pub use Rattle.std.proofs.Math.Bool.{and-false, and-true, and_assoc, not-not, or-true}
pub use Rattle.std.proofs.Math.Nat.{le_refl}
pub use Rattle.std.proofs.lemmas.Bool.{and_from, and_parts, cases_Bool, cases_lt, eq-eqb, eqb-false, eqb-true}
pub use Rattle.std.proofs.lemmas.Bool.{false≢true, le-leb, leb-false, leb-true, ltb-false, ltb-true, ne_eqb, or_parts}
pub use Rattle.std.proofs.lemmas.Bool.{or_right, true≢false}
pub use Rattle.std.proofs.lemmas.List.{drop_all, get_or-map, length-map}
pub use Rattle.std.proofs.lemmas.List.Folds.{list_all-append, list_all-map, list_any-append}
pub use Rattle.std.proofs.lemmas.List.Sorted.{IsNonDecreasingBy-from_sort, IsPermutation-map, IsPermutation-sym}
pub use Rattle.std.proofs.lemmas.List.Sorted.{IsPermutation-trans, length_permutation, list_any-IsPermutation, ranks_by}
pub use Rattle.std.proofs.lemmas.List.Sorted.{searched}
pub use Rattle.std.specs.Cmp.{IsTotalOrder, both_ways, on_total, then_total}
pub use Rattle.std.specs.List.{AllByRecursion, cons_option, count_by, list_all, list_any}
pub use Rattle.std.specs.List.Sorted.{IsNonDecreasing, IsNonDecreasingBy, IsPermutation, IsSorted}
pub use Rattle.std.specs.Option.{option_map_or}
pub use Rattle.std.specs.Ordering.{int_cmp, is_lt, ordering_then}
pub use Rattle.std.specs.Prelude.{IfErr, IsErr, IsErrAnd, int_le}
pub use Rattle.sqlite.specs.Collation.TheVariants.{Binary}
pub use Rattle.sqlite.specs.Command.TheVariants.{Select}
pub use Rattle.sqlite.specs.Held.{Held, state}
pub use Rattle.sqlite.specs.Order.{Row, column}
pub use Rattle.sqlite.specs.State.{HasCleanDisk, IsLive, Shown, State}
pub use Rattle.sqlite.specs.Term.{Term, col}
pub use Rattle.sqlite.specs.Tree.{IsAscending, Trees}
pub use Rattle.sqlite.specs.declared.types.Value.TheVariants.{Int, Null}
pub use Rattle.sqlite_trees.proofs.ListLemmas.{IsPermutation-flat_map, all_weaker, ascending-get_or}
pub use Rattle.sqlite_value.proofs.OrderLemmas.{then-Equal, value_cmp-Int, value_cmp_total}
pub use Rattle.sqlite_value.specs.Keys.{ascending, plain}
pub use Rattle.sqlite_value.specs.Order.{value_cmp}
pub use Rattle.sqlite_value.specs.declared.keys.Key.{Key}
pub use Rattle.isad_core.specs.Limits.{most_deep, most_orders, most_permits, most_runs, most_tickets, most_units}
pub use Rattle.isad_core.specs.Words.{are_numbered_from, is_between, some_and, stands}
pub use Rattle.tree_core.proofs.Lists.{eqb_comm, is_among, list_any-map}
pub use Rattle.tree_core.specs.Forest.{Empty, Forest, Node, size}
pub use Rattle.tree_core.specs.declared.rows.Link.{Link}
pub use Rattle.tree_core.specs.declared.rows.Span.{Span}
pub use Rattle.desk_core.specs.DeskCauses.{are_good_holdings, are_good_orders, are_good_runs, are_twice}
pub use Rattle.desk_core.specs.DeskCauses.{has_its_holding, is_at_desk, is_good_holding, is_good_line, is_good_order}
pub use Rattle.desk_core.specs.DeskCauses.{is_good_permit, is_good_reader, is_good_run, is_good_seat, is_holding_of}
pub use Rattle.desk_core.specs.DeskCauses.{is_of_the_day, is_order_of_line, is_out_order, is_registered, orders_are_bad}
pub use Rattle.desk_core.specs.DeskRows.{Desk, HoldingRow, PermitRow, ReaderRow, RunLineRow, RunRow, SeatRow}
pub use Rattle.desk_core.specs.Orders.{in_order}
pub use Rattle.desk_core.specs.RowRecords.{Surrounds, holding_record, order_record, permit_record, run_line_record}
pub use Rattle.desk_core.specs.RowRecords.{run_record, seat_record}
pub use Rattle.catalogue_core.specs.CatalogueCauses.{all_stand_in, are_good_container_rows, is_good_element}
pub use Rattle.catalogue_core.specs.CatalogueCauses.{is_good_housing, is_good_link, is_good_span, is_unit_number}
pub use Rattle.catalogue_core.specs.CatalogueCauses.{place_numbers, unit_numbers, units_are_bad}
pub use Rattle.catalogue_core.specs.CatalogueRows.{ContainerRow, ElementRow, HousingRow, SpanRows, UnitRow, housings_of}
pub use Rattle.catalogue_core.specs.CatalogueRows.{places_said}
pub use Rattle.catalogue_core.specs.Moves.{height}
pub use Rattle.office_tables.proofs.ByNumber.{Up, any_ordered, any_read, by_key, length_ordered, length_read}
pub use Rattle.office_tables.proofs.ByNumber.{read_by_number, up_read}
pub use Rattle.office_tables.proofs.Calls.{cut_after, early, looks_then}
pub use Rattle.office_tables.proofs.CellTexts.{from_first, says_nothing, says_text}
pub use Rattle.office_tables.proofs.Queries.{asking}
pub use Rattle.office_tables.proofs.StatementEnds.{found_in}
pub use Rattle.office_tables.specs.CatalogueCells.{read_container, read_element, read_housing, read_link, read_span}
pub use Rattle.office_tables.specs.CatalogueCells.{read_unit}
pub use Rattle.office_tables.specs.Cells.{flag_in, from, has_unread, number_in, or_null_in, text_in, whole_in}
pub use Rattle.office_tables.specs.DeskCells.{read_holding, read_order, read_permit, read_reader, read_run}
pub use Rattle.office_tables.specs.DeskCells.{read_run_line, read_seat}
pub use Rattle.office_tables.specs.StatementMeaning.{Means}
pub use Rattle.office_tables.specs.Versions.{First, Second, Version, encoding}
pub use Rattle.office_tables.specs.declared.fault.StoreFault.{StoreFault}
pub use Rattle.row_decoding.proofs.Alike.{Alike, alike_back, alike_then, all_alike, all_as_any, any_alike, filter_alike}
pub use Rattle.row_decoding.proofs.Alike.{keyed_alike, length_alike, ordered_alike, permuted, read_alike}
pub use Rattle.row_decoding.proofs.TableReads.{examines, in_table, is_excused, is_query, same_rows, show, was_open}
pub use Rattle.row_decoding.proofs.ToldCells.{is_number}
pub use Rattle.row_decoding.specs.PlaceReadings.{by_first_number, good_link, good_span, if_passes, link_in_answer}
pub use Rattle.row_decoding.specs.PlaceReadings.{span_in_answer}
pub use Rattle.row_decoding.specs.Readings.{AreGathered, AreRead, by_rowid, in_any_order, read_number}
pub use Rattle.row_decoding.specs.TableRows.{catalogue_in, containers_in, desk_in, places_in, readers_in, then_by}
pub use Rattle.integrity_checks.specs.CatalogueChecks.{catalogue_defect, containers_are_defective}
pub use Rattle.integrity_checks.specs.CatalogueChecks.{elements_are_defective, units_are_defective}
pub use Rattle.integrity_checks.specs.CatalogueJudgments.{are_good_unit_numbers, defect_of_contents, good_containers_in}
pub use Rattle.integrity_checks.specs.CatalogueJudgments.{good_housings_in, number_of_containers}
pub use Rattle.integrity_checks.specs.DeskChecks.{around_in, defect_of_desk, defect_of_orders, defect_of_past}
pub use Rattle.integrity_checks.specs.DeskChecks.{holdings_are_defective, orders_are_defective, runs_are_defective}
pub use Rattle.integrity_checks.specs.DeskJudgments.{AreOrdersOf, defect_beside_readers, good_holdings_in}
pub use Rattle.integrity_checks.specs.DeskJudgments.{good_permits_in, good_runs_in, good_seats_in}
pub use Rattle.integrity_checks.specs.HousingPlaces.{AreSummedUp, are_filled, higher, row_of_housed}
pub use Rattle.integrity_checks.specs.PlaceChecks.{AreAscending, AreChecked, AreUnitsPlaced, places_are_defective}
pub use Rattle.integrity_checks.specs.ReaderRows.{are_reader_answers, are_registered_well, is_reader_answer}
pub use Rattle.integrity_checks.specs.ReaderRows.{is_reader_with, number_registered, readers_are_defective}
pub use Rattle.integrity_checks.specs.ScanAnswers.{are_container_answers, described_in_answer, housing_in_answer}
pub use Rattle.integrity_checks.specs.ScanAnswers.{is_container_answer, is_described, is_element_answer, is_good_value}
pub use Rattle.integrity_checks.specs.ScanAnswers.{is_placed, read_described, read_placed}
pub use Rattle.integrity_checks.specs.declared.checked_places.Placed.{Placed}
