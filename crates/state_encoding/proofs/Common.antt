-- The names that several proofs of this crate cite, passed on from one place. Declares nothing.
pub use Rattle.std.proofs.Math.Path.{fun_ext}
pub use Rattle.std.proofs.lemmas.Bool.{and_from, and_left, and_parts, and_right, cases_Bool, cases_eq, cases_lt, eq-eqb}
pub use Rattle.std.proofs.lemmas.Bool.{eqb-true, false_from_ne_true, false≢true, le-leb, le-ltb, leb-true, lt-ltb}
pub use Rattle.std.proofs.lemmas.Bool.{ltb-false, ltb-true, not-false, not-true, not_from_false, not_from_true}
pub use Rattle.std.proofs.lemmas.Bool.{or_cases, or_from, or_left, or_parts, or_right}
pub use Rattle.std.proofs.lemmas.List.{append-nil, length-map, map-append, map-id}
pub use Rattle.std.proofs.lemmas.List.Concat.{flat_map-cons}
pub use Rattle.std.proofs.lemmas.List.Elements.{filter-append}
pub use Rattle.std.proofs.lemmas.List.Folds.{flat_map-map, list_all-append, list_all-map}
pub use Rattle.std.proofs.lemmas.List.Sorted.{IsPermutation-append, IsPermutation-filter_both, IsPermutation-map}
pub use Rattle.std.proofs.lemmas.List.Sorted.{IsPermutation-refl, IsPermutation-sym, IsPermutation-trans}
pub use Rattle.std.proofs.lemmas.List.Sorted.{length_permutation, list_any-IsPermutation, sum_by-IsPermutation}
pub use Rattle.std.proofs.lemmas.List.Sums.{length-filter}
pub use Rattle.std.proofs.lemmas.Map.Keys.{IsDistinct-IsPermutation}
pub use Rattle.std.specs.List.{AllByRecursion, cons_option, flat_map, list_all, list_any}
pub use Rattle.std.specs.List.Sorted.{IsPermutation}
pub use Rattle.std.specs.Option.{option_map_or, option_to_list}
pub use Rattle.std.specs.Ordering.{int_cmp, int_eq}
pub use Rattle.std.specs.Prelude.{IfSome, count_by, filter, find, int_le, is_none, is_some, nat_le, option_and_then}
pub use Rattle.std.specs.Prelude.{option_map, slice_get, ⊤, ◌≤ℤ◌}
pub use Rattle.sqlite.specs.Order.{Row, column}
pub use Rattle.sqlite.specs.Tree.{Trees}
pub use Rattle.isad_core.proofs.DayLemmas.{is_day_number-so, is_day_number-true}
pub use Rattle.isad_core.specs.Boxes.{distinct, is_same_box}
pub use Rattle.isad_core.specs.Days.{IsDayNumber, is_day_number}
pub use Rattle.isad_core.specs.Limits.{most_bytes, most_containers, most_daily, most_deep, most_hands, most_orders}
pub use Rattle.isad_core.specs.Limits.{most_permits, most_run_size, most_runs, most_seats, most_tickets}
pub use Rattle.isad_core.specs.Limits.{most_unit_numbers, most_units}
pub use Rattle.isad_core.specs.Texts.{Bytes, is_blank_text}
pub use Rattle.isad_core.specs.Words.{are_numbered_from}
pub use Rattle.isad_core.specs.declared.values.BoxKey.{BoxKey}
pub use Rattle.tree_core.proofs.EachLemmas.{nodes-each}
pub use Rattle.tree_core.proofs.Linking.{held_without_fault, link_faultless, no_link_fault}
pub use Rattle.tree_core.proofs.Lists.{In, In-append, In-append_left, In-append_right, In-map, In-permutation}
pub use Rattle.tree_core.proofs.Lists.{any_from_In, distinct_cons, eqb_comm, find_none, find_some, head_apart}
pub use Rattle.tree_core.proofs.Lists.{list_any-map}
pub use Rattle.tree_core.proofs.Lookups.{any_passes, fits_all}
pub use Rattle.tree_core.proofs.Reading.{faultless, fills, no_fault, shown_without_fault}
pub use Rattle.tree_core.specs.Encodings.{Links, Spans, TreeEncoding}
pub use Rattle.tree_core.specs.Forest.{Empty, Forest, Node, each, nodes, size}
pub use Rattle.tree_core.specs.Links.{HoldsLinks, rows_below, siblings}
pub use Rattle.tree_core.specs.Spans.{RepresentsSpans, spans_from}
pub use Rattle.tree_core.specs.declared.rows.Link.{Link}
pub use Rattle.tree_core.specs.declared.rows.Span.{Span}
pub use Rattle.desk_core.specs.Decisions.{is_desk, order_out}
pub use Rattle.desk_core.specs.DeskCauses.{AreInOrder, Around, MeetsDeskKeys, are_good_holdings, are_good_orders}
pub use Rattle.desk_core.specs.DeskCauses.{are_good_readers, are_good_runs, are_twice, has_its_holding}
pub use Rattle.desk_core.specs.DeskCauses.{holdings_are_bad, is_at_desk, is_good_holding, is_good_line, is_good_order}
pub use Rattle.desk_core.specs.DeskCauses.{is_good_permit, is_good_reader, is_good_run, is_good_seat, is_holding_of}
pub use Rattle.desk_core.specs.DeskCauses.{is_live, is_of_the_day, is_order_of_line, is_out_order, is_out_well}
pub use Rattle.desk_core.specs.DeskCauses.{is_registered, orders_are_bad, readers_are_bad, runs_are_bad}
pub use Rattle.desk_core.specs.DeskRows.{HoldingRow, OrderRow, PermitRow, ReaderRow, RunLineRow, RunRow, SeatRow}
pub use Rattle.desk_core.specs.DeskRows.{waiting_for, with_state}
pub use Rattle.desk_core.specs.Orders.{put_in_order}
pub use Rattle.desk_core.specs.declared.reader.Place.{Place}
pub use Rattle.desk_core.specs.declared.reader.Place.TheVariants.{Out, Shelf}
pub use Rattle.catalogue_core.proofs.EachOf.{all_append}
pub use Rattle.catalogue_core.proofs.Imported.{distinct_again, distinct_filter, same_box}
pub use Rattle.catalogue_core.proofs.ImportedAgain.{box_itself}
pub use Rattle.catalogue_core.specs.CatalogueCauses.{ArePlacesOf, MeetsCatalogueKeys, all_stand_in}
pub use Rattle.catalogue_core.specs.CatalogueCauses.{are_good_container_rows, are_good_places, are_good_units}
pub use Rattle.catalogue_core.specs.CatalogueCauses.{containers_are_bad, elements_are_bad, is_good_element}
pub use Rattle.catalogue_core.specs.CatalogueCauses.{is_good_housing, is_good_link, is_good_span, is_good_unit_row}
pub use Rattle.catalogue_core.specs.CatalogueCauses.{is_housed_alike, is_named_alike, is_place_number}
pub use Rattle.catalogue_core.specs.CatalogueCauses.{is_same_container, is_same_element, is_same_place, is_some_day}
pub use Rattle.catalogue_core.specs.CatalogueCauses.{is_unit_number, place_numbers, places_are_bad, unit_numbers}
pub use Rattle.catalogue_core.specs.CatalogueCauses.{units_are_bad}
pub use Rattle.catalogue_core.specs.CatalogueMerge.{box_number, number_among}
pub use Rattle.catalogue_core.specs.CatalogueRows.{CatalogueRows, ContainerRow, ElementRow, HousingRow, LinkRows}
pub use Rattle.catalogue_core.specs.CatalogueRows.{OfficeRow, PlaceRows, SpanRows, UnitRow, after_level, box_from}
pub use Rattle.catalogue_core.specs.CatalogueRows.{container_row, element_rows_from, forest_of_links, forest_of_spans}
pub use Rattle.catalogue_core.specs.CatalogueRows.{grow, housing_row, housings_of, place_rows, places_said, text_said}
pub use Rattle.catalogue_core.specs.CatalogueRows.{unit_row}
pub use Rattle.catalogue_core.specs.GoodCatalogues.{AreGoodUnits, IsGoodUnit, IsSomeDay, is_good_text, is_same_unit}
pub use Rattle.catalogue_core.specs.Members.{StandsIn}
pub use Rattle.catalogue_core.specs.Moves.{height}
pub use Rattle.catalogue_core.specs.Sources.{is_source}
pub use Rattle.catalogue_core.specs.UnitLookup.{has_unit}
pub use Rattle.catalogue_core.specs.Units.{Unit, has_id}
pub use Rattle.office_tables.proofs.CellTexts.{all_read, from_first, is_text, says_nothing, says_text}
pub use Rattle.office_tables.specs.CatalogueCells.{read_container, read_element, read_housing, read_link, read_office}
pub use Rattle.office_tables.specs.CatalogueCells.{read_span, read_unit}
pub use Rattle.office_tables.specs.Cells.{flag_in, from, has_unread, number_in, or_null_in, text_in, whole_in}
pub use Rattle.office_tables.specs.DeskCells.{read_holding, read_order, read_permit, read_reader, read_run}
pub use Rattle.office_tables.specs.DeskCells.{read_run_line, read_seat}
pub use Rattle.office_tables.specs.Permits.{permit_cells}
pub use Rattle.office_tables.specs.SharedRows.{office_cells}
pub use Rattle.office_tables.specs.Versions.{Version, encoding, version_number}
pub use Rattle.office_core.proofs.Counts.{none_to, numbered_from_one}
pub use Rattle.office_core.proofs.Filed.{IsOutWith, IsPast, IsWaitingFor, OnlyMoves, filed_out, filed_past}
pub use Rattle.office_core.proofs.Filed.{filed_waiting, is_issued, no_order, only_issues, out_with, waiting}
pub use Rattle.office_core.proofs.OrderLaws.{goes_same, out_stands, stands_out, stands_past, stands_waiting}
pub use Rattle.office_core.proofs.OrderLaws.{waiting_stands}
pub use Rattle.office_core.proofs.Words.{ascending-push, below_none, numbered_within, other_number, same_number}
pub use Rattle.office_core.proofs.Words.{stands-push}
pub use Rattle.office_core.specs.Laws.{Ended, Standing, Waiting, WithItsReader, numbers_from, standing, stands_as}
pub use Rattle.office_core.specs.Rules.{Reply, is_name, issued, step}
pub use Rattle.office_core.specs.SoundDesk.{AreFiled, AreGoodOrders, AreGoodPermits, AreGoodPlaces, AreGoodReaders}
pub use Rattle.office_core.specs.SoundDesk.{AreGoodRuns, AreGoodSeats, ByContainer, ByUnit, ExactlyOne, IsAscending}
pub use Rattle.office_core.specs.SoundDesk.{IsFiled, IsGoodLine, IsGoodOrder, IsGoodRun, IsSoundDesk, SitOnce}
pub use Rattle.office_core.specs.SoundDesk.{is_out_for}
pub use Rattle.office_core.specs.SoundOffice.{AreTexts, IsSoundOffice}
pub use Rattle.office_core.specs.Soundness.{AreGoodSettings, ArePermitsOfUnits, IsSound, is_country, is_repository}
pub use Rattle.office_core.specs.State.{Cancelled, Done, End, Line, Order, Permit, Reader, Run, State, container_of}
pub use Rattle.office_core.specs.State.{containers, held_count, is_by, is_container, is_seat_of, is_seated, is_ticket}
pub use Rattle.office_core.specs.State.{opens}
pub use Rattle.office_core.specs.Words.{first, nth, numbers_to, some_and}
pub use Rattle.state_encoding.specs.Causes.{around, catalogue_cause, catalogue_tests, cause, day_is_broken, desk_tests}
pub use Rattle.state_encoding.specs.Causes.{first_held, holder_of, holds_well, is_container_there, is_good_office}
pub use Rattle.state_encoding.specs.Causes.{is_held_against_rules, is_unit_there, office_is_bad}
pub use Rattle.state_encoding.specs.CellSoundness.{AreLegibleRows, CellsDescribeASoundState, CellsHaveNoCause}
pub use Rattle.state_encoding.specs.CellSoundness.{IsLegibleContainerRow, IsLegibleUnitRow}
pub use Rattle.state_encoding.specs.CellsOfOffices.{HasPlaces, HasRowsInAnyOrder, HasTables, IsRead}
pub use Rattle.state_encoding.specs.CellsOfOffices.{IsRepresentedByTrees, SoundOfficesAreRead, SoundOfficesAreTold}
pub use Rattle.state_encoding.specs.CellsOfOffices.{TablesDescribe, container_cells, element_cells, holding_cells}
pub use Rattle.state_encoding.specs.CellsOfOffices.{housing_cells, link_cells, order_cells, reader_cells, run_cells}
pub use Rattle.state_encoding.specs.CellsOfOffices.{run_line_cells, seat_cells, span_cells, unit_cells}
pub use Rattle.state_encoding.specs.DeskEncoding.{OneRowChanges, ReadsBack, end_of_state, holding_row, holding_rows}
pub use Rattle.state_encoding.specs.DeskEncoding.{lines_from, order_from, order_row, order_rows, past_in, permit_row}
pub use Rattle.state_encoding.specs.DeskEncoding.{permit_rows, place_from, place_in, reader_from, reader_row}
pub use Rattle.state_encoding.specs.DeskEncoding.{reader_rows, rows_from, run_line_row, run_line_rows, run_row}
pub use Rattle.state_encoding.specs.DeskEncoding.{run_rows, seat_rows, seat_rows_from, state_number}
pub use Rattle.state_encoding.specs.DeskSoundness.{HasGoodCatalogueRows, HasNoDeskCause, PassesAtTheDesk}
pub use Rattle.state_encoding.specs.DeskSoundness.{PassingRowsAreSound, SoundTablesPass}
pub use Rattle.state_encoding.specs.OfficeRows.{OfficeRows, SaysAllButUnits, SaysUnits, box_at, boxes_from}
pub use Rattle.state_encoding.specs.OfficeRows.{boxes_from_rows, line_from, permits_from_rows, run_from}
pub use Rattle.state_encoding.specs.OfficeRows.{seats_from_rows, state_of, tables, unit_from, unit_from_rows}
pub use Rattle.state_encoding.specs.OfficeRows.{unit_number, values_from_rows}
pub use Rattle.state_encoding.specs.RowSoundness.{HasNoCatalogueCause, HasNoCause, IsCatalogueOf, IsSoundCatalogue}
pub use Rattle.state_encoding.specs.RowSoundness.{SaysASoundState, SaysTheCatalogue}
