-- The names that several proofs of this crate cite, passed on from one place. Declares nothing.
pub use Rattle.std.proofs.lemmas.Bool.{and_cases, and_parts, cases_Bool, cases_eq, cases_lt, eq-eqb, eqb-true}
pub use Rattle.std.proofs.lemmas.Bool.{false≢true, le-ltb, leb-false, leb-true, ltb-false, ltb-true, not-true, or_cases}
pub use Rattle.std.proofs.lemmas.Bool.{or_from, or_parts, true≢false}
pub use Rattle.std.proofs.lemmas.List.Sorted.{IsPermutation-map, IsPermutation-sym, IsPermutation-trans}
pub use Rattle.std.proofs.lemmas.List.Sorted.{length_permutation}
pub use Rattle.std.specs.List.{AllByRecursion, cons_option, flat_map, list_any}
pub use Rattle.std.specs.List.Sorted.{IsPermutation}
pub use Rattle.std.specs.Option.{option_map_or}
pub use Rattle.std.specs.Ordering.{int_cmp}
pub use Rattle.std.specs.Prelude.{IfOk, IsErr, IsErrAnd, IsUtf8, ⊤}
pub use Rattle.sqlite.specs.Effect.{Database, IsDatabase, RefusesQuery, RefusesToRead}
pub use Rattle.sqlite.specs.Held.{Held, state}
pub use Rattle.sqlite.specs.Ops.{is_null}
pub use Rattle.sqlite.specs.Order.{Row, column}
pub use Rattle.sqlite.specs.Schema.{Schema}
pub use Rattle.sqlite.specs.State.{Fails, HasCleanDisk, IsLive, IsNoStatement, IsUnchanged, Survives}
pub use Rattle.sqlite.specs.Table.{Table}
pub use Rattle.sqlite.specs.Tree.{IsAscending, IsTable, Trees, rowid}
pub use Rattle.sqlite.specs.declared.types.Value.{Value}
pub use Rattle.sqlite.specs.declared.types.Value.TheVariants.{Blob, Int, Null, Real, Text}
pub use Rattle.sqlite_schema.specs.Rules.{Obeys, agree, are_typed, clashes, guards, has_computed, passes}
pub use Rattle.sqlite_schema.specs.declared.schema.Constraint.TheVariants.{Datatype, Unique}
pub use Rattle.sqlite_trees.proofs.ListLemmas.{IsPermutation-filter, all_both, all_weaker, filter_all, filter_none}
pub use Rattle.sqlite_trees.proofs.ListLemmas.{map-map}
pub use Rattle.sqlite_trees.specs.View.{is_int}
pub use Rattle.sqlite_value.proofs.OrderLemmas.{then-Equal, value_cmp-Int}
pub use Rattle.sqlite_value.specs.Keys.{ascending, plain}
pub use Rattle.sqlite_value.specs.Order.{value_cmp}
pub use Rattle.isad_core.specs.Words.{are_numbered_from, is_between}
pub use Rattle.tree_core.proofs.Lists.{In-permutation, eqb_comm}
pub use Rattle.tree_core.specs.Forest.{Empty, Forest, Node, each, nodes}
pub use Rattle.desk_core.proofs.OrderLemmas.{in_order-permutation}
pub use Rattle.desk_core.specs.DeskCauses.{AreInOrder, Around, MeetsDeskKeys, are_good_holdings, are_good_orders}
pub use Rattle.desk_core.specs.DeskCauses.{are_good_readers, are_good_runs, holdings_are_bad, orders_are_bad}
pub use Rattle.desk_core.specs.DeskCauses.{readers_are_bad, runs_are_bad}
pub use Rattle.desk_core.specs.DeskRows.{Desk, HoldingRow, OrderRow, PermitRow, ReaderRow, RunLineRow, RunRow, SeatRow}
pub use Rattle.desk_core.specs.Orders.{in_order, put_in_order}
pub use Rattle.catalogue_core.specs.CatalogueCauses.{MeetsCatalogueKeys, are_good_places, containers_are_bad}
pub use Rattle.catalogue_core.specs.CatalogueCauses.{elements_are_bad, is_housed_alike, is_named_alike}
pub use Rattle.catalogue_core.specs.CatalogueCauses.{is_same_container, is_same_element, is_same_place, place_numbers}
pub use Rattle.catalogue_core.specs.CatalogueCauses.{places_are_bad, units_are_bad}
pub use Rattle.catalogue_core.specs.CatalogueRows.{CatalogueRows, ContainerRow, ElementRow, HousingRow, OfficeRow}
pub use Rattle.catalogue_core.specs.CatalogueRows.{UnitRow, after_level, box_from, element_rows_from, housing_row}
pub use Rattle.catalogue_core.specs.CatalogueRows.{places_said, unit_row}
pub use Rattle.catalogue_core.specs.Units.{Unit, has_id}
pub use Rattle.office_tables.proofs.Calls.{cut_after, cut_then, early, looks_then, stopped, unchanged_on}
pub use Rattle.office_tables.proofs.CellTexts.{from_first, says_nothing, says_text}
pub use Rattle.office_tables.proofs.numbered.Counted.{counted_rises, less_below}
pub use Rattle.office_tables.specs.CatalogueCells.{read_container, read_element, read_housing, read_link, read_office}
pub use Rattle.office_tables.specs.CatalogueCells.{read_span, read_unit}
pub use Rattle.office_tables.specs.Cells.{flag_in, from, has_unread, number_in, or_null_in, text_in, whole_in}
pub use Rattle.office_tables.specs.DeskCells.{read_holding, read_order, read_permit, read_reader, read_run}
pub use Rattle.office_tables.specs.DeskCells.{read_run_line, read_seat}
pub use Rattle.office_tables.specs.Faults.{BlamesDisk, HasCause, HasOuterCause, IsUnlimited, fault_of}
pub use Rattle.office_tables.specs.Order.{Rises}
pub use Rattle.office_tables.specs.Permits.{permit_cells}
pub use Rattle.office_tables.specs.RowCells.{container_cells, element_cells, holding_cells, housing_cells, link_cells}
pub use Rattle.office_tables.specs.RowCells.{order_cells, reader_cells, run_cells, run_line_cells, seat_cells}
pub use Rattle.office_tables.specs.RowCells.{span_cells, unit_cells}
pub use Rattle.office_tables.specs.RowNumbers.{AreByNumber, AreCountedFrom, HasNumbered}
pub use Rattle.office_tables.specs.Schema.{desk_schema, desk_tables, no_schema, office, schema}
pub use Rattle.office_tables.specs.SharedRows.{office_cells}
pub use Rattle.office_tables.specs.Step.{IsAborted, IsSame, LeavesUnchanged, Spares}
pub use Rattle.office_tables.specs.Versions.{First, Second, Version, encoding, newest, version_number}
pub use Rattle.office_tables.specs.declared.fault.StoreFault.{StoreFault}
pub use Rattle.catalogue_statements.specs.Representation.{RepresentsCatalogue, RepresentsContainers, RepresentsElements}
pub use Rattle.catalogue_statements.specs.Representation.{RepresentsHousings, RepresentsLinkRows, RepresentsOffice}
pub use Rattle.catalogue_statements.specs.Representation.{RepresentsUnits, element_number, elements_of, housing_places}
pub use Rattle.catalogue_statements.specs.Representation.{numbered_containers, numbered_texts, texts_from}
pub use Rattle.catalogue_statements.specs.Rows.{by_number, cells_of_unit, counted_from}
pub use Rattle.row_decoding.proofs.ToldCells.{is_flag, is_number, is_or_null, is_text, is_whole}
pub use Rattle.row_decoding.specs.TableRows.{by, places_are_unread, places_in, then_by}
pub use Rattle.row_completeness.proofs.KeptRows.{has_numbered, rows_kept, rows_rise, whole_row}
pub use Rattle.row_completeness.proofs.UniqueRows.{KeysDiffer, distinct_numbers, distinct_pairs, keys_differ}
pub use Rattle.row_completeness.proofs.UniqueRows.{read_pairs, stay_in_order}
pub use Rattle.row_completeness.specs.WholeRows.{AreWholeTables, IsWholeTable}
pub use Rattle.office_core.specs.Soundness.{is_country, is_repository}
pub use Rattle.state_encoding.proofs.CellCauses.{cells_are_said, legible_rows}
pub use Rattle.state_encoding.proofs.DeskParts.{OrdersParts, ReaderParts, not_bad, orders_parts, reader_parts}
pub use Rattle.state_encoding.proofs.DeskParts.{said_container}
pub use Rattle.state_encoding.proofs.Judging.{hold_none, none_before, none_held}
pub use Rattle.state_encoding.proofs.Members.{all_in, all_of_in, any_of_in, in_flat_map, in_map, some_in, test_in}
pub use Rattle.state_encoding.proofs.SaidRuns.{RunParts, lines_again, run_days, run_parts, runs_again, said_runs}
pub use Rattle.state_encoding.specs.Causes.{around, catalogue_cause, catalogue_tests, day_is_broken, desk_tests}
pub use Rattle.state_encoding.specs.Causes.{first_held, is_good_office, office_is_bad}
pub use Rattle.state_encoding.specs.CellCauses.{cell_cause, either_of, no_office, rows_in, unread}
pub use Rattle.state_encoding.specs.OfficeRows.{OfficeRows, state_of, tables, unit_from, unit_from_rows}
pub use Rattle.state_encoding.specs.OfficeRows.{values_from_rows}
pub use Rattle.adoption.specs.Catalogue.{RepresentsItsCatalogue, described_state}
pub use Rattle.adoption.specs.DeskCheck.{AreOfOffice, DeskChecksTellTheCause, catalogue_cell_cause, of_desk}
pub use Rattle.adoption.specs.Judgments.{HasGoodCatalogueTables, Judges}
pub use Rattle.adoption.specs.OrderedTables.{StandInOrder, StandsInOrder}
pub use Rattle.adoption.specs.OwnRows.{AreOwnRows, are_good_numbers, office_cells_back, office_is_defective}
pub use Rattle.adoption.specs.OwnRows.{office_numbers, own_from, own_judged, own_of, own_row_of}
pub use Rattle.adoption.specs.SoundTables.{AreGoodTables, AreSoundTables}
pub use Rattle.adoption.specs.Tables.{GoodTablesRepresentTheirState, IsSoundButForTheDay, RepresentsAGoodState}
pub use Rattle.adoption.specs.Tables.{RepresentsItsState}
pub use Rattle.adoption.specs.Verdicts.{IsVersionVerdict, verdict_of_version}
pub use Rattle.adoption.specs.Versions.{AreVersions, CannotTell, IsToldVersion, ShowsVersions, TellsNoOther}
pub use Rattle.adoption.specs.Versions.{TellsVersion, version_text}
pub use Rattle.adoption.specs.declared.own_row.OwnRow.{OwnRow}
