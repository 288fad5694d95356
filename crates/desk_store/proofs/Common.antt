-- The names that several proofs of this crate cite, passed on from one place. Declares nothing.
pub use Rattle.std.proofs.Math.Nat.{le_refl}
pub use Rattle.std.proofs.lemmas.Bool.{and_right, cases_Bool, eq-eqb, eqb-true, lt-ltb, ltb-true, or_from, or_right}
pub use Rattle.std.proofs.lemmas.Bool.Decides.{nat_tests}
pub use Rattle.std.proofs.lemmas.List.{append-nil, append_assoc, get_or-map, length-append, length-map, map-append}
pub use Rattle.std.proofs.lemmas.List.{map_more, take-map, take_all, take_more}
pub use Rattle.std.proofs.lemmas.List.Elements.{All-from_recursion, filter-append, filter_map-append}
pub use Rattle.std.proofs.lemmas.List.Elements.{recursion_from_All}
pub use Rattle.std.proofs.lemmas.Result.{IfOk-weaker}
pub use Rattle.std.specs.Cmp.{IsTotalOrder, int_cmp_total, on_total, tied_itself}
pub use Rattle.std.specs.List.{AllByRecursion, AllZip, cons_option, count_by, filter_map, list_all, list_any}
pub use Rattle.std.specs.List.Sorted.{IsPermutation, IsSorted}
pub use Rattle.std.specs.Ordering.{int_cmp, int_eq, is_eq, is_lt, nat_cmp, ordering_then}
pub use Rattle.std.specs.Prelude.{IfSome, IsOk, IsUtf8, is_some, nat_lt, option_map, slice_get, ⊤}
pub use Rattle.sqlite.specs.Cast.{cast_row}
pub use Rattle.sqlite.specs.Collation.TheVariants.{Binary}
pub use Rattle.sqlite.specs.Command.{Command}
pub use Rattle.sqlite.specs.Command.TheVariants.{Delete, Insert, Select, Update}
pub use Rattle.sqlite.specs.Edit.{edit_of, next_rowid}
pub use Rattle.sqlite.specs.Effect.{Database, value_rows}
pub use Rattle.sqlite.specs.Held.{Held, state}
pub use Rattle.sqlite.specs.Order.{Row, column}
pub use Rattle.sqlite.specs.Rowids.TheVariants.{Chosen}
pub use Rattle.sqlite.specs.Source.TheVariants.{Values}
pub use Rattle.sqlite.specs.State.{HasCleanDisk, IsLive, Shown, State, Survives}
pub use Rattle.sqlite.specs.Term.{Term, col, lit, op2}
pub use Rattle.sqlite.specs.Tree.{Trees, put_row, rowid}
pub use Rattle.sqlite.specs.Values.{or_null}
pub use Rattle.sqlite.specs.declared.types.Value.TheVariants.{Int, Null, Text}
pub use Rattle.sqlite_rules.proofs.ListLemmas.{all_has, has_filtered, some_from}
pub use Rattle.sqlite_schema.specs.Rules.{agree, has_null, has_parent, is_key_of, references_fit}
pub use Rattle.sqlite_sql.specs.declared.ops.BinaryOp.TheVariants.{Compare}
pub use Rattle.sqlite_sql.specs.declared.ops.CompareOp.TheVariants.{Eq, Lt}
pub use Rattle.sqlite_trees.proofs.ListLemmas.{all-append, all-filter, all-get_or, all-map, all_from_map, all_of}
pub use Rattle.sqlite_trees.proofs.ListLemmas.{all_weaker, ascending-filter, ascending-map, filter-map, map-map}
pub use Rattle.sqlite_value.specs.Keys.{ascending, plain}
pub use Rattle.sqlite_value.specs.declared.keys.Key.{Key}
pub use Rattle.isad_core.specs.Days.{is_day_number}
pub use Rattle.isad_core.specs.Limits.{most_orders, most_runs, most_tickets}
pub use Rattle.isad_core.specs.declared.values.BoxKey.{BoxKey}
pub use Rattle.desk_core.specs.DeskRows.{Desk, HoldingRow, OrderRow, PermitRow, ReaderRow, RunLineRow, RunRow, SeatRow}
pub use Rattle.desk_core.specs.DeskRows.{with_state}
pub use Rattle.desk_core.specs.declared.reader.Place.{Place}
pub use Rattle.desk_core.specs.declared.reader.Place.TheVariants.{Out, Shelf}
pub use Rattle.office_tables.proofs.CallEnds.{excused_then, same_fault}
pub use Rattle.office_tables.proofs.Calls.{continues_then, cut_after, cut_looks, cut_then, early, goes_then}
pub use Rattle.office_tables.proofs.Calls.{looks_nowhere, looks_then, on_err_then, on_ok_both, on_ok_from, on_ok_then}
pub use Rattle.office_tables.proofs.Casts.{bound_maybe, cast_int, cast_maybe, cast_null}
pub use Rattle.office_tables.proofs.Causes.{none_refuse, read_cause, still_unlimited, sums_nothing}
pub use Rattle.office_tables.proofs.InsertCauses.{IsWelcome}
pub use Rattle.office_tables.proofs.KnownStatements.{known_change, known_query}
pub use Rattle.office_tables.proofs.LaterCauses.{last_cause, next_cause}
pub use Rattle.office_tables.proofs.Puts.{has_at, put_rises, put_rows}
pub use Rattle.office_tables.proofs.Queries.{asking, choosing}
pub use Rattle.office_tables.proofs.Reading.{first_shown}
pub use Rattle.office_tables.proofs.Rows.{had, kept_all}
pub use Rattle.office_tables.proofs.Sorted.{only_order}
pub use Rattle.office_tables.proofs.Sparing.{last_touched, looked_spares, own_last, spares_full, spares_known}
pub use Rattle.office_tables.proofs.Sparing.{spares_own, untouched, untouched_last, wider_last}
pub use Rattle.office_tables.proofs.StatementEnds.{answered, caused, changes, done, looks_up, puts_numbered, puts_row}
pub use Rattle.office_tables.proofs.StatementEnds.{thins, thins_numbered}
pub use Rattle.office_tables.proofs.StoreCalls.{makes_cut, makes_well, tells_cut, tells_not}
pub use Rattle.office_tables.proofs.Tests.{both, by_one_int, by_two_ints, either_first, eq_ints, flag, only}
pub use Rattle.office_tables.proofs.Tests.{same_number}
pub use Rattle.office_tables.proofs.Touching.{touched_again, touched_wider}
pub use Rattle.office_tables.proofs.numbered.Counted.{counted_again, counted_free, counted_more, counted_rises}
pub use Rattle.office_tables.proofs.numbered.Counted.{less_below, put_end}
pub use Rattle.office_tables.proofs.numbered.OwnNumbers.{all_numbered, one_at_end, one_more, still_numbered, those_left}
pub use Rattle.office_tables.proofs.numbered.OwnNumbers.{told_permuted}
pub use Rattle.office_tables.proofs.statements.DeleteOf.{delete_faults, delete_leaves}
pub use Rattle.office_tables.proofs.statements.InsertOf.{insert_faults, insert_puts}
pub use Rattle.office_tables.proofs.statements.LastOf.{last_faults, last_finds, last_of}
pub use Rattle.office_tables.proofs.statements.LeafOf.{office_kept, permit_alone, permit_fits, seat_alone, seat_fits}
pub use Rattle.office_tables.proofs.statements.OnlyOf.{delete_only, update_only}
pub use Rattle.office_tables.proofs.statements.SelectOf.{select_faults, select_finds}
pub use Rattle.office_tables.proofs.statements.UpdateOf.{update_faults, update_leaves}
pub use Rattle.office_tables.proofs.statements.WelcomeOf.{next_welcome, none_agrees, number_welcome}
pub use Rattle.office_tables.specs.Calls.{Answers, StoreAnswers, StoreUpdates, Updates}
pub use Rattle.office_tables.specs.ChangeStatement.{Leaves, Ran}
pub use Rattle.office_tables.specs.Faults.{FaultsHaveCause, HasCause, IsUnlimited}
pub use Rattle.office_tables.specs.Order.{IsOrdered}
pub use Rattle.office_tables.specs.Permits.{permit_cells}
pub use Rattle.office_tables.specs.Query.{Finds, FindsFirst, Misses}
pub use Rattle.office_tables.specs.RowNumbers.{AreByNumber, AreCounted, HasNumbered}
pub use Rattle.office_tables.specs.Schema.{container, desk_schema, holding, no_schema, office, orders, permit, reader}
pub use Rattle.office_tables.specs.Schema.{run, run_line, schema, seat, to_unit, unit}
pub use Rattle.office_tables.specs.SharedRows.{OfficeRow, numbered_container_cells, office_cells}
pub use Rattle.office_tables.specs.StatementMeaning.{Means}
pub use Rattle.office_tables.specs.Step.{Continues, Goes, HasRows, Holds, IsAborted, IsSame, LeavesUnchanged}
pub use Rattle.office_tables.specs.Step.{OnlyTouches, PutsRow, Spares}
pub use Rattle.office_tables.specs.Versions.{First, Second, Version}
pub use Rattle.office_tables.specs.declared.fault.StoreFault.{StoreFault}
pub use Rattle.desk_store.specs.Holdings.{at_desk_of, candidates_of, firsts_of, is_first_waiting, is_held, is_on_shelf}
pub use Rattle.desk_store.specs.Holdings.{is_one_of, issued_among, issued_by, line_of, lines_among, loan_by, loans_in}
pub use Rattle.desk_store.specs.Holdings.{on_shelf, put_down, waits_for, with_place}
pub use Rattle.desk_store.specs.Orders.{IsAt, IsNextOrder, IsThere, holding_of, order_state_number, order_with}
pub use Rattle.desk_store.specs.Orders.{queue_of, with_order, with_order_state}
pub use Rattle.desk_store.specs.Permits.{HasUnitRow, MayHave, by_permitted_unit, desk_with_permit, desk_without_permit}
pub use Rattle.desk_store.specs.Permits.{is_permit, permits_of, with_permit_row, without_permit}
pub use Rattle.desk_store.specs.Readers.{card_of, has_not_ended, held_with, next_ticket, orders_not_ended, placed_on}
pub use Rattle.desk_store.specs.Readers.{reader_with, renewed_readers, seat_of_ticket, ticket_holder, with_reader}
pub use Rattle.desk_store.specs.Representation.{IsKnownPlace, IsLegible, IsLegibleHolding, IsLegibleOrder}
pub use Rattle.desk_store.specs.Representation.{IsLegibleReader, IsNumberOf, RepresentsDesk, RepresentsDeskAlone}
pub use Rattle.desk_store.specs.Rows.{holding_cells, order_cells, reader_cells, run_cells, run_line_cells, seat_cells}
pub use Rattle.desk_store.specs.RunCandidates.{is_earliest}
pub use Rattle.desk_store.specs.Runs.{TakesEachOnce, line_of_run, lines_of, next_run, run_with, with_run}
pub use Rattle.desk_store.specs.Storage.{AreKnown, IsHeaded, IsKnownLine, IsQueued, IsToldLine, IsToldRun}
pub use Rattle.desk_store.specs.Storage.{RepresentsQueues, Storage, container_with}
pub use Rattle.desk_store.specs.declared.container_orders.ContainerOrder.{ContainerOrder}
pub use Rattle.desk_store.specs.declared.loans.HoldingLine.{HoldingLine}
pub use Rattle.desk_store.specs.declared.reader_summary.OrderLine.{OrderLine}
