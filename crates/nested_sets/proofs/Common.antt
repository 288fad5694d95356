-- The names that several proofs of this crate cite, passed on from one place. Declares nothing.
pub use Rattle.std.proofs.Math.Nat.{le_refl}
pub use Rattle.std.proofs.lemmas.Bool.{and_parts, both_ways, cases_Bool, cases_eq, cases_lt, eq-eqb, eqb-true}
pub use Rattle.std.proofs.lemmas.Bool.{false≢true, le-leb, le-ltb, leb-true, lt-leb, lt-ltb, ltb-false, ltb-true}
pub use Rattle.std.proofs.lemmas.Bool.{ne_eqb, or_from, or_parts, or_right}
pub use Rattle.std.proofs.lemmas.Bool.Decides.{nat_tests}
pub use Rattle.std.proofs.lemmas.List.{drop_all, get_or-map, length-map, length-reverse, map-append, map-id, map_more}
pub use Rattle.std.proofs.lemmas.List.{reverse-append, take_all}
pub use Rattle.std.proofs.lemmas.List.Sorted.{IsNonDecreasingBy-from_all_adjacent, IsPermutation-append_comm}
pub use Rattle.std.proofs.lemmas.List.Sorted.{IsPermutation-append_left, IsPermutation-cons, IsPermutation-filter_both}
pub use Rattle.std.proofs.lemmas.List.Sorted.{IsPermutation-map, IsPermutation-refl, IsPermutation-sym}
pub use Rattle.std.proofs.lemmas.List.Sorted.{IsPermutation-trans, answers_always, list_any-IsPermutation, ranks_by}
pub use Rattle.std.proofs.lemmas.List.Sorted.{searched}
pub use Rattle.std.proofs.lemmas.Result.{IfOk-weaker}
pub use Rattle.std.specs.BTreeMap.{get}
pub use Rattle.std.specs.Cmp.{IsTotalOrder, int_cmp_total, on_total, then_total}
pub use Rattle.std.specs.List.{AllByRecursion, list_all, list_any}
pub use Rattle.std.specs.List.Sorted.{IsNonDecreasing, IsSorted}
pub use Rattle.std.specs.Option.{option_flatten}
pub use Rattle.std.specs.Ordering.{int_cmp, is_eq, is_ge, is_lt, nat_cmp, ord_max, ord_min}
pub use Rattle.std.specs.Prelude.{IfSome, IsErr, ⊤}
pub use Rattle.std.specs.declared.cmp.Ordering.TheVariants.{Greater}
pub use Rattle.sqlite.specs.Cast.{cast_row}
pub use Rattle.sqlite.specs.Change.{KeepsRows, created, indexed}
pub use Rattle.sqlite.specs.Collation.TheVariants.{Binary}
pub use Rattle.sqlite.specs.Command.{Command}
pub use Rattle.sqlite.specs.Command.TheVariants.{CreateIndex, CreateTable, Delete, DropTable, Insert, Select, Update}
pub use Rattle.sqlite.specs.Edit.{edit_of, id_in, is_taken}
pub use Rattle.sqlite.specs.Effect.{Database, IsDatabase, value_rows}
pub use Rattle.sqlite.specs.Held.{Held, state}
pub use Rattle.sqlite.specs.Ops.{is_true}
pub use Rattle.sqlite.specs.Order.{Row, column}
pub use Rattle.sqlite.specs.Query.{Query, end, inner}
pub use Rattle.sqlite.specs.State.{Executes, HasCleanDisk, IsLive, IsMisplaced, MayCommit, Shown, Shows, State}
pub use Rattle.sqlite.specs.State.{Survives, Writes, mode_of}
pub use Rattle.sqlite.specs.Table.{Table}
pub use Rattle.sqlite.specs.Term.{Term, col, eval_all, holds, op2}
pub use Rattle.sqlite.specs.Tree.{IsAscending, Trees, put_row}
pub use Rattle.sqlite.specs.declared.types.Value.TheVariants.{Blob, Int, Null}
pub use Rattle.sqlite_rules.proofs.ListLemmas.{all_from, all_has, has_either, has_filtered, has_found, has_kept}
pub use Rattle.sqlite_rules.proofs.ListLemmas.{has_last, has_left, has_right}
pub use Rattle.sqlite_rules.specs.Lists.{Has}
pub use Rattle.sqlite_sql.specs.declared.ops.BinaryOp.TheVariants.{Arith, Compare}
pub use Rattle.sqlite_sql.specs.declared.ops.CompareOp.TheVariants.{Eq, Ge, Gt, Le, Lt}
pub use Rattle.sqlite_trees.proofs.ListLemmas.{IsPermutation-filter, IsPermutation-flat_map}
pub use Rattle.sqlite_trees.proofs.ListLemmas.{IsPermutation-flat_map_each, all-append, all-filter, all-get_or, all-map}
pub use Rattle.sqlite_trees.proofs.ListLemmas.{all-permutation, all_from_map, all_of, all_weaker, ascending-append}
pub use Rattle.sqlite_trees.proofs.ListLemmas.{ascending-filter, ascending-map, ascending_from_map, ascending_weaker}
pub use Rattle.sqlite_trees.proofs.ListLemmas.{filter-map, filter_all, filter_none, filter_same, flat_map_same_on}
pub use Rattle.sqlite_trees.proofs.ListLemmas.{map-flat_map, map-map, pull_back}
pub use Rattle.sqlite_typing.specs.Types.{accepts_program}
pub use Rattle.sqlite_value.specs.Keys.{ascending}
pub use Rattle.tree_core.proofs.Adding.{Below, Beside, Here, absent, distinct_added, place}
pub use Rattle.tree_core.proofs.Lists.{distinct_cons, eqb_comm, head_apart, is_among, list_any-map}
pub use Rattle.tree_core.proofs.LoopItems.{item_left, item_made, item_taken}
pub use Rattle.tree_core.proofs.NumberingWalk.{branch_none, ids-number}
pub use Rattle.tree_core.proofs.SpanShifts.{distinct_cut, distinct_moved, find_number, inside_tree, number-put_last}
pub use Rattle.tree_core.proofs.SpanShifts.{outside_cut, range, room_low, spans_branch, spans_path}
pub use Rattle.tree_core.specs.Forest.{Empty, Forest, HasDistinctIds, Node, add, branch, cut, each, has, has_place}
pub use Rattle.tree_core.specs.Forest.{move_last, nodes, path, size, tree}
pub use Rattle.tree_core.specs.Lifts.{lifted_row}
pub use Rattle.tree_core.specs.Shifts.{end_of, inside, is_inside, lowered, narrowed, outside, raised, rebased, room}
pub use Rattle.tree_core.specs.Shifts.{spread, start_of, widened}
pub use Rattle.tree_core.specs.Spans.{RepresentsSpans, spans_from}
pub use Rattle.tree_core.specs.Tops.{last_but_one, right_above}
pub use Rattle.tree_core.specs.declared.rows.Span.{Span}
pub use Rattle.catalogue_core.specs.Bounds.{IsBounded, IsKept, IsLegibleUnit}
pub use Rattle.catalogue_core.specs.CatalogueMerge.{Catalogue, box_number}
pub use Rattle.catalogue_core.specs.UnitMarks.{AreWalkMarks, part_of}
pub use Rattle.catalogue_core.specs.Units.{Unit, has_id}
pub use Rattle.office_tables.proofs.CallEnds.{excused_then, leaves_last, leaves_part, left_by, left_fault, left_well}
pub use Rattle.office_tables.proofs.CallEnds.{making_last, making_not, making_then, same_fault}
pub use Rattle.office_tables.proofs.Calls.{Knows, continues_then, cut_then, early, goes_nowhere, goes_then, known_in}
pub use Rattle.office_tables.proofs.Calls.{looks_nowhere, looks_then, on_err_then, on_ok_both, on_ok_then, still}
pub use Rattle.office_tables.proofs.Calls.{stopped}
pub use Rattle.office_tables.proofs.Casts.{cast_int, cast_null}
pub use Rattle.office_tables.proofs.Causes.{failed_cause, none_refuse, read_cause, still_unlimited, sums_nothing}
pub use Rattle.office_tables.proofs.Creations.{free, s5}
pub use Rattle.office_tables.proofs.KnownStatements.{known_change, known_query}
pub use Rattle.office_tables.proofs.LookUps.{Hands, if_handed, looks_full, looks_ill, looks_known, looks_last}
pub use Rattle.office_tables.proofs.LookUps.{looks_passed, looks_passed_later, looks_well}
pub use Rattle.office_tables.proofs.Puts.{fresh_key, put_more, put_rises, put_rows}
pub use Rattle.office_tables.proofs.Queries.{asking, choosing, plain_query}
pub use Rattle.office_tables.proofs.Reading.{first_kept}
pub use Rattle.office_tables.proofs.Rows.{filters, had, has_map, kept_all, map_has, same_test}
pub use Rattle.office_tables.proofs.Sorted.{head_below, only_order}
pub use Rattle.office_tables.proofs.Sparing.{if_err_then, untouched, untouched_last, wider_spares}
pub use Rattle.office_tables.proofs.StatementEnds.{changes_in, looks_up_in, puts_in, thins_in}
pub use Rattle.office_tables.proofs.Tests.{both, by_one_int, by_two_ints, either_first, flag, only, same_nat}
pub use Rattle.office_tables.proofs.Tests.{same_number}
pub use Rattle.office_tables.proofs.Touching.{nothing_touched, touched, touched_again, touched_wider}
pub use Rattle.office_tables.specs.ChangeStatement.{IsOutside, LeavesOr, Ran}
pub use Rattle.office_tables.specs.Creation.{DefinesIndex, DefinesTable, HasMade, IsMaking, LeavesMaking, MayMakeIndex}
pub use Rattle.office_tables.specs.Creation.{MayMakeTable, Says, catalogue_schema}
pub use Rattle.office_tables.specs.Faults.{BlamesDisk, FaultsHaveCause, HasCause, IsUnlimited, fault_of}
pub use Rattle.office_tables.specs.Order.{IsOrdered, Rises}
pub use Rattle.office_tables.specs.OrderedInsertion.{put_by}
pub use Rattle.office_tables.specs.Query.{Finds, FindsFirst, FoundInside, Misses}
pub use Rattle.office_tables.specs.RowNumbers.{HasNumbered, HoldsNumbered}
pub use Rattle.office_tables.specs.Schema.{container, desk_tables, element, housing, index, link, office, permit}
pub use Rattle.office_tables.specs.Schema.{schema, to_unit, unit}
pub use Rattle.office_tables.specs.StatementMeaning.{Means}
pub use Rattle.office_tables.specs.Step.{Continues, Goes, HasRows, Holds, InTransaction, IsAborted, IsSame}
pub use Rattle.office_tables.specs.Step.{LeavesUnchanged, OnlyTouches, PutsRow, Spares}
pub use Rattle.office_tables.specs.TableStatements.{LooksUp, Thins}
pub use Rattle.office_tables.specs.Versions.{First, Second, Version}
pub use Rattle.office_tables.specs.declared.fault.StoreFault.{StoreFault}
pub use Rattle.catalogue_statements.proofs.NumberTests.{at_most}
pub use Rattle.catalogue_statements.specs.Representation.{Represents, RepresentsHousings, RepresentsLinkRows}
pub use Rattle.catalogue_statements.specs.Representation.{RepresentsOffice, RepresentsUnits, housing_places}
pub use Rattle.catalogue_statements.specs.Representation.{numbered_containers}
pub use Rattle.catalogue_statements.specs.Rows.{HousingRow, by_housing, by_number, cells_of_unit, counted_from}
pub use Rattle.catalogue_statements.specs.Rows.{element_row, housing_row, office_row}
pub use Rattle.catalogue_statements.specs.declared.office.OfficeRow.{OfficeRow}
pub use Rattle.tree_places.proofs.MarkForests.{ids_from, marks_from, part_in, path_ids, path_in}
pub use Rattle.nested_sets.specs.Arrivals.{AreFree, found_before, key, rows_among, with_span_rows}
pub use Rattle.nested_sets.specs.JoinedRows.{AreReadable, HoldsHousingRows, HoldsUnitRows, IsNumberedIn}
pub use Rattle.nested_sets.specs.JoinedRows.{by_own_number, by_place, by_walk}
pub use Rattle.nested_sets.specs.JoinedRows.{comes_next, is_first, is_first_between, is_housed, is_of_unit, left_after}
pub use Rattle.nested_sets.specs.JoinedRows.{mark_with, marked, merged_marks, placed_cells, placed_status}
pub use Rattle.nested_sets.specs.KnownPaths.{HoldsCatalogue, IsRow, IsToldIn, IsWholeMarkOf, rows_of, span_at}
pub use Rattle.nested_sets.specs.Migration.{HasSpanPlaces, VersionedRow, in_version_2, versioned_cells}
pub use Rattle.nested_sets.specs.Ranges.{IsBetween, encloses, last_number, moved_number, moved_span, shifted}
pub use Rattle.nested_sets.specs.Ranges.{shifted_first, shifted_last, shifted_span}
pub use Rattle.nested_sets.specs.Representation.{HoldsSpans, NumbersPart, RepresentsSpanRows, same_span_rows}
pub use Rattle.nested_sets.specs.Rows.{IsLow, answer_cells, by_first, span_row}
pub use Rattle.nested_sets.specs.SurroundingRows.{BeginBefore, IsAbove, IsAboveFrom, IsBeside, IsReached, IsSought}
pub use Rattle.nested_sets.specs.SurroundingRows.{SeeksFrom, lies_around, reaches_over}
pub use Rattle.nested_sets.specs.declared.joined_rows.PlacedStatus.{PlacedStatus}
pub use Rattle.nested_sets.specs.declared.row_types.ToldSpan.{ToldSpan}
