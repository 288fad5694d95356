-- The names that several proofs of this crate cite, passed on from one place. Declares nothing.
pub use Rattle.std.proofs.Math.Bool.{and-false, or-false, or-true, or_assoc}
pub use Rattle.std.proofs.Math.Nat.{le_refl}
pub use Rattle.std.proofs.lemmas.Bool.{and_parts, and_right, cases_Bool, cases_eq, cases_lt, eq-eqb, eqb-false}
pub use Rattle.std.proofs.lemmas.Bool.{eqb-true, false≢true, le-ltb, lt-ltb, ltb-true, ne_eqb, not-true, or_from}
pub use Rattle.std.proofs.lemmas.Bool.{or_left, or_parts, or_right}
pub use Rattle.std.proofs.lemmas.Bool.Decides.{nat_tests}
pub use Rattle.std.proofs.lemmas.List.{append_assoc, ext_get_or, get_or-map, get_or-set_other, get_or-set_same}
pub use Rattle.std.proofs.lemmas.List.{get_or_default, length-map, length-set, map-append, map-id, take-map, take_all}
pub use Rattle.std.proofs.lemmas.List.{take_more}
pub use Rattle.std.proofs.lemmas.List.Sorted.{IsPermutation-append_comm, IsPermutation-append_left}
pub use Rattle.std.proofs.lemmas.List.Sorted.{IsPermutation-append_right, IsPermutation-cons, IsPermutation-map}
pub use Rattle.std.proofs.lemmas.List.Sorted.{IsPermutation-refl, IsPermutation-sym, IsPermutation-trans}
pub use Rattle.std.proofs.lemmas.List.Sorted.{length_permutation, list_any-IsPermutation, sum_by-IsPermutation}
pub use Rattle.std.proofs.lemmas.Result.{IfOk-weaker}
pub use Rattle.std.specs.Cmp.{IsTotalOrder, int_cmp_total, on_total, tied_itself}
pub use Rattle.std.specs.List.{AllByRecursion, fold, list_all, list_any}
pub use Rattle.std.specs.List.Sorted.{IsNonDecreasingBy, IsPermutation, IsSorted}
pub use Rattle.std.specs.Option.{option_eq}
pub use Rattle.std.specs.Ordering.{int_cmp, is_eq, is_gt, is_le, is_lt, match_ordering, ordering_then}
pub use Rattle.std.specs.Prelude.{IfSome, IsUtf8, is_some}
pub use Rattle.sqlite.proofs.Callers.{IsPlain, command_of, one_permutation, one_step, reads_as, runs_as, statement_of}
pub use Rattle.sqlite.specs.Cast.{cast_row}
pub use Rattle.sqlite.specs.Collation.TheVariants.{Binary}
pub use Rattle.sqlite.specs.Command.{Command}
pub use Rattle.sqlite.specs.Command.TheVariants.{Insert, Select, Update}
pub use Rattle.sqlite.specs.Edit.{are_fresh, edit_of, edited, id_in, is_taken, left_by, next_rowid, row_at, taken_by}
pub use Rattle.sqlite.specs.Effect.{Answers, Database, RefusesQuery, value_rows}
pub use Rattle.sqlite.specs.Held.{Held, state}
pub use Rattle.sqlite.specs.Ops.{is_null, is_true}
pub use Rattle.sqlite.specs.Order.{Row, column, value_cmp}
pub use Rattle.sqlite.specs.Query.{Query, end, inner, key_cmp}
pub use Rattle.sqlite.specs.Rowids.TheVariants.{Chosen, Given}
pub use Rattle.sqlite.specs.State.{Executes, HasCleanDisk, IsLive, Shown, Shows, State, mode_of}
pub use Rattle.sqlite.specs.Table.{Table}
pub use Rattle.sqlite.specs.Term.{Term, col, eval_all, holds, lit, op2}
pub use Rattle.sqlite.specs.Tree.{Trees, has_rowid, put_row}
pub use Rattle.sqlite.specs.Values.{or_null}
pub use Rattle.sqlite.specs.declared.types.Value.TheVariants.{Int, Null, Text}
pub use Rattle.sqlite_rules.proofs.ListLemmas.{all_from, all_has, has_filtered, has_kept, has_right, some_from}
pub use Rattle.sqlite_rules.proofs.ListLemmas.{some_has, test_from, test_has}
pub use Rattle.sqlite_rules.specs.Lists.{Has}
pub use Rattle.sqlite_schema.specs.Rules.{Keeps, Obeys, Refers, agree, has_null, has_parent, is_held, is_key_of}
pub use Rattle.sqlite_schema.specs.Rules.{parent_key, references_fit}
pub use Rattle.sqlite_sql.specs.declared.ops.BinaryOp.TheVariants.{Arith, Compare, Is}
pub use Rattle.sqlite_sql.specs.declared.ops.CompareOp.TheVariants.{Eq, Gt, Le}
pub use Rattle.sqlite_trees.proofs.ListLemmas.{IsPermutation-filter, all-append, all-filter, all-get_or, all-map}
pub use Rattle.sqlite_trees.proofs.ListLemmas.{all-permutation, all_both, all_from_map, all_of, all_weaker}
pub use Rattle.sqlite_trees.proofs.ListLemmas.{ascending-filter, ascending-map, ascending_weaker, filter-map}
pub use Rattle.sqlite_trees.proofs.ListLemmas.{filter_all, filter_none, map-map}
pub use Rattle.sqlite_typing.specs.Types.{accepts_program, accepts_terms}
pub use Rattle.sqlite_value.proofs.OrderLemmas.{then-Equal, value_cmp-Int}
pub use Rattle.sqlite_value.specs.Keys.{ascending, plain}
pub use Rattle.sqlite_value.specs.declared.keys.Key.{Key}
pub use Rattle.isad_core.specs.Boxes.{distinct, is_same_box}
pub use Rattle.isad_core.specs.Texts.{Bytes}
pub use Rattle.isad_core.specs.declared.values.BoxKey.{BoxKey}
pub use Rattle.tree_core.proofs.Adding.{distinct_added, is_below, siblings-add}
pub use Rattle.tree_core.proofs.EachLemmas.{add-each, cut-each, has-each, has_place-each, move_last-each, nodes-each}
pub use Rattle.tree_core.proofs.Lists.{In, apart_append, distinct_cons, eqb_comm, list_any-map}
pub use Rattle.tree_core.specs.Forest.{Empty, Forest, HasDistinctIds, Node, add, branch, cut, each, has, has_place}
pub use Rattle.tree_core.specs.Forest.{move_last, nodes, tree}
pub use Rattle.tree_core.specs.LastPlace.{last_place}
pub use Rattle.tree_core.specs.Steps.{closed_up, links_left}
pub use Rattle.tree_core.specs.declared.rows.Link.{Link}
pub use Rattle.desk_core.specs.DeskRows.{PermitRow}
pub use Rattle.catalogue_core.proofs.Imported.{distinct_again, distinct_append, or_not, same_box}
pub use Rattle.catalogue_core.specs.Bounds.{IsLegibleUnit}
pub use Rattle.catalogue_core.specs.CatalogueMerge.{Catalogue, box_number, number_among}
pub use Rattle.catalogue_core.specs.Descriptions.{KnowsItsContainers, with_boxes, with_numbered}
pub use Rattle.catalogue_core.specs.Units.{Unit, has_id, is_from}
pub use Rattle.office_tables.proofs.CallEnds.{excused_then, leaves_last, leaves_part, left_well, same_fault}
pub use Rattle.office_tables.proofs.Calls.{cut_after, cut_then, early, goes_nowhere, goes_then, on_ok_both, on_ok_then}
pub use Rattle.office_tables.proofs.Casts.{bound_maybe, cast_int, cast_maybe, cast_null}
pub use Rattle.office_tables.proofs.Causes.{cause_then, counts_always, none_refuse, read_cause, still_unlimited}
pub use Rattle.office_tables.proofs.Causes.{sums_nothing}
pub use Rattle.office_tables.proofs.Fresh.{any_mapped}
pub use Rattle.office_tables.proofs.InsertCauses.{IsWelcome, insert_cause, values_typed}
pub use Rattle.office_tables.proofs.KnownStatements.{known_change, known_query}
pub use Rattle.office_tables.proofs.LookUps.{Hands, looks_full, looks_ill, looks_not, looks_passed, looks_well}
pub use Rattle.office_tables.proofs.Puts.{fresh_key, has_at, not_falling, not_taken, put_more, put_rises, put_rows}
pub use Rattle.office_tables.proofs.Queries.{asking, choosing, chosen, plain_query}
pub use Rattle.office_tables.proofs.Reading.{all_found, first_kept, first_shown}
pub use Rattle.office_tables.proofs.RowReads.{all_caused}
pub use Rattle.office_tables.proofs.Rows.{filters, had, has_map, kept_all, same_test}
pub use Rattle.office_tables.proofs.Sorted.{head_below, once, only_order}
pub use Rattle.office_tables.proofs.Sparing.{looked_spares, same_untouched, touched_spares, untouched, wider_last}
pub use Rattle.office_tables.proofs.StatementEnds.{answered, caused, changes, changes_in, done, found_in, looks_up}
pub use Rattle.office_tables.proofs.StatementEnds.{looks_up_in, puts_in, puts_numbered, puts_row, thins_in}
pub use Rattle.office_tables.proofs.StatementEnds.{thins_numbered}
pub use Rattle.office_tables.proofs.Steps.{Deleted, DeletedWith, Inserted, Updated, deleted, deleted_with, inserted}
pub use Rattle.office_tables.proofs.Steps.{is_referred_to, updated, wrote}
pub use Rattle.office_tables.proofs.StoreCalls.{makes_cut, makes_last, makes_part, makes_well}
pub use Rattle.office_tables.proofs.Tests.{both, by_one_int, by_two_ints, either_first, is_maybes, only, same_bytes}
pub use Rattle.office_tables.proofs.Tests.{same_nat, same_number}
pub use Rattle.office_tables.proofs.Touching.{nothing_touched, touched, touched_again, touched_then, touched_wider}
pub use Rattle.office_tables.proofs.numbered.Counted.{below_less, less_below}
pub use Rattle.office_tables.proofs.numbered.OwnNumbers.{all_numbered, all_told, kept_ordered, one_more, still_numbered}
pub use Rattle.office_tables.proofs.numbered.OwnNumbers.{those_left}
pub use Rattle.office_tables.proofs.statements.DeleteOf.{delete_faults, delete_leaves}
pub use Rattle.office_tables.proofs.statements.InsertOf.{insert_faults, insert_puts}
pub use Rattle.office_tables.proofs.statements.LeafOf.{office_kept, permit_alone, permit_fits}
pub use Rattle.office_tables.proofs.statements.OnlyOf.{delete_only, update_only}
pub use Rattle.office_tables.proofs.statements.SelectOf.{select_faults, select_finds}
pub use Rattle.office_tables.proofs.statements.UpdateOf.{update_faults, update_leaves}
pub use Rattle.office_tables.proofs.statements.WelcomeOf.{in_either, next_welcome, none_agrees, number_welcome}
pub use Rattle.office_tables.specs.ChangeStatement.{LeavesOr, Ran}
pub use Rattle.office_tables.specs.Faults.{FaultsHaveCause, HasCause, IsUnlimited, fault_of}
pub use Rattle.office_tables.specs.Order.{IsOrdered, Rises}
pub use Rattle.office_tables.specs.OrderedInsertion.{put_by}
pub use Rattle.office_tables.specs.Permits.{permit_cells}
pub use Rattle.office_tables.specs.Query.{Finds, FindsFirst, FoundInside, IsQuery, Misses}
pub use Rattle.office_tables.specs.RowNumbers.{HasNumbered, HoldsNumbered}
pub use Rattle.office_tables.specs.Schema.{container, element, housing, link, office, permit, place_table, schema}
pub use Rattle.office_tables.specs.Schema.{to_unit, unit}
pub use Rattle.office_tables.specs.StatementMeaning.{Means}
pub use Rattle.office_tables.specs.Step.{Goes, HasRows, Holds, IsAborted, LeavesUnchanged, OnlyTouches, PutsRow, Spares}
pub use Rattle.office_tables.specs.TableStatements.{Changes, LooksUp}
pub use Rattle.office_tables.specs.Versions.{First, Second, Version, encoding, version_number}
pub use Rattle.office_tables.specs.declared.fault.StoreFault.{StoreFault}
pub use Rattle.catalogue_statements.specs.DescriptionRows.{AddsHousings, AddsTexts, AreElements, AreHoused, HasUnit}
pub use Rattle.catalogue_statements.specs.DescriptionRows.{IsDescribed, WithCells, WithHousings, WithTexts, cell_of}
pub use Rattle.catalogue_statements.specs.DescriptionRows.{housing_cell, text_cells}
pub use Rattle.catalogue_statements.specs.LinkRows.{HasLinks, HaveLowPlaces, link_with_place, links_shifted}
pub use Rattle.catalogue_statements.specs.LinkRows.{place_behind_all}
pub use Rattle.catalogue_statements.specs.Removals.{AreListed, AreRemoved, HasUnitTables, unit_tables, without_records}
pub use Rattle.catalogue_statements.specs.Representation.{Represents, RepresentsCatalogue, RepresentsContainers}
pub use Rattle.catalogue_statements.specs.Representation.{RepresentsLinkRows, RepresentsNumbered, RepresentsUnits}
pub use Rattle.catalogue_statements.specs.Representation.{element_number, elements_of, housing_places}
pub use Rattle.catalogue_statements.specs.Representation.{numbered_containers, numbered_texts, texts_from}
pub use Rattle.catalogue_statements.specs.Rows.{ElementRow, HousingRow, by_container, by_element, by_housing, by_id}
pub use Rattle.catalogue_statements.specs.Rows.{by_number, by_place, cells_of_unit, counted_from, element_row}
pub use Rattle.catalogue_statements.specs.Rows.{housing_row, link_row, numbered_container_cells, office_row}
pub use Rattle.catalogue_statements.specs.Rows.{settings_of_row}
pub use Rattle.catalogue_statements.specs.declared.office.OfficeRow.{OfficeRow}
pub use Rattle.catalogue_statements.specs.declared.row_types.Element.{Element}
