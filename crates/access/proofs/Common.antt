-- The names that several proofs of this crate cite, passed on from one place. Declares nothing.
pub use Rattle.std.proofs.Math.Bool.{or-false}
pub use Rattle.std.proofs.Math.Path.{fun_ext}
pub use Rattle.std.proofs.lemmas.Bool.{and_from, and_parts, cases_Bool, cases_eq, cases_lt, eq-eqb, eqb-true}
pub use Rattle.std.proofs.lemmas.Bool.{false≢true, le-leb, le-ltb, lt-leb, lt-ltb, ltb-false, ne_eqb}
pub use Rattle.std.proofs.lemmas.List.{append-nil, get_or_default, length-drop, map-append, nil_from_length, take_all}
pub use Rattle.std.proofs.lemmas.List.{take_more}
pub use Rattle.std.proofs.lemmas.List.Elements.{All-from_recursion, filter-append, filter_more, recursion_from_All}
pub use Rattle.std.proofs.lemmas.List.Folds.{list_all-map, list_any-append}
pub use Rattle.std.proofs.lemmas.List.Sorted.{All-permutation, IsNonDecreasingBy-from_sort, IsPermutation-map}
pub use Rattle.std.proofs.lemmas.List.Sorted.{IsPermutation-refl, list_any-IsPermutation, searched}
pub use Rattle.std.proofs.lemmas.List.Sorted.{sum_by-IsPermutation}
pub use Rattle.std.specs.List.{AllByRecursion, cons_option, count_by, last_or, list_all, list_any}
pub use Rattle.std.specs.List.Sorted.{IsNonDecreasing}
pub use Rattle.std.specs.Prelude.{IfOk, IsErr, IsErrAnd, IsOk, int_le, is_some, option_and_then, option_map}
pub use Rattle.std.specs.Prelude.{option_to_list, slice_get, slice_index_or, ⊤}
pub use Rattle.sqlite.specs.Held.{Held, state}
pub use Rattle.sqlite.specs.State.{HasCleanDisk}
pub use Rattle.sqlite.specs.Tree.{Trees}
pub use Rattle.isad_core.specs.Boxes.{distinct, is_same_box}
pub use Rattle.isad_core.specs.declared.values.BoxKey.{BoxKey}
pub use Rattle.tree_core.proofs.EachLemmas.{branch-each, cut-each, has-each, nodes-each, path-each, size-each}
pub use Rattle.tree_core.proofs.Lists.{any_agree, eqb_comm, is_among, list_any-map}
pub use Rattle.tree_core.specs.Forest.{Empty, Forest, HasDistinctIds, Node, branch, cut, each, has, nodes, path, size}
pub use Rattle.tree_core.specs.Forest.{tree}
pub use Rattle.visibility.specs.Marks.{IsNumbered, contents_paths, is_closed, withholds}
pub use Rattle.visibility.specs.declared.marks.Mark.{Mark}
pub use Rattle.desk_core.specs.Decisions.{order_out}
pub use Rattle.desk_core.specs.DeskRows.{HoldingRow, OrderRow, PermitRow, SeatRow}
pub use Rattle.catalogue_core.proofs.EachOf.{all_append, all_filtered, all_split, all_true}
pub use Rattle.catalogue_core.specs.CatalogueMerge.{Catalogue, box_number}
pub use Rattle.catalogue_core.specs.ContainerContents.{containers_of, housed_below, is_some_there, is_withheld_from}
pub use Rattle.catalogue_core.specs.ContainerContents.{own_or, paths_below}
pub use Rattle.catalogue_core.specs.OpenMarks.{is_clean_by_marks, is_clean_for, is_opened_above, mark_for, naming}
pub use Rattle.catalogue_core.specs.OpenMarks.{with_permit}
pub use Rattle.catalogue_core.specs.UnitLookup.{has_unit}
pub use Rattle.catalogue_core.specs.UnitMarks.{AreMarks, AreWalkMarks, mark_of, names_container, without_number}
pub use Rattle.catalogue_core.specs.Units.{Unit, has_id, is_unit_closed}
pub use Rattle.known_units.specs.KnownUnits.{KnowsIf, TellOf}
pub use Rattle.office_tables.proofs.CallEnds.{excused_then, same_fault, tells_well}
pub use Rattle.office_tables.proofs.Calls.{cut_after, cut_then, early, goes_then, looks_nowhere, looks_then}
pub use Rattle.office_tables.proofs.Calls.{on_err_then, on_ok_then}
pub use Rattle.office_tables.proofs.LookUps.{looks_full, looks_passed_later, looks_well}
pub use Rattle.office_tables.specs.Versions.{First, Version}
pub use Rattle.office_tables.specs.declared.fault.StoreFault.{StoreFault}
pub use Rattle.tree_places.specs.Attachments.{named_by}
pub use Rattle.desk_store.proofs.ToldCalls.{ends_well}
pub use Rattle.desk_store.specs.declared.container_orders.ContainerOrder.{ContainerOrder}
pub use Rattle.office_core.specs.Rules.{Reply, after, decide, gate, is_kept_from_holder, lowest_withheld, refusal}
pub use Rattle.office_core.specs.Rules.{result_of, step}
pub use Rattle.office_core.specs.SoundOffice.{IsSoundOffice}
pub use Rattle.office_core.specs.State.{Order, containers, held_count, is_by, is_out_with, is_permitted, is_seated}
pub use Rattle.office_core.specs.State.{opens}
pub use Rattle.office_core.specs.Words.{first_that, nth, some_and}
pub use Rattle.state_encoding.specs.DeskEncoding.{holding_row, order_row, order_rows, permit_rows}
pub use Rattle.state_encoding.specs.OfficeRows.{tables}
pub use Rattle.refinement.specs.AccessConditions.{CanBeJudged, RepresentsWhole}
pub use Rattle.access.specs.DayRules.{are_against_rules, breaks_day_rules, has_no_row, has_too_many, is_against_rules}
pub use Rattle.access.specs.DayRules.{is_without_seat, number_occurs_more_than}
pub use Rattle.access.specs.Gate.{AreEnough, OthersAreOpen, first_closed, gate_reply, is_closed_to, is_named_near}
pub use Rattle.access.specs.Gate.{is_one_of, names_some, near, nearest, says_so, unless_refused}
pub use Rattle.access.specs.Openness.{allows, open_ones}
