-- The names that several proofs of this crate cite, passed on from one place. Declares nothing.
pub use Rattle.std.proofs.lemmas.Bool.{and_from, and_parts, cases_Bool, eq-eqb, eqb-true, false≢true, le-leb, le-ltb}
pub use Rattle.std.proofs.lemmas.Bool.{leb-false, leb-true, lt-leb, lt-ltb, ltb-false, ltb-true, ne_eqb, or_cases}
pub use Rattle.std.proofs.lemmas.Bool.{or_parts, or_right}
pub use Rattle.std.proofs.lemmas.List.{at_drop_all, drop_all, drop_more, get_or-map, length-map, length_push, take_all}
pub use Rattle.std.proofs.lemmas.List.{take_more}
pub use Rattle.std.proofs.lemmas.List.Sorted.{IsPermutation-refl, length_permutation}
pub use Rattle.std.proofs.lemmas.Slice.Zip.{zip_end, zip_turn}
pub use Rattle.std.specs.BTreeMap.{get_by_text}
pub use Rattle.std.specs.BTreeSet.{contains_text}
pub use Rattle.std.specs.Iterator.Adapters.{zip_first, zip_second}
pub use Rattle.std.specs.List.{AllByRecursion, cons_option, enumerate_from, flat_map, list_all, list_any}
pub use Rattle.std.specs.Option.{option_eq, option_map_or, option_to_list}
pub use Rattle.std.specs.Prelude.{IfOk, IfSome, IsErr, IsErrAnd, IsOk, count_by, filter, filter_map, find, is_some}
pub use Rattle.std.specs.Prelude.{nat_le, nat_lt, option_and_then, option_map, slice_get, unwrap_or, ⊤, ◌==◌}
pub use Rattle.std.specs.Slice.Iter.{iter_rest}
pub use Rattle.std.specs.Str.{bytes_eq}
pub use Rattle.sqlite.specs.Effect.{Database}
pub use Rattle.sqlite.specs.Held.{Held, state}
pub use Rattle.sqlite.specs.State.{HasCleanDisk, Survives}
pub use Rattle.sqlite.specs.Tree.{Trees}
pub use Rattle.sqlite_trees.proofs.ListLemmas.{all-get_or}
pub use Rattle.isad_core.specs.Boxes.{distinct, is_same_box}
pub use Rattle.isad_core.specs.Levels.{rank_of}
pub use Rattle.isad_core.specs.Limits.{most_bytes, most_containers, most_deep, most_rows, most_unit_numbers, most_units}
pub use Rattle.isad_core.specs.Texts.{Bytes, is_blank_text}
pub use Rattle.isad_core.specs.declared.values.BoxKey.{BoxKey}
pub use Rattle.isad_core.specs.declared.values.Values.{Values}
pub use Rattle.tree_core.proofs.EachLemmas.{add-each, has-each, has_place-each, nodes-each, path-each, size-each}
pub use Rattle.tree_core.specs.Forest.{Empty, Forest, HasDistinctIds, Node, add, each, has, has_place, join, nodes}
pub use Rattle.tree_core.specs.Forest.{path, put_below, size}
pub use Rattle.tree_core.specs.Tops.{last_but_one, right_above}
pub use Rattle.tree_core.specs.declared.arrivals.Arrival.{Arrival}
pub use Rattle.atom_csv.specs.FileContents.{file_of, is_long, line_fault, lines_below, row_number, row_of}
pub use Rattle.atom_csv.specs.declared.file.File.{File}
pub use Rattle.atom_csv.specs.declared.file.Row.{Row}
pub use Rattle.desk_core.specs.Refusals.{first_that_holds, unless, when}
pub use Rattle.desk_core.specs.declared.refusal.Refusal.TheVariants.{BadFile, BadName, Full}
pub use Rattle.catalogue_core.proofs.DistinctLists.{all_so}
pub use Rattle.catalogue_core.proofs.EachOf.{all_and, all_append, all_distinct, all_filtered, all_of_found, all_split}
pub use Rattle.catalogue_core.proofs.EachOf.{all_true, some_found}
pub use Rattle.catalogue_core.proofs.EachRow.{found_numbers, onto, onto-more}
pub use Rattle.catalogue_core.proofs.EnteredUnits.{alike_each, find-append, find_none, or_else, placed_added}
pub use Rattle.catalogue_core.proofs.EnteredUnits.{same_added}
pub use Rattle.catalogue_core.proofs.FileRows.{AreApartRows, answers, apart_rows, line_at, no_fault_cons, read_from}
pub use Rattle.catalogue_core.proofs.Imported.{boxes_grow, distinct_again, distinct_append, first_ok, new_boxes}
pub use Rattle.catalogue_core.proofs.Imported.{new_rows, same_box}
pub use Rattle.catalogue_core.proofs.ImportedAgain.{all_merged, box_itself, has_taken, numbered_rows, one_text}
pub use Rattle.catalogue_core.proofs.ImportedAgain.{other_way, rows_same, same_text}
pub use Rattle.catalogue_core.proofs.KeptCatalogues.{all_places, kept, kept_within, knows}
pub use Rattle.catalogue_core.proofs.RowsMerged.{none_merged, row_by_row, taken_row_by_row}
pub use Rattle.catalogue_core.proofs.UnitsAfter.{each_there, ids_between}
pub use Rattle.catalogue_core.specs.CatalogueMerge.{Catalogue, New, box_number, cause_at, depth_under, faults_below}
pub use Rattle.catalogue_core.specs.CatalogueMerge.{is_known, merge, merged, merged_boxes, merged_forest, new_unit}
pub use Rattle.catalogue_core.specs.CatalogueMerge.{numbered_from, or_first, parent_number, revised}
pub use Rattle.catalogue_core.specs.Descriptions.{AreWhole, HasPlaceFor, IsNew, KnowsItsContainers, MayDescribe}
pub use Rattle.catalogue_core.specs.Descriptions.{with_boxes, with_unit, with_values}
pub use Rattle.catalogue_core.specs.EntryByRow.{and_then, count_rows, depth_there, if_ok, new_at, number_there}
pub use Rattle.catalogue_core.specs.EntryByRow.{unless_cause, with_new, with_row, with_row_at, with_rows}
pub use Rattle.catalogue_core.specs.GoodCatalogues.{AreGoodContainers, AreGoodUnits, IsGoodUnit, IsSomeDay}
pub use Rattle.catalogue_core.specs.GoodRows.{IsGoodRow}
pub use Rattle.catalogue_core.specs.Intake.{Taken, catalogued_unit, is_changed, is_full, is_new, is_same, same_values}
pub use Rattle.catalogue_core.specs.Intake.{take_rows, with_file}
pub use Rattle.catalogue_core.specs.Sources.{is_source}
pub use Rattle.catalogue_core.specs.Units.{Unit, has_id, is_from}
pub use Rattle.office_tables.proofs.CallEnds.{excused_then, makes_not, makes_well, same_fault, tells_cut, tells_well}
pub use Rattle.office_tables.proofs.Calls.{cut_after, cut_then, early, goes_nowhere, goes_then, looks_nowhere}
pub use Rattle.office_tables.proofs.Calls.{looks_then, on_err_then, on_ok_then}
pub use Rattle.office_tables.proofs.StoreCalls.{as_answers, as_updates}
pub use Rattle.office_tables.proofs.Touching.{nothing_touched, touched_again, touched_then, touched_wider}
pub use Rattle.office_tables.specs.Calls.{Answers, Updates}
pub use Rattle.office_tables.specs.Step.{Goes, HasRows, IsAborted, LeavesUnchanged, OnlyTouches}
pub use Rattle.office_tables.specs.Versions.{Version}
pub use Rattle.office_tables.specs.declared.fault.StoreFault.{StoreFault}
pub use Rattle.catalogue_statements.specs.Representation.{Represents, RepresentsCatalogue, RepresentsNumbered}
pub use Rattle.catalogue_statements.specs.Representation.{RepresentsOffice, RepresentsSettings, RepresentsUnits}
pub use Rattle.catalogue_statements.specs.Representation.{catalogue_trees, described_trees}
pub use Rattle.catalogue_statements.specs.Rows.{cells_of_unit, counted_from, office_row}
pub use Rattle.catalogue_statements.specs.declared.office.OfficeRow.{OfficeRow}
pub use Rattle.office_core.proofs.KeptOffices.{office_settings}
pub use Rattle.office_core.specs.ImportReply.{bad_file, is_level_above, lacks_essential, remark_if, remark_on, remarks}
pub use Rattle.office_core.specs.ImportReply.{too_much}
pub use Rattle.office_core.specs.Rules.{Reply, after, gate, intake_of, refusal, result_of, with_import}
pub use Rattle.office_core.specs.SoundOffice.{AreTexts, HasLegibleSettings, IsSoundOffice}
pub use Rattle.office_core.specs.State.{is_container}
pub use Rattle.office_core.specs.declared.done.Remark.{Remark}
pub use Rattle.refinement.proofs.Doings.{accepted, catalogue_passed, does_pass, does_then, is_refused, makes_passed}
pub use Rattle.refinement.proofs.Doings.{makes_passed_later, refused, tells_full, tells_passed, tells_passed_later}
pub use Rattle.refinement.specs.Representation.{RepresentsState, office_of}
pub use Rattle.csv_import.specs.AncestorPaths.{ComeTo, IsWay, above_way, numbers_of, path_at}
pub use Rattle.csv_import.specs.Arrivals.{BringUnits, IsReady, KnowsNumbers, arrival_at, arrival_of, arrivals_from}
pub use Rattle.csv_import.specs.Arrivals.{arrivals_of}
pub use Rattle.csv_import.specs.CatalogueImport.{CanBePlaced, FitsIn, HasImported, HasNumberedUnits, has_room}
pub use Rattle.csv_import.specs.CatalogueImport.{import_outcome, next_with_room, reply_after}
pub use Rattle.csv_import.specs.KnownUnits.{AreRight, IsAsked, KnowsAsked, KnowsUnits, TellsParentOfNew, TellsUnits}
pub use Rattle.csv_import.specs.KnownUnits.{units_from}
pub use Rattle.csv_import.specs.Remarks.{HasEntered, HasItsUnit, HasParent, HaveParents, HaveUnits, IsRankOf, IsRanked}
pub use Rattle.csv_import.specs.Remarks.{number_above}
pub use Rattle.csv_import.specs.RowEntry.{CanEnter, RepresentsEntering, RepresentsLegible, boxes_named, catalogue_after}
pub use Rattle.csv_import.specs.RowEntry.{counts_of, or_as_before}
pub use Rattle.csv_import.specs.RowPlan.{KnowsDepths, at_depth, by_number, new_of, or_there, placing_of, plan_of}
pub use Rattle.csv_import.specs.Turns.{AreToCome, IsTurn, IsTurnOfUnit, MayChange, MayCome, count_entry, entry_of}
pub use Rattle.csv_import.specs.declared.row_entry.Counts.{Counts}
