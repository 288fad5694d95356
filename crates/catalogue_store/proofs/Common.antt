-- The names that several proofs of this crate cite, passed on from one place. Declares nothing.
pub use Rattle.std.proofs.lemmas.Bool.{cases_Bool, eq-eqb, eqb-true, false≢true}
pub use Rattle.std.proofs.lemmas.List.{get_or-map, get_or_default, length-map, take_all, take_more}
pub use Rattle.std.proofs.lemmas.List.Sorted.{IsPermutation-map, IsPermutation-refl, IsPermutation-sym}
pub use Rattle.std.proofs.lemmas.List.Sorted.{IsPermutation-trans, length_permutation, list_any-IsPermutation}
pub use Rattle.std.specs.List.{AllByRecursion, list_all, list_any}
pub use Rattle.std.specs.List.Sorted.{IsPermutation}
pub use Rattle.std.specs.Prelude.{IfErr, IfOk, IsOk, is_some, unwrap_or, ⊤}
pub use Rattle.sqlite.specs.Effect.{Database}
pub use Rattle.sqlite.specs.Held.{Held, state}
pub use Rattle.sqlite.specs.State.{HasCleanDisk, State}
pub use Rattle.sqlite.specs.Tree.{Trees, put_row}
pub use Rattle.sqlite_rules.proofs.ListLemmas.{all_from, all_has, has_at, has_filtered, has_kept, some_has, test_from}
pub use Rattle.sqlite_rules.proofs.ListLemmas.{test_has}
pub use Rattle.sqlite_rules.specs.Lists.{Has}
pub use Rattle.sqlite_trees.proofs.ListLemmas.{all-append, all-get_or, all_both, all_weaker, map-map}
pub use Rattle.isad_core.specs.Boxes.{distinct, is_same_box}
pub use Rattle.isad_core.specs.Texts.{Bytes}
pub use Rattle.isad_core.specs.declared.values.BoxKey.{BoxKey}
pub use Rattle.isad_core.specs.declared.values.Values.{Values}
pub use Rattle.tree_core.proofs.EachLemmas.{cut-each, has-each, has_place-each, nodes-each}
pub use Rattle.tree_core.specs.Forest.{Empty, Forest, HasDistinctIds, Node, add, branch, cut, each, has, has_place}
pub use Rattle.tree_core.specs.Forest.{join, move_last, nodes, path, put_below, tree}
pub use Rattle.catalogue_core.specs.Bounds.{IsKept, IsLegibleUnit}
pub use Rattle.catalogue_core.specs.CatalogueMerge.{Catalogue, box_number, number_among}
pub use Rattle.catalogue_core.specs.Descriptions.{AreWhole, HasAllPlaces, HasPlaceFor, IsNew, KnowsItsContainers}
pub use Rattle.catalogue_core.specs.Descriptions.{MayDescribe, with_boxes, with_numbered, with_unit, with_values}
pub use Rattle.catalogue_core.specs.Statuses.{chosen_units, with_closure, with_status}
pub use Rattle.catalogue_core.specs.UnitLookup.{FindsUnit, has_unit}
pub use Rattle.catalogue_core.specs.Units.{Unit, has_id, is_from}
pub use Rattle.office_tables.proofs.CallEnds.{excused_then, leaves_part, making_last, making_not, making_then, read_cut}
pub use Rattle.office_tables.proofs.CallEnds.{read_not, read_well, same_fault}
pub use Rattle.office_tables.proofs.Calls.{continues_then, cut_after, cut_looks, cut_then, early, goes_nowhere}
pub use Rattle.office_tables.proofs.Calls.{goes_then, in_office, looks_nowhere, looks_then, office_of, on_err_then}
pub use Rattle.office_tables.proofs.Calls.{on_ok_both, on_ok_from, on_ok_then, write_cut, write_went}
pub use Rattle.office_tables.proofs.Causes.{cause_then, still_unlimited}
pub use Rattle.office_tables.proofs.Outcomes.{if_ok_by, on_ok_by}
pub use Rattle.office_tables.proofs.Rows.{had, has_map, map_has}
pub use Rattle.office_tables.proofs.Sparing.{if_err_then, last_spares, last_touched, looked_spares, same_untouched}
pub use Rattle.office_tables.proofs.Sparing.{spares_full, spares_known, spares_stopped, untouched, untouched_last}
pub use Rattle.office_tables.proofs.Sparing.{wider_last, wider_spares}
pub use Rattle.office_tables.proofs.StoreCalls.{makes_cut, makes_not, makes_part, makes_well, tells_cut, tells_not}
pub use Rattle.office_tables.proofs.StoreCalls.{tells_well}
pub use Rattle.office_tables.proofs.Touching.{nothing_touched, touched_again, touched_then, touched_wider}
pub use Rattle.office_tables.proofs.numbered.OwnNumbers.{none_there, still_numbered}
pub use Rattle.office_tables.specs.Calls.{StoreAnswers, StoreUpdates}
pub use Rattle.office_tables.specs.Faults.{BlamesDisk, HasCause, IsUnlimited, fault_of}
pub use Rattle.office_tables.specs.Step.{Continues, Goes, HasRows, InTransaction, IsAborted, IsSame, LeavesUnchanged}
pub use Rattle.office_tables.specs.Step.{OnlyTouches, PutsRow, Spares}
pub use Rattle.office_tables.specs.Versions.{First, Version}
pub use Rattle.office_tables.specs.declared.fault.StoreFault.{StoreFault}
pub use Rattle.catalogue_statements.proofs.FoundUnits.{none_first, none_found, told_first}
pub use Rattle.catalogue_statements.proofs.Moves.{id_of, place_by_number, shows_shifted, there_by_number, units_once}
pub use Rattle.catalogue_statements.proofs.Statuses.{all_map, draft_step, each_each, kept_by, rising, shows_changed}
pub use Rattle.catalogue_statements.proofs.Statuses.{status_of_none, still_there}
pub use Rattle.catalogue_statements.proofs.Untold.{none_left, none_yet, numbered, one_less, unit_added, unit_still}
pub use Rattle.catalogue_statements.proofs.Untold.{unit_valued}
pub use Rattle.catalogue_statements.proofs.WritingCalls.{leaves_wider, only_cut, only_not, only_well, only_wider}
pub use Rattle.catalogue_statements.proofs.WritingCalls.{writes_last, writes_not}
pub use Rattle.catalogue_statements.specs.DescriptionRows.{AddsHousings, AreElements, AreHoused, Descriptions}
pub use Rattle.catalogue_statements.specs.DescriptionRows.{HasDescriptions, IsDescribed, WithHousings, WithTexts}
pub use Rattle.catalogue_statements.specs.DescriptionRows.{descriptions_of_others, housing_cell}
pub use Rattle.catalogue_statements.specs.NewUnit.{unit_of}
pub use Rattle.catalogue_statements.specs.Representation.{Represents, RepresentsCatalogue, RepresentsContainers}
pub use Rattle.catalogue_statements.specs.Representation.{RepresentsElements, RepresentsLinkRows, RepresentsNumbered}
pub use Rattle.catalogue_statements.specs.Representation.{RepresentsUnits, catalogue_trees, described_trees}
pub use Rattle.catalogue_statements.specs.Representation.{element_number, elements_of, housing_places}
pub use Rattle.catalogue_statements.specs.Representation.{numbered_containers, numbered_texts, texts_from}
pub use Rattle.catalogue_statements.specs.Rows.{ElementRow, HousingRow, cells_of_unit, counted_from, element_row}
pub use Rattle.catalogue_statements.specs.Rows.{housing_row, office_row}
pub use Rattle.catalogue_statements.specs.Values.{RepresentsValues, TellsTexts}
pub use Rattle.catalogue_statements.specs.declared.office.OfficeRow.{OfficeRow}
pub use Rattle.tree_places.proofs.MarkCauses.{legible_units}
pub use Rattle.catalogue_store.specs.ContentsMarks.{AreContentsMarks, AreWholeMarksOfEach}
