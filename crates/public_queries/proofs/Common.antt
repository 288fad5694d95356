-- The names that several proofs of this crate cite, passed on from one place. Declares nothing.
pub use Rattle.std.proofs.lemmas.Bool.{and_parts, eqb-true, false≢true}
pub use Rattle.std.proofs.lemmas.List.{length-append, length-map, map-append, reverse-append, take_all, take_more}
pub use Rattle.std.specs.List.{AllByRecursion, cons_option, flat_map, list_any}
pub use Rattle.std.specs.Prelude.{IfOk, IsErr, IsErrAnd, codes, filter_map, int_lt, option_map, reverse, unwrap_or, ℤ}
pub use Rattle.std.specs.Prelude.{⊤}
pub use Rattle.sqlite.specs.Effect.{Database}
pub use Rattle.sqlite.specs.Held.{Held, state}
pub use Rattle.sqlite.specs.State.{HasCleanDisk, Survives}
pub use Rattle.sqlite.specs.Tree.{Trees}
pub use Rattle.isad_core.specs.Codes.{code_of}
pub use Rattle.isad_core.specs.PrintedDescriptions.{aid, found_container, found_element, head_line, indent, line, page}
pub use Rattle.isad_core.specs.PrintedDescriptions.{unit_below, unit_lines}
pub use Rattle.isad_core.specs.Texts.{Bytes}
pub use Rattle.isad_core.specs.Values.{identifier, line_elements, own_lines, title}
pub use Rattle.isad_core.specs.declared.display.Body.TheVariants.{Closed, Full}
pub use Rattle.isad_core.specs.declared.display.Shown.{Shown}
pub use Rattle.isad_core.specs.declared.values.BoxKey.{BoxKey}
pub use Rattle.tree_core.proofs.EachLemmas.{has-each, nodes-each, size-each}
pub use Rattle.tree_core.specs.Forest.{Empty, Forest, HasDistinctIds, Node, each, has, nodes, path, size, tree, walk}
pub use Rattle.tree_core.specs.Tops.{below_first, part_below, tops}
pub use Rattle.visibility.specs.Marks.{is_later, public_walk}
pub use Rattle.visibility.specs.declared.marks.Kept.{Kept}
pub use Rattle.visibility.specs.declared.marks.Mark.{Mark}
pub use Rattle.desk_core.specs.declared.refusal.Refusal.TheVariants.{UnknownUnit}
pub use Rattle.catalogue_core.proofs.EachOf.{all_append, all_split}
pub use Rattle.catalogue_core.proofs.PublicPaths.{known_of, number_known}
pub use Rattle.catalogue_core.specs.Aids.{Repository, identifier_of, numbered_boxes, shown_below, shown_unit}
pub use Rattle.catalogue_core.specs.Bounds.{IsKept}
pub use Rattle.catalogue_core.specs.CatalogueMerge.{Catalogue, box_number}
pub use Rattle.catalogue_core.specs.Pages.{PageBox, Press, above_last, aid_of, before_last, boxes_on_page, boxes_or}
pub use Rattle.catalogue_core.specs.Pages.{coded_below, has_public_number, nearest_boxes, nearest_value, page_at}
pub use Rattle.catalogue_core.specs.Pages.{page_boxes, page_line, page_of, pages_side_by_side, public_number, tops_text}
pub use Rattle.catalogue_core.specs.Pages.{with_codes}
pub use Rattle.catalogue_core.specs.PublicForest.{PublicUnit, Told, public_of, public_unit, stub_of}
pub use Rattle.catalogue_core.specs.UnitMarks.{AreMarks, AreWalkMarks, mark_of, without_number}
pub use Rattle.catalogue_core.specs.Units.{Unit, has_id, is_unit_closed}
pub use Rattle.office_tables.proofs.CallEnds.{excused_then, same_fault, tells_well}
pub use Rattle.office_tables.proofs.Calls.{cut_after, cut_then, early, looks_nowhere, looks_then, on_err_then}
pub use Rattle.office_tables.proofs.Calls.{on_ok_then}
pub use Rattle.office_tables.specs.Step.{IsAborted, LeavesUnchanged}
pub use Rattle.office_tables.specs.declared.fault.StoreFault.{StoreFault}
pub use Rattle.catalogue_statements.specs.Representation.{Represents}
pub use Rattle.catalogue_statements.proofs.FoundUnits.{found_one}
pub use Rattle.catalogue_statements.specs.Standings.{standing_of}
pub use Rattle.catalogue_statements.specs.declared.office.OfficeRow.{OfficeRow}
pub use Rattle.catalogue_statements.specs.declared.row_types.Standing.{Standing}
pub use Rattle.catalogue_store.proofs.Common.{Has, IsPermutation, IsPermutation-refl, RepresentsUnits, all_has}
pub use Rattle.catalogue_store.proofs.Common.{element_row, elements_of, legible_units, numbered_texts}
pub use Rattle.catalogue_store.proofs.Common.{still_numbered}
pub use Rattle.catalogue_store.specs.Heads.{head_of}
pub use Rattle.catalogue_store.specs.declared.heads.Head.{Head}
pub use Rattle.catalogue_store.specs.declared.unit_values.UnitValues.{UnitValues}
pub use Rattle.office_core.proofs.KeptOffices.{office_kept, office_knows, office_places}
pub use Rattle.office_core.specs.Queries.{answer, page_answer, press, public_forest}
pub use Rattle.office_core.specs.SoundOffice.{IsSoundOffice}
pub use Rattle.office_core.specs.declared.query.Answer.TheVariants.{Text, Unknown}
pub use Rattle.refinement.proofs.Answerings.{still_shown}
pub use Rattle.refinement.proofs.Doings.{tells_full, tells_passed, tells_passed_later}
pub use Rattle.refinement.specs.Representation.{RepresentsState, office_of}
pub use Rattle.public_queries.specs.FindingAids.{IsOf, KeepsUnits, Walked, along, kept_from_walk, public_units, seen_of}
pub use Rattle.public_queries.specs.FindingAids.{seen_values, shown_at, with_numbers}
pub use Rattle.public_queries.specs.HeadLines.{all_bare, are_open, bare_below, bare_body, head_alone, head_identifiers}
pub use Rattle.public_queries.specs.HeadLines.{is_open_on, is_published, public_head, published_units, repository_of}
pub use Rattle.public_queries.specs.HeadLines.{shows_last}
pub use Rattle.public_queries.specs.KnownPaths.{IsTellable, RepresentsKnown, RepresentsMarked, RepresentsShown}
pub use Rattle.public_queries.specs.KnownPaths.{RepresentsStub, RepresentsWay}
pub use Rattle.public_queries.specs.OwnRows.{is_closed_there, is_open_there, published_standing}
pub use Rattle.public_queries.specs.PageLines.{box_lines, closed_page, housed_lines, lines_or, nearest_lines}
pub use Rattle.public_queries.specs.PageLines.{page_of_units, told_head, told_text}
pub use Rattle.public_queries.specs.PageNeeds.{AreMarksOf, IsMarked, all_needed, values_needed}
pub use Rattle.public_queries.specs.PathMarks.{are_clear, ends_closed, is_clear, shows_marked}
pub use Rattle.public_queries.specs.PathValues.{coded_of, coded_way, identifiers_of, unit_values}
pub use Rattle.public_queries.specs.declared.path_values.OnPath.{OnPath}
