-- The names that several proofs of this crate cite, passed on from one place. Declares nothing.
pub use Rattle.std.proofs.lemmas.Bool.{and_from, and_parts, and_right, cases_Bool, eq-eqb, eqb-true, false≢true}
pub use Rattle.std.proofs.lemmas.Bool.{leb-true, ltb-false, ne_eqb, not-false, not-true, or_cases, or_left, or_parts}
pub use Rattle.std.proofs.lemmas.Bool.{or_right}
pub use Rattle.std.proofs.lemmas.List.{length-map, map-append}
pub use Rattle.std.proofs.lemmas.List.Elements.{filter-append, filter_map-append}
pub use Rattle.std.proofs.lemmas.List.Folds.{list_any-append}
pub use Rattle.std.proofs.lemmas.List.Sorted.{IsPermutation-append, IsPermutation-append_comm}
pub use Rattle.std.proofs.lemmas.List.Sorted.{IsPermutation-append_left, IsPermutation-append_right, IsPermutation-cons}
pub use Rattle.std.proofs.lemmas.List.Sorted.{IsPermutation-map, IsPermutation-middle, IsPermutation-refl}
pub use Rattle.std.proofs.lemmas.List.Sorted.{IsPermutation-sym, IsPermutation-trans, length_permutation}
pub use Rattle.std.proofs.lemmas.List.Sorted.{list_any-IsPermutation}
pub use Rattle.std.specs.List.{AllByRecursion, cons_option, flat_map, list_all, list_any}
pub use Rattle.std.specs.List.Sorted.{IsPermutation}
pub use Rattle.std.specs.Option.{option_eq, option_map_or, option_to_list}
pub use Rattle.std.specs.Prelude.{IfSome, IsUtf8, Result, count_by, filter_map, find, if◌then◌else◌, is_some, max}
pub use Rattle.std.specs.Prelude.{nat_le, nat_lt, option_and_then, option_map, slice_get, slice_index, unwrap_or, ⊤}
pub use Rattle.std.specs.Prelude.{◌^◌}
pub use Rattle.std.specs.Str.{bytes_eq, is_utf8}
pub use Rattle.isad_core.specs.Boxes.{distinct, is_same_box}
pub use Rattle.isad_core.specs.Codes.{code_of}
pub use Rattle.isad_core.specs.Limits.{IsNumber, most_bytes, most_deep, most_units}
pub use Rattle.isad_core.specs.Texts.{Bytes, is_blank_text}
pub use Rattle.isad_core.specs.Values.{identifier, line_elements, own_lines, text_of, title}
pub use Rattle.isad_core.specs.declared.display.Page.{Page}
pub use Rattle.isad_core.specs.declared.values.BoxKey.{BoxKey}
pub use Rattle.isad_core.specs.declared.values.Values.{Values}
pub use Rattle.tree_core.proofs.EachLemmas.{has-each, join-each, nodes-each, path-each, put_below-each, size-each}
pub use Rattle.tree_core.proofs.Lists.{any_agree, apart_append, eqb_comm, list_any-map}
pub use Rattle.tree_core.specs.Forest.{Empty, Forest, HasDistinctIds, Node, add, branch, cut, each, has, has_place}
pub use Rattle.tree_core.specs.Forest.{join, move_last, nodes, path, put_below, put_last, size, tree}
pub use Rattle.visibility.specs.Visibility.{public, sharing_paths}
pub use Rattle.atom_csv.specs.FileContents.{FileLine, cause_if, causes, culture, file_of, first_culture}
pub use Rattle.atom_csv.specs.FileContents.{has_other_width, has_slug_alone, header_causes, is_late, is_long}
pub use Rattle.atom_csv.specs.FileContents.{is_told_again, legacy, line_fault, line_faults, lines_below, of_records}
pub use Rattle.atom_csv.specs.FileContents.{or_fault, records_of, row_number, row_of, row_told, rows, stood_above}
pub use Rattle.atom_csv.specs.FileContents.{translations, under}
pub use Rattle.atom_csv.specs.FileProperties.{AllDiffer, AreValues, IsLegibleRow, IsNotBlank}
pub use Rattle.atom_csv.specs.declared.file.File.{File}
pub use Rattle.atom_csv.specs.declared.file.Row.{Row}
pub use Rattle.catalogue_core.specs.Aids.{Repository, identifier_of, numbered_boxes, shown_below, shown_unit}
pub use Rattle.catalogue_core.specs.CatalogueMerge.{Catalogue, New, box_number, branches, cause_at, depth_under}
pub use Rattle.catalogue_core.specs.CatalogueMerge.{faults_below, grown, has_legacy, is_known, merge, merged}
pub use Rattle.catalogue_core.specs.CatalogueMerge.{merged_boxes, merged_forest, new_unit, new_units, number_among}
pub use Rattle.catalogue_core.specs.CatalogueMerge.{numbered_from, or_first, parent_number, revised}
pub use Rattle.catalogue_core.specs.ContainerContents.{containers_of, housed_below, is_some_there, is_withheld_from}
pub use Rattle.catalogue_core.specs.ContainerContents.{own_or, paths, paths_below}
pub use Rattle.catalogue_core.specs.Descriptions.{HasAllPlaces, KnowsItsContainers, with_boxes, with_unit, with_values}
pub use Rattle.catalogue_core.specs.EntryByRow.{CountsAlike, and_then, count_rows, depth_there, if_ok, new_at}
pub use Rattle.catalogue_core.specs.EntryByRow.{number_there, unless_cause, with_new, with_row, with_row_at, with_rows}
pub use Rattle.catalogue_core.specs.GoodCatalogues.{AreGoodContainers, AreGoodUnits, IsGoodUnit, IsSomeDay}
pub use Rattle.catalogue_core.specs.GoodCatalogues.{is_good_text, is_same_unit}
pub use Rattle.catalogue_core.specs.GoodRows.{IsGoodRow}
pub use Rattle.catalogue_core.specs.Intake.{Intake, catalogued_unit, is_changed, is_new, is_same, same_values}
pub use Rattle.catalogue_core.specs.Intake.{take_rows, with_file}
pub use Rattle.catalogue_core.specs.Members.{StandsIn}
pub use Rattle.catalogue_core.specs.Moves.{depth, depth_after, height, is_into_itself}
pub use Rattle.catalogue_core.specs.OneRule.{NumbersArePlaces, PagesTellTheHousing, StubsWhatIsClosed, TellsWhatIsOpen}
pub use Rattle.catalogue_core.specs.OneRule.{is_closed_alone, is_open_to_public, is_told, number_and_name, told_as_stub}
pub use Rattle.catalogue_core.specs.OneRule.{told_whole}
pub use Rattle.catalogue_core.specs.Pages.{Coded, PageBox, PageLine, Press, before_last, boxes_on_page, boxes_or}
pub use Rattle.catalogue_core.specs.Pages.{coded_below, has_public_number, nearest_boxes, nearest_value, page_at}
pub use Rattle.catalogue_core.specs.Pages.{page_boxes, page_line, page_of, pages_side_by_side, public_number}
pub use Rattle.catalogue_core.specs.Pages.{with_codes}
pub use Rattle.catalogue_core.specs.PublicForest.{PublicUnit, Stub, Told, public_of, public_unit, stub_of}
pub use Rattle.catalogue_core.specs.PublishedUnits.{AreToldOn, BoxIsTold, IsPublished, LineIsTold, TellsOf, boxes_told}
pub use Rattle.catalogue_core.specs.PublishedUnits.{identifiers, last_of}
pub use Rattle.catalogue_core.specs.Sources.{is_between, is_source, is_source_letter}
pub use Rattle.catalogue_core.specs.UnitLookup.{has_unit}
pub use Rattle.catalogue_core.specs.Units.{Unit, has_id, is_from, is_unit_closed}
