-- The names that several proofs of this crate cite, passed on from one place. Declares nothing.
pub use Rattle.std.proofs.lemmas.Bool.{cases_Bool, eq-eqb, eqb-true, false≢true, ne_eqb}
pub use Rattle.std.proofs.lemmas.List.{drop_all, drop_more, get_or-map, get_or_default, length-map, length-reverse}
pub use Rattle.std.proofs.lemmas.List.{length-take-le, map-append, map_more, reverse-append, reverse-reverse, take_all}
pub use Rattle.std.proofs.lemmas.List.{take_more}
pub use Rattle.std.proofs.lemmas.List.Sorted.{IsPermutation-reverse, IsPermutation-sym, IsPermutation-trans}
pub use Rattle.std.proofs.lemmas.List.Sorted.{length_permutation, list_any-IsPermutation, sum_by-IsPermutation}
pub use Rattle.std.specs.Cmp.{IsTotalOrder, int_cmp_total, on_total, then_total, tied_itself}
pub use Rattle.std.specs.List.{AllByRecursion, AllPairs, dedup, list_any}
pub use Rattle.std.specs.List.Sorted.{IsPermutation, IsSorted}
pub use Rattle.std.specs.Option.{option_eq}
pub use Rattle.std.specs.Ordering.{int_cmp, is_lt, nat_cmp, ordering_then}
pub use Rattle.sqlite.specs.Effect.{Database}
pub use Rattle.sqlite.specs.Held.{Held, state}
pub use Rattle.sqlite.specs.State.{HasCleanDisk, State}
pub use Rattle.sqlite.specs.Tree.{Trees, put_row}
pub use Rattle.sqlite_rules.specs.Lists.{Has}
pub use Rattle.sqlite_trees.proofs.ListLemmas.{IsPermutation-filter, all-append, all-get_or, all-permutation}
pub use Rattle.sqlite_trees.proofs.ListLemmas.{all_weaker, ascending-filter, ascending-map}
pub use Rattle.tree_core.proofs.Adding.{Below, Beside, Here, absent, count, count-cons, eqb_flip, is_below, place}
pub use Rattle.tree_core.proofs.Adding.{siblings-add}
pub use Rattle.tree_core.proofs.LastPlaces.{last_shown}
pub use Rattle.tree_core.proofs.LinkPaths.{Parts, has-links, has_beside, has_child, holds, ids-rows_below, links_none}
pub use Rattle.tree_core.proofs.LinkPaths.{other_id, parts, path_none, path_to, upwards_more}
pub use Rattle.tree_core.proofs.NumberingWalk.{closed-set, closed_after, closed_past, ids-number}
pub use Rattle.tree_core.specs.Forest.{Empty, Forest, HasDistinctIds, Node, add, branch, each, has, has_place, nodes}
pub use Rattle.tree_core.specs.Forest.{path, size, tree}
pub use Rattle.tree_core.specs.Links.{RepresentsLinks, rows_below, siblings}
pub use Rattle.tree_core.specs.Spans.{spans_from}
pub use Rattle.tree_core.specs.Tops.{last_but_one, right_above, tops}
pub use Rattle.tree_core.specs.declared.rows.Link.{Link}
pub use Rattle.tree_core.specs.declared.rows.Span.{Span}
pub use Rattle.visibility.specs.declared.marks.Mark.{Mark}
pub use Rattle.catalogue_core.specs.Bounds.{IsBounded, IsKept, IsLegibleUnit}
pub use Rattle.catalogue_core.specs.CatalogueMerge.{Catalogue, box_number}
pub use Rattle.catalogue_core.specs.MarkLookup.{mark_at, marks_at}
pub use Rattle.catalogue_core.specs.UnitMarks.{AreMarks, AreWalkMarks, mark_of, names_container, part_of}
pub use Rattle.catalogue_core.specs.UnitMarks.{without_number}
pub use Rattle.catalogue_core.specs.Units.{Unit, has_id}
pub use Rattle.office_tables.proofs.CallEnds.{leaves_part, making_last, making_not, same_fault}
pub use Rattle.office_tables.proofs.Calls.{cut_after, early, goes_nowhere, goes_then, looks_nowhere, looks_then}
pub use Rattle.office_tables.proofs.Calls.{on_ok_then}
pub use Rattle.office_tables.proofs.LinkFaults.{few_links, low_places, places_below}
pub use Rattle.office_tables.proofs.LookUps.{Hands, looks_full, looks_ill, looks_passed, looks_passed_later, looks_well}
pub use Rattle.office_tables.proofs.Rows.{had, has_map, map_has}
pub use Rattle.office_tables.proofs.Sparing.{spares_full, spares_known}
pub use Rattle.office_tables.proofs.StoreCalls.{makes_last, makes_none, makes_not, makes_well, tells_cut, tells_last}
pub use Rattle.office_tables.proofs.StoreCalls.{tells_not, tells_well}
pub use Rattle.office_tables.specs.Order.{Rises}
pub use Rattle.office_tables.specs.Step.{Continues, Goes, LeavesUnchanged, OnlyTouches, PutsRow}
pub use Rattle.catalogue_statements.proofs.LinkRepresentation.{adds, no_link_rows}
pub use Rattle.catalogue_statements.proofs.UpdateEnds.{leaves_so, looked_only, makes_first, makes_ill, makes_later}
pub use Rattle.catalogue_statements.proofs.UpdateEnds.{makes_passed}
pub use Rattle.catalogue_statements.specs.Representation.{RepresentsHousings, RepresentsLinkRows, RepresentsUnits}
pub use Rattle.catalogue_statements.specs.Representation.{housing_places, numbered_containers}
pub use Rattle.catalogue_statements.specs.Rows.{HousingRow, by_housing, by_number, by_place, counted_from, link_row}
pub use Rattle.tree_places.specs.LastPlaces.{KnowsLast, last_known, taken_below}
pub use Rattle.tree_places.specs.declared.links.Task.TheVariants.{Close, Open}
