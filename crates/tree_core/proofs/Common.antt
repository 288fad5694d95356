-- The names that several proofs of this crate cite, passed on from one place. Declares nothing.
pub use Rattle.std.proofs.Math.Bool.{and-false, or-false, or-true}
pub use Rattle.std.proofs.lemmas.Bool.{MatchBool-at_false, MatchBool-at_true, and_from, and_left, and_parts, and_right}
pub use Rattle.std.proofs.lemmas.Bool.{cases_Bool, cases_eq, cases_lt, cases_order, eq-eqb, eqb-false, eqb-true}
pub use Rattle.std.proofs.lemmas.Bool.{false≢true, le-leb, le-ltb, leb-false, lt-leb, lt-ltb, ltb-false, ltb-true}
pub use Rattle.std.proofs.lemmas.Bool.{ne_eqb, not-false, or_cases, or_from, or_parts, or_right}
pub use Rattle.std.proofs.lemmas.Bool.Decides.{nat_tests}
pub use Rattle.std.proofs.lemmas.List.{drop_all, drop_more, get_or-map, get_or_append_left, get_or_default, get_or_push}
pub use Rattle.std.proofs.lemmas.List.{length-map, length-reverse, map-append, map-id, map_more, reverse-append}
pub use Rattle.std.proofs.lemmas.List.{take_all, take_more}
pub use Rattle.std.proofs.lemmas.List.Elements.{All-append, All-cons, All-drop, All-from_recursion, All-nil, All-take}
pub use Rattle.std.proofs.lemmas.List.Elements.{filter-append, recursion_from_All}
pub use Rattle.std.proofs.lemmas.List.Folds.{find-append, list_any-append}
pub use Rattle.std.proofs.lemmas.List.Sorted.{All-permutation, Contains-permutation, IsNonDecreasingBy-from_sort}
pub use Rattle.std.proofs.lemmas.List.Sorted.{IsNonDecreasingBy-from_sort_by_key, IsNonDecreasingBy-insert}
pub use Rattle.std.proofs.lemmas.List.Sorted.{IsPartitionPoint-from_clause, IsPartitionedBy-ltb, IsPermutation-append}
pub use Rattle.std.proofs.lemmas.List.Sorted.{IsPermutation-append_comm, IsPermutation-append_left}
pub use Rattle.std.proofs.lemmas.List.Sorted.{IsPermutation-append_right, IsPermutation-cons, IsPermutation-filter_both}
pub use Rattle.std.proofs.lemmas.List.Sorted.{IsPermutation-insert, IsPermutation-map, IsPermutation-middle}
pub use Rattle.std.proofs.lemmas.List.Sorted.{IsPermutation-refl, IsPermutation-sym, IsPermutation-to_front}
pub use Rattle.std.proofs.lemmas.List.Sorted.{IsPermutation-trans, answers_always, length_permutation}
pub use Rattle.std.proofs.lemmas.List.Sorted.{list_any-IsPermutation, ranks_by, searched, sorted_far}
pub use Rattle.std.proofs.lemmas.List.Sorted.{sum_by-IsPermutation}
pub use Rattle.std.proofs.lemmas.List.Sums.{count_by-le-length, length-filter, sum_by-append, sum_by-cons}
pub use Rattle.std.proofs.lemmas.Map.Keys.{IsDistinct-IsPermutation, IsDistinct-push}
pub use Rattle.std.specs.List.{All, AllByRecursion, AllWithin, Contains, count_by, find, flat_map, insert, list_any}
pub use Rattle.std.specs.List.{prefix_len, sum_by}
pub use Rattle.std.specs.List.Sorted.{IsNonDecreasing, IsNonDecreasingBy, IsPartitionPoint, IsPartitionedBy}
pub use Rattle.std.specs.Option.{option_cmp, option_eq, option_map_or, unwrap_or}
pub use Rattle.std.specs.Ordering.{is_eq, is_lt, ordering_reverse, ordering_then}
pub use Rattle.tree_core.specs.ArrivalParents.{AreParents, IsForestRow, MayGrow, first_numbers, is_named_as_parent}
pub use Rattle.tree_core.specs.ArrivalParents.{puts_below}
pub use Rattle.tree_core.specs.Arrivals.{CanJoin, added}
pub use Rattle.tree_core.specs.Forest.{Empty, Forest, HasDistinctIds, Node, add, branch, cut, each, has, has_place}
pub use Rattle.tree_core.specs.Forest.{join, move_last, nodes, path, put_below, put_last, size, tree, trees}
pub use Rattle.tree_core.specs.ForestGrowth.{grown_by, with_all}
pub use Rattle.tree_core.specs.Gains.{AreRising, gain, news, puts, with_gain}
pub use Rattle.tree_core.specs.Lifts.{AreApart, end_before, lifted, lifted_row, lifts_from, shifted, shifted_by}
pub use Rattle.tree_core.specs.LinkFaults.{ends_within, has_cycle, has_twice, is_next, lacks_parent, link_fault}
pub use Rattle.tree_core.specs.LinkFaults.{skips_place}
pub use Rattle.tree_core.specs.Links.{HoldsLinks, RepresentsLinks, rows_below, siblings}
pub use Rattle.tree_core.specs.NewRows.{AreLow, HavePlaces, new_rows, next_after, next_with, rows_by}
pub use Rattle.tree_core.specs.PlaceNumbers.{place_number}
pub use Rattle.tree_core.specs.Shifts.{AreSmall, end_of, inside, is_inside, lowered, narrowed, outside, raised, rebased}
pub use Rattle.tree_core.specs.Shifts.{room, spread, start_of, widened}
pub use Rattle.tree_core.specs.SpanFaults.{breaks_order, count_from, crosses, lacks_number, numbers, repeats}
pub use Rattle.tree_core.specs.SpanFaults.{some_cross, span_fault}
pub use Rattle.tree_core.specs.Spans.{RepresentsSpans, spans_from}
pub use Rattle.tree_core.specs.Steps.{AllEnd, EachEnds, Ends, Falls, Fits, IsByPlace, closed_up, is_at, is_before}
pub use Rattle.tree_core.specs.Steps.{links_left, moved, moved_row, place_cmp, with_second_number}
pub use Rattle.tree_core.specs.declared.arrivals.Arrival.{Arrival}
pub use Rattle.tree_core.specs.declared.rows.Link.{Link}
pub use Rattle.tree_core.specs.declared.rows.Span.{Span}
