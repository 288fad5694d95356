-- The names that several proofs of this crate cite, passed on from one place. Declares nothing.
pub use Rattle.std.proofs.lemmas.Bool.{and_left, and_parts, and_right, cases_Bool, cases_eq, cases_lt, cases_order}
pub use Rattle.std.proofs.lemmas.Bool.{eqb-true, false≢true, le-leb, le-ltb, leb-false, leb-true, lt-leb, ltb-false}
pub use Rattle.std.proofs.lemmas.Bool.{ltb-true, ne_eqb, not-false, or_from, or_parts}
pub use Rattle.std.proofs.lemmas.List.{drop_all, get_or-drop, get_or-set_other, get_or-set_same, get_or-take}
pub use Rattle.std.proofs.lemmas.List.{get_or_default, length-append, length-map, length-set, length-take, same_lists}
pub use Rattle.std.proofs.lemmas.List.{take-append-drop, take-map, take_all}
pub use Rattle.std.proofs.lemmas.List.Elements.{All-from_recursion, All-weaker, filter-append, filter_passes}
pub use Rattle.std.proofs.lemmas.List.Elements.{recursion_from_All}
pub use Rattle.std.proofs.lemmas.List.Folds.{list_all-map, list_any_at, list_any_none}
pub use Rattle.std.proofs.lemmas.List.Sorted.{IsNonDecreasingBy-from_sort, IsNonDecreasingBy-take, IsPermutation-cons}
pub use Rattle.std.proofs.lemmas.List.Sorted.{IsPermutation-middle, IsPermutation-refl, IsPermutation-sym}
pub use Rattle.std.proofs.lemmas.List.Sorted.{IsPermutation-trans, IsStrictWeakOrder-by_number, answers_always}
pub use Rattle.std.proofs.lemmas.List.Sorted.{length_permutation, list_any-IsPermutation, ranks_by, searched}
pub use Rattle.std.proofs.lemmas.List.Sorted.{sorted_far, sum_by-IsPermutation}
pub use Rattle.std.proofs.lemmas.List.Sums.{count_by_more_no, count_by_more_yes, length-filter, sum_by-cons}
pub use Rattle.std.specs.Cmp.{IsStrictWeakOrder, IsTotalOrder, nat_cmp_total, on_total, then_total}
pub use Rattle.std.specs.Fmt.{decimal, format_spec, styled_decimal}
pub use Rattle.std.specs.List.{All, AllByRecursion, count_by, flat_map, list_all, list_any, range_with_len}
pub use Rattle.std.specs.List.Sorted.{IsNonDecreasing, IsPermutation, IsSorted, IsSortedBy, IsSortedByKey, IsStableBy}
pub use Rattle.std.specs.List.Sorted.{IsStableByKey, ties}
pub use Rattle.std.specs.Ordering.{int_cmp, int_eq, is_eq, is_lt, nat_cmp, ordering_reverse, ordering_then}
pub use Rattle.std.specs.Prelude.{int_le, is_none, is_some, slice_get}
pub use Rattle.std.specs.declared.cmp.Ordering.TheVariants.{Equal, Greater, Less}
pub use Rattle.isad_core.specs.Days.{is_day_number}
pub use Rattle.isad_core.specs.Limits.{most_orders, most_permits, most_runs}
pub use Rattle.isad_core.specs.Words.{are_numbered_from, is_between, some_and}
pub use Rattle.tree_core.proofs.Lists.{Contains-from_In, In, any_agree, any_none, eqb_comm, is_among, list_any-map}
pub use Rattle.tree_core.proofs.Lists.{none_any}
pub use Rattle.desk_core.specs.Consistency.{asking, asking_cmp, holder, is_fit_holding, is_fit_line, is_fit_order}
pub use Rattle.desk_core.specs.Consistency.{is_fit_permit, is_fit_run, is_fit_seat, is_held, is_order_out_for}
pub use Rattle.desk_core.specs.Consistency.{lies_well, nth_order, placing, placing_cmp, times, waits_or_is_out}
pub use Rattle.desk_core.specs.Orders.{IsInOrder, in_order, put_in_order}
pub use Rattle.desk_core.specs.RowRecords.{Surrounds, holding_record, order_record, permit_record, run_line_record}
pub use Rattle.desk_core.specs.RowRecords.{run_record, seat_record}
pub use Rattle.desk_core.specs.Slips.{at_right, begins_character, characters, is_shelved_before, shelf_order, slip_head}
pub use Rattle.desk_core.specs.Slips.{slip_line, slip_numbers}
pub use Rattle.desk_core.specs.declared.consistency.context.Around.{Around}
pub use Rattle.desk_core.specs.declared.consistency.rows.OrderRow.{OrderRow}
pub use Rattle.desk_core.specs.declared.consistency.tally.Tally.{Tally}
pub use Rattle.desk_core.specs.declared.run.Candidate.{Candidate}
