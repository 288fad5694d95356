-- The names that several proofs of this crate cite, passed on from one place. Declares nothing.
pub use Rattle.std.proofs.lemmas.Bool.{cases_Bool, cases_eq, cases_lt, eq-eqb, eqb-false, eqb-true, false≢true, le-leb}
pub use Rattle.std.proofs.lemmas.Bool.{le-ltb, lt-leb, lt-ltb, ltb-false, ltb-true, ne_eqb, or_parts}
pub use Rattle.std.proofs.lemmas.List.{drop-drop, drop_all, drop_at, drop_more, get_or-drop, get_or-map, get_or-take}
pub use Rattle.std.proofs.lemmas.List.{get_or_append_left, get_or_at, get_or_default, get_or_push, length-map}
pub use Rattle.std.proofs.lemmas.List.{length_push, map-append, reverse-append, same_lists, take-map, take_all, take_at}
pub use Rattle.std.proofs.lemmas.List.{take_more}
pub use Rattle.std.proofs.lemmas.List.Sorted.{IsNonDecreasingBy-from_default, IsNonDecreasingBy-from_sort_by_key}
pub use Rattle.std.proofs.lemmas.List.Sorted.{IsPartitionPoint-from_clause, IsPartitionedBy-ltb, IsPermutation-map}
pub use Rattle.std.proofs.lemmas.List.Sorted.{list_any-IsPermutation}
pub use Rattle.std.specs.List.{IsDistinct, filter, find, list_any}
pub use Rattle.std.specs.List.Sorted.{IsNonDecreasing, IsNonDecreasingBy, IsPartitionPoint, IsPermutation}
pub use Rattle.tree_core.proofs.Lists.{Contains-from_In, In, In-append, In-map, In-permutation, In_get, any_from_In}
pub use Rattle.tree_core.proofs.Lists.{any_none, find_none, list_any-map, none_any}
pub use Rattle.tree_core.specs.Forest.{Empty, Forest, Node, branch, each, has, nodes, path, size, tree}
pub use Rattle.tree_core.specs.Tops.{below_first, last_but_one, part_below, right_above, tops}
pub use Rattle.visibility.specs.Marks.{IsNumbered}
pub use Rattle.visibility.specs.declared.marks.Mark.{Mark}
pub use Rattle.known_forest.specs.Above.{HoldsAbove, IsRightAbove, after}
pub use Rattle.known_forest.specs.Changes.{changed}
pub use Rattle.known_forest.specs.KnownMarks.{AreMarksOf, has_id, is_chosen}
pub use Rattle.known_forest.specs.Numbers.{ids_of, lfts_of, rgts_of}
pub use Rattle.known_forest.specs.Places.{AreInOrder, HoldsPlaces, IsAt}
pub use Rattle.known_forest.specs.Steps.{way}
pub use Rattle.known_forest.specs.declared.places.Place.{Place}
