-- The names that several proofs of this crate cite, passed on from one place. Declares nothing.
pub use Rattle.std.proofs.lemmas.Bool.{cases_Bool, eq-eqb, eqb-false, eqb-true, le-ltb, lt-ltb, ne_eqb}
pub use Rattle.std.proofs.lemmas.List.{append-nil, drop_all, drop_more, length-append, length-map, length-reverse}
pub use Rattle.std.proofs.lemmas.List.{length-take-le, map-append, nil_from_length, reverse-append, take-append-drop}
pub use Rattle.std.proofs.lemmas.List.{take_all, take_more}
pub use Rattle.std.specs.BTreeMap.{BTreeMap, btree_map_len, get_by, get_by_text, is_at}
pub use Rattle.std.specs.List.{All, flat_map}
pub use Rattle.std.specs.Prelude.{filter, if◌then◌else◌, is_some, not, option_and_then, option_map, slice_get}
pub use Rattle.std.specs.Prelude.{unwrap_or}
pub use Rattle.isad_core.specs.Limits.{most_deep}
pub use Rattle.isad_core.specs.PrintedDescriptions.{aid, unit_lines}
pub use Rattle.isad_core.specs.Texts.{Bytes}
pub use Rattle.isad_core.specs.declared.values.BoxKey.{BoxKey}
pub use Rattle.tree_core.specs.Forest.{Empty, Forest, Node, each, join}
pub use Rattle.atom_csv.specs.declared.file.Row.{Row}
pub use Rattle.catalogue_core.specs.Aids.{Repository, identifier_of, shown_by, shown_told, shown_unit_by}
pub use Rattle.catalogue_core.specs.CatalogueMerge.{New, box_number, branches, cause_at, empty_catalogue, faults_below}
pub use Rattle.catalogue_core.specs.CatalogueMerge.{has_legacy, is_known, merge, merged, new_unit, number_among}
pub use Rattle.catalogue_core.specs.CatalogueMerge.{numbered_from, or_first, parent_number}
pub use Rattle.catalogue_core.specs.PublicForest.{PublicUnit, Told, public_of}
pub use Rattle.finding_aids.specs.Numbers.{AreNumbered, Texts, compare_container, mapped_number, number_by}
pub use Rattle.finding_aids.specs.Places.{AllPlaced, ArePlaced, IsPlaced, IsPlacing, depth_below, faults, index_of}
pub use Rattle.finding_aids.specs.Places.{place_at, place_below}
pub use Rattle.finding_aids.specs.RowTrees.{forest_of_trees, grove, height_of_all, height_step, highest, rest_of}
pub use Rattle.finding_aids.specs.RowTrees.{seen_below, side_by_side, side_by_side_backwards, tree_height, tree_of}
pub use Rattle.finding_aids.specs.RowTrees.{tree_step}
pub use Rattle.finding_aids.specs.Slots.{HasGrown, IsBelow, depth_at, grown_at}
pub use Rattle.finding_aids.specs.declared.previews.trees.Slot.{Slot}
pub use Rattle.finding_aids.specs.declared.previews.trees.Tree.{Tree}
pub use Rattle.finding_aids.specs.declared.previews.trees.Tree.TheViews.{out-Tree, the_lemmas}
