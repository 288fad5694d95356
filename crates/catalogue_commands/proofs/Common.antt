-- The names that several proofs of this crate cite, passed on from one place. Declares nothing.
pub use Rattle.std.proofs.lemmas.Bool.{cases_Bool, eqb-true, false≢true, le-ltb, lt-ltb}
pub use Rattle.std.proofs.lemmas.List.{length-append, length-map}
pub use Rattle.std.specs.List.{AllByRecursion, flat_map, list_any}
pub use Rattle.std.specs.Prelude.{filter, max, nat_lt, ⊤, ◌||◌}
pub use Rattle.sqlite.specs.Held.{state}
pub use Rattle.sqlite.specs.State.{HasCleanDisk}
pub use Rattle.sqlite.specs.Tree.{Trees}
pub use Rattle.tree_core.proofs.EachLemmas.{branch-each, cut-each, has-each}
pub use Rattle.tree_core.specs.Forest.{Empty, Forest, HasDistinctIds, Node, branch, cut, each, has, has_place, join}
pub use Rattle.tree_core.specs.Forest.{move_last, nodes, path, put_below, size, tree}
pub use Rattle.visibility.specs.Marks.{IsNumbered, is_later}
pub use Rattle.catalogue_core.proofs.DistinctLists.{all_so}
pub use Rattle.catalogue_core.proofs.EachOf.{all_append, all_filtered, all_split}
pub use Rattle.catalogue_core.proofs.GoodChanges.{CanMove, cut_good, each_good, move_good, move_same}
pub use Rattle.catalogue_core.specs.CatalogueMerge.{Catalogue}
pub use Rattle.catalogue_core.specs.GoodCatalogues.{IsSomeDay}
pub use Rattle.catalogue_core.specs.LegibleCatalogues.{HasLegibleTexts, IsLegibleCatalogue}
pub use Rattle.catalogue_core.specs.Moves.{depth_after, height, is_into_itself, with_moved}
pub use Rattle.catalogue_core.specs.UnitLookup.{has_unit}
pub use Rattle.catalogue_core.specs.Units.{Unit, has_id, is_unit_closed}
pub use Rattle.office_tables.specs.Step.{OnlyTouches}
pub use Rattle.office_tables.specs.Versions.{Version}
pub use Rattle.catalogue_statements.specs.Representation.{Represents}
pub use Rattle.catalogue_statements.specs.declared.office.OfficeRow.{OfficeRow}
pub use Rattle.desk_store.specs.Holdings.{issued_of}
pub use Rattle.office_core.specs.Rules.{after, gate, removed}
pub use Rattle.office_core.specs.SoundOffice.{IsSoundOffice}
pub use Rattle.office_core.specs.State.{Permit, State, is_permitted}
pub use Rattle.state_encoding.specs.DeskEncoding.{permit_row, permit_rows}
pub use Rattle.state_encoding.specs.OfficeRows.{tables}
pub use Rattle.refinement.proofs.Changed.{shown_with}
pub use Rattle.refinement.proofs.Doings.{catalogue_passed, does_pass, does_refuse, does_then, is_refused, office_passed}
pub use Rattle.refinement.proofs.Doings.{refuses}
pub use Rattle.refinement.proofs.Judged.{distinct_ids, judged_with}
pub use Rattle.refinement.specs.AccessConditions.{CanBeJudged}
pub use Rattle.refinement.specs.Representation.{office_of}
pub use Rattle.access.proofs.OpenElsewhere.{none_left, others_open, stays_changed, stays_moved, stays_permitted}
pub use Rattle.access.proofs.OpenElsewhere.{still_open}
pub use Rattle.access.proofs.Passing.{IsChange, passed_freely, passed_where}
pub use Rattle.known_units.specs.KnownUnits.{TellOf}
pub use Rattle.access.specs.Gate.{AreAsked, AreEnough, IsAfter, OthersAreOpen, is_named_near}
pub use Rattle.catalogue_commands.specs.UnitMove.{stands_within}
