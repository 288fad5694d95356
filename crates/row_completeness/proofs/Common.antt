-- The names that several proofs of this crate cite, passed on from one place. Declares nothing.
pub use Rattle.std.proofs.lemmas.Bool.{and_parts, cases_lt, false≢true, le-ltb, lt-ltb, ne_eqb, or_from, or_parts}
pub use Rattle.std.proofs.lemmas.Bool.{true≢false}
pub use Rattle.std.specs.List.{AllByRecursion, cons_option, list_all, list_any}
pub use Rattle.std.specs.Ordering.{int_cmp, ordering_reverse}
pub use Rattle.sqlite.specs.Order.{Row, column}
pub use Rattle.sqlite.specs.Tree.{IsAscending, IsTable, Trees}
pub use Rattle.sqlite.specs.declared.types.Value.TheVariants.{Blob, Int, Null, Real, Text}
pub use Rattle.sqlite_trees.proofs.ListLemmas.{IsPermutation-same, all_weaker, ascending-get_or, filter_all}
pub use Rattle.sqlite_trees.proofs.ListLemmas.{filter_none}
pub use Rattle.tree_core.specs.Forest.{Empty, Forest, Node, size}
pub use Rattle.tree_core.specs.Links.{HoldsLinks, RepresentsLinks}
pub use Rattle.tree_core.specs.declared.rows.Link.{Link}
pub use Rattle.tree_core.specs.declared.rows.Span.{Span}
pub use Rattle.catalogue_core.specs.CatalogueRows.{LinkRows, SpanRows, forest_of_links, forest_of_spans, grow}
pub use Rattle.catalogue_core.specs.CatalogueRows.{places_said}
pub use Rattle.office_tables.specs.Order.{Rises}
