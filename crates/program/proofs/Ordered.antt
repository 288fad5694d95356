-- The rows of each table stand in order: a store that was opened keeps each tree by the shape that its own list says.
use Rattle.std.proofs.Common.{ℕ, true, List, [], ◌∷◌, subst, sym, inl, inr}
use Rattle.std.proofs.Math.Logic.{∥∥₁_elim}
use Rattle.sqlite.specs.Schema.{Schema}
use Rattle.sqlite.specs.State.{State}
use Rattle.sqlite.specs.Table.{Table}
use Rattle.sqlite_catalog.proofs.LayoutLemmas.{table_shape}
use Rattle.sqlite_catalog.specs.Listing.{Lists, IsTableRow}
use Rattle.sqlite_pages.specs.PageMap.{PageMap}
use Rattle.sqlite_rules.proofs.ListLemmas.{all_from}
use Rattle.sqlite_store.proofs.ListingLemmas.{all_ordered}
use Rattle.sqlite_store.specs.Listed.{catalog_rows, is_listed}
use Rattle.sqlite_store.specs.Listing.{IsOurs, file_trees, all_shapes, all_reals}
use Rattle.sqlite_store.specs.declared.catalog.Wanted.{Wanted}
use Rattle.sqlite_trees.specs.Objects.{catalog_tree, IsListed}
use Rattle.sqlite_trees.specs.Props.{IsOrdered-prop}
use Rattle.sqlite_trees.specs.View.{IsShaped, IsOrdered}
use Rattle.sqlite_trees.specs.declared.store.Shape.{Shape}
use Rattle.program.specs.Rows.{StandsInOrder, StandInOrder}
use Rattle.program.proofs.Common.{AllByRecursion, AllZip, AreFoundIn, FindsIn, Image, IsLive, Opens, Trees}

abbrev AreOrdered : Trees → List Table → Type 0
AreOrdered trees tables = AllByRecursion (λ (table : Table). StandsInOrder (trees table.tree)) tables

-- the list says of each table that its tree is one of rows
by_shapes : (shapes : ℕ → Shape) (reals : ℕ → ℕ) (trees : Trees) (schema : Schema)
    → IsListed (trees catalog_tree) shapes reals → IsOrdered shapes trees
    → Lists (trees catalog_tree) schema → AreOrdered trees schema.tables
by_shapes shapes reals trees schema listed ordered lists =
    let rising = subst (λ s. IsShaped s (trees catalog_tree)) listed.itself.0 (ordered catalog_tree) in
    all_from (λ (table : Table). StandsInOrder (trees table.tree)) schema.tables (λ table there.
    let stands = subst (λ s. IsShaped s (trees table.tree)) (table_shape listed rising.0 lists.listed table there).0 (ordered table.tree) in
    record { rise = stands.0; numbers = stands.1 })

in_file : (size : ℕ) (wanted : List Wanted) (pages : PageMap) (schema : Schema) → ∥ IsOurs size true wanted pages ∥₁
    → Lists (file_trees size wanted pages catalog_tree) schema → AreOrdered (file_trees size wanted pages) schema.tables
in_file size wanted pages schema ours =
    by_shapes (all_shapes wanted) (all_reals wanted) (file_trees size wanted pages) schema
    (rw catalog_rows (is_listed wanted))
    (∥∥₁_elim ours (IsOrdered-prop (all_shapes wanted) (file_trees size wanted pages)) (λ it. all_ordered it.file.db _))

-- an empty list names no table
in_nothing : (trees : Trees) (tables : List Table) → AllZip IsTableRow [] tables → AreOrdered trees tables
in_nothing trees [] rows = tt
in_nothing trees (table ∷ tables) rows = absurd rows

found : (image : Image) (trees : Trees) (schema : Schema) → AreFoundIn image trees → Lists (trees catalog_tree) schema
    → AreOrdered trees schema.tables
found image trees schema (inl it) lists =
    subst (λ t. AreOrdered t schema.tables) (sym it.5) (in_file it.0 it.2 it.1 schema it.4 (subst (λ t. Lists (t catalog_tree) schema) it.5 lists))
found image trees schema (inr none) lists = in_nothing trees schema.tables (let listed = rw none.1.1 at lists in listed.listed.tables)

-- of what was found in a file
pub stand_in_order : (image : Image) (s : State) → Opens s → IsLive s → FindsIn image s → StandInOrder s.now
stand_in_order image s opens live finds =
    found image s.now.trees s.now.schema (subst (λ db. AreFoundIn image db.trees) (sym opens.clean) finds.reads) (live opens.is_open).0.lists
