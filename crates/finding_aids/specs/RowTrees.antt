-- The forest of a file's rows as the code grows it.
use Rattle.std.specs.Prelude.{ℕ, suc, max, pos, List, [], ◌∷◌, take, drop, reverse, map, Option}
use Rattle.atom_csv.specs.declared.file.Row.{Row}
use Rattle.tree_core.specs.Forest.{Forest, Empty, Node, join}
use Rattle.catalogue_core.specs.CatalogueMerge.{New, new_units, numbered_from}
use Rattle.catalogue_core.specs.PublicForest.{PublicUnit, Told, public_of}
use Rattle.finding_aids.specs.declared.previews.trees.Tree.{Tree}
use Rattle.finding_aids.specs.declared.previews.trees.Tree.TheOpen.{Tree-F}
use Rattle.finding_aids.specs.declared.previews.trees.Tree.TheFolds.{fold-Tree}

-- forests one after another
abbrev pub side_by_side : List (Forest PublicUnit) → Forest PublicUnit
side_by_side [] = Empty
side_by_side (f ∷ fs) = join f (side_by_side fs)

-- one tree, with the forest of each child in its place
abbrev pub tree_step : Tree-F (Forest PublicUnit) → Forest PublicUnit
tree_step t = Node (Told t.id t.row.now.values) (side_by_side t.children.items) Empty

-- the forest of a tree
abbrev pub tree_of : Tree → Forest PublicUnit
tree_of = fold-Tree (Forest PublicUnit) tree_step

-- the forest of trees
abbrev pub grove : List Tree → Forest PublicUnit
grove trees = side_by_side (map tree_of trees)

-- the same for trees with the last one first
abbrev pub side_by_side_backwards : List (Forest PublicUnit) → Forest PublicUnit
side_by_side_backwards [] = Empty
side_by_side_backwards (f ∷ fs) = join (side_by_side_backwards fs) f

abbrev pub forest_of_trees : List Tree → Forest PublicUnit
forest_of_trees trees = side_by_side_backwards (map tree_of trees)

-- the height of a tree: the most units below one another
abbrev pub highest : List ℕ → ℕ
highest [] = 0
highest (n ∷ ns) = max n (highest ns)

abbrev pub height_step : Tree-F ℕ → ℕ
height_step t = suc (highest t.children.items)

abbrev pub tree_height : Tree → ℕ
tree_height = fold-Tree ℕ height_step

abbrev pub height_of_all : List Tree → ℕ
height_of_all trees = highest (map tree_height trees)

-- what the public would see of new rows right below a parent
abbrev pub seen_below : Option ℕ → List New → Forest PublicUnit
seen_below parent new = public_of (pos 0) (new_units [] parent new)

-- the rows from the k-th on, as new rows below those above them
abbrev pub rest_of : List Row → ℕ → List New
rest_of rows k = numbered_from Empty [] (suc k) (reverse (take k rows)) (drop k rows)
