-- A forest worked by hand, and short forms for rows.
use Rattle.std.specs.Prelude.{ℕ, Option}
use Rattle.tree_core.specs.declared.rows.Link.{Link}
use Rattle.tree_core.specs.declared.rows.Span.{Span}
use Rattle.tree_core.specs.Forest.{Forest, Empty, Node}

abbrev pub leaf : {A : Type 0} → A → Forest A → Forest A
leaf a others = Node a Empty others

-- 1 with 2 and 3 below it, and 4
abbrev pub example_forest : Forest ℕ
example_forest = Node 1 (leaf 2 (leaf 3 Empty)) (leaf 4 Empty)

abbrev pub link_of : ℕ → Option ℕ → ℕ → Link
link_of u p k = record { id = u; parent = p; ord = k }

abbrev pub span_of : ℕ → ℕ → ℕ → Span
span_of u l r = record { id = u; lft = l; rgt = r }
