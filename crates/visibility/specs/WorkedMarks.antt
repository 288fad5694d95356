-- The worked forest with marks, and short forms for what the public sees of it.
use Rattle.std.specs.Prelude.{ℕ, ℤ, pos, Bool, true, false, Option, Some, None}
use Rattle.tree_core.specs.Forest.{Forest, Empty, Node}
use Rattle.tree_core.specs.WorkedExamples.{leaf}
use Rattle.visibility.specs.declared.marks.Mark.{Mark}
use Rattle.visibility.specs.declared.marks.Kept.{Kept}

abbrev pub mark : ℕ → ℕ → ℕ → Bool → Option ℤ → Mark
mark u l r draft until = record { id = u; lft = l; rgt = r; draft = draft; until = until; boxed = false; permit = false }

-- the worked forest, with 2 a draft and 3 closed until the day 19784
abbrev pub example_marks : Forest Mark
example_marks = Node (mark 1 1 6 false None) (leaf (mark 2 2 3 true None) (leaf (mark 3 4 5 false (Some (pos 19784))) Empty)) (leaf (mark 4 7 8 false None) Empty)

abbrev pub kept_row : ℕ → ℕ → Bool → Kept
kept_row u depth stub = record { id = u; depth = depth; stub = stub }
