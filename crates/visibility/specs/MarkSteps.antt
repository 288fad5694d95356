-- Definitions for private steps: walking over marks.
use Rattle.std.specs.Prelude.{ℤ, Bool, true, ◌||◌, not, if◌then◌else◌, ◌&&◌}
use Rattle.visibility.specs.declared.marks.Mark.{Mark}
use Rattle.tree_core.specs.Forest.{Forest, Empty, Node}
use Rattle.visibility.specs.Marks.{is_closed}

-- whether a unit's own mark does not withhold it; `opened` is whether the reader has a permit above it
abbrev pub is_clean : ℤ → Bool → Mark → Bool
is_clean today opened mark = not mark.draft && (opened || mark.permit || not (is_closed today mark))

-- the same for each node that shares the containers above the forest
abbrev pub clean_below : ℤ → Bool → Forest Mark → Bool
clean_below today opened Empty = true
clean_below today opened (Node mark children others) =
    if mark.boxed then clean_below today opened others
    else is_clean today opened mark && (clean_below today (opened || mark.permit) children && clean_below today opened others)
