-- Marked units in walk order: who may see them, whose containers they share, and what the public sees.
use Rattle.std.specs.Prelude.{◌≡◌, ℕ, ℤ, int_lt, ◌+◌, ◌*◌, Bool, false, List, [], ◌∷◌, Option, Some, None, map}
use Rattle.visibility.specs.declared.marks.Mark.{Mark}
use Rattle.visibility.specs.declared.marks.Kept.{Kept}
use Rattle.tree_core.specs.Forest.{Forest, Empty, Node, size, walk}
use Rattle.visibility.specs.Visibility.{is_withheld, sharing_paths, public}

-- a closure until a day ends on that day
abbrev pub is_later : ℤ → Option ℤ → Bool
is_later today None = false
is_later today (Some until) = int_lt today until

-- whether it is closed today, that is, until a later day
abbrev pub is_closed : ℤ → Mark → Bool
is_closed today mark = is_later today mark.until

-- whether the marks of a path withhold its last unit today; `above` is whether the reader has a permit further up
abbrev pub withholds : ℤ → Bool → List Mark → Bool
withholds today above path =
    is_withheld (λ (mark : Mark). mark.draft) (is_closed today) (λ (mark : Mark). mark.permit) above path

-- each mark has the numbers of its node if the forest is numbered from k
abbrev pub IsNumbered : ℕ → Forest Mark → Type 0
IsNumbered k Empty = Unit {0}
IsNumbered k (Node mark children others) =
    (mark.lft ≡ k) × (mark.rgt ≡ k + 2 * size children + 1)
    × IsNumbered (k + 1) children × IsNumbered (k + 2 * size children + 2) others

-- the paths, within its branch, of a unit and of all units below it that take their containers from it
abbrev pub contents_paths : Mark → Forest Mark → List (List Mark)
contents_paths unit below = (unit ∷ []) ∷ sharing_paths (λ (mark : Mark). mark.boxed) (unit ∷ []) below

-- the public part of a forest in walk order, each unit with its depth and whether it is a stub
abbrev pub public_walk : ℤ → Forest Mark → List Kept
public_walk today f =
    map (λ (seen : (Mark × Bool) × ℕ). record { id = seen.0.0.id; depth = seen.1; stub = seen.0.1 })
    (walk 0 (public (λ (mark : Mark). mark.draft) (is_closed today) f))
