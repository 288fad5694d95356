-- Which unit the public is shown, told by the marks of its path.
use Rattle.std.specs.Prelude.{ℤ, Bool, false, not, ◌&&◌, List, [], ◌∷◌}
use Rattle.std.specs.List.{list_all}
use Rattle.visibility.specs.Marks.{is_later}
use Rattle.visibility.specs.declared.marks.Mark.{Mark}

-- the unit is not a draft, and not closed on that day
abbrev pub is_clear : ℤ → Mark → Bool
is_clear day mark = not mark.draft && not (is_later day mark.until)

abbrev pub are_clear : ℤ → List Mark → Bool
are_clear day marks = list_all (is_clear day) marks

-- no unit on the path is a draft, and none above the last is closed
abbrev pub shows_marked : ℤ → List Mark → Bool
shows_marked day [] = false
shows_marked day (mark ∷ []) = not mark.draft
shows_marked day (mark ∷ next ∷ way) = is_clear day mark && shows_marked day (next ∷ way)

-- the last unit of the path is closed on that day
abbrev pub ends_closed : ℤ → List Mark → Bool
ends_closed day [] = false
ends_closed day (mark ∷ []) = is_later day mark.until
ends_closed day (mark ∷ next ∷ way) = ends_closed day (next ∷ way)
