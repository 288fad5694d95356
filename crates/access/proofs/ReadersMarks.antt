-- What the marks of a unit tell of a reader.
use Rattle.std.proofs.Common.{◌≡◌, ℕ, ℤ, Bool, false, true, not, List, ap, ◌∙◌}
use Rattle.std.specs.Prelude.{◌&&◌}
use Rattle.catalogue_core.proofs.OpenLemmas.{marks_say_clean}
use Rattle.access.specs.ReadersMarks.{AreReadersMarks}
use Rattle.access.proofs.Common.{Empty, Forest, IsNumbered, Mark, Node, Unit, contents_paths, has_unit, is_clean_for}
use Rattle.access.proofs.Common.{is_opened_above, list_all, nodes, withholds}

-- nothing withholds the unit if nothing does on its path, nor within its branch
pub readers_clean : (permitted : ℕ → Bool) (f : Forest Unit) (u : ℕ) (way branch : List Mark) (today : ℤ) (path_clean within above : Bool)
    → has_unit f u ≡ true → AreReadersMarks permitted f u way branch → path_clean ≡ not (withholds today false way)
    → above ≡ is_opened_above way
    → ((k : ℕ) (unit : Mark) (below : Forest Mark) → IsNumbered k (Node unit below Empty) → branch ≡ nodes (Node unit below Empty) → within ≡ list_all (λ path. not (withholds today above path)) (contents_paths unit below))
    → (path_clean && within) ≡ is_clean_for permitted today f u
readers_clean permitted f u way branch today path_clean within above there marks path_is above_is within_is =
    marks_say_clean f u permitted today marks.path_marks marks.branch_marks path_clean within there marks.path_are marks.branch_are
    (path_is ∙ ap (λ l. not (withholds today false l)) marks.way_is)
    (λ k unit below numbered is.
    within_is k unit below numbered (marks.below_is ∙ is)
    ∙ ap (λ b. list_all (λ path. not (withholds today b path)) (contents_paths unit below)) (above_is ∙ ap is_opened_above marks.way_is))
