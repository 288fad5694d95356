-- Where units lie, and when the contents of a container may be seen.
use Rattle.std.specs.Prelude.{ℕ, ℤ, Bool, true, false, not, ◌&&◌, List, [], ◌∷◌, ◌++◌, filter}
use Rattle.std.specs.List.{list_any, list_all}
use Rattle.isad_core.specs.declared.values.BoxKey.{BoxKey}
use Rattle.tree_core.specs.Forest.{Forest, Empty, Node}
use Rattle.visibility.specs.Visibility.{is_withheld}
use Rattle.catalogue_core.specs.Units.{Unit, is_unit_closed}
use Rattle.isad_core.specs.Boxes.{is_same_box}

-- ---- which containers a unit lies in

-- the unit's own containers or, if it has none, those that are handed down
abbrev pub own_or : List BoxKey → List BoxKey → List BoxKey
own_or [] above = above
own_or (box ∷ boxes) above = box ∷ boxes

-- the containers that the last unit of a path lies in, if what is above the path lies in `above`
abbrev pub housed_below : List BoxKey → List Unit → List BoxKey
housed_below above [] = above
housed_below above (unit ∷ path) = housed_below (own_or unit.values.boxes above) path

-- A unit lies in its own containers or, if it has none, in those of the nearest unit above that has some. The unit is
-- the last of the path.
abbrev pub containers_of : List Unit → List BoxKey
containers_of = housed_below []

-- the path of each unit in walk order, with the units above the forest before it
abbrev pub paths_below : List Unit → Forest Unit → List (List Unit)
paths_below above Empty = []
paths_below above (Node unit children others) =
    (above ++ unit ∷ []) ∷ (paths_below (above ++ unit ∷ []) children ++ paths_below above others)

abbrev pub paths : Forest Unit → List (List Unit)
paths = paths_below []

-- the units that lie in a container, each by its path
abbrev pub contents : Forest Unit → BoxKey → List (List Unit)
contents f box = filter (λ path. list_any (is_same_box box) (containers_of path)) (paths f)

-- ---- who may see them

-- A unit is withheld from a reader if it or a unit above it is a draft, or if one of these is closed and the reader has
-- no permit for any of them. `permitted` is whether the reader has a permit for a unit that day.
abbrev pub is_withheld_from : (ℕ → Bool) → ℤ → List Unit → Bool
is_withheld_from permitted day path =
    is_withheld (λ (unit : Unit). unit.draft) (is_unit_closed day) (λ (unit : Unit). permitted unit.id) false path

abbrev pub is_some_there : {X : Type 0} → List X → Bool
is_some_there [] = false
is_some_there (x ∷ xs) = true

-- A container is open to a reader if something lies in it and nothing that lies in it is withheld from the reader.
unfoldable pub is_open : Forest Unit → BoxKey → (ℕ → Bool) → ℤ → Bool
is_open f box permitted day =
    is_some_there (contents f box) && list_all (λ path. not (is_withheld_from permitted day path)) (contents f box)
