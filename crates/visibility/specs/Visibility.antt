-- What is withheld from a reader, which units share the containers above them, and what the public sees of a forest.
-- Tests decide which nodes are drafts, are closed, have a permit of the reader, or have containers of their own.
use Rattle.std.specs.Prelude.{Bool, not, ◌&&◌, ◌||◌, List, [], ◌∷◌, ◌++◌, if◌then◌else◌}
use Rattle.std.specs.List.{list_any}
use Rattle.tree_core.specs.Forest.{Forest, Empty, Node}

-- Whether a path withholds its last node: a draft on it does, and so does a closed node, unless the reader has a permit
-- for some node of the path or (`above`) for a node further up.
abbrev pub is_withheld : {A : Type 0} → (A → Bool) → (A → Bool) → (A → Bool) → Bool → List A → Bool
is_withheld draft closed permit above path =
    list_any draft path || (list_any closed path && not (above || list_any permit path))

-- the nodes that take their containers from above this forest: neither they nor a node of the forest above them have
-- containers of their own
abbrev pub sharing : {A : Type 0} → (A → Bool) → Forest A → List A
sharing boxed Empty = []
sharing boxed (Node a children others) =
    if boxed a then sharing boxed others
    else a ∷ (sharing boxed children ++ sharing boxed others)

-- the paths of these nodes, each after the nodes `above` this forest
abbrev pub sharing_paths : {A : Type 0} → (A → Bool) → List A → Forest A → List (List A)
sharing_paths boxed above Empty = []
sharing_paths boxed above (Node a children others) =
    if boxed a then sharing_paths boxed above others
    else (above ++ a ∷ []) ∷ (sharing_paths boxed (above ++ a ∷ []) children ++ sharing_paths boxed above others)

-- what the public sees: nothing of a draft's branch, and only a stub of a closed node's branch, which the second part
-- of the pair marks
abbrev pub public : {A : Type 0} → (A → Bool) → (A → Bool) → Forest A → Forest (A × Bool)
public draft closed Empty = Empty
public draft closed (Node a children others) =
    if draft a then public draft closed others
    else Node (a, closed a) (if closed a then Empty else public draft closed children) (public draft closed others)
