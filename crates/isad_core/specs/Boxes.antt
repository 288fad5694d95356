-- When two containers are the same, and lists in which each container occurs once.
use Rattle.std.specs.Prelude.{Bool, ◌&&◌, not, List, [], ◌∷◌, filter}
use Rattle.std.specs.Str.{bytes_eq}
use Rattle.isad_core.specs.declared.values.BoxKey.{BoxKey}

-- the same container: the same name, location and kind
abbrev pub is_same_box : BoxKey → BoxKey → Bool
is_same_box a b =
    bytes_eq a.name b.name && (bytes_eq a.location b.location && bytes_eq a.kind b.kind)

-- each container once, at its first place
abbrev pub distinct : List BoxKey → List BoxKey
distinct [] = []
distinct (b ∷ rest) = b ∷ filter (λ later. not (is_same_box b later)) (distinct rest)
