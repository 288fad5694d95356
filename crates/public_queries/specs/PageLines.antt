-- The lines of a page, from what was read of the units of a path.
use Rattle.std.specs.Prelude.{ℕ, List, [], ◌∷◌, Option, Some, None, map, filter_map}
use Rattle.std.specs.List.{zip}
use Rattle.isad_core.specs.Texts.{Bytes}
use Rattle.isad_core.specs.PrintedDescriptions.{page}
use Rattle.isad_core.specs.Values.{line_elements, title}
use Rattle.isad_core.specs.declared.display.Body.TheVariants.{Full}
use Rattle.isad_core.specs.declared.display.Page.{Page}
use Rattle.isad_core.specs.declared.display.Shown.{Shown}
use Rattle.isad_core.specs.declared.values.BoxKey.{BoxKey}
use Rattle.catalogue_core.specs.Pages.{PageBox, page_line}
use Rattle.public_queries.specs.PathValues.{coded_of}
use Rattle.public_queries.specs.declared.path_values.OnPath.{OnPath}

-- containers with their numbers, and the code of the unit above where they were found, if any
abbrev pub box_lines : Option Bytes → List ℕ → List BoxKey → List PageBox
box_lines from numbers boxes =
    map (λ (housed : ℕ × BoxKey). (housed.0, housed.1.name, from)) (zip numbers boxes)

-- these containers, or if there are none, what is found further up
abbrev pub lines_or : Option Bytes → List ℕ → List BoxKey → List PageBox → List PageBox
lines_or from numbers [] further = further
lines_or from numbers (box ∷ boxes) further = box_lines from numbers (box ∷ boxes)

-- the containers of the nearest of these units that has some
abbrev pub nearest_lines : List OnPath → List PageBox
nearest_lines [] = []
nearest_lines (unit ∷ higher) =
    lines_or (Some unit.code) unit.unit.containers unit.unit.values.boxes (nearest_lines higher)

-- the containers of the first of these units, or else those of the nearest unit above it that has some
abbrev pub housed_lines : List OnPath → List PageBox
housed_lines [] = []
housed_lines (unit ∷ higher) = lines_or None unit.unit.containers unit.unit.values.boxes (nearest_lines higher)

-- ---- pages

abbrev pub closed_page : Shown → Page
closed_page head = record { head = head; lines = []; boxes = []; below = [] }

-- the head of the page of a unit that is not closed
abbrev pub told_head : OnPath → Shown
told_head unit = record {
  depth = 0;
  code = unit.code;
  level = unit.unit.values.level;
  title = title unit.unit.values;
  body = Full [] [];
}

-- the page of the first of these units, below this head
abbrev pub page_of_units : Shown → List OnPath → List (ℕ × Shown) → Page
page_of_units head units below = record {
  head = head;
  lines = filter_map (page_line (map coded_of units)) line_elements;
  boxes = housed_lines units;
  below = below;
}

-- the same as it is printed for a unit that is not closed, or nothing if there is no unit
abbrev pub told_text : List OnPath → List (ℕ × Shown) → Bytes
told_text [] below = []
told_text (unit ∷ higher) below = page (page_of_units (told_head unit) (unit ∷ higher) below)
